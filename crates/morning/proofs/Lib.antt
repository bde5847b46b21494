mod Filled
mod Pieces
mod Shown
