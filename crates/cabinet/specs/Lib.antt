-- A block of the cabinet store of document 02, M-104.
pub mod Block
