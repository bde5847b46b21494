-- The blocks that a desk writes for the morning report of document 02, M-103.
pub mod Filed
