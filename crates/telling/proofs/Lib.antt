-- That the pass over the blocks in turn prints the report of document 02's words.
pub mod Among
pub mod Counting
pub mod Telling
