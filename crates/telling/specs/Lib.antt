-- The morning report of a file, in the words of document 02, M-103.
pub mod Told
