-- The morning report of document 02, M-103: what is printed, and the report of a file.
pub mod Text
pub mod Printed
