-- Laws of the tests of a bundle's entries in their order.
pub mod Attended
