-- What the functions that gather the old rolls are asked for.
pub mod Old
