-- The laws of the calls on a lent record, whatever their rule.
pub mod Laws
pub mod OtherTables
