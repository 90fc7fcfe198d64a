-- What the contracts of this crate name: the table that clues are read into.
pub mod Table
