-- What the contracts of this crate name beyond the rules.
pub mod Leading
pub mod Entries
