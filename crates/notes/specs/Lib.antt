-- What the contracts of this crate name beyond the rules.
pub mod Round
pub mod Choosing
