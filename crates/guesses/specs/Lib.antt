-- What the contracts of this crate name beyond the rules.
pub mod Waiting
pub mod Made
