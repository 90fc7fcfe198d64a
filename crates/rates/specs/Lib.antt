-- What the contracts of this crate cite besides the rules.
pub mod Answered
pub mod Digits
