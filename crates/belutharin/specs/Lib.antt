-- What the contracts of this crate name: the tests of an input, and an answer with the lent bytes.
pub mod Refusals
pub mod Answers
