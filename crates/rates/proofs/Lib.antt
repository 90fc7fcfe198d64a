-- Laws behind the proofs of the functions.
pub mod Turns
pub mod Scaled
pub mod Short
pub mod Answers
