-- Laws of machines and of reading, for the proofs of this crate and of those above.
pub mod Masks
pub mod Runs
pub mod Turns
pub mod Accepting
pub mod Building
pub mod Reducing
pub mod Reading
pub mod Answering
