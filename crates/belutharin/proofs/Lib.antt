-- Laws for the proofs of this crate.
pub mod Refusing
pub mod Beginning
pub mod Answering
pub mod Accepting
pub mod Rerunning
