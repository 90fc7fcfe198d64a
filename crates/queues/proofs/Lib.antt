-- What the proofs of this crate share.
pub mod Leading
pub mod Popping
pub mod Entries
