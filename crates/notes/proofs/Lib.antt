-- What the proofs of this crate share.
pub mod Noting
pub mod Rating
pub mod Ordering
