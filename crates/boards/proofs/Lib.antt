-- What the proofs of this crate share.
pub mod Sizes
pub mod Places
pub mod Counting
pub mod Differing
pub mod Pending
pub mod Crossing
pub mod Waking
pub mod Reducing
pub mod Propagating
pub mod Checking
