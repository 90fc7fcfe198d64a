-- What the proofs of this crate share.
pub mod Arrays
pub mod Room
pub mod Others
pub mod Unsolved
pub mod Closed
pub mod Placing
