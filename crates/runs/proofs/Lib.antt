-- What the proofs of this crate share, and the laws by which a run by value is one of the rules.
pub mod Grids
pub mod Matches
