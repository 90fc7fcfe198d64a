-- What the proofs of this crate share.
pub mod Frames
pub mod Sides
pub mod Pushing
pub mod Starting
pub mod Assuming
pub mod Impacts
pub mod Cutting
pub mod Arrays
pub mod Running
