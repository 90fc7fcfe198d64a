-- What the contracts of this crate name: the parts of a guess and of a node, and what a run by value stands for.
pub mod Parts
pub mod Setting
pub mod Comes
