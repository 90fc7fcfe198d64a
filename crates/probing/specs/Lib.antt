-- What the contracts of this crate name: a cell's neighbours, the starting queue, and what a run of probing comes to.
pub mod Neighbours
pub mod Start
pub mod Probing
