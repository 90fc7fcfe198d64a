-- What the contracts of this crate name: counts of a run, and grids in a list.
pub mod Stats
pub mod Stored
pub mod Matches
