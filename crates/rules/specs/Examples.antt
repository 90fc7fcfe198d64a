-- Worked examples that antt computes from the definitions: a file for each file of definitions, and the starred grids of `docs/RULES.md` in `Starred`.
pub mod Computed
pub mod Starred
pub mod Sets
pub mod Clues
pub mod Lines
pub mod Propagation
pub mod Floats
pub mod Roots
pub mod Probing
pub mod Guesses
pub mod Search
pub mod Answers
pub mod Promises
pub mod Longer
