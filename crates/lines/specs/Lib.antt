-- What the contracts of reducing a line name: machines, by which a line is reduced, the layout of a line's clue, and what reducing a line answers.
pub mod Machines
pub mod Ways
pub mod Layout
pub mod Answering
pub mod Examples
