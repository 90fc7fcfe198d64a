-- What the contracts of this crate name: the board by value, its lines, the table of machines, and what propagating comes to.
pub mod Board
pub mod Line
pub mod Table
pub mod Propagation
