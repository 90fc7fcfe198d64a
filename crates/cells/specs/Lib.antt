-- What the contracts of this crate name beyond the rules.
pub mod Sets
pub mod Numbers
