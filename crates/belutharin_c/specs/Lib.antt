-- What the contracts of this crate cite besides those of the crates that it hands to C.
pub mod Answering
pub mod Handing
