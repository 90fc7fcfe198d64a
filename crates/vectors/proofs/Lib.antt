-- Laws of reading vectors.
pub mod Finding
pub mod Putting
