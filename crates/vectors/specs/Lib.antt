-- What is read of a text of vectors.
pub mod Numbers
