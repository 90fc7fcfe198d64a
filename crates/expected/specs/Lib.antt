-- What is expected of a search.
pub mod Agreeing
