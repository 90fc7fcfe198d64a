-- That each function for C has one answer, and of two calls of the search.
pub mod OneAnswer
pub mod Rerunning
