-- Laws of this crate: boards of one size, storing, the parts of a guess and of a node.
pub mod Boarding
pub mod Asking
pub mod Storing
pub mod Probing
pub mod Owning
pub mod Guessing
pub mod Beginning
pub mod Ending
pub mod Refilling
pub mod Parts
pub mod Fine
pub mod Entering
pub mod Trying
pub mod Passing
pub mod Turning
pub mod Seeking
