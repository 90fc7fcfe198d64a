-- What the contracts of this crate name: a grid handed out, as the rules' answer.
pub mod Parts
