pub mod Progress
pub mod Turns
pub mod Sequences
pub mod Wholes
pub mod Passes
pub mod Calls
