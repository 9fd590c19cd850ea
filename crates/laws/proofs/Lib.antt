pub mod Sums
pub mod Rereading
pub mod Moves
