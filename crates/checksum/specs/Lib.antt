pub mod Sums
pub mod Ends
