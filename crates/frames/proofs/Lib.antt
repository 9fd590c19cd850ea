pub mod Parts
pub mod Tables
pub mod Starts
pub mod Ends
pub mod Backs
pub mod Examples
