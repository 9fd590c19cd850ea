pub mod Tables
pub mod Starts
pub mod Ends
pub mod Laws
pub mod Examples
