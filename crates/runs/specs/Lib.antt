pub mod Runs
pub mod Passes
pub mod Laws
pub mod Walks
