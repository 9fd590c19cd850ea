pub mod Offsets
pub mod Spaces
pub mod Plans
pub mod Repetitions
pub mod Walks
pub mod Laws
pub mod Examples
