pub mod Kinds
pub mod Walks
pub mod Rolls
pub mod Lists
pub mod Fills
pub mod Laws
pub mod Examples
