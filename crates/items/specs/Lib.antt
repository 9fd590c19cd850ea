pub mod Lists
pub mod Things
pub mod Validity
pub mod Sequences
pub mod Extents
pub mod Examples
