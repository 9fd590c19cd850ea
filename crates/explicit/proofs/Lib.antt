pub mod Fields
pub mod Elements
pub mod Records
pub mod Shown
pub mod Bytes
pub mod Examples
