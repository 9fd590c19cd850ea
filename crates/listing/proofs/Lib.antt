pub mod Fields
pub mod Decimals
pub mod Examples
