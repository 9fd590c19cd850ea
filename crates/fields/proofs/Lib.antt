pub mod Gives
pub mod Boxes
pub mod Onwards
pub mod Codes
