pub mod Fields
pub mod Elements
pub mod Records
