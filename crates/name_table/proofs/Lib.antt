pub mod Records
pub mod Enter
pub mod Runs
pub mod Rows
pub mod Held
