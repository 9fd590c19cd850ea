pub mod Tests
pub mod Boxes
pub mod Orders
pub mod Examples
