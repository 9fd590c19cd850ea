pub mod Drawn
pub mod Written
pub mod Laws
