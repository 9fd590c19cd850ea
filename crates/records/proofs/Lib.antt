pub mod Listings
pub mod Texts
