pub mod Infos
pub mod Elements
pub mod Laws
