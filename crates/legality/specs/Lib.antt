pub mod Legal
pub mod Laws
