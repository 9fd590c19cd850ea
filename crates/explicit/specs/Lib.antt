pub mod Bytes
pub mod Legal
pub mod Contents
pub mod Laws
pub mod Examples
