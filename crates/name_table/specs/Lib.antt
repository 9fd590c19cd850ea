pub mod Keys
pub mod Records
pub mod Enter
pub mod Laws
