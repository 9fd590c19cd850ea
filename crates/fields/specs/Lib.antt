pub mod Variables
pub mod Numbers
pub mod References
pub mod Shapes
pub mod Strokes
pub mod Anchors
pub mod Laws
