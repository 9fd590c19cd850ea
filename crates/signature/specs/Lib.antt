pub mod Frames
pub mod Lines
