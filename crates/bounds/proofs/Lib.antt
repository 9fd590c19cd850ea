pub mod Frames
pub mod Fitting
