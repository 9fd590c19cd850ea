pub mod Laying
pub mod Shortest
pub mod Signs
