pub mod Firsts
pub mod Finding
pub mod Tables
