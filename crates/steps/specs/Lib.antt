pub mod States
pub mod Standings
pub mod Contents
pub mod Steps
