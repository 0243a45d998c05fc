pub mod Crewing
pub mod Leaving
