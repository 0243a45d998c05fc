pub mod Counts
pub mod Firsts
mod Worked
