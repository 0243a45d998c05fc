pub mod Asked
mod Worked
