pub mod Filings
pub mod Watching
pub mod Letting
pub mod Copies
mod Worked
