pub mod Chains
pub mod Lists
pub mod NoteRows
pub mod Passes
pub mod Readings
pub mod Somes
pub mod Spots
pub mod Worked
