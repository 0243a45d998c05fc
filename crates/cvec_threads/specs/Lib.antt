pub mod Answers
pub mod Calls
pub mod Begins
pub mod Vaults
pub mod Blocks
