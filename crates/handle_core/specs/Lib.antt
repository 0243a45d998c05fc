pub mod Keeping
pub mod Refusals
pub mod Roles
pub mod Begins
pub mod Vaults
pub mod Ends
pub mod Handles
