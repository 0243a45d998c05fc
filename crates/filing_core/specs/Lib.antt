pub mod Complaints
pub mod Copying
pub mod Beside
pub mod Asked
pub mod Commands
pub mod Shown
pub mod Releasing
