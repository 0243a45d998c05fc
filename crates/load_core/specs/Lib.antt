pub mod Dealt
pub mod Loading
pub mod Groups
pub mod Appending
