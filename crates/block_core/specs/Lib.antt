pub mod Growth
pub mod Length
pub mod Left
pub mod Lent
pub mod LentEntry
pub mod Touched
