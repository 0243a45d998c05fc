pub mod NoRecords
pub mod NoRoom
pub mod Worked
