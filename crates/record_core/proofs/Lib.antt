pub mod ByteRecords
pub mod Cells
pub mod Lists
