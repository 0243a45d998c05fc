pub mod Bytes
pub mod Joined
pub mod Cells
pub mod Limits
pub mod WritesBack
pub mod ByteRecords
