pub mod Bits
pub mod Decodes
pub mod Encodes
pub mod Worked
