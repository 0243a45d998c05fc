pub mod Fault
pub mod Stat
pub mod Reading
pub mod Append
pub mod Frame
pub mod Empty
pub mod Homes
pub mod Look
