pub mod Group
pub mod Flusher
pub mod Refusals
pub mod Serving
pub mod Names
