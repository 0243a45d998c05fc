pub mod FileMoments
pub mod Shown
pub mod Witnessed
