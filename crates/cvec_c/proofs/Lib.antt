pub mod Append
pub mod Creates
pub mod FrameTold
pub mod HomesStand
pub mod Worked
