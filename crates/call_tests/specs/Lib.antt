pub mod Nought
