pub mod Answers
pub mod Counted
pub mod Beside
pub mod Followed
pub mod Event
pub mod Place
pub mod Stepped
