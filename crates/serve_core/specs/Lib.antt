pub mod Requests
pub mod Answers
pub mod Talks
pub mod Serving
pub mod Clients
pub mod Names
