pub mod Refusal
pub mod Kind
pub mod Records
