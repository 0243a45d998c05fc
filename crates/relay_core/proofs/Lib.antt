pub mod ListedLemmas
pub mod MakingLemmas
mod Worked
