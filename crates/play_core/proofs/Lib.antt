pub mod LineWords
pub mod LineRuns
pub mod Verbs
pub mod StepLines
pub mod Spaced
pub mod Scripts
pub mod Played
