pub mod LineWords
pub mod LineRuns
pub mod Verbs
pub mod StepLine
pub mod Script
pub mod Answers
pub mod Played
pub mod Playing
