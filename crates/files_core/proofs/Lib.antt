pub mod Opened
pub mod Changed
pub mod AnyBytes
pub mod Put
pub mod Lengthened
pub mod Written
pub mod Windows
pub mod WindowRecords
pub mod FramedScan
pub mod PartsRead
pub mod ReadAgain
pub mod Folded
pub mod Commas
pub mod Fronts
mod WorkedAnswers
mod WorkedWindows
pub mod WorkedDisks
mod WorkedFiles
mod WorkedChanges
mod WorkedLengths
mod WorkedRefusals
pub mod WorkedVacant
