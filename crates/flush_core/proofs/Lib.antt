pub mod Kept
mod Answered
mod FoldsBehind
pub mod Goes
pub mod Told
mod Learned
mod LogLeft
mod ServeFaults
mod Stands
mod Next
mod PiecesHeld
mod Taken
mod Worked
mod WorkedServing
mod WorkedTaking
mod WorkedTold
