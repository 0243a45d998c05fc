mod Begins
pub mod BlockEnds
pub mod Dividing
pub mod MarkMoves
pub mod Owns
pub mod PieceLists
pub mod Puts
pub mod ShownLists
pub mod Slices
pub mod Steps
pub mod Turns
pub mod Worked
pub mod WorkedAppending
pub mod WorkedGrowing
