pub mod Stops
pub mod Slices
pub mod Rooms
pub mod Crewed
pub mod Phases
pub mod OneGrower
pub mod Rows
pub mod PenOver
pub mod FilledGrowths
pub mod Standing
pub mod LineBehind
mod WorkedGrowers
mod WorkedGrowths
mod WorkedStops
