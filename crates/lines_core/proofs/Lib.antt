pub mod Blocks
pub mod FirstBlocks
pub mod Excerpts
pub mod GrowthLines
pub mod StrictBytes
pub mod WholeBlocks
mod WorkedInputs
