mod AsBox
mod Worked
mod WorkedBlocks
mod WorkedBytes
mod WorkedEnds
mod GrowthLemmas
