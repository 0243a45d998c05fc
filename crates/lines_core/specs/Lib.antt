pub mod GrowthLines
pub mod LineBlocks
pub mod InputBlocks
pub mod Excerpts
pub mod Batches
pub mod Strict
