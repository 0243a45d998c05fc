pub mod Runs
pub mod Touches
pub mod Kept
pub mod BlockParts
pub mod Cuts
pub mod Ends
pub mod Devices
pub mod Commands
pub mod Changes
pub mod Lent
pub mod Grows
mod Shares
pub mod Shrinks
pub mod Trims
pub mod Carried
pub mod Settles
pub mod CallsLeft
mod Accounts
pub mod Prefixes
pub mod Endings
pub mod Owners
pub mod Handed
mod Copies
mod Vaults
pub mod CopyCounts
pub mod Upgrades
mod NewFiles
mod OldDisks
mod Worked
mod WorkedUpgrades
mod WorkedRefusals
