pub mod Push
pub mod LastFrom
pub mod Numbers
pub mod RunRows
pub mod FrameParts
pub mod Payload
pub mod Lines
pub mod Longest
pub mod Head
pub mod Fronts
pub mod Reader
pub mod WithRecords
pub mod FrameFront
pub mod PlacesPush
pub mod FrameWalked
pub mod PlacesInside
pub mod Header
pub mod Refusals
pub mod OneVector
pub mod PlaceAmong
pub mod PlaceOf
pub mod Replaced
pub mod OneMore
pub mod OneMoreWorked
pub mod LegalCommand
pub mod Apart
pub mod HomesAnew
pub mod Loose
pub mod HomesHold
pub mod Raw
pub mod RawVector
pub mod RawTyped
pub mod Parsed
pub mod Blanked
pub mod Tallied
pub mod FoundLaid
pub mod FoundHomes
pub mod FoundChanges
pub mod FoundKept
pub mod FoundSteps
pub mod HomesPush
pub mod FoundEnd
pub mod Walked
pub mod Fed
pub mod Decided
mod Room
pub mod Worked
mod WorkedFaults
mod WorkedImages
mod WorkedRecords
mod WorkedPlaces
pub mod Written
pub mod Changes
pub mod GrowthRows
pub mod ReadAgain
pub mod ReadAs
