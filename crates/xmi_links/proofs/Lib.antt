mod Steps
mod EndTables
mod Borne
mod Counting
mod WordTexts
mod Finding
mod Following
mod Built
mod Building
mod Apart
mod Crossing
mod Containing
mod Joining
mod Typing
mod Attributing
mod Entering
mod Defaulting
mod Ordering
mod Sounding
mod Answering
mod Readable
pub mod Faultless
pub mod FaultlessContainers
pub mod FaultlessContents
pub mod FaultlessCycles
pub mod FaultlessEnds
pub mod FaultlessEntries
pub mod FaultlessFeatures
pub mod FaultlessFits
pub mod FaultlessLinks
pub mod FaultlessNamed
pub mod FaultlessObjects
pub mod FaultlessOutline
pub mod FaultlessSingles
pub mod FaultlessSizes
pub mod FaultlessSlots
pub mod FaultlessValues
