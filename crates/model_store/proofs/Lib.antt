pub mod Chains
mod Climbing
pub mod Counted
mod Cuts
pub mod Digits
pub mod SignedTexts
mod Exchanges
mod Folded
mod Holders
mod Keeping
mod Kept
mod LoneModel
mod NamedObjects
pub mod Numbers
mod Noting
mod Pairing
pub mod PathDigits
pub mod PathRoots
mod PathRows
pub mod PathSteps
pub mod PathsBack
pub mod Readings
mod Places
mod Rising
mod RisingRoots
mod RowValues
mod Appending
mod SameHolders
pub mod Trees
pub mod Updates
pub mod Slots
pub mod Thinned
pub mod Holding
pub mod Created
pub mod CreatedModel
pub mod AttributeWrites
pub mod Removing
pub mod Wired
pub mod ListedRoots
pub mod Unlinked
pub mod Linked
pub mod Added
pub mod ReferenceWrites
pub mod Ready
