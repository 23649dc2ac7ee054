pub mod Answers
pub mod Climbs
pub mod Cycles
pub mod Values
pub mod Xmi
pub mod Settings
pub mod Pending
