pub mod Outline
pub mod Faults
pub mod Scopes
pub mod Entries
pub mod FoundFaults
pub mod SeenFeatures
