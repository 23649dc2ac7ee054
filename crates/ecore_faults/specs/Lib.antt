pub mod Faults
pub mod Tables
pub mod FoundFaults
pub mod Seen
