pub mod Writing
pub mod Printed
pub mod Pending
pub mod Fragments
