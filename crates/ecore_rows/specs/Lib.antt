pub mod Rows
pub mod Walks
pub mod CodeRows
pub mod Runs
