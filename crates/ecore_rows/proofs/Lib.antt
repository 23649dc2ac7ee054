pub mod WordCases
pub mod Reaching
pub mod SeenNames
pub mod SeenRows
pub mod Rising
pub mod RowLists
pub mod SuperNumbers
