pub mod Targets
pub mod OwnRows
pub mod LiteralKeys
pub mod Classified
