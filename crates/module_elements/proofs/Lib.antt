pub mod Contexts
pub mod InKinds
pub mod Behind
