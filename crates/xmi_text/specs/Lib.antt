pub mod Markup
pub mod Cuts
pub mod Keys
pub mod Scopes
pub mod Numbers
pub mod Fragments
pub mod Options
pub mod Inheriting
