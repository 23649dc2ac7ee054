pub mod Scopes
pub mod Walking
pub mod TypeTexts
pub mod FirstValues
pub mod SeenLaws
pub mod StrayTexts
pub mod FirstFault
pub mod Passing
