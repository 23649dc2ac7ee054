pub mod Inheriting
pub mod TableLaws
pub mod FeatureNames
pub mod SkippedLaws
