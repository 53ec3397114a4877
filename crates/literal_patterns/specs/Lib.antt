pub mod Analyses
pub mod inner
