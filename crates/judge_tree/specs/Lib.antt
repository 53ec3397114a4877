pub mod Applicators
pub mod Verdict
pub mod Walks
pub mod Unique
pub mod Compiled
pub mod Right
pub mod inner
