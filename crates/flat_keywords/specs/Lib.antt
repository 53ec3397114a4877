pub mod Draft4
pub mod Names
pub mod Patterns
pub mod Verdict
pub mod Validity
pub mod Right
pub mod Compiled
pub mod inner
