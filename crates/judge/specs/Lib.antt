pub mod Codes
pub mod Answers
pub mod Made
pub mod Words
pub mod inner
