pub mod Codes
pub mod Answers
pub mod TreeAnswers
pub mod Many
pub mod inner
