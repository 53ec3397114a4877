pub mod Answering
pub mod Growing
pub mod NameLists
pub mod OneAnswer
pub mod OneOutcome
pub mod Opens
pub mod WalkSteps
