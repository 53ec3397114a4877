pub mod CodeAnswers
pub mod Counts
pub mod InputAnswers
pub mod LineAnswers
pub mod MadePairs
pub mod Pairs
pub mod Summaries
