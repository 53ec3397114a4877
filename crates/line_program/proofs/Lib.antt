pub mod Cuts
pub mod InputAnswers
pub mod KnownBytes
pub mod Printed
pub mod Runs
pub mod Steps
pub mod Texts
