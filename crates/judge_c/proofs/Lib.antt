pub mod Numbers
pub mod RightAnswers
pub mod RightTreeAnswers
pub mod Coded
