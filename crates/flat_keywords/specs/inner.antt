-- What a user need not believe: what compiled checks keep. The files beside this folder say what the answers are.
pub mod Passes
