-- What a user need not believe: what the code does from step to step. The files beside this folder say what a run is.
pub mod Feeding
