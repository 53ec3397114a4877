-- What a user need not believe: what is left of containers while they are walked over.
pub mod Weights
pub mod Rests
pub mod Frames
pub mod SameAt
