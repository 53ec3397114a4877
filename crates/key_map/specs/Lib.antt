pub mod Order
pub mod Pairs
pub mod Repeats
pub mod formers
