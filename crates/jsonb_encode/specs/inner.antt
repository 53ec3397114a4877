-- What a user need not believe: words for the code.
pub mod Contents
pub mod InMemory
pub mod Varlena
pub mod Wide
pub mod Writing
