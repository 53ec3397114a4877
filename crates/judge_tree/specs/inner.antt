-- What a user need not believe: what a compiled schema asks, and what the parts of a schema are compiled to.
pub mod Asked
pub mod Built
