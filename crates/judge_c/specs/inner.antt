-- What a user need not believe: how slices are read here, and what compiled rules say of a document.
pub mod Read
