pub mod Trees
pub mod Iteration
pub mod BoundCodes
pub mod Bounds
pub mod Conformance
