pub mod Layout
pub mod Numeric
pub mod Options
pub mod Stands
pub mod Seats
pub mod Trees
pub mod inner
