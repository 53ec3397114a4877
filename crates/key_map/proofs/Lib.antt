pub mod Order
pub mod Lookups
pub mod Members
pub mod Counted
pub mod Repeated
