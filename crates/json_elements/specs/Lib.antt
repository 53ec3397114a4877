pub mod Parts
pub mod Number
pub mod inner
