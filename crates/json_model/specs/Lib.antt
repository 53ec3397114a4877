pub mod Decimal
pub mod Tree
pub mod Parts
pub mod Keys
pub mod Rising
pub mod Same
pub mod Nest
pub mod Json
