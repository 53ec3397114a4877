pub mod Refusals
pub mod Written
pub mod Translation
pub mod RustClasses
pub mod RustPatterns
pub mod Alike
