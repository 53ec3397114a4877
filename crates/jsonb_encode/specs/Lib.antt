pub mod Number
pub mod Encoded
pub mod Canonical
pub mod Limits
pub mod Literals
pub mod Children
pub mod Varlena
pub mod inner
