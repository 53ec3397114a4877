pub mod Witness
pub mod Texts
pub mod Facts
pub mod Names
pub mod Causes
pub mod TranslateErrors
pub mod inner
