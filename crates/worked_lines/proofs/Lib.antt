pub mod PropertyLaws
