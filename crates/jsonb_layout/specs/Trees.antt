-- The computed reading under its former name, for the crates that cite it.
pub use Rattle.jsonb_layout.specs.inner.Trees.{tree_of}
