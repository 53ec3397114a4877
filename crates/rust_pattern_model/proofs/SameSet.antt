-- Classes that are written with the caret that the source has.
use Rattle.std.proofs.Common.{◌≡◌, ℕ, Bool, true, List}
use Rattle.std.specs.List.{list_all}
use Rattle.pattern_model.specs.Text.{Text}
use Rattle.pattern_model.specs.Tree.{Item}
use Rattle.pattern_model.specs.Members.{is_no_property, class_has}
use Rattle.rust_pattern_model.specs.RustClasses.{Items, rust_class_has, ReadsClass}
use Rattle.rust_pattern_model.specs.RustPatterns.{ReadsSet}

-- y is a class and the rest, with the caret and the members of a class of the source
pub record SameSet (y : Text) (negated : Bool) (items : List Item) (rest : Text) : Type 0 where
  pub inner : Items
  pub class : ReadsClass y negated inner rest
  pub plain : list_all is_no_property items ≡ true
  pub same : (c : ℕ) → rust_class_has negated inner c ≡ class_has negated items c

-- so Rust's grammar reads the class of the source
pub reads_set : (y : Text) (negated : Bool) (items : List Item) (rest : Text) → SameSet y negated items rest → ReadsSet y negated items rest
reads_set y negated items rest s = record { caret = negated; inner = s.inner; class = s.class; plain = s.plain; same = s.same }
