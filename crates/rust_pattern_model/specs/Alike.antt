-- Trees that are alike: the same but for classes and class escapes, which have the same members. This project's own.
use Rattle.std.specs.Prelude.{◌≡◌, ℕ, true, false}
use Rattle.pattern_model.specs.Text.{Text}
use Rattle.pattern_model.specs.Grammar.{Grammar}
use Rattle.pattern_model.specs.Members.{leaf_has, leaf_is_set}
use Rattle.pattern_model.specs.Tree.{Leaf, Mark, Bounds, Tree}
use Rattle.rust_pattern_model.specs.Refusals.{has_untold_part}
use Rattle.rust_pattern_model.specs.RustPatterns.{RustGrammar}

-- the same, or two classes or class escapes, without property escapes, with the same members
pub data AlikeLeaf : Leaf → Leaf → Type 0 where
  same : {l : Leaf} → AlikeLeaf l l
  sets : {k l : Leaf} → leaf_is_set k ≡ true → leaf_is_set l ≡ true → ((c : ℕ) → leaf_has k c ≡ leaf_has l c) → AlikeLeaf k l

-- the same shape, with the same marks and names of groups, the same counts, and alike leaves
pub data Alike : Tree → Tree → Type 0 where
  empties : Alike Tree.empty Tree.empty
  leaves : {k l : Leaf} → AlikeLeaf k l → Alike (Tree.leaf k) (Tree.leaf l)
  groups : {m : Mark} {t u : Tree} → Alike t u → Alike (Tree.group m t) (Tree.group m u)
  repeats : {b : Bounds} {t u : Tree} → Alike t u → Alike (Tree.repeat t b) (Tree.repeat u b)
  sequences : {s t u v : Tree} → Alike s t → Alike u v → Alike (Tree.sequence s u) (Tree.sequence t v)
  eithers : {s t u v : Tree} → Alike s t → Alike u v → Alike (Tree.either s u) (Tree.either t v)

-- The text w has, by Rust's grammar, a tree that is alike to that of the pattern x. Nothing is said of a pattern with `.`, `\b` or `\B`
-- outside of classes, property escapes or modifiers.
abbrev pub IsAlike : Text → Text → Type 0
IsAlike x w = (t : Tree) → Grammar true x t → has_untold_part t ≡ false → (u : Tree) × RustGrammar w u × Alike t u
