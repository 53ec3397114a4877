-- The texts that strings in memory hold.
use Rattle.std.specs.Prelude.{◌≡◌, ℕ, ◌<◌, List, length, slice_index_or, Option, option_map, String, string_bytes}
use Rattle.std.specs.declared.alloc.Global.{Global}
use Rattle.std.specs.Str.{chars}
use Rattle.pattern_model.specs.Text.{Text}
use Rattle.pattern_tree.specs.declared.pattern.Pattern.{Pattern}
use Rattle.pattern_tree.specs.Patterns.{node_tree}
use Rattle.pattern_translation.specs.Witness.{witness}

abbrev pub text_of : Option (String Global) → Option Text
text_of o = option_map (λ s. chars (string_bytes s)) o

-- each string is the witness of the node with its number
abbrev pub AreWitnesses : Pattern → List (Option (String Global)) → Type 0
AreWitnesses p ws = (k : ℕ) (d : Option (String Global)) → k < length ws → text_of (slice_index_or ws k d) ≡ witness (node_tree p (record { 0 = k }))
