-- What stands inside a value nests less deep than the value.
use Rattle.std.proofs.Common.{ℕ, suc, zero, ◌≤◌, ◌<◌, List, [], ◌∷◌, length, map, get_or, arith}
use Rattle.json_model.specs.Nest.{nest, nest_elements}
use Rattle.json_model.specs.Parts.{elements_from}
use Rattle.json_exact.specs.Trees.{tree}
use Rattle.json_exact.specs.declared.value.Value.{Value}

-- an element nests no deeper than all of them
pub element_nests : (vs : List Value) (i : ℕ) (d : Value) → i < length vs → nest (tree (get_or vs i d)) ≤ nest_elements (elements_from (map tree vs))
element_nests [] i d lt = absurd (omega arith)
element_nests (v ∷ vs) zero d lt = omega arith
element_nests (v ∷ vs) (suc i) d lt = let h = element_nests vs i d (omega arith) in omega arith
