use Rattle.std.proofs.Common.{◌≡◌, ◌<◌, ℕ, List, map, bytes_eq, take, Bor}
use Rattle.std.specs.List.{list_any}
use Rattle.std.specs.Ordering.{nat_cmp}
use Rattle.std.specs.Cmp.Lexicographic.{slice_cmp}
use Rattle.std.specs.BTreeSet.{contains}
use Rattle.key_map.specs.Pairs.{key_of}
use Rattle.key_map.specs.Repeats.{RepeatsAt}
use Rattle.key_map.proofs.map.refuse_repeated_keys.Given as goal

abbrev pub invariant-loop-place : goal.invariant-loop-place
invariant-loop-place g l =
    ((q : Bor (List ℕ))
    → contains (λ x y. slice_cmp nat_cmp x.now y.now) l.seen q ≡ list_any (λ k. bytes_eq k q.now) (take l.place (map key_of l.members)))
    × ((p : ℕ) → p < l.place → RepeatsAt (map key_of l.members) p → ⊥)
