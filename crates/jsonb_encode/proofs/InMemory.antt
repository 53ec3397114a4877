-- What is true of values in memory, a level at a time.
use Rattle.std.proofs.Common.{◌≡◌, ℕ, zero, suc, ◌+◌, ◌<◌, ◌≤◌, true, List, [], ◌∷◌, length, drop, get_or, map, sym, ap, subst, ◌∙◌, arith}
use Rattle.std.proofs.lemmas.List.{drop_all}
use Rattle.json_model.specs.Json.{ScalarIsNarrow, MembersHaveNarrow}
use Rattle.json_model.specs.Keys.{rises}
use Rattle.json_model.specs.Parts.{elements_from, members_from}
use Rattle.json_model.specs.Rising.{KeysRiseInMembers}
use Rattle.json_model.specs.Tree.{Scalar, Tree, scalar, array, object}
use Rattle.json_exact.specs.Trees.{Pairs, tree}
use Rattle.json_exact.specs.declared.value.Value.{Value}
use Rattle.jsonb_encode.specs.Limits.{ScalarIsExact, MembersHaveExactNumbers}
use Rattle.jsonb_encode.specs.inner.InMemory.{IsInMemory}
use Rattle.jsonb_encode.proofs.Written.{names_are}

-- a value whose tree is a scalar
pub scalar_in_memory : (t : Tree) (s : Scalar) → t ≡ scalar s → ScalarIsExact s → ScalarIsNarrow s → IsInMemory t
scalar_in_memory t s e exact narrow =
    subst IsInMemory (sym e) (record { value = record { rise = tt; exact = exact }; narrow = narrow })

-- the trees of elements
abbrev pub AreInMemory : List Tree → Type 0
AreInMemory ts = IsInMemory (array (elements_from ts))

none_in_memory : AreInMemory []
none_in_memory = record { value = record { rise = tt; exact = tt }; narrow = tt }

drop_one : (vs : List Value) (i : ℕ) (v : Value) → i < length vs → v ≡ get_or vs i v → map tree (drop i vs) ≡ tree v ∷ map tree (drop (suc i) vs)
drop_one [] i v lt e = absurd (omega arith)
drop_one (x ∷ vs) zero v lt e = ap (λ (w : Value). tree w ∷ map tree vs) (sym e)
drop_one (x ∷ vs) (suc i) v lt e = drop_one vs i v (omega arith) e

module _ (vs : List Value) (i : ℕ) (left : AreInMemory (map tree (drop i vs)) → AreInMemory (map tree vs)) where
  -- the next element is in memory, so what is left without it is all that is wanted
  pub next_element : (v : Value) → i < length vs → v ≡ get_or vs i v → IsInMemory (tree v) → AreInMemory (map tree (drop (i + 1) vs))
      → AreInMemory (map tree vs)
  next_element v lt e h rest =
      let n : i + 1 ≡ suc i = omega arith in
      let a = subst (λ (k : ℕ). AreInMemory (map tree (drop k vs))) n rest in
      left (subst AreInMemory (sym (drop_one vs i v lt e)) (record {
        value = record { rise = (h.value.rise, a.value.rise); exact = (h.value.exact, a.value.exact) };
        narrow = (h.narrow, a.narrow);
      }))

  -- none is left
  pub last_element : length vs ≤ i → AreInMemory (map tree vs)
  last_element le = left (subst (λ (xs : List Value). AreInMemory (map tree xs)) (sym (drop_all i vs le)) none_in_memory)

-- the trees of members' values
pub record ValuesAreInMemory (ps : Pairs) : Type 0 where
  pub rise : KeysRiseInMembers (members_from ps)
  pub exact : MembersHaveExactNumbers (members_from ps)
  pub narrow : MembersHaveNarrow (members_from ps)

-- the next member's value is in memory, so what is left without it is all that is wanted
pub next_member : (before after ps : Pairs) (p : List ℕ × Tree) → before ≡ p ∷ after → (ValuesAreInMemory before → ValuesAreInMemory ps)
    → IsInMemory p.1 → ValuesAreInMemory after → ValuesAreInMemory ps
next_member before after ps p e left h rest = left (subst ValuesAreInMemory (sym e) (record {
  rise = (h.value.rise, rest.rise);
  exact = (h.value.exact, rest.exact);
  narrow = (h.narrow, rest.narrow);
}))

-- none is left
pub last_member : (before ps : Pairs) → before ≡ [] → (ValuesAreInMemory before → ValuesAreInMemory ps)
    → rises (map (λ (p : List ℕ × Tree). p.0) ps) ≡ true → IsInMemory (object (members_from ps))
last_member before ps e left rise =
    let all = left (subst ValuesAreInMemory (sym e) (record { rise = tt; exact = tt; narrow = tt })) in
    record { value = record { rise = (ap rises (names_are ps) ∙ rise, all.rise); exact = all.exact }; narrow = all.narrow }
