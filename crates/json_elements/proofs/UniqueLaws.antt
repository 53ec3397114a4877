-- Places of a list that hold the same tree, and their numbers.
use Rattle.std.proofs.Common.{◌≡◌, ◌<◌, ℕ, zero, suc, List, [], ◌∷◌, length, map, get_or, refl, sym, ap, subst, ◌∙◌, arith}
use Rattle.std.specs.Prelude.{Option, Some, None, IsSomeAnd, slice_get, ◌↔◌}
use Rattle.json_model.specs.Rising.{KeysRise}
use Rattle.json_model.specs.Same.{Same, IsUnique}
use Rattle.json_model.specs.Tree.{Tree}
use Rattle.distinct_places.specs.Apart.{AreApart, AreNumbered}
use Rattle.json_elements.proofs.SameNumbers.{same_number}
use Rattle.json_elements.specs.Number.{element_number}
use Rattle.json_elements.specs.inner.SameAt.{IsSameAt}

-- what is there
held : (o : Option Tree) (P : Tree → Type 0) → IsSomeAnd o P → (t : Tree) × (o ≡ Some t) × P t
held None P h = absurd h
held (Some t) P h = (t, refl, h)

-- a place that holds a tree is one of the list
within : (ts : List Tree) (j : ℕ) (t : Tree) → slice_get ts j ≡ Some t → j < length ts
within [] j t e = absurd cc
within (u ∷ ts) zero t e = omega arith
within (u ∷ ts) (suc j) t e = let h = within ts j t e in omega (arith, h)

-- no two of all places hold the same exactly where no two trees are the same
pub apart_is_unique : (ts us : List Tree) (n : ℕ) → ts ≡ us → n ≡ length ts → AreApart (IsSameAt ts) n ↔ IsUnique us
apart_is_unique ts us n e len =
    subst (λ (xs : List Tree). AreApart (IsSameAt ts) n ↔ IsUnique xs) e (
      λ apart i j lt same.
          let t = held (slice_get ts i) (λ t. IsSomeAnd (slice_get ts j) (λ u. Same t u)) same in
          let u = held (slice_get ts j) (λ u. Same t.0 u) t.2 in
          let few = within ts j u.0 u.1 in
          apart j (omega (arith, few, len)) i lt same,
      λ unique k lt j low same. unique j k low same,
    )

module _ {N : Type 0} (tree : N → Tree) where
  -- the number at a place is that of its tree
  number_at : (ns : List N) (j : ℕ) (t : Tree) → slice_get (map tree ns) j ≡ Some t
      → get_or (map (λ n. element_number (tree n)) ns) j 0 ≡ element_number t
  number_at [] j t e = absurd cc
  number_at (n ∷ ns) zero t e = let h : tree n ≡ t = cc in ap element_number h
  number_at (n ∷ ns) (suc j) t e = number_at ns j t e

  -- and its keys rise
  rise_at : (ns : List N) → ((k : ℕ) (d : N) → k < length ns → KeysRise (tree (get_or ns k d)))
      → (j : ℕ) (t : Tree) → slice_get (map tree ns) j ≡ Some t → KeysRise t
  rise_at [] rise j t e = absurd cc
  rise_at (n ∷ ns) rise zero t e = let h : tree n ≡ t = cc in subst KeysRise h (rise 0 n (omega arith))
  rise_at (n ∷ ns) rise (suc j) t e = rise_at ns (λ k d lt. rise (suc k) d (omega (arith, lt))) j t e

  -- so places that hold the same have the same number
  pub are_numbered : (ns : List N) (numbers : List ℕ) → numbers ≡ map (λ n. element_number (tree n)) ns
      → ((k : ℕ) (d : N) → k < length ns → KeysRise (tree (get_or ns k d))) → AreNumbered (IsSameAt (map tree ns)) numbers
  are_numbered ns numbers e rise j k lt few same =
      let ts = map tree ns in
      let t = held (slice_get ts j) (λ t. IsSomeAnd (slice_get ts k) (λ u. Same t u)) same in
      let u = held (slice_get ts k) (λ u. Same t.0 u) t.2 in
      let one : get_or numbers j 0 ≡ element_number t.0 = ap (λ (xs : List ℕ). get_or xs j 0) e ∙ number_at ns j t.0 t.1 in
      let other : get_or numbers k 0 ≡ element_number u.0 = ap (λ (xs : List ℕ). get_or xs k 0) e ∙ number_at ns k u.0 u.1 in
      one ∙ same_number t.0 u.0 (rise_at ns rise j t.0 t.1) (rise_at ns rise k u.0 u.1) u.2 ∙ sym other
