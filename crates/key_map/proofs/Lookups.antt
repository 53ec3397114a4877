-- Look-ups in lists of pairs whose keys rise.
use Rattle.std.proofs.Common.{◌≡◌, ℕ, suc, zero, ◌<◌, Bool, true, false, List, [], ◌∷◌, Option, Some, None, length, get_or, refl, sym, ap, ◌∙◌, arith, inl, inr}
use Rattle.std.specs.Prelude.{if◌then◌else◌}
use Rattle.std.specs.Str.{bytes_eq}
use Rattle.std.specs.List.{AllByRecursion, Contains}
use Rattle.std.proofs.lemmas.Slice.Eq.{bytes_eq-Decides}
use Rattle.json_model.specs.Keys.{key_before, rises}
use Rattle.json_model.specs.Parts.{lookup}
use Rattle.json_model.proofs.KeyOrderLaws.{key_trans, key_total, not_before, rises_all, rises_tail}
use Rattle.key_map.specs.Pairs.{keys_of}

-- a key is itself
pub same_bytes : (x y : List ℕ) → x ≡ y → bytes_eq x y ≡ true
same_bytes x y e = (bytes_eq-Decides x y).1 e

-- a key is no other key
pub other_bytes : (x y : List ℕ) → (x ≡ y → ⊥) → bytes_eq x y ≡ false
other_bytes x y f = go (bytes_eq x y) refl
  where
    go : (b : Bool) → bytes_eq x y ≡ b → bytes_eq x y ≡ false
    go true e = absurd (f ((bytes_eq-Decides x y).0 e))
    go false e = e

-- keys that come one before the other are no one key, either way round
pub before_differs : (x y : List ℕ) → key_before x y ≡ true → bytes_eq x y ≡ false
before_differs x y e = other_bytes x y (not_before x y e)

pub after_differs : (x y : List ℕ) → key_before x y ≡ true → bytes_eq y x ≡ false
after_differs x y e = other_bytes y x (λ f. not_before x y e (sym f))

all_before : (x y : List ℕ) (ks : List (List ℕ)) → key_before x y ≡ true → AllByRecursion (λ z. key_before y z ≡ true) ks
    → AllByRecursion (λ z. key_before x z ≡ true) ks
all_before x y [] e h = tt
all_before x y (z ∷ ks) e h = (key_trans x y z e h.0, all_before x y ks e h.1)

module _ {V : Type 0} where
  -- what comes before every key stands nowhere
  pub lookup_before : (k : List ℕ) (ps : List (List ℕ × V)) → AllByRecursion (λ z. key_before k z ≡ true) (keys_of ps) → lookup k ps ≡ None
  lookup_before k [] h = refl
  lookup_before k (p ∷ ps) h = rw (before_differs k p.0 h.0) (lookup_before k ps h.1)

  all_at : (P : List ℕ → Type 0) (ps : List (List ℕ × V)) (i : ℕ) (d : List ℕ × V) → i < length ps → AllByRecursion P (keys_of ps)
      → P (get_or ps i d).0
  all_at P [] i d lt h = absurd (omega arith)
  all_at P (p ∷ ps) zero d lt h = h.0
  all_at P (p ∷ ps) (suc i) d lt h = all_at P ps i d (omega arith) h.1

  -- the value of a pair is found under its key
  pub lookup_at : (ps : List (List ℕ × V)) → rises (keys_of ps) ≡ true → (i : ℕ) (d : List ℕ × V) → i < length ps
      → lookup (get_or ps i d).0 ps ≡ Some (get_or ps i d).1
  lookup_at [] e i d lt = absurd (omega arith)
  lookup_at (p ∷ ps) e zero d lt = rw (same_bytes p.0 p.0 refl) refl
  lookup_at (p ∷ ps) e (suc i) d lt =
      let b = all_at (λ z. key_before p.0 z ≡ true) ps i d (omega arith) (rises_all p.0 (keys_of ps) e) in
      rw (after_differs p.0 (get_or ps i d).0 b) (lookup_at ps (rises_tail p.0 (keys_of ps) e) i d (omega arith))

  pair_is : (p : List ℕ × V) (k : List ℕ) (v : V) → p.0 ≡ k → p.1 ≡ v → p ≡ (k, v)
  pair_is p k v e f = λ i. (e i, f i)

  contains_head : (k : List ℕ) (p : List ℕ × V) (ps : List (List ℕ × V)) (v : V) → p ≡ (k, v) → Contains (p ∷ ps) (k, v)
  contains_head k p ps v e = (0, omega arith, e)

  contains_tail : (k : List ℕ) (p : List ℕ × V) (ps : List (List ℕ × V)) (v : V) → Contains ps (k, v) → Contains (p ∷ ps) (k, v)
  contains_tail k p ps v c = let h : c.0 < length ps = c.1 in (suc c.0, omega arith, c.2)

  found_first : (k : List ℕ) (p : List ℕ × V) (ps : List (List ℕ × V)) (v : V) (b : Bool) → bytes_eq k p.0 ≡ b
      → (if b then Some p.1 else lookup k ps) ≡ Some v → (lookup k ps ≡ Some v → Contains ps (k, v)) → Contains (p ∷ ps) (k, v)
  found_first k p ps v true f e h = contains_head k p ps v (pair_is p k v (sym ((bytes_eq-Decides k p.0).0 f)) cc)
  found_first k p ps v false f e h = contains_tail k p ps v (h e)

  -- what is found stands in the list
  pub contains_found : (k : List ℕ) (ps : List (List ℕ × V)) (v : V) → lookup k ps ≡ Some v → Contains ps (k, v)
  contains_found k [] v e = absurd cc
  contains_found k (p ∷ ps) v e = found_first k p ps v (bytes_eq k p.0) refl e (contains_found k ps v)

  missed_both : (k : List ℕ) (p : List ℕ × V) (ps : List (List ℕ × V)) (b : Bool) → bytes_eq k p.0 ≡ b
      → (if b then Some p.1 else lookup k ps) ≡ None → (k ≡ p.0 → ⊥) × (lookup k ps ≡ None)
  missed_both k p ps true f e = absurd cc
  missed_both k p ps false f e = (λ g. let t = same_bytes k p.0 g in absurd cc, e)

  missed_at : (k : List ℕ) (ps : List (List ℕ × V)) → lookup k ps ≡ None → (v : V) (i : ℕ) → i < length ps → get_or ps i (k, v) ≡ (k, v) → ⊥
  missed_at k [] e v i lt h = omega arith
  missed_at k (p ∷ ps) e v zero lt h = (missed_both k p ps (bytes_eq k p.0) refl e).0 (sym (ap (λ (q : List ℕ × V). q.0) h))
  missed_at k (p ∷ ps) e v (suc i) lt h = missed_at k ps (missed_both k p ps (bytes_eq k p.0) refl e).1 v i (omega arith) h

  found_contained : (k : List ℕ) (ps : List (List ℕ × V)) (v : V) → rises (keys_of ps) ≡ true → Contains ps (k, v) → lookup k ps ≡ Some v
  found_contained k ps v e c =
      ap (λ (q : List ℕ × V). lookup q.0 ps) (sym c.2) ∙ lookup_at ps e c.0 (k, v) c.1 ∙ ap (λ (q : List ℕ × V). Some q.1) c.2

  -- a list whose keys rise, with the pairs of another, has its look-ups
  pub same_lookups : (ps qs : List (List ℕ × V)) → rises (keys_of qs) ≡ true → ((p : List ℕ × V) → Contains ps p → Contains qs p)
      → ((p : List ℕ × V) → Contains qs p → Contains ps p) → (k : List ℕ) → lookup k qs ≡ lookup k ps
  same_lookups ps qs e f g k = go (lookup k ps) (lookup k qs) refl refl
    where
      go : (r s : Option V) → lookup k ps ≡ r → lookup k qs ≡ s → lookup k qs ≡ lookup k ps
      go (Some v) s h j = found_contained k qs v e (f (k, v) (contains_found k ps v h)) ∙ sym h
      go None None h j = j ∙ sym h
      go None (Some v) h j = absurd (let c = g (k, v) (contains_found k qs v j) in missed_at k ps h v c.0 c.1 c.2)

  -- of two lists that rise and have the same look-ups, neither begins with a key before the other's
  not_first : (p q : List ℕ × V) (ps qs : List (List ℕ × V)) → rises (keys_of (q ∷ qs)) ≡ true → lookup p.0 (p ∷ ps) ≡ lookup p.0 (q ∷ qs)
      → key_before p.0 q.0 ≡ true → ⊥
  not_first p q ps qs f h b =
      let none = lookup_before p.0 (q ∷ qs) (b, all_before p.0 q.0 (keys_of qs) b (rises_all q.0 (keys_of qs) f)) in
      let some : lookup p.0 (p ∷ ps) ≡ Some p.1 = rw (same_bytes p.0 p.0 refl) refl in
      cc

  same_rest : (p q : List ℕ × V) (ps qs : List (List ℕ × V)) → rises (keys_of (p ∷ ps)) ≡ true → rises (keys_of (q ∷ qs)) ≡ true → p.0 ≡ q.0
      → ((k : List ℕ) → lookup k (p ∷ ps) ≡ lookup k (q ∷ qs)) → (k : List ℕ) → lookup k ps ≡ lookup k qs
  same_rest p q ps qs e f g h k = go (bytes_eq k p.0) refl
    where
      go : (b : Bool) → bytes_eq k p.0 ≡ b → lookup k ps ≡ lookup k qs
      go true t =
          let s : k ≡ p.0 = (bytes_eq-Decides k p.0).0 t in
          let u = lookup_before p.0 ps (rises_all p.0 (keys_of ps) e) in
          let w = lookup_before q.0 qs (rises_all q.0 (keys_of qs) f) in
          cc
      go false t =
          let u : bytes_eq k q.0 ≡ false = ap (bytes_eq k) (sym g) ∙ t in
          rw (t, u) at (h k)

  same_head : (p q : List ℕ × V) (ps qs : List (List ℕ × V)) → p.0 ≡ q.0 → ((k : List ℕ) → lookup k (p ∷ ps) ≡ lookup k (q ∷ qs)) → p ≡ q
  same_head p q ps qs g h =
      let s : Some p.1 ≡ Some q.1 = rw (same_bytes p.0 p.0 refl, same_bytes p.0 q.0 g) at (h p.0) in
      let t : p.1 ≡ q.1 = cc in
      pair_is p q.0 q.1 g t

  first_keys : (p q : List ℕ × V) (ps qs : List (List ℕ × V)) → rises (keys_of (p ∷ ps)) ≡ true → rises (keys_of (q ∷ qs)) ≡ true
      → ((k : List ℕ) → lookup k (p ∷ ps) ≡ lookup k (q ∷ qs)) → p.0 ≡ q.0
  first_keys p q ps qs e f h = elim (key_total p.0 q.0) [
    | inl b ↦ absurd (not_first p q ps qs f (h p.0) b)
    | inr t ↦ elim t [
      | inl g ↦ g
      | inr b ↦ absurd (not_first q p qs ps e (sym (h q.0)) b)
    ]
  ]

  -- two lists whose keys rise, with the same look-ups, are one list
  pub one_list : (ps qs : List (List ℕ × V)) → rises (keys_of ps) ≡ true → rises (keys_of qs) ≡ true → ((k : List ℕ) → lookup k ps ≡ lookup k qs)
      → ps ≡ qs
  one_list [] [] e f h = refl
  one_list [] (q ∷ qs) e f h = let s = rw (same_bytes q.0 q.0 refl) at (h q.0) in absurd cc
  one_list (p ∷ ps) [] e f h = let s = rw (same_bytes p.0 p.0 refl) at (h p.0) in absurd cc
  one_list (p ∷ ps) (q ∷ qs) e f h =
      let g = first_keys p q ps qs e f h in
      let t = one_list ps qs (rises_tail p.0 (keys_of ps) e) (rises_tail q.0 (keys_of qs) f) (same_rest p q ps qs e f g h) in
      let s = same_head p q ps qs g h in
      cc
