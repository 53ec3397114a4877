-- How often a key stands in a list, and what a sort of members with distinct keys gives.
use Rattle.std.proofs.Common.{◌≡◌, ℕ, suc, zero, ◌+◌, ◌<◌, ◌≤◌, Bool, true, false, List, [], ◌∷◌, Some, length, get_or, map, cond, refl, sym, ap, ◌∙◌, arith}
use Rattle.std.specs.Str.{bytes_eq}
use Rattle.std.specs.List.{slice_get, count_by}
use Rattle.std.specs.List.Sorted.{IsPermutation, IsSortedByKey}
use Rattle.std.proofs.lemmas.List.Sums.{sum_by-cons}
use Rattle.std.proofs.lemmas.List.Sorted.{sum_by-IsPermutation, IsPermutation-map, IsPermutation-sym, Contains-permutation}
use Rattle.std.proofs.lemmas.Slice.Eq.{bytes_eq-Decides}
use Rattle.json_model.specs.Keys.{rises}
use Rattle.json_model.specs.Parts.{lookup}
use Rattle.key_map.specs.declared.map.Member.{Member}
use Rattle.key_map.specs.Order.{key_cmp}
use Rattle.key_map.specs.Pairs.{key_of, pair_of}
use Rattle.key_map.specs.Repeats.{RepeatsAt, AreDistinct}
use Rattle.key_map.proofs.Lookups.{same_bytes, other_bytes, same_lookups}
use Rattle.key_map.proofs.Members.{keys_same, rises_from_sorted}

count_cons : (q x : List ℕ) (xs : List (List ℕ)) → count_by (bytes_eq q) (x ∷ xs) ≡ cond (bytes_eq q x) 1 0 + count_by (bytes_eq q) xs
count_cons q x xs = sum_by-cons (λ y. cond (bytes_eq q y) 1 0) x xs

count_none : (q : List ℕ) (xs : List (List ℕ)) → ((i : ℕ) → i < length xs → slice_get xs i ≡ Some q → ⊥) → count_by (bytes_eq q) xs ≡ 0
count_none q [] h = refl
count_none q (x ∷ xs) h =
    let e = other_bytes q x (λ f. h 0 (omega arith) (ap (λ (z : List ℕ). Some z) (sym f))) in
    let g = count_none q xs (λ i lt s. h (suc i) (omega arith) s) in
    let t : count_by (bytes_eq q) (x ∷ xs) ≡ 0 + count_by (bytes_eq q) xs = count_cons q x xs ∙ ap (λ b. cond b 1 0 + count_by (bytes_eq q) xs) e in
    omega arith

repeats_later : (x : List ℕ) (xs : List (List ℕ)) (i : ℕ) → RepeatsAt xs i → RepeatsAt (x ∷ xs) (suc i)
repeats_later x xs i r =
    let w = r.within in let b = r.before in record { within = omega arith; earlier = suc r.earlier; before = omega arith; same = r.same }

repeats_first : (x : List ℕ) (xs : List (List ℕ)) (i : ℕ) → i < length xs → slice_get xs i ≡ Some x → RepeatsAt (x ∷ xs) (suc i)
repeats_first x xs i lt e = record { within = omega arith; earlier = 0; before = omega arith; same = sym e }

-- of distinct keys each stands at most once
pub once_distinct : (keys : List (List ℕ)) → AreDistinct keys → (q : List ℕ) → count_by (bytes_eq q) keys ≤ 1
once_distinct [] h q = omega arith
once_distinct (x ∷ xs) h q = go (bytes_eq q x) refl (once_distinct xs (λ i r. h (suc i) (repeats_later x xs i r)) q)
  where
    go : (b : Bool) → bytes_eq q x ≡ b → count_by (bytes_eq q) xs ≤ 1 → count_by (bytes_eq q) (x ∷ xs) ≤ 1
    go true e rest =
        let s : q ≡ x = (bytes_eq-Decides q x).0 e in
        let g = count_none q xs (λ i lt t. h (suc i) (repeats_first x xs i lt (t ∙ ap (λ (z : List ℕ). Some z) s))) in
        let t : count_by (bytes_eq q) (x ∷ xs) ≡ 1 + count_by (bytes_eq q) xs =
        count_cons q x xs ∙ ap (λ b. cond b 1 0 + count_by (bytes_eq q) xs) e in
        omega arith
    go false e rest =
        let t : count_by (bytes_eq q) (x ∷ xs) ≡ 0 + count_by (bytes_eq q) xs =
        count_cons q x xs ∙ ap (λ b. cond b 1 0 + count_by (bytes_eq q) xs) e in
        omega arith

count_more : (q x : List ℕ) (xs : List (List ℕ)) → count_by (bytes_eq q) xs ≤ count_by (bytes_eq q) (x ∷ xs)
count_more q x xs = let t = count_cons q x xs in omega arith

count_first : (x : List ℕ) (xs : List (List ℕ)) → count_by (bytes_eq x) (x ∷ xs) ≡ 1 + count_by (bytes_eq x) xs
count_first x xs = count_cons x x xs ∙ ap (λ b. cond b 1 0 + count_by (bytes_eq x) xs) (same_bytes x x refl)

count_twice : (x y : List ℕ) (xs : List (List ℕ)) → x ≡ y → count_by (bytes_eq x) (x ∷ y ∷ xs) ≤ 1 → ⊥
count_twice x y xs e h =
    let s = count_first x (y ∷ xs) in
    let t : count_by (bytes_eq x) (y ∷ xs) ≡ 1 + count_by (bytes_eq x) xs =
    count_cons x y xs ∙ ap (λ b. cond b 1 0 + count_by (bytes_eq x) xs) (same_bytes x y e) in
    omega arith

module _ {V : Type 0} where
  neighbours_apart : (ms : List (Member V)) → ((q : List ℕ) → count_by (bytes_eq q) (map key_of ms) ≤ 1) → (k : ℕ) (d : Member V) → suc k < length ms
      → key_of (get_or ms k d) ≡ key_of (get_or ms (suc k) d) → ⊥
  neighbours_apart [] h k d lt e = omega arith
  neighbours_apart (m ∷ []) h k d lt e = omega arith
  neighbours_apart (m ∷ n ∷ ms) h zero d lt e = count_twice (key_of m) (key_of n) (map key_of ms) e (h (key_of m))
  neighbours_apart (m ∷ n ∷ ms) h (suc k) d lt e =
      neighbours_apart (n ∷ ms) (λ q. let t = count_more q (key_of m) (map key_of (n ∷ ms)) in let s = h q in omega arith) k d (omega arith) e

  -- members with distinct keys rise once they are sorted
  pub rises_moved : (ms ns : List (Member V)) → IsPermutation ms ns → AreDistinct (map key_of ms) → IsSortedByKey key_of key_cmp ns
      → rises (map key_of ns) ≡ true
  rises_moved ms ns p h s =
      rises_from_sorted ns s
      (neighbours_apart ns (λ q. let t = sum_by-IsPermutation (λ x. cond (bytes_eq q x) 1 0) (map key_of ms) (map key_of ns)
      (IsPermutation-map key_of ms ns p) in let o = once_distinct (map key_of ms) h q in omega arith))

  -- and have the look-ups that they had
  pub lookups_moved : (ms ns : List (Member V)) → IsPermutation ms ns → rises (map key_of ns) ≡ true → (k : List ℕ)
      → lookup k (map pair_of ns) ≡ lookup k (map pair_of ms)
  lookups_moved ms ns p e k =
      let moved = IsPermutation-map pair_of ms ns p in
      same_lookups (map pair_of ms) (map pair_of ns) (ap rises (keys_same ns) ∙ e)
      (λ q c. Contains-permutation (map pair_of ms) (map pair_of ns) q moved c)
      (λ q c. Contains-permutation (map pair_of ns) (map pair_of ms) q (IsPermutation-sym (map pair_of ms) (map pair_of ns) moved) c) k
