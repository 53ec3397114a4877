-- Lists of members whose keys rise: where a key stands, and what an insertion leaves.
use Rattle.std.proofs.Common.{◌≡◌, Result, Ok, Err, ℕ, suc, zero, inl, inr, ◌⊎◌, Option, add-one, ◌<◌, ◌≤◌, Bool, true, false, List, [], ◌∷◌, Some, None, length, get_or, map, refl, sym, ap, ◌∙◌, arith}
use Rattle.std.specs.Prelude.{if◌then◌else◌}
use Rattle.std.specs.Str.{bytes_eq}
use Rattle.std.specs.Ordering.{is_lt}
use Rattle.std.specs.List.{AllByRecursion, insert, slice_set}
use Rattle.std.specs.List.Sorted.{IsSortedByKey, IsSearchInRange, IsBinarySearchResult}
use Rattle.std.proofs.lemmas.List.Sorted.{searchable_from_sorted}
use Rattle.std.proofs.lemmas.Bool.{cases_lt}
use Rattle.std.proofs.Math.Seq.{map-set_same}
use Rattle.std.proofs.lemmas.List.{get_or-map, length-map}
use Rattle.std.proofs.lemmas.Slice.Eq.{bytes_eq-Decides}
use Rattle.json_model.specs.Keys.{key_before, rises}
use Rattle.json_model.specs.Parts.{lookup}
use Rattle.json_model.proofs.KeyOrderLaws.{key_total, rises_all, rises_cons, rises_tail, rises_next}
use Rattle.key_map.specs.declared.map.Member.{Member}
use Rattle.key_map.specs.Order.{key_cmp, StandsAt, GoesAt, IsPlaceOf}
use Rattle.key_map.specs.Pairs.{key_of, pair_of, keys_of, with_value}
use Rattle.key_map.proofs.Order.{key_cmp_total, before_is, before_less, before_greater, one_key, not_after}
use Rattle.key_map.proofs.Lookups.{lookup_at, before_differs, after_differs}

-- a key that is not after another and is not the same comes before it
next_before : (x y : List ℕ) → is_lt (key_cmp y x) ≡ false → (x ≡ y → ⊥) → key_before x y ≡ true
next_before x y e f = elim (key_total x y) [
  | inl b ↦ b
  | inr t ↦ elim t [
    | inl g ↦ absurd (f g)
    | inr b ↦ (let h = before_is y x in absurd cc)
  ]
]

module _ {V : Type 0} where
  -- the keys of the pairs are the keys of the members
  pub keys_same : (ms : List (Member V)) → keys_of (map pair_of ms) ≡ map key_of ms
  keys_same [] = refl
  keys_same (m ∷ ms) = ap (λ l. key_of m ∷ l) (keys_same ms)

  all_at : (P : List ℕ → Type 0) (ms : List (Member V)) (i : ℕ) (d : Member V) → i < length ms → AllByRecursion P (map key_of ms)
      → P (key_of (get_or ms i d))
  all_at P [] i d lt h = absurd (omega arith)
  all_at P (m ∷ ms) zero d lt h = h.0
  all_at P (m ∷ ms) (suc i) d lt h = all_at P ms i d (omega arith) h.1

  adjacent : (ms : List (Member V)) → rises (map key_of ms) ≡ true → (k : ℕ) (d : Member V) → suc k < length ms
      → key_before (key_of (get_or ms (suc k) d)) (key_of (get_or ms k d)) ≡ false
  adjacent [] e k d lt = absurd (omega arith)
  adjacent (m ∷ []) e k d lt = absurd (omega arith)
  adjacent (m ∷ n ∷ ms) e zero d lt = not_after (key_of m) (key_of n) (rises_next (key_of m) (key_of n) (map key_of ms) e)
  adjacent (m ∷ n ∷ ms) e (suc k) d lt = adjacent (n ∷ ms) (rises_tail (key_of m) (map key_of (n ∷ ms)) e) k d (omega arith)

  -- members whose keys rise are sorted by them
  pub sorted_from_rises : (ms : List (Member V)) → rises (map key_of ms) ≡ true → IsSortedByKey key_of key_cmp ms
  sorted_from_rises ms e k d low high =
      rw add-one (before_is (key_of (get_or ms (suc k) d)) (key_of (get_or ms k d)) ∙ adjacent ms e k d (omega arith))

  -- the value of the member that has the key
  pub lookup_stands : (ms : List (Member V)) (key : List ℕ) (i : ℕ) (d : Member V) → rises (map key_of ms) ≡ true → StandsAt ms key i
      → lookup key (map pair_of ms) ≡ Some (get_or ms i d).value
  lookup_stands ms key i d e s =
      let r : rises (keys_of (map pair_of ms)) ≡ true = ap rises (keys_same ms) ∙ e in
      let g = get_or-map pair_of ms i d (pair_of d) s.within in
      let n : i < length (map pair_of ms) = omega (arith, length-map ms pair_of, s.within) in
      let l = lookup_at (map pair_of ms) r i (pair_of d) n in
      ap (λ k. lookup k (map pair_of ms)) (sym (s.at d)) ∙ ap (λ (p : List ℕ × V). lookup p.0 (map pair_of ms)) (sym g) ∙ l
      ∙ ap (λ (p : List ℕ × V). Some p.1) g

  lookup_none : (ms : List (Member V)) (key : List ℕ) → ((i : ℕ) (d : Member V) → i < length ms → bytes_eq key (key_of (get_or ms i d)) ≡ false)
      → lookup key (map pair_of ms) ≡ None
  lookup_none [] key h = refl
  lookup_none (m ∷ ms) key h = rw (h 0 m (omega arith)) (lookup_none ms key (λ i d lt. h (suc i) d (omega arith)))

  -- a key that would stand at a place stands nowhere
  pub lookup_goes : (ms : List (Member V)) (key : List ℕ) (i : ℕ) → GoesAt ms key i → lookup key (map pair_of ms) ≡ None
  lookup_goes ms key i g = lookup_none ms key (λ j d lt. go j d lt (cases_lt j i))
    where
      go : (j : ℕ) (d : Member V) → j < length ms → (j < i) ⊎ (i ≤ j) → bytes_eq key (key_of (get_or ms j d)) ≡ false
      go j d lt (inl h) = after_differs (key_of (get_or ms j d)) key (g.below j d (omega arith) h)
      go j d lt (inr h) = before_differs key (key_of (get_or ms j d)) (g.above j d h lt)

  goes_tail : (m : Member V) (ms : List (Member V)) (key : List ℕ) (i : ℕ) → GoesAt (m ∷ ms) key (suc i) → GoesAt ms key i
  goes_tail m ms key i g = record {
    within = let h = g.within in omega arith;
    below = λ k d low high. g.below (suc k) d (omega arith) (omega arith);
    above = λ k d low high. g.above (suc k) d (omega arith) (omega arith);
  }

  -- the keys still rise where a member goes in at its place
  pub rises_inserted : (ms : List (Member V)) (m : Member V) (i : ℕ) → rises (map key_of ms) ≡ true → GoesAt ms (key_of m) i
      → rises (map key_of (insert ms i m)) ≡ true
  rises_inserted [] m zero e g = refl
  rises_inserted [] m (suc i) e g = let h = g.within in absurd (omega arith)
  rises_inserted (x ∷ xs) m zero e g = rises_cons (key_of m) (key_of x) (map key_of xs) (g.above 0 m (omega arith) (omega arith)) e
  rises_inserted (x ∷ xs) m (suc zero) e g = rises_cons (key_of x) (key_of m) (map key_of xs) (g.below 0 m (omega arith) (omega arith))
      (rises_inserted xs m 0 (rises_tail (key_of x) (map key_of xs) e) (goes_tail x xs (key_of m) 0 g))
  rises_inserted (x ∷ []) m (suc (suc i)) e g = let h = g.within in absurd (omega arith)
  rises_inserted (x ∷ y ∷ ys) m (suc (suc i)) e g = rises_cons (key_of x) (key_of y) (map key_of (insert ys i m))
      (rises_next (key_of x) (key_of y) (map key_of ys) e)
      (rises_inserted (y ∷ ys) m (suc i) (rises_tail (key_of x) (map key_of (y ∷ ys)) e) (goes_tail x (y ∷ ys) (key_of m) (suc i) g))

  -- of a first pair with another key, and of what is put behind it
  step_over : (k x key : List ℕ) (v : V) (w : V) (r s : Option V) → bytes_eq x key ≡ false → r ≡ (if bytes_eq k key then Some v else s)
      → (if bytes_eq k x then Some w else r) ≡ (if bytes_eq k key then Some v else (if bytes_eq k x then Some w else s))
  step_over k x key v w r s ne e = go (bytes_eq k x) refl
    where
      go : (b : Bool) → bytes_eq k x ≡ b → (if b then Some w else r) ≡ (if bytes_eq k key then Some v else (if b then Some w else s))
      go true t = let u : bytes_eq k key ≡ false = ap (λ z. bytes_eq z key) ((bytes_eq-Decides k x).0 t) ∙ ne in rw u refl
      go false t = e

  -- the look-ups after a member goes in at its place
  pub lookup_inserted : (ms : List (Member V)) (m : Member V) (i : ℕ) → GoesAt ms (key_of m) i → (k : List ℕ)
      → lookup k (map pair_of (insert ms i m)) ≡ (if bytes_eq k (key_of m) then Some m.value else lookup k (map pair_of ms))
  lookup_inserted [] m zero g k = refl
  lookup_inserted [] m (suc i) g k = let h = g.within in absurd (omega arith)
  lookup_inserted (x ∷ xs) m zero g k = refl
  lookup_inserted (x ∷ xs) m (suc i) g k = step_over k (key_of x)
      (key_of m) m.value x.value _ _ (before_differs (key_of x) (key_of m) (g.below 0 m (omega arith) (omega arith)))
      (lookup_inserted xs m i (goes_tail x xs (key_of m) i g) k)

  first_over : (k x : List ℕ) (v w : V) (s : Option V)
      → (if bytes_eq k x then Some v else s) ≡ (if bytes_eq k x then Some v else (if bytes_eq k x then Some w else s))
  first_over k x v w s = go (bytes_eq k x)
    where
      go : (b : Bool) → (if b then Some v else s) ≡ (if b then Some v else (if b then Some w else s))
      go true = refl
      go false = refl

  key_after : (m : Member V) (ms : List (Member V)) → rises (map key_of (m ∷ ms)) ≡ true → (i : ℕ) (d : Member V) → i < length ms
      → key_before (key_of m) (key_of (get_or ms i d)) ≡ true
  key_after m ms e i d lt = all_at (λ z. key_before (key_of m) z ≡ true) ms i d lt (rises_all (key_of m) (map key_of ms) e)

  -- the look-ups after the member at a place has another value
  pub lookup_replaced : (ms : List (Member V)) → rises (map key_of ms) ≡ true → (i : ℕ) (d : Member V) → i < length ms → (v : V) (k : List ℕ)
      → lookup k (map pair_of (slice_set ms i (with_value (get_or ms i d) v))) ≡
      (if bytes_eq k (key_of (get_or ms i d)) then Some v else lookup k (map pair_of ms))
  lookup_replaced [] e i d lt v k = absurd (omega arith)
  lookup_replaced (m ∷ ms) e zero d lt v k = first_over k (key_of m) v m.value (lookup k (map pair_of ms))
  lookup_replaced (m ∷ ms) e (suc i) d lt v k = step_over k (key_of m)
      (key_of (get_or ms i d)) v m.value _ _ (before_differs (key_of m) (key_of (get_or ms i d)) (key_after m ms e i d (omega arith)))
      (lookup_replaced ms (rises_tail (key_of m) (map key_of ms) e) i d (omega arith) v k)

  rises_apart : (ms : List (Member V))
      → ((k : ℕ) (d : Member V) → suc k < length ms → is_lt (key_cmp (key_of (get_or ms (suc k) d)) (key_of (get_or ms k d))) ≡ false)
      → ((k : ℕ) (d : Member V) → suc k < length ms → key_of (get_or ms k d) ≡ key_of (get_or ms (suc k) d) → ⊥) → rises (map key_of ms) ≡ true
  rises_apart [] s f = refl
  rises_apart (m ∷ []) s f = refl
  rises_apart (m ∷ n ∷ ms) s f =
      rises_cons (key_of m) (key_of n) (map key_of ms) (next_before (key_of m) (key_of n) (s 0 m (omega arith)) (f 0 m (omega arith)))
      (rises_apart (n ∷ ms) (λ k d lt. s (suc k) d (omega arith)) (λ k d lt. f (suc k) d (omega arith)))

  -- sorted members of which no two neighbours have one key rise
  pub rises_from_sorted : (ms : List (Member V)) → IsSortedByKey key_of key_cmp ms
      → ((k : ℕ) (d : Member V) → suc k < length ms → key_of (get_or ms k d) ≡ key_of (get_or ms (suc k) d) → ⊥) → rises (map key_of ms) ≡ true
  rises_from_sorted ms s f = rises_apart ms (λ k d lt. rw add-one at (s k d (omega arith) (omega arith))) f

  -- what a search by halves finds in members whose keys rise
  pub place_searched : (ms : List (Member V)) (key : List ℕ) (r : Result ℕ ℕ) → rises (map key_of ms) ≡ true → IsSearchInRange r (length ms)
      → IsBinarySearchResult (λ m. key_cmp (key_of m) key) ms r → IsPlaceOf ms key r
  place_searched ms key (Ok i) e b s = record { within = b; at = λ d. one_key (key_of (get_or ms i d)) key (s d) }
  place_searched ms key (Err i) e b s =
      let p = s (searchable_from_sorted key_cmp_total key_of ms key (sorted_from_rises ms e)) in
      record {
        within = b;
        below = λ k d low high. before_less (key_of (get_or ms k d)) key (p.0 k d low high);
        above = λ k d low high. before_greater (key_of (get_or ms k d)) key (p.1 k d low high);
      }

  -- the keys rise as before where the member at a place has another value
  pub rises_replaced : (ms : List (Member V)) (i : ℕ) (d : Member V) (v : V) → rises (map key_of ms) ≡ true
      → rises (map key_of (slice_set ms i (with_value (get_or ms i d) v))) ≡ true
  rises_replaced ms i d v e = ap rises (map-set_same key_of ms i (with_value (get_or ms i d) v) d refl) ∙ e

  -- the look-ups after the member that has the key has another value
  pub lookup_put : (ms : List (Member V)) (key : List ℕ) (i : ℕ) (d : Member V) → rises (map key_of ms) ≡ true → StandsAt ms key i
      → (v : V) (k : List ℕ)
      → lookup k (map pair_of (slice_set ms i (with_value (get_or ms i d) v))) ≡ (if bytes_eq k key then Some v else lookup k (map pair_of ms))
  lookup_put ms key i d e s v k =
      lookup_replaced ms e i d s.within v k ∙ ap (λ z. if bytes_eq k z then Some v else lookup k (map pair_of ms)) (s.at d)
