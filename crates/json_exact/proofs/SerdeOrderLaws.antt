-- Pairs in the order of their keys.
use Rattle.std.proofs.Common.{◌≡◌, ℕ, Bool, true, false, List, [], ◌∷◌, Option, Some, refl, sym, ap, ◌∙◌, inl, inr}
use Rattle.std.specs.Prelude.{if◌then◌else◌}
use Rattle.std.specs.Str.{bytes_eq}
use Rattle.std.specs.List.{AllByRecursion}
use Rattle.std.proofs.lemmas.Slice.Eq.{bytes_eq-Decides}
use Rattle.json_model.specs.Keys.{key_before, rises}
use Rattle.json_model.specs.Parts.{lookup}
use Rattle.json_model.proofs.KeyOrderLaws.{key_total, not_before, rises_all, rises_tail, rises_cons}
use Rattle.key_map.specs.Pairs.{keys_of}
use Rattle.key_map.proofs.Lookups.{same_bytes, one_list}
use Rattle.json_exact.specs.Serde.{placed, in_key_order}

same_key : (x y : List ℕ) → bytes_eq x y ≡ true → x ≡ y
same_key x y e = (bytes_eq-Decides x y).0 e

rises_before_all : (x : List ℕ) (ks : List (List ℕ)) → AllByRecursion (λ z. key_before x z ≡ true) ks → rises ks ≡ true → rises (x ∷ ks) ≡ true
rises_before_all x [] a e = refl
rises_before_all x (y ∷ ks) a e = rises_cons x y ks a.0 e

not_after : (x y : List ℕ) → key_before y x ≡ false → bytes_eq x y ≡ false → key_before x y ≡ true
not_after x y e f = elim (key_total x y) [
  | inl b ↦ b
  | inr t ↦ elim t [
    | inl same ↦ absurd (let g = same_bytes x y same in cc)
    | inr b ↦ absurd cc
  ]
]

module _ {V : Type 0} where
  -- what stands under a key, where a pair was put in its place
  lookup_placed : (k : List ℕ) (p : List ℕ × V) (qs : List (List ℕ × V))
      → lookup k (placed p qs) ≡ (if bytes_eq k p.0 then Some p.1 else lookup k qs)
  lookup_placed k p [] = refl
  lookup_placed k p (q ∷ qs) = go (lookup_placed k p qs) (key_before q.0 p.0) (bytes_eq p.0 q.0) refl refl
    where
      swapped : (x y : Bool) (r : Option V) → key_before q.0 p.0 ≡ true → bytes_eq k q.0 ≡ x → bytes_eq k p.0 ≡ y
          → (if x then Some q.1 else (if y then Some p.1 else r)) ≡ (if y then Some p.1 else (if x then Some q.1 else r))
      swapped true true r e g h = absurd (not_before q.0 p.0 e (sym (same_key k q.0 g) ∙ same_key k p.0 h))
      swapped true false r e g h = refl
      swapped false true r e g h = refl
      swapped false false r e g h = refl

      replaced : (y : Bool) → p.0 ≡ q.0 → bytes_eq k p.0 ≡ y
          → (if y then Some p.1 else lookup k qs) ≡ (if y then Some p.1 else (if bytes_eq k q.0 then Some q.1 else lookup k qs))
      replaced true e h = refl
      replaced false e h = rw (sym (ap (bytes_eq k) e) ∙ h) refl

      go : lookup k (placed p qs) ≡ (if bytes_eq k p.0 then Some p.1 else lookup k qs) → (b c : Bool)
          → key_before q.0 p.0 ≡ b → bytes_eq p.0 q.0 ≡ c
          → lookup k (if b then q ∷ placed p qs else (p ∷ (if c then qs else q ∷ qs)))
          ≡ (if bytes_eq k p.0 then Some p.1 else (if bytes_eq k q.0 then Some q.1 else lookup k qs))
      go rest true c e f =
          ap (λ (r : Option V). if bytes_eq k q.0 then Some q.1 else r) rest
          ∙ swapped (bytes_eq k q.0) (bytes_eq k p.0) (lookup k qs) e refl refl
      go rest false true e f = replaced (bytes_eq k p.0) (same_key p.0 q.0 f) refl
      go rest false false e f = refl

  all_placed : (P : List ℕ → Type 0) (p : List ℕ × V) (qs : List (List ℕ × V)) → P p.0 → AllByRecursion P (keys_of qs)
      → AllByRecursion P (keys_of (placed p qs))
  all_placed P p [] h a = (h, tt)
  all_placed P p (q ∷ qs) h a = go (all_placed P p qs h a.1) (key_before q.0 p.0) (bytes_eq p.0 q.0)
    where
      go : AllByRecursion P (keys_of (placed p qs)) → (b c : Bool)
          → AllByRecursion P (keys_of (if b then q ∷ placed p qs else (p ∷ (if c then qs else q ∷ qs))))
      go rest true c = (a.0, rest)
      go rest false true = (h, a.1)
      go rest false false = (h, a)

  -- keys that rise do so with one more in its place
  rises_placed : (p : List ℕ × V) (qs : List (List ℕ × V)) → rises (keys_of qs) ≡ true → rises (keys_of (placed p qs)) ≡ true
  rises_placed p [] h = refl
  rises_placed p (q ∷ qs) h = go (rises_placed p qs (rises_tail q.0 (keys_of qs) h)) (key_before q.0 p.0) (bytes_eq p.0 q.0) refl refl
    where
      go : rises (keys_of (placed p qs)) ≡ true → (b c : Bool) → key_before q.0 p.0 ≡ b → bytes_eq p.0 q.0 ≡ c
          → rises (keys_of (if b then q ∷ placed p qs else (p ∷ (if c then qs else q ∷ qs)))) ≡ true
      go rest true c e f =
          rises_before_all q.0 (keys_of (placed p qs)) (all_placed (λ z. key_before q.0 z ≡ true) p qs e (rises_all q.0 (keys_of qs) h)) rest
      go rest false true e f = ap (λ (x : List ℕ). rises (x ∷ keys_of qs)) (same_key p.0 q.0 f) ∙ h
      go rest false false e f = rises_cons p.0 q.0 (keys_of qs) (not_after p.0 q.0 e f) h

  ordered_rises : (ps : List (List ℕ × V)) → rises (keys_of (in_key_order ps)) ≡ true
  ordered_rises [] = refl
  ordered_rises (p ∷ ps) = rises_placed p (in_key_order ps) (ordered_rises ps)

  ordered_lookup : (k : List ℕ) (ps : List (List ℕ × V)) → lookup k (in_key_order ps) ≡ lookup k ps
  ordered_lookup k [] = refl
  ordered_lookup k (p ∷ ps) =
      lookup_placed k p (in_key_order ps) ∙ ap (λ (r : Option V). if bytes_eq k p.0 then Some p.1 else r) (ordered_lookup k ps)

  -- a list that rises and has the look-ups of another is that one in key order
  pub ordered_is : (ps qs : List (List ℕ × V)) → rises (keys_of qs) ≡ true → ((k : List ℕ) → lookup k qs ≡ lookup k ps) → in_key_order ps ≡ qs
  ordered_is ps qs rise same = one_list (in_key_order ps) qs (ordered_rises ps) rise (λ k. ordered_lookup k ps ∙ sym (same k))
