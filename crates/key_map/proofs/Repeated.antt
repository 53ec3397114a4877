-- Which places of a list of keys repeat an earlier one.
use Rattle.std.proofs.Common.{◌≡◌, ℕ, suc, zero, ◌+◌, ◌<◌, Bool, true, false, List, [], ◌∷◌, Some, length, get_or, take, map, cond, refl, sym, ap, ◌∙◌, arith, add-one}
use Rattle.std.specs.Prelude.{◌||◌}
use Rattle.std.specs.Str.{bytes_eq}
use Rattle.std.specs.List.{slice_get, list_any}
use Rattle.std.proofs.lemmas.Slice.Eq.{bytes_eq-Decides}
use Rattle.key_map.specs.declared.map.Member.{Member}
use Rattle.key_map.specs.Pairs.{key_of}
use Rattle.key_map.specs.Repeats.{RepeatsAt}
use Rattle.key_map.proofs.Lookups.{same_bytes}

-- a key among the first i
abbrev pub is_early : List (List ℕ) → ℕ → List ℕ → Bool
is_early keys i key = list_any (λ k. bytes_eq k key) (take i keys)

abbrev Early : List (List ℕ) → ℕ → List ℕ → Type 0
Early keys i key = (e : ℕ) × (e < i) × (slice_get keys e ≡ Some key)

early_first : (x : List ℕ) (xs : List (List ℕ)) (i : ℕ) (key : List ℕ) (b : Bool) → bytes_eq x key ≡ b → (b || is_early xs i key) ≡ true
    → (is_early xs i key ≡ true → Early xs i key) → Early (x ∷ xs) (suc i) key
early_first x xs i key true e h f = (0, omega arith, ap (λ (z : List ℕ). Some z) ((bytes_eq-Decides x key).0 e))
early_first x xs i key false e h f = let t = f h in let s : t.0 < i = t.1 in (suc t.0, omega arith, t.2)

early_found : (keys : List (List ℕ)) (i : ℕ) (key : List ℕ) → is_early keys i key ≡ true → Early keys i key
early_found [] zero key h = absurd cc
early_found [] (suc i) key h = absurd cc
early_found (x ∷ xs) zero key h = absurd cc
early_found (x ∷ xs) (suc i) key h = early_first x xs i key (bytes_eq x key) refl h (early_found xs i key)

or_true : (b : Bool) → (b || true) ≡ true
or_true true = refl
or_true false = refl

found_early : (keys : List (List ℕ)) (i : ℕ) (key : List ℕ) (e : ℕ) → e < i → slice_get keys e ≡ Some key → is_early keys i key ≡ true
found_early [] i key e lt h = absurd cc
found_early (x ∷ xs) zero key e lt h = absurd (omega arith)
found_early (x ∷ xs) (suc i) key zero lt h = let s : x ≡ key = cc in rw (same_bytes x key s) refl
found_early (x ∷ xs) (suc i) key (suc e) lt h = ap (λ b. bytes_eq x key || b) (found_early xs i key e (omega arith) h) ∙ or_true (bytes_eq x key)

early_next : (keys : List (List ℕ)) (i : ℕ) (key q : List ℕ) → slice_get keys i ≡ Some key
    → is_early keys (suc i) q ≡ cond (bytes_eq key q) true (is_early keys i q)
early_next [] i key q h = absurd cc
early_next (x ∷ xs) zero key q h = let s : x ≡ key = cc in rw (← s) (go (bytes_eq x q))
  where
    go : (b : Bool) → (b || false) ≡ cond b true false
    go true = refl
    go false = refl
early_next (x ∷ xs) (suc i) key q h = ap (λ b. bytes_eq x q || b) (early_next xs i key q h) ∙ go (bytes_eq x q) (bytes_eq key q) (is_early xs i q)
  where
    go : (a b r : Bool) → (a || cond b true r) ≡ cond b true (a || r)
    go true true r = refl
    go true false r = refl
    go false b r = refl

-- one more key
pub early_more : (keys : List (List ℕ)) (i : ℕ) (key q : List ℕ) → slice_get keys i ≡ Some key
    → is_early keys (i + 1) q ≡ cond (bytes_eq key q) true (is_early keys i q)
early_more keys i key q h = rw add-one (early_next keys i key q h)

get_within : (keys : List (List ℕ)) (i : ℕ) (key : List ℕ) → slice_get keys i ≡ Some key → i < length keys
get_within [] i key h = absurd cc
get_within (x ∷ xs) zero key h = omega arith
get_within (x ∷ xs) (suc i) key h = let t = get_within xs i key h in omega arith

-- a key that stands among the earlier ones repeats
pub repeats_early : (keys : List (List ℕ)) (i : ℕ) (key : List ℕ) → slice_get keys i ≡ Some key → is_early keys i key ≡ true → RepeatsAt keys i
repeats_early keys i key h e =
    let t = early_found keys i key e in record { within = get_within keys i key h; earlier = t.0; before = t.1; same = t.2 ∙ sym h }

-- one that does not stand among them does not
pub new_apart : (keys : List (List ℕ)) (i : ℕ) (key : List ℕ) → slice_get keys i ≡ Some key → is_early keys i key ≡ false → RepeatsAt keys i → ⊥
new_apart keys i key h e r = let t = found_early keys i key r.earlier r.before (r.same ∙ h) in absurd cc

module _ {V : Type 0} where
  -- the key of the member at a place
  pub key_at : (ms : List (Member V)) (i : ℕ) (d : Member V) → i < length ms → slice_get (map key_of ms) i ≡ Some (key_of (get_or ms i d))
  key_at [] i d lt = absurd (omega arith)
  key_at (x ∷ xs) zero d lt = refl
  key_at (x ∷ xs) (suc i) d lt = key_at xs i d (omega arith)
