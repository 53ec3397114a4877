-- The order of keys as a comparison, and where a key stands in a list. This project's own.
use Rattle.std.specs.Prelude.{◌≡◌, ℕ, ◌<◌, ◌≤◌, List, length, Result, true}
use Rattle.std.specs.Result.{MatchResult}
use Rattle.std.specs.List.{HoldsAt, AllWithin}
use Rattle.std.specs.declared.cmp.Ordering.{Ordering}
use Rattle.std.specs.Ordering.{nat_cmp, then_cmp, on}
use Rattle.std.specs.Cmp.Lexicographic.{slice_cmp}
use Rattle.json_model.specs.Keys.{key_before}
use Rattle.key_map.specs.Pairs.{key_of}
use Rattle.key_map.specs.declared.map.Member.{Member}

-- first by length, then by the bytes in order
abbrev pub key_cmp : List ℕ → List ℕ → Ordering
key_cmp = then_cmp (on length nat_cmp) (slice_cmp nat_cmp)

module _ {V : Type 0} where
  -- the member at a place has the key
  pub record StandsAt (ms : List (Member V)) (key : List ℕ) (place : ℕ) : Type 0 where
    pub within : place < length ms
    pub at : HoldsAt (λ m. key_of m ≡ key) ms place

  -- the keys below a place come before the key, and those from it on come after
  pub record GoesAt (ms : List (Member V)) (key : List ℕ) (place : ℕ) : Type 0 where
    pub within : place ≤ length ms
    pub below : AllWithin (λ m. key_before (key_of m) key ≡ true) ms 0 place
    pub above : AllWithin (λ m. key_before key (key_of m) ≡ true) ms place (length ms)

  -- where a key stands, or where it would
  abbrev pub IsPlaceOf : List (Member V) → List ℕ → Result ℕ ℕ → Type 0
  IsPlaceOf ms key r = MatchResult r (StandsAt ms key) (GoesAt ms key)
