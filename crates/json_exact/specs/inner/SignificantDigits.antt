-- What the digits of a number leave behind that are pushed one after another, in any base. This project's own.
use Rattle.std.specs.Prelude.{◌≡◌, ℕ, ◌<◌, ◌≤◌, Bool, true, false, List, slice_index}
use Rattle.json_model.specs.Decimal.{HasNarrowDigits}
use Rattle.json_exact.specs.inner.LeadingDigits.{Keeps}
use Rattle.json_exact.specs.declared.significant_digits.SignificantDigits.{SignificantDigits}

-- the slots that no digit was pushed to are 0
abbrev pub IsEmptyFrom : ℕ → List ℕ → Type 0
IsEmptyFrom len ds = (k : ℕ) → len ≤ k → slice_index ds k ≡ 0

-- one digit and `more` are too few for the number
pub record Loses (more len n : ℕ) : Type 0 where
  pub many : more < len
  pub wide : ¬ HasNarrowDigits n

-- `len` digits of base b were pushed, which make n, of which one and `more` are kept
pub data Pushed : ℕ → ℕ → List ℕ → ℕ → Bool → ℕ → Type 0 where
  kept : {b more : ℕ} {ds : List ℕ} {len n : ℕ} → Keeps b more ds len n → IsEmptyFrom len ds → Pushed b more ds len false n
  lost : {b more : ℕ} {ds : List ℕ} {len n : ℕ} → Loses more len n → Pushed b more ds len true n

-- the digits that were pushed are those of n, of which 38 are kept
abbrev pub Holds : SignificantDigits → ℕ → Type 0
Holds s n = Pushed 10 37 s.digits s.len s.too_wide n
