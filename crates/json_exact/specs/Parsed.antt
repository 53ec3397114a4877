-- Which literals are numbers here, and why the others are not. The limits are this project's own.
use Rattle.std.specs.Prelude.{ℕ, ◌+◌, ◌^◌, ◌<◌, ◌≤◌, nat_abs, List}
use Rattle.json_model.specs.Decimal.{Decimal as Written, IsNarrow}
use Rattle.json_exact.specs.Literal.{IsLiteral}

-- below 10 ^ 131072, and at most 16383 fraction digits are written
abbrev pub IsInRange : Written → Type 0
IsInRange w = (nat_abs w.digits < 10 ^ (131072 + w.places)) × (w.places ≤ 16383)

-- the text is a literal that writes w, which is narrow and in range
pub record IsNumber (text : List ℕ) (w : Written) : Type 0 where
  pub literal : IsLiteral text w
  pub narrow : IsNarrow w
  pub in_range : IsInRange w

abbrev pub IsNoLiteral : List ℕ → Type 0
IsNoLiteral text = (w : Written) → IsLiteral text w → ⊥

abbrev pub IsTooWide : List ℕ → Type 0
IsTooWide text = (w : Written) × IsLiteral text w × ¬ IsNarrow w

abbrev pub IsOutOfRange : List ℕ → Type 0
IsOutOfRange text = (w : Written) × IsLiteral text w × IsNarrow w × ¬ IsInRange w
