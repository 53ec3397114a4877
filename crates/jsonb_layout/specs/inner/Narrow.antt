-- Whether a decimal is narrow, as a test: what the code meets. `IsNarrow` of json_model is what a user believes.
use Rattle.std.specs.Prelude.{ℕ, zero, suc, ◌/◌, ◌%◌, ◌^◌, Bool, true, false, ◌==◌, nat_lt, nat_abs}
use Rattle.json_model.specs.Decimal.{Decimal}

-- without the zero digits at its end, of which it has fewer than its fuel
abbrev pub stripped : ℕ → ℕ → ℕ
stripped zero n = n
stripped (suc fuel) n = elim (n % 10 == 0) [ true ↦ stripped fuel (n / 10) | false ↦ n ]

unfoldable pub is_narrow : Decimal → Bool
is_narrow d = nat_lt (stripped (nat_abs d.digits) (nat_abs d.digits)) (10 ^ 38)
