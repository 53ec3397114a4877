-- A machine's whole number is that many times the parts that make one.
use Rattle.std.proofs.Common.{◌≡◌, ℕ, ◌*◌, ◌^◌, ◌<◌, sym, ap, ◌∙◌, arith}
use Rattle.json_model.specs.Decimal.{HasNarrowDigits}
use Rattle.json_exact.specs.Exact.{parts}
use Rattle.json_exact.proofs.DigitLaws.{factor_last}
use Rattle.json_exact.proofs.GroupLaws.{whole_groups}

-- 38 digits are enough for a machine's number
pub few_digits : (n : ℕ) → n < 2 ^ 64 → HasNarrowDigits n
few_digits n lt = (0, n, omega arith, omega arith)

-- moved up by all groups behind the point and down by none, n is n times the parts that make one, and a 0
pub all_up : (n : ℕ) → n * 10000 ^ 4096 ≡ n * parts * 10 * 10000 ^ 0
unfolding parts
all_up n = ap (λ (x : ℕ). n * x) whole_groups ∙ sym (factor_last n (10 ^ 16383) 10) ∙ one (n * 10 ^ 16383 * 10)
  where
    one : (x : ℕ) → x ≡ x * 1
    one x = omega arith
