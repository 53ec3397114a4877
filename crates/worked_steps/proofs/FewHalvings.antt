-- How often a number can be halved.
use Rattle.std.proofs.Common.{ℕ, suc, ◌+◌, ◌*◌, ◌^◌, ◌<◌, ◌≤◌, ◌≡◌, inl, inr, arith}
use Rattle.std.proofs.Math.Nat.{pow-le-pow_right}
use Rattle.std.proofs.lemmas.Bool.{cases_lt}

double : (h : ℕ) → 2 ^ suc h ≡ 2 * 2 ^ h
double h = grind arith

-- where n is below a power of two, a power of two that is at most 2n + 1 is no higher
pub few_halvings : (p n h : ℕ) → 2 ^ p ≤ 2 * n + 1 → n < 2 ^ h → p ≤ h
few_halvings p n h most below =
    elim (cases_lt h p) [
      | inl lt ↦
          let higher : 2 ^ suc h ≤ 2 ^ p = pow-le-pow_right (omega arith) lt in
          absurd (omega (arith, higher, double h, most, below))
      | inr le ↦ le
    ]
