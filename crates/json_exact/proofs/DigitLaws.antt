-- Powers, and numbers above 0.
use Rattle.std.proofs.Common.{◌≡◌, ℕ, zero, suc, ◌+◌, ◌-◌, ◌*◌, ◌^◌, ◌<◌, ◌≤◌, refl, subst, arith, inl, inr}
use Rattle.std.proofs.Math.Nat.{mul-lt-mul_of_pos_right}
use Rattle.std.proofs.lemmas.Nat.{pow-add}
use Rattle.std.proofs.lemmas.Bool.{cases_order}
use Rattle.json_exact.specs.inner.LeadingDigitsLaws.{power_pos}

pub power_mono : (b i j : ℕ) → 0 < b → i ≤ j → b ^ i ≤ b ^ j
power_mono b i j h le =
    let e : i + (j - i) ≡ j = omega arith in
    subst (λ (k : ℕ). b ^ i ≤ b ^ k) e (rw (pow-add b i (j - i)) (at_least (b ^ i) (b ^ (j - i)) (power_pos b (j - i) h)))
  where
    at_least : (s m : ℕ) → 0 < m → s ≤ s * m
    at_least s zero p = absurd (omega arith)
    at_least s (suc m) p = omega arith

pub ten_mono : (a b : ℕ) → a ≤ b → 10 ^ a ≤ 10 ^ b
ten_mono a b le = power_mono 10 a b (omega arith) le

-- what is not 0 is above it
pub above_none : (d : ℕ) → (d ≡ 0 → ⊥) → 0 < d
above_none zero h = absurd (h refl)
above_none (suc d) h = omega arith

-- a product that is 0 has a factor 0
pub none_of : (x p : ℕ) → 0 < p → x * p ≡ 0 → x ≡ 0
none_of zero p h e = refl
none_of (suc x) zero h e = absurd (omega arith)
none_of (suc x) (suc p) h e = absurd (omega arith)

pub above_of : (x p : ℕ) → 0 < x → 0 < p → 0 < x * p
above_of zero p h g = absurd (omega arith)
above_of (suc x) zero h g = absurd (omega arith)
above_of (suc x) (suc p) h g = omega arith

-- a common factor above 0 does not matter to an order
pub le_of : (x y m : ℕ) → 0 < m → x * m ≤ y * m → x ≤ y
le_of x y m p h = elim (cases_order x y) [
  | inl e ↦ omega arith
  | inr o ↦ elim o [ inl l ↦ omega arith | inr g ↦ absurd (let k : y * m < x * m = mul-lt-mul_of_pos_right g p in omega arith) ]
]

pub factor_last : (x y z : ℕ) → x * y * z ≡ x * (y * z)
factor_last x y z = omega arith
