-- Zeros at the end make a number neither wider nor narrower.
use Rattle.std.proofs.Common.{◌≡◌, ℕ, zero, suc, ◌+◌, ◌-◌, ◌*◌, ◌/◌, ◌%◌, ◌^◌, ◌<◌, ◌≤◌, sym, ap, subst, ◌∙◌, arith, inl, inr}
use Rattle.std.proofs.Math.Nat.{pow-suc, mul-lt-mul_of_pos_right}
use Rattle.std.proofs.lemmas.Nat.{pow-add}
use Rattle.std.proofs.lemmas.Bool.{cases_lt}
use Rattle.json_model.specs.Decimal.{HasNarrowDigits}
use Rattle.json_exact.specs.inner.DecimalInverseLaws.{ten_pos}
use Rattle.json_exact.proofs.DigitLaws.{ten_mono, factor_last}

ten_step : (k m : ℕ) → m ≡ suc k → 10 ^ m ≡ 10 ^ k * 10
ten_step k m e = ap (λ (i : ℕ). 10 ^ i) e ∙ pow-suc 10 k

-- a further digit does not narrow a number
pub narrow_less : (n d : ℕ) → d < 10 → HasNarrowDigits (n * 10 + d) → HasNarrowDigits n
narrow_less n d lt (zero, k, e, small) = (0, n, omega arith, omega arith)
narrow_less n d lt (suc b, k, e, small) =
    let f = pow-suc 10 b in
    let g : k * 10 ^ suc b ≡ k * 10 ^ b * 10 = rw f (omega arith) in
    let h : 10 ^ (38 + suc b) ≡ 10 ^ (38 + b) * 10 = ten_step (38 + b) (38 + suc b) (omega arith) in
    (b, k, omega arith, omega arith)

-- nor does a further group
pub narrow_less_group : (n g : ℕ) → g < 10000 → HasNarrowDigits (n * 10000 + g) → HasNarrowDigits n
narrow_less_group n g lt h =
    narrow_less n (g / 1000) (omega arith)
    (narrow_less (n * 10 + g / 1000) (g / 100 % 10) (omega arith)
    (narrow_less ((n * 10 + g / 1000) * 10 + g / 100 % 10) (g / 10 % 10) (omega arith)
    (narrow_less (((n * 10 + g / 1000) * 10 + g / 100 % 10) * 10 + g / 10 % 10) (g % 10) (omega arith)
    (subst HasNarrowDigits
    (let e : n * 10000 + g ≡ (((n * 10 + g / 1000) * 10 + g / 100 % 10) * 10 + g / 10 % 10) * 10 + g % 10 = omega arith in e) h))))

-- a digit that is not 0 behind 38 digits makes a number wide
pub wide_digit : (n d : ℕ) → 10 ^ 37 ≤ n → d < 10 → (d ≡ 0 → ⊥) → HasNarrowDigits (n * 10 + d) → ⊥
wide_digit n d big lt some (zero, k, e, small) = some (omega arith)
wide_digit n d big lt some (suc b, k, e, small) =
    let f = pow-suc 10 b in let g : k * 10 ^ suc b ≡ k * 10 ^ b * 10 = rw f (omega arith) in some (omega arith)

-- and so does a group that is not 0 behind eleven groups
pub wide_group : (n g : ℕ) → 10000 ^ 10 ≤ n → g < 10000 → (g ≡ 0 → ⊥) → HasNarrowDigits (n * 10000 + g) → ⊥
wide_group n g big lt some (b, k, e, small) = elim (cases_lt b 4) [
  | inl few ↦ absurd (let m = ten_mono (38 + b) 41 (omega arith) in omega arith)
  | inr many ↦
      let f : 10 ^ b ≡ 10 ^ (b - 4) * 10 ^ 4 = ap (λ (i : ℕ). 10 ^ i) (let i : b ≡ b - 4 + 4 = omega arith in i) ∙ pow-add 10 (b - 4) 4 in
      let g : k * 10 ^ b ≡ k * 10 ^ (b - 4) * 10000 = ap (λ (x : ℕ). k * x) f ∙ sym (factor_last k (10 ^ (b - 4)) (10 ^ 4)) in
      some (omega arith)
]

pub narrow_more : (n k : ℕ) → HasNarrowDigits n → HasNarrowDigits (n * 10 ^ k)
narrow_more n k (b, m, e, lt) = (
  b + k,
  m,
  ap (λ (x : ℕ). x * 10 ^ k) e ∙ factor_last m (10 ^ b) (10 ^ k) ∙ ap (λ (x : ℕ). m * x) (sym (pow-add 10 b k)),
  subst (λ (x : ℕ). n * 10 ^ k < x) (sym (pow-add 10 (38 + b) k) ∙ ap (λ (i : ℕ). 10 ^ i) (sums 38 b k)) (mul-lt-mul_of_pos_right lt (ten_pos k)),
)
  where
    sums : (x y z : ℕ) → x + y + z ≡ x + (y + z)
    sums x y z = omega arith

pub narrow_back : (n k : ℕ) → HasNarrowDigits (n * 10 ^ k) → HasNarrowDigits n
narrow_back n zero h = subst HasNarrowDigits (let e : n * 10 ^ 0 ≡ n = omega arith in e) h
narrow_back n (suc k) h =
    let f = pow-suc 10 k in
    let e : n * 10 ^ suc k ≡ n * 10 ^ k * 10 + 0 = rw f (omega arith) in
    narrow_back n k (narrow_less (n * 10 ^ k) 0 (omega arith) (subst HasNarrowDigits e h))

pub narrow_same : (n q up down : ℕ) → n * 10 ^ up ≡ q * 10 ^ down → HasNarrowDigits q → HasNarrowDigits n
narrow_same n q up down e h = narrow_back n up (subst HasNarrowDigits (sym e) (narrow_more q down h))

-- A number of 39 + d digits is narrow exactly where its last 2 + d digits are 0.
pub narrow_zeros : (n d : ℕ) → n < 10 ^ (40 + d) → (q : ℕ) × (n ≡ q * 10 ^ (2 + d)) → HasNarrowDigits n
narrow_zeros n d small (q, e) = (2 + d, q, e, subst (λ (k : ℕ). n < 10 ^ k) (let i : 40 + d ≡ 38 + (2 + d) = omega arith in i) small)

pub zeros_narrow : (n d : ℕ) → 10 ^ (39 + d) ≤ n → HasNarrowDigits n → (q : ℕ) × (n ≡ q * 10 ^ (2 + d))
zeros_narrow n d large (b, k, e, small) = elim (cases_lt b (2 + d)) [
  | inl few ↦ absurd (let m = ten_mono (38 + b) (39 + d) (omega arith) in omega arith)
  | inr many ↦
      let f : 10 ^ b ≡ 10 ^ (b - (2 + d)) * 10 ^ (2 + d) =
      ap (λ (i : ℕ). 10 ^ i) (let i : b ≡ b - (2 + d) + (2 + d) = omega arith in i) ∙ pow-add 10 (b - (2 + d)) (2 + d) in
      (k * 10 ^ (b - (2 + d)), e ∙ ap (λ (x : ℕ). k * x) f ∙ sym (factor_last k (10 ^ (b - (2 + d))) (10 ^ (2 + d))))
]
