-- How many digits are left when the last ones are cut off.
use Rattle.std.proofs.Common.{◌≡◌, ℕ, zero, suc, ◌-◌, ◌/◌, ◌^◌, ◌≤◌, refl, sym, ap, ◌∙◌, arith}
use Rattle.std.proofs.Math.Nat.{pow-suc, div-div-eq-div-mul}
use Rattle.json_exact.specs.Digits.{count_in, count_of, count}
use Rattle.json_exact.specs.inner.LeadingDigitsLaws.{count_step, count_zero}

-- the count does not depend on how far it may go
count_same : (f g n : ℕ) → n ≤ f → n ≤ g → count_in 10 f n ≡ count_in 10 g n
count_same f g zero h k = count_zero 10 f ∙ sym (count_zero 10 g)
count_same zero g (suc n) h k = absurd (omega arith)
count_same (suc f) zero (suc n) h k = absurd (omega arith)
count_same (suc f) (suc g) (suc n) h k =
    count_step 10 f (suc n) (omega arith) ∙ ap (λ (x : ℕ). suc x) (count_same f g (suc n / 10) (omega arith) (omega arith))
    ∙ sym (count_step 10 g (suc n) (omega arith))

-- a tenth has a digit less
count_tenth : (n : ℕ) → count (n / 10) ≡ count n - 1
unfolding count count_of
count_tenth zero = refl
count_tenth (suc n) =
    count_same (suc n / 10) n (suc n / 10) (omega arith) (omega arith)
    ∙ sym (ap (λ (x : ℕ). x - 1) (count_step 10 n (suc n) (omega arith)) ∙ less (count_in 10 n (suc n / 10)))
  where
    less : (x : ℕ) → suc x - 1 ≡ x
    less x = omega arith

-- without its last k digits a number has k digits less
pub count_cut : (k n : ℕ) → count (n / 10 ^ k) ≡ count n - k
count_cut zero n = let e : n / 10 ^ 0 ≡ n = omega arith in ap count e ∙ (let f : count n ≡ count n - 0 = omega arith in f)
count_cut (suc k) n =
    ap count (ap (λ (x : ℕ). n / x) (pow-suc 10 k) ∙ sym (div-div-eq-div-mul n (10 ^ k) 10))
    ∙ count_tenth (n / 10 ^ k)
    ∙ ap (λ (x : ℕ). x - 1) (count_cut k n)
    ∙ (let f : count n - k - 1 ≡ count n - suc k = omega arith in f)
