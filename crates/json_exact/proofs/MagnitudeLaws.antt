-- A magnitude as a machine integer: its whole digits, read one after another.
use Rattle.std.proofs.Common.{◌≡◌, ℕ, zero, suc, ◌+◌, ◌-◌, ◌*◌, ◌/◌, ◌%◌, ◌^◌, ◌<◌, ◌≤◌, refl, sym, ap, subst, ◌∙◌, arith, ℤ, pos, nat_abs, Option, Some, None, Result, Ok, Err}
use Rattle.std.specs.Prelude.{int_lt, ◌↔◌}
use Rattle.std.specs.Result.{OkIff, result_ok}
use Rattle.std.proofs.Math.Nat.{pow-suc, mul-div_cancel, div-div-eq-div-mul, mul-lt-mul_of_pos_right, mul-le-mul_left, div-eq_of_lt, div-lt_iff_lt-mul}
use Rattle.std.proofs.lemmas.Nat.{div-add-mod', pow-add}
use Rattle.json_model.specs.Decimal.{IsWhole, signed}
use Rattle.json_exact.specs.Exact.{parts, exactly}
use Rattle.json_exact.specs.Digits.{count_of, count}
use Rattle.json_exact.specs.inner.LeadingDigitsLaws.{count_step}
use Rattle.json_exact.specs.inner.DecimalInverseLaws.{ten_pos}
use Rattle.json_exact.specs.inner.NumberInverseLaws.{signed_times, sign_abs}
use Rattle.json_exact.proofs.CountLaws.{count_cut}
use Rattle.json_exact.proofs.DigitLaws.{ten_mono}
use Rattle.json_exact.proofs.SignLaws.{abs_times}

-- a number without digits is 0
none_counted : (n : ℕ) → count n ≡ 0 → n ≡ 0
unfolding count count_of
none_counted zero h = refl
none_counted (suc n) h = absurd (let e = count_step 10 n (suc n) (omega arith) in omega arith)

-- a number is below the least one with more digits
pub below_count : (k n : ℕ) → count n ≤ k → n < 10 ^ k
below_count k n le =
    let z : n / 10 ^ k ≡ 0 = none_counted (n / 10 ^ k) (let c = count_cut k n in omega arith) in
    let e = div-add-mod' n (10 ^ k) in
    let p = ten_pos k in
    let f : n / 10 ^ k * 10 ^ k ≡ 0 = ap (λ (x : ℕ). x * 10 ^ k) z ∙ (let g : 0 * 10 ^ k ≡ 0 = omega arith in g) in
    let m : n % 10 ^ k < 10 ^ k = omega arith in
    omega arith

-- above the first digit there is nothing
pub none_above : (n k : ℕ) → count n ≤ k → 0 ≡ n / 10 ^ k
none_above n k le = sym (none_counted (n / 10 ^ k) (let c = count_cut k n in omega arith))

-- the digit at the next place is read
pub one_more : (n place m digit : ℕ) → 16383 < place → m ≡ n / 10 ^ place → digit ≡ n / 10 ^ (place - 1) % 10 → m * 10 + digit ≡ n / 10 ^ (place - 1)
one_more n zero m digit lt e d = absurd (omega arith)
one_more n (suc k) m digit lt e d =
    let i : suc k - 1 ≡ k = omega arith in
    let f : m ≡ n / 10 ^ k / 10 = e ∙ ap (λ (x : ℕ). n / x) (pow-suc 10 k) ∙ sym (div-div-eq-div-mul n (10 ^ k) 10) in
    let g : digit ≡ n / 10 ^ k % 10 = d ∙ ap (λ (j : ℕ). n / 10 ^ j % 10) i in
    let s : m * 10 + digit ≡ n / 10 ^ k = omega arith in
    s ∙ ap (λ (j : ℕ). n / 10 ^ j) (sym i)

zero_counted : count 0 ≡ 0
unfolding count count_of
zero_counted = refl

-- 20 digits are above the machine's integers, so more of them do not fit
pub wide : (n k : ℕ) → 16403 < count n → k < 2 ^ 64 → n ≡ k * parts → ⊥
unfolding parts
wide n k many lt e =
    let p = ten_pos 16383 in
    let t : 10 ^ 16403 ≡ 10 ^ 20 * 10 ^ 16383 = pow-add 10 20 16383 in
    let c : count (n / 10 ^ 16403) ≡ count n - 16403 = count_cut 16403 n in
    let m : k * 10 ^ 16383 < 10 ^ 20 * 10 ^ 16383 = mul-lt-mul_of_pos_right (below k lt) p in
    let z : n / 10 ^ 16403 ≡ 0 = div-eq_of_lt (subst (λ (x : ℕ). n < x) (sym t) (subst (λ (x : ℕ). x < 10 ^ 20 * 10 ^ 16383) (sym e) m)) in
    let y : count (n / 10 ^ 16403) ≡ 0 = ap count z ∙ zero_counted in
    omega arith
  where
    below : (k : ℕ) → k < 2 ^ 64 → k < 10 ^ 20
    below k h = omega arith

-- what is whole is its quotient by the parts, and as large as no other number of them
pub whole_quotient : (d : ℤ) → IsWhole (exactly d) → nat_abs d ≡ nat_abs d / 10 ^ 16383 * parts
unfolding exactly parts
whole_quotient d (k, e) =
    let f : nat_abs d ≡ nat_abs k * 10 ^ 16383 = ap nat_abs e ∙ abs_times k parts in
    let g : nat_abs d / 10 ^ 16383 ≡ nat_abs k = ap (λ (x : ℕ). x / 10 ^ 16383) f ∙ mul-div_cancel (nat_abs k) (ten_pos 16383) in
    f ∙ ap (λ (x : ℕ). x * 10 ^ 16383) (sym g)

pub parts_quotient : (n k : ℕ) → n ≡ k * parts → n / 10 ^ 16383 ≡ k
unfolding parts
parts_quotient n k e = ap (λ (x : ℕ). x / 10 ^ 16383) e ∙ mul-div_cancel k (ten_pos 16383)

-- a multiple of the parts is whole
pub whole_multiple : (d : ℤ) (k : ℕ) → nat_abs d ≡ k * parts → IsWhole (exactly d)
unfolding exactly parts
whole_multiple d k e = (
  signed (int_lt d (pos 0)) k,
  sign_abs d ∙ ap (λ (x : ℕ). signed (int_lt d (pos 0)) x) e ∙ sym (signed_times (int_lt d (pos 0)) k parts),
)

-- a magnitude of at most 20 whole digits is small
pub few_digits : (n place : ℕ) → count n ≤ 16403 → 16383 ≤ place → n / 10 ^ place < 10 ^ 20
few_digits n place le low =
    let b : n < 10 ^ 16403 = below_count 16403 n le in
    let m : 10 ^ 16403 ≤ 10 ^ 20 * 10 ^ place =
    subst (λ (x : ℕ). x ≤ 10 ^ 20 * 10 ^ place) (sym (pow-add 10 20 16383)) (mul-le-mul_left (10 ^ 20) (ten_mono 16383 place low)) in
    (div-lt_iff_lt-mul (ten_pos place)).1 (omega arith)

-- what the machine's integer of the whole digits tells
pub told : {E : Type 0} (d : ℤ) (m : ℕ) (r : Result ℕ E) (o : Option ℕ) → IsWhole (exactly d) → m ≡ nat_abs d / 10 ^ 16383 → OkIff r (m < 2 ^ 64) m
    → o ≡ result_ok r
    → (n : ℕ) → n < 2 ^ 64 → (o ≡ Some n) ↔ (nat_abs d ≡ n * parts)
told d m (Ok x) o whole read (fits, same) is n lt = (
  λ e. let xn : x ≡ n = some_injective (sym is ∙ e) in whole_quotient d whole ∙ ap (λ (k : ℕ). k * parts) (sym read ∙ sym same ∙ xn),
  λ e. is ∙ ap (λ (k : ℕ). Some k) (same ∙ read ∙ parts_quotient (nat_abs d) n e),
)
  where
    some_injective : {x y : ℕ} → Some x ≡ Some y → x ≡ y
    some_injective e = cc
told d m (Err x) o whole read large is n lt = (
  λ e. absurd (none_some (sym is ∙ e)),
  λ e. absurd (large (subst (λ (k : ℕ). k < 2 ^ 64) (sym (read ∙ parts_quotient (nat_abs d) n e)) lt)),
)
  where
    none_some : {x : ℕ} → None ≡ Some x → ⊥
    none_some e = cc
