-- The mantissa and the exponent of a decimal are those of its value.
use Rattle.std.proofs.Common.{◌≡◌, ◌<◌, ℕ, zero, suc, ◌+◌, ◌*◌, ◌/◌, ◌%◌, ◌^◌, Bool, ◌∷◌, ◌++◌, eqb, refl, sym, ap, ◌∙◌, arith, ℤ, pos, negsuc, nat_abs}
use Rattle.std.specs.Prelude.{◌+ℤ◌, ◌-ℤ◌, int_lt, if◌then◌else◌}
use Rattle.std.proofs.Math.Nat.{eq_of_mul-eq-mul_right}
use Rattle.std.proofs.lemmas.Bool.{ne_eqb}
use Rattle.std.proofs.lemmas.Int.{ints}
use Rattle.std.proofs.lemmas.Nat.{pow-add}
use Rattle.json_model.specs.Decimal.{Decimal as Written, IsSameValue}
use Rattle.json_exact.specs.DecimalGroups.{IsScaled}
use Rattle.json_exact.specs.inner.DecimalInverseLaws.{ten_pos}
use Rattle.json_exact.specs.Exact.{IsWorth, parts}
use Rattle.json_exact.proofs.SignLaws.{abs_times, sign_times}
use Rattle.json_exact.proofs.WorthLaws.{parts_pos, sizes}
use Rattle.json_elements.proofs.HashLaws.{fed_append}
use Rattle.json_elements.proofs.ZeroLaws.{EndsIn, ends_in, raised, zeros_are, mantissa_is}
use Rattle.json_elements.specs.Number.{powers_in, zeros, mantissa, exponent, sign_byte, exponent_bytes, mantissa_bytes, decimal_bytes, fed, fed_one}

-- what is, but for powers of ten, a number that does not end in 0
scaled : (n m a b : ℕ) → 0 < n → 0 < m % 10 → n * 10 ^ a ≡ m * 10 ^ b → (zeros n + a ≡ b) × (n / 10 ^ zeros n ≡ m)
scaled n m a b some last e =
    let r = ends_in n n (omega arith) some in
    let big : EndsIn (n * 10 ^ a) r.0 (r.1 + a) = (ap (λ (x : ℕ). x * 10 ^ a) r.2.0 ∙ raised r.0 r.1 a, r.2.1) in
    let also : EndsIn (n * 10 ^ a) m b = (e, last) in
    let mine = zeros_are n r.0 r.1 r.2 in
    let both = sym (zeros_are (n * 10 ^ a) r.0 (r.1 + a) big) ∙ zeros_are (n * 10 ^ a) m b also in
    let same = sym (mantissa_is (n * 10 ^ a) r.0 (r.1 + a) big) ∙ mantissa_is (n * 10 ^ a) m b also in
    (ap (λ (z : ℕ). z + a) mine ∙ both, mantissa_is n r.0 r.1 r.2 ∙ same)

-- ---- 0

no_mantissa : (w : Written) → nat_abs w.digits ≡ 0 → mantissa w ≡ 0
unfolding powers_in
no_mantissa w e = ap (λ (n : ℕ). n / 10 ^ zeros n) e

no_exponent : (w : Written) → mantissa w ≡ 0 → exponent w ≡ pos 0
no_exponent w e = ap (λ (m : ℕ). if eqb m 0 then pos 0 else (pos (zeros (nat_abs w.digits)) -ℤ pos w.places)) e

some_exponent : (w : Written) → 0 < mantissa w → exponent w ≡ pos (zeros (nat_abs w.digits)) -ℤ pos w.places
some_exponent w some =
    ap (λ (b : Bool). if b then pos 0 else (pos (zeros (nat_abs w.digits)) -ℤ pos w.places)) (ne_eqb (mantissa w) 0 (λ e. omega (arith, some, e)))

-- ---- decimals of one value

sizes_of : (a b : Written) → IsSameValue a b → nat_abs a.digits * 10 ^ b.places ≡ nat_abs b.digits * 10 ^ a.places
sizes_of a b s = sym (abs_times a.digits (10 ^ b.places)) ∙ ap nat_abs s ∙ abs_times b.digits (10 ^ a.places)

signs_of : (a b : Written) → IsSameValue a b → int_lt a.digits (pos 0) ≡ int_lt b.digits (pos 0)
signs_of a b s =
    sym (sign_times a.digits (10 ^ b.places) (ten_pos b.places)) ∙ ap (λ (z : ℤ). int_lt z (pos 0)) s
    ∙ sign_times b.digits (10 ^ a.places) (ten_pos a.places)

factor_none : (n k p : ℕ) → 0 < p → n * p ≡ k → k ≡ 0 → n ≡ 0
factor_none n k p some e z = eq_of_mul-eq-mul_right p some n 0 (e ∙ z ∙ omega arith)

positive : (n : ℕ) → (n ≡ 0 → ⊥) → 0 < n
positive zero h = absurd (h refl)
positive (suc n) h = omega arith

-- they have one mantissa and one exponent
same_parts : (a b : Written) (n : ℕ) → nat_abs b.digits ≡ n → IsSameValue a b → (mantissa a ≡ mantissa b) × (exponent a ≡ exponent b)
same_parts a b zero none s =
    let also : nat_abs a.digits ≡ 0 =
    factor_none (nat_abs a.digits) (nat_abs b.digits * 10 ^ a.places) (10 ^ b.places) (ten_pos b.places) (sizes_of a b s)
    (ap (λ (n : ℕ). n * 10 ^ a.places) none ∙ omega arith) in
    let m = no_mantissa a also in
    let k = no_mantissa b none in
    (m ∙ sym k, no_exponent a m ∙ sym (no_exponent b k))
same_parts a b (suc n) is s =
    let size = sizes_of a b s in
    let r = ends_in (nat_abs b.digits) (nat_abs b.digits) (omega arith) (omega (arith, is)) in
    let e : nat_abs a.digits * 10 ^ b.places ≡ r.0 * 10 ^ (r.1 + a.places) =
    size ∙ ap (λ (x : ℕ). x * 10 ^ a.places) r.2.0 ∙ raised r.0 r.1 a.places in
    let none : nat_abs a.digits ≡ 0 → nat_abs b.digits ≡ 0 = λ z.
    factor_none (nat_abs b.digits) (nat_abs a.digits * 10 ^ b.places) (10 ^ a.places) (ten_pos a.places) (sym size)
    (ap (λ (n : ℕ). n * 10 ^ b.places) z ∙ omega arith) in
    let some : 0 < nat_abs a.digits = positive (nat_abs a.digits) (λ z. let also = none z in omega (arith, is, also)) in
    let mine = scaled (nat_abs a.digits) r.0 b.places (r.1 + a.places) some r.2.1 e in
    let other = mantissa_is (nat_abs b.digits) r.0 r.1 r.2 in
    let count = zeros_are (nat_abs b.digits) r.0 r.1 r.2 in
    let same : mantissa a ≡ mantissa b = mine.1 ∙ sym other in
    let last = r.2.1 in
    let first : 0 < mantissa a = let h = mine.1 in omega (arith, h, last) in
    let second : 0 < mantissa b = omega (arith, other, last) in
    (same, some_exponent a first ∙ (let h = mine.0 in omega (arith, ints, h, count)) ∙ sym (some_exponent b second))

-- so they are fed as the same bytes
pub same_bytes : (a b : Written) → IsSameValue a b → decimal_bytes a ≡ decimal_bytes b
unfolding decimal_bytes
same_bytes a b s =
    let p = same_parts a b (nat_abs b.digits) refl s in
    ap (λ (t : Bool). (if t then 1 else 0) ∷ exponent_bytes (exponent a) ++ mantissa_bytes (mantissa a)) (signs_of a b s)
    ∙ ap (λ (e : ℤ). sign_byte b.digits ∷ exponent_bytes e ++ mantissa_bytes (mantissa a)) p.1
    ∙ ap (λ (m : ℕ). sign_byte b.digits ∷ exponent_bytes (exponent b) ++ mantissa_bytes m) p.0

-- ---- the parts of a value

none_is : (d : ℤ) → nat_abs d ≡ 0 → d ≡ pos 0
none_is (pos n) e = ap pos e
none_is (negsuc n) e = absurd (omega arith)

-- an exponent, raised until it is not below 0
levels : (e : ℤ) → (up l : ℕ) × (e +ℤ pos up ≡ pos l)
levels (pos k) = (0, k, omega (arith, ints))
levels (negsuc k) = (suc k, 0, omega (arith, ints))

turned : (x y p u v w m : ℕ) → y * u ≡ m * p * v → y * w ≡ x * p → x * u * p ≡ m * (v * w) * p
turned x y p u v w m e f =
    (let h : x * u * p ≡ x * p * u = omega arith in h) ∙ ap (λ (k : ℕ). k * u) (sym f) ∙ (let h : y * w * u ≡ y * u * w = omega arith in h)
    ∙ ap (λ (k : ℕ). k * w) e ∙ (let h : m * p * v * w ≡ m * (v * w) * p = omega arith in h)

module _ (w : Written) (d e : ℤ) (m : ℕ) (worth : IsWorth d w) (scale : IsScaled (nat_abs d) m e) (last : (d ≡ pos 0 → ⊥) → 0 < m % 10)
    (none : d ≡ pos 0 → (m ≡ 0) × (e ≡ pos 0)) where
  parts_by : (n : ℕ) → nat_abs w.digits ≡ n → (mantissa w ≡ m) × (exponent w ≡ e)
  parts_by zero is =
      let size : nat_abs d ≡ 0 =
      factor_none (nat_abs d) (nat_abs w.digits * parts) (10 ^ w.places) (ten_pos w.places) (sizes d w worth)
      (ap (λ (n : ℕ). n * parts) is ∙ omega arith) in
      let zero_is = none (none_is d size) in
      let mine = no_mantissa w is in
      (mine ∙ sym zero_is.0, no_exponent w mine ∙ sym zero_is.1)
  parts_by (suc n) is =
      let some : 0 < nat_abs w.digits = omega (arith, is) in
      let apart : d ≡ pos 0 → ⊥ = λ z.
      let none = factor_none (nat_abs w.digits) (nat_abs d * 10 ^ w.places) parts parts_pos (sym (sizes d w worth))
      (ap (λ (x : ℤ). nat_abs x * 10 ^ w.places) z ∙ omega arith) in
      omega (arith, is, none) in
      let end = last apart in
      let up = levels e in
      let size : nat_abs w.digits * 10 ^ up.0 ≡ m * 10 ^ (up.1 + w.places) =
      eq_of_mul-eq-mul_right parts parts_pos (nat_abs w.digits * 10 ^ up.0) (m * 10 ^ (up.1 + w.places))
      (turned (nat_abs w.digits) (nat_abs d) parts (10 ^ up.0) (10 ^ up.1) (10 ^ w.places) m (scale up.0 up.1 up.2) (sizes d w worth)
      ∙ ap (λ (x : ℕ). m * x * parts) (sym (pow-add 10 up.1 w.places))) in
      let mine = scaled (nat_abs w.digits) m up.0 (up.1 + w.places) some end size in
      let first : 0 < mantissa w = let h = mine.1 in omega (arith, h, end) in
      (mine.1, some_exponent w first ∙ (let h = mine.0 in let l = up.2 in omega (arith, ints, h, l)))

  -- what a value is scaled to are the mantissa and the exponent of what it is written as
  pub parts_are : (mantissa w ≡ m) × (exponent w ≡ e)
  parts_are = parts_by (nat_abs w.digits) refl

-- the bytes of a decimal, fed part by part
pub fed_by_parts : (state : ℕ) (w : Written) (negative : Bool) (m : ℕ) (e : ℤ) → negative ≡ int_lt w.digits (pos 0) → (mantissa w ≡ m)
    × (exponent w ≡ e)
    → fed (fed (fed_one state (if negative then 1 else 0)) (exponent_bytes e)) (mantissa_bytes m) ≡ fed state (decimal_bytes w)
unfolding decimal_bytes
fed_by_parts state w negative m e sign p =
    sym (fed_append (fed_one state (if negative then 1 else 0)) (exponent_bytes e) (mantissa_bytes m))
    ∙ ap (λ (t : Bool). fed (fed_one state (if t then 1 else 0)) (exponent_bytes e ++ mantissa_bytes m)) sign
    ∙ ap (λ (x : ℤ). fed (fed_one state (sign_byte w.digits)) (exponent_bytes x ++ mantissa_bytes m)) (sym p.1)
    ∙ ap (λ (x : ℕ). fed (fed_one state (sign_byte w.digits)) (exponent_bytes (exponent w) ++ mantissa_bytes x)) (sym p.0)

-- the sign of a value is that of what it is written as
pub worth_sign : (d : ℤ) (w : Written) → IsWorth d w → int_lt d (pos 0) ≡ int_lt w.digits (pos 0)
worth_sign d w f =
    sym (sign_times d (10 ^ w.places) (ten_pos w.places)) ∙ ap (λ (z : ℤ). int_lt z (pos 0)) f ∙ sign_times w.digits parts parts_pos
