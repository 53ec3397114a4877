-- A decimal as a mantissa that does not end in 0, and a power of ten.
use Rattle.std.proofs.Common.{◌≡◌, ℕ, zero, suc, ◌+◌, ◌-◌, ◌*◌, ◌/◌, ◌%◌, ◌^◌, ◌<◌, ◌≤◌, inl, inr, List, get_or, sym, ap, subst, ◌∙◌, arith, ℤ, pos, nat_abs}
use Rattle.std.specs.Prelude.{◌+ℤ◌}
use Rattle.std.proofs.Math.Nat.{pow-suc, eq_of_mul-eq-mul_right}
use Rattle.std.proofs.lemmas.Nat.{pow-add}
use Rattle.std.proofs.lemmas.Bool.{cases_lt}
use Rattle.std.proofs.lemmas.Int.{ints}
use Rattle.json_model.specs.Decimal.{HasNarrowDigits}
use Rattle.json_exact.specs.Exact.{parts}
use Rattle.json_exact.specs.Digits.{joined}
use Rattle.json_exact.specs.DecimalGroups.{IsScaled}
use Rattle.json_exact.proofs.DigitLaws.{factor_last}
use Rattle.json_model.proofs.DecimalLaws.{fours}
use Rattle.json_exact.proofs.NarrowLaws.{narrow_more, narrow_back}
use Rattle.json_exact.specs.inner.DecimalFields.{parts_of, IsFields}
use Rattle.json_exact.specs.declared.decimal.Decimal.TheInside.{Inside}
use Rattle.json_exact.proofs.GroupPlaceLaws.{up_to, zero_is, take_joined}
use Rattle.json_exact.proofs.WholeLaws.{sized, AreZeros}
use Rattle.std.proofs.Common.{length, take, drop}

-- more digits do not make less
pub take_mono : (b : ℕ) (ds : List ℕ) (i j : ℕ) → 0 < b → i ≤ j → j ≤ length ds → joined b (take i ds) ≤ joined b (take j ds)
take_mono b ds i zero some le few = (let e : i ≡ 0 = omega arith in rw e (omega arith))
take_mono b ds i (suc j) some le few = elim (cases_lt i (suc j)) [
  | inl lt ↦
      let h = take_mono b ds i j some (omega arith) (omega arith) in
      let s = take_joined b j ds (omega arith) in
      let m = at_least (joined b (take j ds)) b some in
      omega arith
  | inr ge ↦ (let e : i ≡ suc j = omega arith in rw e (omega arith))
]
  where
    at_least : (x b : ℕ) → 0 < b → x ≤ x * b
    at_least x zero h = absurd (omega arith)
    at_least x (suc b) h = omega arith

-- a narrow number that does not end in 0 has at most 38 digits
pub small_mantissa : (m : ℕ) → HasNarrowDigits m → 0 < m % 10 → m < 10 ^ 38
small_mantissa m (zero, k, e, small) some = omega arith
small_mantissa m (suc b, k, e, small) some =
    absurd (let f : k * 10 ^ suc b ≡ k * 10 ^ b * 10 = ap (λ (x : ℕ). k * x) (pow-suc 10 b) ∙ sym (factor_last k (10 ^ b) 10) in omega arith)

-- ten times q parts are m, moved up by z digits and t groups; e is the power of ten
pub scaled_by : (q m z t : ℕ) (e : ℤ) → q * 10 ≡ m * 10 ^ z * 10000 ^ t → e +ℤ pos 16384 ≡ pos (4 * t + z) → IsScaled q m e
unfolding parts
scaled_by q m z t e h at = λ up l f.
    let i : z + (4 * t + up) ≡ l + 16384 = omega (arith, ints) in
    eq_of_mul-eq-mul_right 10 (omega arith) (q * 10 ^ up) (m * 10 ^ 16383 * 10 ^ l)
    (turned q (10 ^ up) ∙ ap (λ (x : ℕ). x * 10 ^ up) (h ∙ ap (λ (x : ℕ). m * 10 ^ z * x) (fours t)) ∙ products m (10 ^ z) (10 ^ (4 * t)) (10 ^ up)
    ∙ ap (λ (x : ℕ). m * x)
    (ap (λ (x : ℕ). 10 ^ z * x) (sym (pow-add 10 (4 * t) up)) ∙ sym (pow-add 10 z (4 * t + up)) ∙ ap (λ (k : ℕ). 10 ^ k) i ∙ pow-add 10 l 16384
    ∙ ap (λ (x : ℕ). 10 ^ l * x) (pow-add 10 16383 1))
    ∙ last m (10 ^ l) (10 ^ 16383))
  where
    turned : (x y : ℕ) → x * y * 10 ≡ x * 10 * y
    turned x y = omega arith

    products : (m a b c : ℕ) → m * a * b * c ≡ m * (a * (b * c))
    products m a b c = omega arith

    last : (m l p : ℕ) → m * (l * (p * 10)) ≡ m * p * l * 10
    last m l p = omega arith

-- a mantissa of groups: those before the last as one number, and the last without its zeros
pub mantissa_is : (before group digits zeros scale : ℕ) → group ≡ digits * 10 ^ zeros → scale * 10 ^ zeros ≡ 10000
    → (before * scale + digits) * 10 ^ zeros ≡ before * 10000 + group
mantissa_is before group digits zeros scale e f = step before group digits (10 ^ zeros) scale e f
  where
    step : (b g d p s : ℕ) → g ≡ d * p → s * p ≡ 10000 → (b * s + d) * p ≡ b * 10000 + g
    step b g d p s e f = let x : b * (s * p) ≡ b * 10000 = ap (λ (y : ℕ). b * y) f in omega arith

pub mantissa_last : (before digits scale : ℕ) → scale % 10 ≡ 0 → 0 < digits % 10 → 0 < (before * scale + digits) % 10
mantissa_last before digits scale z some =
    let e : scale ≡ scale / 10 * 10 = omega arith in
    let f : before * scale ≡ before * (scale / 10) * 10 = ap (λ (x : ℕ). before * x) e ∙ sym (factor_last before (scale / 10) 10) in
    omega arith

-- what the parts of a decimal are made of
pub record Made (q m z t : ℕ) : Type 0 where
  pub moved : q * 10 ≡ m * 10 ^ z * 10000 ^ t
  pub small : m < 10 ^ 38
  pub last : 0 < m % 10

pub made : (a : Inside) (d : ℤ) (last digits zeros scale : ℕ) → IsFields a → parts_of a ≡ d → last < 11 → 0 < get_or a.groups last 0
    → AreZeros (drop (suc last) a.groups)
    → get_or a.groups last 0 ≡ digits * 10 ^ zeros → scale * 10 ^ zeros ≡ 10000 → scale % 10 ≡ 0 → 0 < digits % 10
    → Made (nat_abs d) (joined 10000 (take last a.groups) * scale + digits) zeros (a.top - 1 - last)
made a d last digits zeros scale h e lt some none group full round end =
    let (q, s) = sized a d h e in
    let u = up_to a.groups a.top (q * 10) last s.keeps lt some none in
    let m = joined 10000 (take last a.groups) * scale + digits in
    let few : last < length a.groups = (let c = s.keeps.count in omega arith) in
    let t = a.top - 1 - last in
    let i : a.top - suc last ≡ t = omega arith in
    let moved : q * 10 ≡ m * 10 ^ zeros * 10000 ^ t =
    u.exact ∙ ap (λ (k : ℕ). joined 10000 (take (suc last) a.groups) * 10000 ^ k) i
    ∙ ap (λ (x : ℕ). x * 10000 ^ t)
    (take_joined 10000 last a.groups few
    ∙ sym (mantissa_is (joined 10000 (take last a.groups)) (get_or a.groups last 0) digits zeros scale group full)) in
    let ends = mantissa_last (joined 10000 (take last a.groups)) digits scale round end in
    let narrow : HasNarrowDigits (m * 10 ^ (zeros + 4 * t)) = subst HasNarrowDigits
    (moved ∙ ap (λ (x : ℕ). m * 10 ^ zeros * x) (fours t) ∙ factor_last m (10 ^ zeros) (10 ^ (4 * t))
    ∙ ap (λ (x : ℕ). m * x) (sym (pow-add 10 zeros (4 * t)))) (narrow_more q 1 s.narrow) in
    record {
      moved = ap (λ (x : ℕ). x * 10) s.abs ∙ moved;
      small = small_mantissa m (narrow_back m (zeros + 4 * t) narrow) ends;
      last = ends;
    }

-- no groups: the value is 0
pub none_made : (a : Inside) (d : ℤ) → IsFields a → parts_of a ≡ d → a.top ≡ 0 → (up l : ℕ) → nat_abs d * 10 ^ up ≡ 0 * parts * 10 ^ l
unfolding parts
none_made a d h e z up l = ap (λ (x : ℤ). nat_abs x * 10 ^ up) (zero_is a d h e z) ∙ none (10 ^ up) (10 ^ l)
  where
    none : (x y : ℕ) → 0 * x ≡ 0 * 10 ^ 16383 * y
    none x y = omega arith

-- what stands before the last group is no more than the mantissa
pub before_small : (before scale digits k : ℕ) → scale * 10 ^ k ≡ 10000 → before * scale + digits < 10 ^ 38 → before < 10 ^ 38
before_small before zero digits k e h = absurd (omega arith)
before_small before (suc scale) digits k e h = omega arith
