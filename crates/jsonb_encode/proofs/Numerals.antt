-- What is kept of a number literal gives its bytes.
use Rattle.std.proofs.Common.{◌≡◌, ℕ, zero, suc, ◌+◌, ◌-◌, ◌*◌, ◌/◌, ◌%◌, ◌^◌, ◌<◌, ◌≤◌, Bool, true, false, cond, ltb, leb, List, ◌++◌, length, refl, sym, ap, subst, ◌∙◌, arith, inl, inr, append_assoc, Result, Ok, Err}
use Rattle.std.specs.Int.{w16, to_le_bytes}
use Rattle.std.specs.List.{flat_map}
use Rattle.std.specs.Prelude.{◌⊎◌, ◌↔◌, ◌&&◌, IsTrue, IfOk, pos, int_lt, nat_lt, ◌==◌, if◌then◌else◌, min}
use Rattle.std.proofs.Math.Nat.{pow-suc, lt_of_mul-lt-mul_right}
use Rattle.std.proofs.lemmas.Bool.{cases_lt, lt-ltb, le-ltb, le-leb, lt-leb, ne_eqb}
use Rattle.std.proofs.lemmas.Nat.{pow-add, div_below, le-div}
use Rattle.json_model.specs.Decimal.{Decimal, signed}
use Rattle.json_model.proofs.DecimalLaws.{abs_signed, fours}
use Rattle.json_exact.specs.Digits.{spread, count_of}
use Rattle.json_exact.specs.Parsed.{IsInRange}
use Rattle.json_exact.specs.inner.DecimalInverseLaws.{ten_pos}
use Rattle.json_exact.specs.inner.LeadingDigitsLaws.{count_is, count_none}
use Rattle.json_exact.proofs.LiteralLaws.{one_literal}
use Rattle.jsonb_layout.specs.declared.header.Header.{Header}
use Rattle.json_exact.proofs.DigitLaws.{power_mono, ten_mono}
use Rattle.jsonb_encode.specs.Number.{fraction_groups, lift, magnitude, groups, header, trimmed, is_short, numeric, fits}
use Rattle.jsonb_encode.specs.inner.Wide.{size, IsCount, AreZeros, IsKept}
use Rattle.jsonb_encode.specs.Literals.{IsNumeral, IsRefused}
use Rattle.jsonb_encode.specs.inner.Writing.{lead}
use Rattle.jsonb_encode.specs.declared.error.EncodeError.{EncodeError}
use Rattle.jsonb_encode.specs.declared.error.EncodeError.TheVariants.{NotANumber, OutOfRange, DoesNotFit, TooLarge, OutOfMemory}
use Rattle.jsonb_encode.specs.declared.numeral.Numeral.{Numeral}
use Rattle.jsonb_encode.specs.declared.number_form.NumericForm.{NumericForm}
use Rattle.jsonb_encode.specs.declared.number_form.NumericForm.TheVariants.{Short, Long, ShortVarlena}
use Rattle.jsonb_encode.proofs.Digits.{base_pos, spread_length, ends, not_zero, trimmed_spread}
use Rattle.jsonb_encode.proofs.NumberStands.{room, none_groups, none_lift, some_lift, body_length, fits_byte, one_byte_head}
use Rattle.jsonb_encode.proofs.Spans.{whole_number}

-- the count is that of the digits in base 10000
pub count_kept : (x c : ℕ) → IsCount c x → count_of 10000 x ≡ c
count_kept x zero h = let b = h.below in ap (λ (n : ℕ). count_of 10000 n) (let z : x ≡ 0 = omega arith in z) ∙ count_none 10000
count_kept x (suc k) h =
    let first : 10000 ^ k ≤ x = subst (λ (n : ℕ). 10000 ^ n ≤ x) (let i : suc k - 1 ≡ k = omega arith in i) (h.first (omega arith)) in
    count_is 10000 x k (omega arith) first h.below

-- where there are groups, not all of them are 0
zeros_less : (x k z : ℕ) → IsCount (suc k) x → AreZeros z (suc k) x → z < suc k
zeros_less x k z h g = elim (cases_lt z (suc k)) [
  | inl lt ↦ lt
  | inr ge ↦
      let i : suc k - 1 ≡ k = omega arith in
      let first : 10000 ^ k ≤ x = subst (λ (n : ℕ). 10000 ^ n ≤ x) i (h.first (omega arith)) in
      let some : 1 ≤ x / 10000 ^ k = le-div 1 x (10000 ^ k) (base_pos k) (omega arith) in
      let small : x / 10000 ^ k < 10000 =
      div_below x (10000 ^ k) 10000 (base_pos k) (subst (λ (p : ℕ). x < p) (pow-suc 10000 k ∙ turned (10000 ^ k)) h.below) in
      let none : x / 10000 ^ k % 10000 ≡ 0 = g.all k (omega arith) in
      absurd (omega arith)
]
  where
    turned : (p : ℕ) → p * 10000 ≡ 10000 * p
    turned p = omega arith

-- the groups that are written
pub groups_kept : (n : Numeral) (w : Decimal) → IsKept n w → groups w ≡ spread 10000 (n.count - n.zeros) (size n.number / 10000 ^ n.zeros)
unfolding groups
groups_kept n w h = go n.count h.count h.zeros ∙ ap (λ (x : ℕ). spread 10000 (n.count - n.zeros) (x / 10000 ^ n.zeros)) (sym h.size)
  where
    go : (c : ℕ) → IsCount c (magnitude w) → AreZeros n.zeros c (magnitude w)
        → groups w ≡ spread 10000 (c - n.zeros) (magnitude w / 10000 ^ n.zeros)
    go zero k z =
        let b = k.below in
        none_groups w (omega arith) ∙ ap (λ (m : ℕ). spread 10000 m (magnitude w / 10000 ^ n.zeros)) (let i : 0 ≡ 0 - n.zeros = omega arith in i)
    go (suc c) k z =
        let x = magnitude w in
        let lt = zeros_less x c n.zeros k z in
        let i : suc c ≡ (suc c - n.zeros) + n.zeros = omega arith in
        let small : x / 10000 ^ n.zeros < 10000 ^ (suc c - n.zeros) =
        div_below x (10000 ^ n.zeros) (10000 ^ (suc c - n.zeros)) (base_pos n.zeros)
        (subst (λ (p : ℕ). x < p) (ap (λ (m : ℕ). 10000 ^ m) i ∙ pow-add 10000 (suc c - n.zeros) n.zeros) k.below) in
        ap (λ (m : ℕ). trimmed (spread 10000 m x)) (count_kept x (suc c) k)
        ∙ trimmed_spread n.zeros (suc c - n.zeros) (suc c) x (x / 10000 ^ n.zeros) i (ends x n.zeros z.all) small (not_zero _ (z.next lt))

-- how many there are
pub groups_length : (n : Numeral) (w : Decimal) → IsKept n w → length (groups w) ≡ n.count - n.zeros
groups_length n w h = ap length (groups_kept n w h) ∙ spread_length (n.count - n.zeros) (size n.number / 10000 ^ n.zeros)

-- ---- forms

byte_room : (k : ℕ) → leb k 62 ≡ ltb (2 + 2 * k) 127
byte_room k = elim (cases_lt 62 k) [
  | inr le ↦ le-leb k 62 le ∙ sym (lt-ltb (2 + 2 * k) 127 (omega arith))
  | inl lt ↦ lt-leb k 62 lt ∙ sym (le-ltb (2 + 2 * k) 127 (omega arith))
]

-- whether it has the form of one size byte
pub short_kept : (n : Numeral) (w : Decimal) (k : ℕ) → IsKept n w → k ≡ n.count - n.zeros
    → (is_short n.header && leb k 62) ≡ fits ShortVarlena w
unfolding fits
short_kept n w k h e =
    ap (λ (b : Bool). b && leb k 62) (ap is_short h.header)
    ∙ ap (λ (b : Bool). is_short (header w) && b)
    (byte_room k ∙ ap (λ (m : ℕ). ltb m 127) (let t = body_length ShortVarlena w in let u = one_byte_head
    (header w) in let v = groups_length n w h in omega arith))

-- ---- the range

-- so many zeros are counted in place of those that a literal writes
abbrev pub Raised : ℕ → ℕ → Type 0
Raised z zt = (z ≡ zt) ⊎ ((z ≡ 147456) × (147455 < zt))

-- the number that digits and so many zeros write
abbrev pub written : Bool → ℕ → ℕ → ℕ → Decimal
written m n zt f = record { digits = signed m (n * 10 ^ zt); places = f }

-- the zeros that fill the last group of the fraction
abbrev pub filling : ℕ → ℕ
filling f = 4 * fraction_groups f - f

parted : (n z e : ℕ) → n * 10 ^ (z + e) ≡ n * 10 ^ z * 10 ^ e
parted n z e = ap (λ (p : ℕ). n * p) (pow-add 10 z e) ∙ products n (10 ^ z) (10 ^ e)
  where
    products : (x y z : ℕ) → x * (y * z) ≡ x * y * z
    products x y z = omega arith

magnitude_is : (m : Bool) (n zt f : ℕ) → magnitude (written m n zt f) ≡ n * 10 ^ (zt + filling f)
magnitude_is m n zt f = ap (λ (x : ℕ). x * 10 ^ filling f) (abs_signed m (n * 10 ^ zt)) ∙ sym (parted n zt (filling f))

all_groups : (f : ℕ) → f ≤ 16383 → 10000 ^ (32768 + fraction_groups f) ≡ 10 ^ (131072 + f) * 10 ^ filling f
all_groups f le =
    let i : 4 * (32768 + fraction_groups f) ≡ (131072 + f) + filling f = omega arith in
    fours (32768 + fraction_groups f) ∙ ap (λ (k : ℕ). 10 ^ k) i ∙ pow-add 10 (131072 + f) (filling f)

large : (n q : ℕ) → 0 < n → q ≤ n * q
large zero q h = absurd (omega arith)
large (suc n) q h = omega arith

many_zeros : (n k j e : ℕ) → j ≡ 4 * k → 0 < n → 10000 ^ k ≤ n * 10 ^ (j + e)
many_zeros n k j e same some =
    let a = large n (10 ^ (j + e)) some in
    let b = ten_mono j (j + e) (omega arith) in
    let c : 10000 ^ k ≡ 10 ^ j = fours k ∙ ap (λ (i : ℕ). 10 ^ i) (sym same) in
    omega arith

-- only 0 has so few groups before so many zeros
none_fits : (n k j e c : ℕ) → j ≡ 4 * k → c ≤ k → n * 10 ^ (j + e) < 10000 ^ c → n ≡ 0
none_fits zero k j e c same le lt = refl
none_fits (suc n) k j e c same le lt =
    let a = many_zeros (suc n) k j e same (omega arith) in
    let b = power_mono 10000 c k (omega arith) le in
    absurd (omega arith)

chain : (s u v t r : ℕ) → s < u → u ≤ v → s ≡ t → v ≡ r → t < r
chain s u v t r a b c d = omega arith

clash : (a b c : ℕ) → a ≤ b → b ≤ c → c < a → ⊥
clash a b c e f g = omega arith

positive : (n p q : ℕ) → 0 < q → q ≤ n * p → 0 < n
positive zero p q h le = absurd (omega arith)
positive (suc n) p q h le = omega arith

-- a number of few groups is in range
pub record Sized (w : Decimal) (x : ℕ) : Type 0 where
  pub in_range : IsInRange w
  pub size : magnitude w ≡ x

pub few_groups : (m : Bool) (n z zt f c : ℕ) → f ≤ 16383 → Raised z zt → IsCount c (n * 10 ^ (z + filling f)) → c ≤ 32768 + fraction_groups f
    → Sized (written m n zt f) (n * 10 ^ (z + filling f))
few_groups m n z zt f c le (inl e) h few =
    let x = n * 10 ^ zt in
    let size : n * 10 ^ (z + filling f) ≡ x * 10 ^ filling f = ap (λ (k : ℕ). n * 10 ^ (k + filling f)) e ∙ parted n zt (filling f) in
    let lt : x * 10 ^ filling f < 10 ^ (131072 + f) * 10 ^ filling f =
    chain _ (10000 ^ c) (10000 ^ (32768 + fraction_groups f)) _ _ h.below (power_mono 10000 c (32768 + fraction_groups f) (omega arith) few) size
    (all_groups f le) in
    record {
      in_range = (subst (λ (y : ℕ). y < 10 ^ (131072 + f)) (sym (abs_signed m x)) (lt_of_mul-lt-mul_right (10 ^ filling f) lt), le);
      size = magnitude_is m n zt f ∙ ap (λ (k : ℕ). n * 10 ^ (k + filling f)) (sym e);
    }
few_groups m n z zt f c le (inr e) h few =
    let n0 : n ≡ 0 = none_fits n 36864 147456 (filling f) c refl (within f c le few)
    (subst (λ (k : ℕ). n * 10 ^ (k + filling f) < 10000 ^ c) e.0 h.below) in
    subst (λ (k : ℕ). Sized (written m k zt f) (k * 10 ^ (z + filling f))) (sym n0) (record {
      in_range = (
        subst (λ (y : ℕ). y < 10 ^ (131072 + f)) (sym (abs_signed m (0 * 10 ^ zt)))
            (subst (λ (y : ℕ). y < 10 ^ (131072 + f)) (sym (nothing (10 ^ zt))) (ten_pos (131072 + f))),
        le,
      );
      size = magnitude_is m 0 zt f ∙ none (10 ^ (zt + filling f)) (10 ^ (z + filling f));
    })
  where
    within : (f c : ℕ) → f ≤ 16383 → c ≤ 32768 + (f + 3) / 4 → c ≤ 36864
    within f c le few = omega arith

    none : (p q : ℕ) → 0 * p ≡ 0 * q
    none p q = omega arith

    nothing : (p : ℕ) → 0 * p ≡ 0
    nothing p = omega arith

-- and one of more groups is not
pub many_groups : (m : Bool) (n z zt f c : ℕ) → f ≤ 16383 → Raised z zt → IsCount c (n * 10 ^ (z + filling f)) → 32768 + fraction_groups f < c
    → IsInRange (written m n zt f) → ⊥
many_groups m n z zt f c le r h many range =
    let lt : n * 10 ^ zt < 10 ^ (131072 + f) = subst (λ (y : ℕ). y < 10 ^ (131072 + f)) (abs_signed m (n * 10 ^ zt)) range.0 in
    let first = at_most _ _ _ (power_mono 10000 (32768 + fraction_groups f) (c - 1) (omega arith) (before (32768 + fraction_groups f) c many))
    (h.first (some c many)) in
    go r lt first
  where
    before : (k c : ℕ) → k < c → k ≤ c - 1
    before k c lt = omega arith

    some : {k : ℕ} (c : ℕ) → k < c → 0 < c
    some c lt = omega arith

    at_most : (a b c : ℕ) → a ≤ b → b ≤ c → a ≤ c
    at_most a b c e f = omega arith

    le_same : (x : ℕ) → x ≤ x
    le_same x = omega arith

    filled : (f : ℕ) → f + (4 * ((f + 3) / 4) - f) ≡ 4 * ((f + 3) / 4)
    filled f = omega arith

    high : (f zt : ℕ) → f ≤ 16383 → 147455 < zt → 131072 + f ≤ zt
    high f zt le lt = omega arith

    go : Raised z zt → n * 10 ^ zt < 10 ^ (131072 + f) → 10000 ^ (32768 + fraction_groups f) ≤ n * 10 ^ (z + filling f) → ⊥
    go (inl e) lt first =
        let size : n * 10 ^ (z + filling f) ≡ n * 10 ^ zt * 10 ^ filling f = ap (λ (k : ℕ). n * 10 ^ (k + filling f)) e ∙ parted n zt (filling f) in
        clash _ _ _ (subst (λ (x : ℕ). 10000 ^ (32768 + fraction_groups f) ≤ x) size first) (le_same _)
        (room (n * 10 ^ zt) (fraction_groups f) (filling f) f lt (filled f))
    go (inr e) lt first =
        clash _ _ _ (ten_mono (131072 + f) zt (high f zt le e.1))
        (large n (10 ^ zt) (positive n (10 ^ (z + filling f)) (10000 ^ (32768 + fraction_groups f)) (base_pos (32768 + fraction_groups f)) first)) lt

-- the zeros that are counted
pub raised : (z r zt : ℕ) → z ≡ min r 147456 → (r ≤ 147455 → r ≡ zt) → (147455 < r → 147455 < zt) → Raised z zt
raised z r zt e f g = elim (cases_lt 147455 r) [
  | inl lt ↦ inr (omega arith, g lt)
  | inr le ↦ inl (let h = f le in omega arith)
]

-- ---- the header

sign : (m : Bool) (n : ℕ) → (m && nat_lt 0 n) ≡ int_lt (signed m n) (pos 0)
sign false n = sym (le-ltb n 0 (omega arith))
sign true zero = refl
sign true (suc n) = lt-ltb 0 (suc n) (omega arith)

-- there are groups where there is a number
both_some : (c x : ℕ) → IsCount c x → nat_lt 0 c ≡ nat_lt 0 x
both_some zero x h = let b = h.below in ap (λ (k : ℕ). nat_lt 0 k) (let z : 0 ≡ x = omega arith in z)
both_some (suc c) x h =
    let a = h.first (omega arith) in
    let b = base_pos (suc c - 1) in
    lt-ltb 0 (suc c) (omega arith) ∙ sym (lt-ltb 0 x (omega arith))

times_some : (n p : ℕ) → 0 < p → nat_lt 0 (n * p) ≡ nat_lt 0 n
times_some zero p h = ap (λ (k : ℕ). nat_lt 0 k) (let z : 0 * p ≡ 0 = omega arith in z)
times_some (suc n) p h = lt-ltb 0 (suc n * p) (some n p h) ∙ sym (lt-ltb 0 (suc n) (omega arith))
  where
    some : (n p : ℕ) → 0 < p → 0 < suc n * p
    some n p h = omega arith

-- the sign is minus where there is one and the number is not 0
pub minus_is : (m : Bool) (n z zt f c : ℕ) → IsCount c (n * 10 ^ (z + filling f)) → (m && nat_lt 0 c) ≡ int_lt (written m n zt f).digits (pos 0)
minus_is m n z zt f c h =
    ap (λ (b : Bool). m && b)
    (both_some c (n * 10 ^ (z + filling f)) h ∙ times_some n (10 ^ (z + filling f)) (ten_pos (z + filling f))
    ∙ sym (times_some n (10 ^ zt) (ten_pos zt)))
    ∙ sign m (n * 10 ^ zt)

-- the weight
pub lift_is : (w : Decimal) (c l : ℕ) → IsCount c (magnitude w) → l ≡ (if c == 0 then 2 ^ 15 else (2 ^ 15 + c) - (1 + fraction_groups w.places))
    → l ≡ lift w
lift_is w c l h e = e ∙ go c h
  where
    go : (c : ℕ) → IsCount c (magnitude w) → (if c == 0 then 2 ^ 15 else (2 ^ 15 + c) - (1 + fraction_groups w.places)) ≡ lift w
    go zero k = let b = k.below in sym (none_lift w (let z : magnitude w ≡ 0 = omega arith in z))
    go (suc c) k =
        let a = k.first (omega arith) in
        let b = base_pos (suc c - 1) in
        ap (λ (b : Bool). cond b (2 ^ 15) ((2 ^ 15 + suc c) - (1 + fraction_groups w.places))) (ne_eqb (suc c) 0 (λ e. absurd (omega arith)))
        ∙ ap (λ (n : ℕ). (2 ^ 15 + n) - (1 + fraction_groups w.places)) (sym (count_kept (magnitude w) (suc c) k)) ∙ sym (some_lift w (omega arith))

-- what is kept of a literal is kept of one that writes the same
pub kept_as : (n : Numeral) (v w : Decimal) → w ≡ v → IsInRange v × IsKept n v → IsInRange w × IsKept n w
kept_as n v w e h = subst (λ (u : Decimal). IsInRange u × IsKept n u) (sym e) h

-- ---- writing

-- behind a size byte few groups are written
pub small_kept : (n : Numeral) (form : NumericForm) (w : Decimal) (k : ℕ) → IsKept n w → IsTrue (fits form w) → k ≡ n.count - n.zeros
    → form ≡ ShortVarlena → k ≤ 62
small_kept n ShortVarlena w k h fit e is =
    omega (arith, fits_byte ShortVarlena w fit refl, body_length ShortVarlena w, one_byte_head (header w), groups_length n w h)
small_kept n Short w k h fit e is = absurd cc
small_kept n Long w k h fit e is = absurd cc

-- what is true of an answer is true of it under another name
pub ok_as : {A E : Type 0} (r : Result A E) (P Q : Type 0) → IfOk r (λ _. P) → (P → Q) → IfOk r (λ _. Q)
ok_as (Ok x) P Q h f = f h
ok_as (Err e) P Q h f = tt

-- what is written is the number
pub kept_written : (n : Numeral) (form : NumericForm) (w : Decimal) (k : ℕ) (base mid after : List ℕ) → IsKept n w → k ≡ n.count - n.zeros
    → mid ≡ base ++ lead form n.header k
    → after ≡ mid ++ flat_map (to_le_bytes w16) (spread 10000 (n.count - n.zeros) (size n.number / 10000 ^ n.zeros))
    → after ≡ base ++ numeric form w
kept_written n form w k base mid after h e f g =
    let gs = spread 10000 (n.count - n.zeros) (size n.number / 10000 ^ n.zeros) in
    let halves = flat_map (to_le_bytes w16) gs in
    g
    ∙ ap (λ (xs : List ℕ). xs ++ halves) (f ∙ ap (λ (x : Header). base ++ lead form x k) h.header)
    ∙ append_assoc base (lead form (header w) k) halves
    ∙ ap (λ (xs : List ℕ). base ++ xs)
    (whole_number form w k gs (sym (groups_kept n w h)) (spread_length (n.count - n.zeros) (size n.number / 10000 ^ n.zeros) ∙ sym e))

-- ---- refusals

-- a numeral is not refused
pub not_refused : (form : NumericForm) (text : List ℕ) (e : EncodeError) → (w : Decimal) × IsNumeral form text w → IsRefused form text e → ⊥
not_refused form text NotANumber (w, h) r = r w h.literal
not_refused form text OutOfRange (w, h) (v, l, out) = out (subst IsInRange (one_literal text w v h.literal l) h.in_range)
not_refused form text DoesNotFit (w, h) (v, l, range, f) = apart
    (sym h.fit ∙ ap (λ (u : Decimal). fits form u) (one_literal text w v h.literal l) ∙ f)
  where
    apart : true ≡ false → ⊥
    apart e = cc
not_refused form text TooLarge h r = r
not_refused form text OutOfMemory h r = r

-- a text is refused for one reason
pub one_reason : (form : NumericForm) (text : List ℕ) (e f : EncodeError) → IsRefused form text e → IsRefused form text f → e ≡ f
one_reason form text NotANumber NotANumber h k = refl
one_reason form text NotANumber OutOfRange h (w, l, _) = absurd (h w l)
one_reason form text NotANumber DoesNotFit h (w, l, _, _) = absurd (h w l)
one_reason form text OutOfRange NotANumber (w, l, _) k = absurd (k w l)
one_reason form text OutOfRange OutOfRange h k = refl
one_reason form text OutOfRange DoesNotFit (w, l, out) (v, m, range, _) = absurd (out (subst IsInRange (one_literal text v w m l) range))
one_reason form text DoesNotFit NotANumber (w, l, _, _) k = absurd (k w l)
one_reason form text DoesNotFit OutOfRange (v, m, range, _) (w, l, out) = absurd (out (subst IsInRange (one_literal text v w m l) range))
one_reason form text DoesNotFit DoesNotFit h k = refl
one_reason form text TooLarge f h k = absurd h
one_reason form text OutOfMemory f h k = absurd h
one_reason form text e TooLarge h k = absurd k
one_reason form text e OutOfMemory h k = absurd k

-- why a text is not written: it is refused, or there is no memory
abbrev pub IsNotWritten : NumericForm → List ℕ → EncodeError → Type 0
IsNotWritten form text e = IsRefused form text e ⊎ ((e ≡ OutOfMemory) × ((w : Decimal) × IsNumeral form text w))

-- an answer that is no error is no refusal
pub ok_told : {A : Type 0} (a : A) (form : NumericForm) (text : List ℕ) (e : EncodeError) → (w : Decimal) × IsNumeral form text w
    → (Ok a ≡ Err e) ↔ IsRefused form text e
ok_told a form text e h = (λ f. cc, λ r. absurd (not_refused form text e h r))

-- an error that is no want of memory is the reason why the text is refused
pub err_told : {A : Type 0} (form : NumericForm) (text : List ℕ) (f e : EncodeError) → (e ≡ OutOfMemory → ⊥) → IsNotWritten form text f
    → (◌≡◌ {A = Result A EncodeError} (Err f) (Err e)) ↔ IsRefused form text e
err_told {A} form text f e ne (inl h) = (
  λ same. subst (λ (x : EncodeError). IsRefused form text x) (inside same) h,
  λ k. ap (λ (x : EncodeError). Err x) (one_reason form text f e h k),
)
  where
    inside : ◌≡◌ {A = Result A EncodeError} (Err f) (Err e) → f ≡ e
    inside g = cc
err_told {A} form text f e ne (inr h) = (
  λ same. absurd (ne (sym (inside same) ∙ h.0)),
  λ k. absurd (not_refused form text e h.1 k),
)
  where
    inside : ◌≡◌ {A = Result A EncodeError} (Err f) (Err e) → f ≡ e
    inside g = cc

-- a numeral is not written only for want of memory
pub only_memory : (form : NumericForm) (text : List ℕ) (e : EncodeError) (w : Decimal) → IsNumeral form text w → IsNotWritten form text e
    → e ≡ OutOfMemory
only_memory form text e w h (inl r) = absurd (not_refused form text e (w, h) r)
only_memory form text e w h (inr k) = k.0
