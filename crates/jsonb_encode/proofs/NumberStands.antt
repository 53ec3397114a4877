-- The bytes of a number stand for it.
use Rattle.std.proofs.Common.{◌≡◌, ℕ, zero, suc, ◌+◌, ◌-◌, ◌*◌, ◌/◌, ◌%◌, ◌^◌, ◌<◌, ◌≤◌, ◌⊎◌, Bool, true, false, cond, ltb, leb, List, [], ◌∷◌, ◌++◌, length, get_or, refl, sym, ap, subst, ◌∙◌, arith, inl, inr, ℤ, pos, negsuc, nat_abs}
use Rattle.std.specs.Prelude.{◌&&◌, IsTrue, int_lt}
use Rattle.std.specs.Int.{w16, w32, to_le_bytes}
use Rattle.std.specs.List.{flat_map}
use Rattle.std.proofs.Math.Nat.{pow-suc, mul-lt-mul_of_pos_right, mul-le-mul_right}
use Rattle.std.proofs.lemmas.Bool.{cases_lt, ne_eqb, eq-eqb, ltb-true, leb-true, lt-ltb, le-ltb, and_parts}
use Rattle.std.proofs.lemmas.List.{length-append}
use Rattle.std.proofs.lemmas.Nat.{pow-add, mod_below, le-div}
use Rattle.json_model.specs.Decimal.{Decimal, HasNarrowDigits, IsNarrow}
use Rattle.json_exact.specs.Digits.{spread, count_of}
use Rattle.json_exact.specs.Parsed.{IsInRange}
use Rattle.json_exact.specs.inner.DecimalInverseLaws.{ten_pos}
use Rattle.json_exact.specs.inner.LeadingDigitsLaws.{count_is, count_none}
use Rattle.json_exact.specs.inner.NumberInverseLaws.{sign_abs}
use Rattle.json_exact.proofs.DigitLaws.{power_mono, none_of}
use Rattle.json_model.proofs.DecimalLaws.{fours}
use Rattle.json_exact.proofs.NarrowLaws.{narrow_more, narrow_back, wide_group}
use Rattle.jsonb_layout.specs.Numeric.{IsVarlena, short_lift, long_lift, IsShort, IsLong, joined, are_groups, IsValue, Numeric}
use Rattle.jsonb_layout.specs.declared.header.Header.{Header}
use Rattle.jsonb_encode.specs.Number.{fraction_groups, magnitude, groups, group_count, lift, trimmed, header, is_short, head, short_head, long_head, varlena, body, numeric, fits}
use Rattle.jsonb_encode.specs.declared.number_form.NumericForm.{NumericForm}
use Rattle.jsonb_encode.specs.declared.number_form.NumericForm.TheVariants.{Short, Long, ShortVarlena}
use Rattle.jsonb_encode.proofs.Digits.{base_pos, spread_length, spread_below, spread_joined, spread_last, trimmed_spread}
use Rattle.jsonb_encode.proofs.Spans.{halves_length}

-- ---- a number and its first and last digit

abbrev Top : ℕ → Type 0
Top n = (top : ℕ) × (10000 ^ top ≤ n) × (n < 10000 ^ suc top)

top_of : (fuel n : ℕ) → n ≤ fuel → 0 < n → Top n
top_of zero n le some = absurd (omega arith)
top_of (suc fuel) n le some = elim (cases_lt n 10000) [
  | inl lt ↦ (0, omega arith, omega arith)
  | inr ge ↦
      let more = top_of fuel (n / 10000) (omega arith) (omega arith) in
      let p = 10000 ^ more.0 in
      let a : 10000 ^ suc more.0 ≡ p * 10000 = pow-suc 10000 more.0 in
      let b : 10000 ^ suc (suc more.0) ≡ 10000 ^ suc more.0 * 10000 = pow-suc 10000 (suc more.0) in
      let lo = more.1 in
      let hi = more.2 in
      (suc more.0, omega arith, omega arith)
]

abbrev Tail : ℕ → Type 0
Tail n = (z y : ℕ) × (n ≡ y * 10000 ^ z) × (0 < y % 10000)

tail_of : (fuel n : ℕ) → n ≤ fuel → 0 < n → Tail n
tail_of zero n le some = absurd (omega arith)
tail_of (suc fuel) n le some = elim (cases_lt 0 (n % 10000)) [
  | inl lt ↦ (0, n, omega arith, lt)
  | inr none ↦
      let more = tail_of fuel (n / 10000) (omega arith) (omega arith) in
      let whole : n ≡ n / 10000 * 10000 = omega arith in (
        suc more.0,
        more.1,
        whole ∙ ap (λ (x : ℕ). x * 10000) more.2 ∙ turned more.1 (10000 ^ more.0)
            ∙ ap (λ (p : ℕ). more.1 * p) (sym (pow-suc 10000 more.0)),
        more.3,
      )
]
  where
    turned : (y p : ℕ) → y * p * 10000 ≡ y * (p * 10000)
    turned y p = omega arith

-- the groups of a number that is not 0
pub record Shape (d : Decimal) : Type 0 where
  pub under : ℕ
  pub zeros : ℕ
  pub digits : ℕ
  pub groups_are : groups d ≡ spread 10000 (suc under) digits
  pub size : magnitude d ≡ digits * 10000 ^ zeros
  pub count : group_count d ≡ suc under + zeros
  pub below : digits < 10000 ^ suc under
  pub first : 10000 ^ under ≤ digits
  pub last : 0 < digits % 10000
  pub low : 10000 ^ (under + zeros) ≤ magnitude d

shape_of : (d : Decimal) → 0 < magnitude d → Shape d
unfolding groups
shape_of d some =
    let n = magnitude d in
    let a = top_of n n (omega arith) some in
    let b = tail_of n n (omega arith) some in
    let z = b.0 in
    let y = b.1 in
    let le : z ≤ a.0 = low a.0 z y n a.2 b.2 b.3 in
    let k : suc a.0 ≡ suc (a.0 - z) + z = omega arith in
    let m : a.0 ≡ (a.0 - z) + z = omega arith in
    let count : group_count d ≡ suc a.0 = count_is 10000 n a.0 (omega arith) a.1 a.2 in
    let below : y < 10000 ^ suc (a.0 - z) = under y (10000 ^ suc (a.0 - z)) (10000 ^ z)
    (subst (λ (x : ℕ). x < 10000 ^ suc (a.0 - z) * 10000 ^ z) b.2
    (subst (λ (x : ℕ). n < x) (ap (λ (e : ℕ). 10000 ^ e) k ∙ pow-add 10000 (suc (a.0 - z)) z) a.2)) in
    let first : 10000 ^ (a.0 - z) ≤ y = over (10000 ^ (a.0 - z)) y (10000 ^ z) (base_pos z)
    (subst (λ (x : ℕ). 10000 ^ (a.0 - z) * 10000 ^ z ≤ x) b.2
    (subst (λ (x : ℕ). x ≤ n) (ap (λ (e : ℕ). 10000 ^ e) m ∙ pow-add 10000 (a.0 - z) z) a.1)) in
    record {
      under = a.0 - z;
      zeros = z;
      digits = y;
      groups_are = ap (λ (c : ℕ). trimmed (spread 10000 c n)) count ∙ trimmed_spread z (suc (a.0 - z)) (suc a.0) n y k b.2 below b.3;
      size = b.2;
      count = count ∙ k;
      below = below;
      first = first;
      last = b.3;
      low = subst (λ (e : ℕ). 10000 ^ e ≤ n) m a.1;
    }
  where
    under : (y p q : ℕ) → y * q < p * q → y < p
    under y p q lt = elim (cases_lt y p) [ inl h ↦ h | inr ge ↦ absurd (more y p q ge lt) ]
      where
        more : (y p q : ℕ) → p ≤ y → y * q < p * q → ⊥
        more y p q ge lt = let h : p * q ≤ y * q = mul-le-mul_right q ge in omega arith

    over : (p y q : ℕ) → 0 < q → p * q ≤ y * q → p ≤ y
    over p y q some le = elim (cases_lt y p) [
      | inr ge ↦ ge
      | inl lt ↦ absurd
          (let h : y * q < p * q = mul-lt-mul_of_pos_right lt some in omega arith)
    ]

    some_of : (y p n : ℕ) → n ≡ y * p → 0 < y % 10000 → p ≤ n
    some_of zero p n e h = absurd (omega arith)
    some_of (suc y) p n e h = omega arith

    low : (top z y n : ℕ) → n < 10000 ^ suc top → n ≡ y * 10000 ^ z → 0 < y % 10000 → z ≤ top
    low top z y n lt e some = elim (cases_lt top z) [
      | inr ge ↦ ge
      | inl h ↦
          let a = power_mono 10000 (suc top) z (omega arith) h in
          let b = some_of y (10000 ^ z) n e some in
          absurd (omega arith)
    ]

-- ---- few groups

narrow_digits : (d : Decimal) → IsNarrow d → (s : Shape d) → HasNarrowDigits s.digits
narrow_digits d h s =
    let moved : HasNarrowDigits (magnitude d) = narrow_more (nat_abs d.digits) (4 * fraction_groups d.places - d.places) h in
    narrow_back s.digits (4 * s.zeros) (subst HasNarrowDigits (s.size ∙ ap (λ (x : ℕ). s.digits * x) (fours s.zeros)) moved)

few_groups : (d : Decimal) → IsNarrow d → (s : Shape d) → suc s.under ≤ 11
few_groups d h s = elim (cases_lt 10 s.under) [
  | inr le ↦ omega arith
  | inl lt ↦
      let y = s.digits in
      let a = power_mono 10000 11 s.under (omega arith) lt in
      let b = s.first in
      let big : 10000 ^ 11 ≤ y = omega arith in
      let front : 10000 ^ 10 ≤ y / 10000 = le-div (10000 ^ 10) y 10000 (omega arith) (omega arith) in
      let split : y / 10000 * 10000 + y % 10000 ≡ y = omega arith in
      let last = s.last in
      absurd (wide_group (y / 10000) (y % 10000) front (mod_below y 10000 (omega arith)) (λ e. absurd (omega arith))
      (subst HasNarrowDigits (sym split) (narrow_digits d h s)))
]

-- ---- a number that is 0

no_digits : (d : Decimal) → magnitude d ≡ 0 → d.digits ≡ pos 0
no_digits d e =
    let z : nat_abs d.digits ≡ 0 = none_of (nat_abs d.digits) (10 ^ (4 * fraction_groups d.places - d.places))
    (ten_pos (4 * fraction_groups d.places - d.places)) e in
    go d.digits z
  where
    go : (v : ℤ) → nat_abs v ≡ 0 → v ≡ pos 0
    go (pos n) e = ap (λ (k : ℕ). pos k) e
    go (negsuc n) e = absurd cc

-- 0 has no groups
pub none_groups : (d : Decimal) → magnitude d ≡ 0 → groups d ≡ []
unfolding groups
none_groups d e = ap (λ (x : ℕ). trimmed (spread 10000 (count_of 10000 x) x)) e ∙ ap (λ (c : ℕ). trimmed (spread 10000 c 0)) (count_none 10000)

-- the weight of 0 is 0
pub none_lift : (d : Decimal) → magnitude d ≡ 0 → lift d ≡ 2 ^ 15
none_lift d e = ap (λ (b : Bool). cond b (2 ^ 15) ((2 ^ 15 + group_count d) - (1 + fraction_groups d.places))) (eq-eqb (magnitude d) 0 e)

-- the weight of another number
pub some_lift : (d : Decimal) → 0 < magnitude d → lift d ≡ (2 ^ 15 + group_count d) - (1 + fraction_groups d.places)
some_lift d h = ap (λ (b : Bool). cond b (2 ^ 15) ((2 ^ 15 + group_count d) - (1 + fraction_groups d.places)))
    (ne_eqb (magnitude d) 0 (λ z. absurd (omega arith)))

pub groups_few : (d : Decimal) → IsNarrow d → length (groups d) ≤ 11
groups_few d h = elim (cases_lt 0 (magnitude d)) [
  | inl some ↦ let s = shape_of d some in let f = few_groups d h s in omega (arith, ap length s.groups_are, spread_length (suc s.under) s.digits)
  | inr none ↦ omega (arith, ap length (none_groups d (let z : magnitude d ≡ 0 = omega arith in z)))
]

-- ---- the weight

-- a number in range has no group above the highest
pub room : (c k e f : ℕ) → c < 10 ^ (131072 + f) → f + e ≡ 4 * k → c * 10 ^ e < 10000 ^ (32768 + k)
room c k e f lt at =
    let a : c * 10 ^ e < 10 ^ (131072 + f) * 10 ^ e = mul-lt-mul_of_pos_right lt (ten_pos e) in
    let i : 131072 + f + e ≡ 4 * (32768 + k) = omega arith in
    subst (λ (x : ℕ). c * 10 ^ e < x) (sym (pow-add 10 (131072 + f) e) ∙ ap (λ (x : ℕ). 10 ^ x) i ∙ sym (fours (32768 + k))) a

under_power : (a b n : ℕ) → 10000 ^ a ≤ n → n < 10000 ^ b → a < b
under_power a b n lo hi = elim (cases_lt a b) [ inl h ↦ h | inr ge ↦ absurd (let m = power_mono 10000 b a (omega arith) ge in omega arith) ]

pub lift_below : (d : Decimal) → IsInRange d → lift d < 2 ^ 16
lift_below d h = elim (cases_lt 0 (magnitude d)) [
  | inr none ↦ omega (arith, none_lift d (let z : magnitude d ≡ 0 = omega arith in z))
  | inl some ↦
      let s = shape_of d some in
      let F = fraction_groups d.places in
      let le = h.1 in
      let r = room (nat_abs d.digits) F (4 * F - d.places) d.places h.0 (omega arith) in
      let t = under_power (s.under + s.zeros) (32768 + F) (magnitude d) s.low r in
      let c = s.count in
      omega (arith, some_lift d some)
]

-- ---- the value

joined_value : (c f k y z m e l : ℕ) → f ≤ 4 * k → c * 10 ^ (4 * k - f) ≡ y * 10000 ^ z → l + 1 ≡ z + e → m + 2 ^ 15 ≡ k + e
    → c * 10000 ^ (m + 2 ^ 15) ≡ 10 ^ f * (y * 10000 ^ (l + 1))
joined_value c f k y z m e l le size at count =
    let i : 4 * k ≡ (4 * k - f) + f = omega arith in
    ap (λ (x : ℕ). c * 10000 ^ x) count
    ∙ ap (λ (x : ℕ). c * x) (pow-add 10000 k e ∙ ap (λ (x : ℕ). x * 10000 ^ e) (fours k ∙ ap (λ (x : ℕ). 10 ^ x) i ∙ pow-add 10 (4 * k - f) f))
    ∙ first c (10 ^ (4 * k - f)) (10 ^ f) (10000 ^ e)
    ∙ ap (λ (x : ℕ). x * (10 ^ f * 10000 ^ e)) size
    ∙ second y (10000 ^ z) (10 ^ f) (10000 ^ e)
    ∙ ap (λ (x : ℕ). 10 ^ f * (y * x)) (sym (pow-add 10000 z e) ∙ ap (λ (x : ℕ). 10000 ^ x) (sym at))
  where
    first : (c p q r : ℕ) → c * (p * q * r) ≡ c * p * (q * r)
    first c p q r = omega arith

    second : (y p q r : ℕ) → y * p * (q * r) ≡ q * (y * (p * r))
    second y p q r = omega arith

sign_of_zero : (d : Decimal) → d.digits ≡ pos 0 → int_lt d.digits (pos 0) ≡ false
sign_of_zero d e = ap (λ (v : ℤ). int_lt v (pos 0)) e

value_of : (d : Decimal) → IsInRange d → IsValue (header d) (groups d) d
unfolding header
value_of d h = elim (cases_lt 0 (magnitude d)) [
  | inl some ↦
      let s = shape_of d some in
      let F = fraction_groups d.places in
      let f = d.places in
      let le = h.1 in
      let n : length (groups d) ≡ suc s.under = ap length s.groups_are ∙ spread_length (suc s.under) s.digits in
      let c = s.count in
      let w = some_lift d some in
      record {
        places = refl;
        sign = sign_abs d.digits;
        size = ap (λ (k : ℕ). nat_abs d.digits * 10000 ^ (k + 2 ^ 15)) n
            ∙ joined_value (nat_abs d.digits) f F s.digits s.zeros (suc s.under) (suc s.under + 2 ^ 15 - F) (lift d) (omega arith) s.size
            (omega arith) (omega arith)
            ∙ ap (λ (y : ℕ). 10 ^ f * (y * 10000 ^ (lift d + 1))) (sym (ap joined s.groups_are ∙ spread_joined (suc s.under) s.digits s.below));
        zero = λ z. absurd (omega arith);
      }
  | inr none ↦
      let z : magnitude d ≡ 0 = omega arith in
      let g = none_groups d z in
      let c = no_digits d z in
      record {
        places = refl;
        sign = sign_abs d.digits;
        size = ap (λ (gs : List ℕ). nat_abs d.digits * 10000 ^ (length gs + 2 ^ 15)) g
            ∙ ap (λ (v : ℤ). nat_abs v * 10000 ^ (0 + 2 ^ 15)) c
            ∙ both (10000 ^ (0 + 2 ^ 15)) (10 ^ d.places) (10000 ^ (lift d + 1))
            ∙ ap (λ (gs : List ℕ). 10 ^ d.places * (joined gs * 10000 ^ (lift d + 1))) (sym g);
        zero = λ _. (none_lift d z, sign_of_zero d c);
      }
]
  where
    both : (u a x : ℕ) → 0 * u ≡ a * (0 * x)
    both u a x = omega arith

-- ---- the groups

last_of : (gs : List ℕ) (g d : ℕ) → get_or (gs ++ g ∷ []) (length (gs ++ g ∷ []) - 1) d ≡ g
last_of [] g d = refl
last_of (h ∷ []) g d = refl
last_of (h ∷ k ∷ gs) g d =
    let i : length (h ∷ k ∷ (gs ++ g ∷ [])) - 1 ≡ suc (length (k ∷ (gs ++ g ∷ [])) - 1) = omega arith in
    ap (λ (n : ℕ). get_or (h ∷ k ∷ (gs ++ g ∷ [])) n d) i ∙ last_of (k ∷ gs) g d

spread_are_groups : (m y : ℕ) → y < 10000 ^ suc m → 10000 ^ m ≤ y → 0 < y % 10000 → IsTrue (are_groups (spread 10000 (suc m) y))
spread_are_groups m y lt first last =
    let gs = spread 10000 (suc m) y in
    let a = spread_below (suc m) y lt in
    let lead : 0 < y / 10000 ^ m = le-div 1 y (10000 ^ m) (base_pos m) (omega arith) in
    let end : get_or gs (length gs - 1) 1 ≡ y % 10000 = ap (λ (hs : List ℕ). get_or hs (length hs - 1) 1) (spread_last m y lt)
    ∙ last_of (spread 10000 m (y / 10000)) (y % 10000) 1 in
    rw (a, lt-ltb 0 (y / 10000 ^ m) lead, end, lt-ltb 0 (y % 10000) last) refl

groups_fit : (d : Decimal) → IsTrue (are_groups (groups d))
groups_fit d = elim (cases_lt 0 (magnitude d)) [
  | inl some ↦ let s = shape_of d some in subst (λ (gs : List ℕ). IsTrue (are_groups gs)) (sym s.groups_are)
      (spread_are_groups s.under s.digits s.below s.first s.last)
  | inr none ↦ subst (λ (gs : List ℕ). IsTrue (are_groups gs)) (sym (none_groups d (let z : magnitude d ≡ 0 = omega arith in z))) refl
]

-- ---- the header

short_parts : (h : Header) → is_short h ≡ true → (h.dscale < 64) × (2 ^ 15 - 64 ≤ h.lift) × (h.lift < 2 ^ 15 + 64)
short_parts h e =
    let t = and_parts (ltb h.dscale 64 && leb (2 ^ 15 - 64) h.lift) (ltb h.lift (2 ^ 15 + 64)) e in
    let u = and_parts (ltb h.dscale 64) (leb (2 ^ 15 - 64) h.lift) t.0 in
    (ltb-true h.dscale 64 u.0, leb-true (2 ^ 15 - 64) h.lift u.1, ltb-true h.lift (2 ^ 15 + 64) t.1)

seven_bits : (l : ℕ) → 2 ^ 15 - 64 ≤ l → l < 2 ^ 15 + 64 → l ≡ short_lift (l % 2 ^ 7)
seven_bits l lo hi = elim (cases_lt l (2 ^ 15)) [
  | inl lt ↦
      let m : l % 2 ^ 7 ≡ l - (2 ^ 15 - 128) = omega arith in
      let r : l ≡ (2 ^ 15 - 128) + l % 2 ^ 7 = omega arith in
      r ∙ sym (ap (λ (b : Bool). cond b (2 ^ 15 + l % 2 ^ 7) ((2 ^ 15 - 128) + l % 2 ^ 7)) (le-ltb (l % 2 ^ 7) 64 (omega arith)))
  | inr ge ↦
      let m : l % 2 ^ 7 ≡ l - 2 ^ 15 = omega arith in
      let r : l ≡ 2 ^ 15 + l % 2 ^ 7 = omega arith in
      r ∙ sym (ap (λ (b : Bool). cond b (2 ^ 15 + l % 2 ^ 7) ((2 ^ 15 - 128) + l % 2 ^ 7)) (lt-ltb (l % 2 ^ 7) 64 (omega arith)))
]

sixteen_bits : (l : ℕ) → l < 2 ^ 16 → l ≡ long_lift ((l + 2 ^ 15) % 2 ^ 16)
sixteen_bits l hi = elim (cases_lt l (2 ^ 15)) [
  | inl lt ↦
      let m : (l + 2 ^ 15) % 2 ^ 16 ≡ l + 2 ^ 15 = omega arith in
      let v = (l + 2 ^ 15) % 2 ^ 16 in
      (let r : l ≡ v - 2 ^ 15 = omega arith in r) ∙ sym (ap (λ (b : Bool). cond b (2 ^ 15 + v) (v - 2 ^ 15)) (le-ltb v (2 ^ 15) (omega arith)))
  | inr ge ↦
      let m : (l + 2 ^ 15) % 2 ^ 16 ≡ l - 2 ^ 15 = omega arith in
      let v = (l + 2 ^ 15) % 2 ^ 16 in
      (let r : l ≡ 2 ^ 15 + v = omega arith in r) ∙ sym (ap (λ (b : Bool). cond b (2 ^ 15 + v) (v - 2 ^ 15)) (lt-ltb v (2 ^ 15) (omega arith)))
]

short_form : (h : Header) → is_short h ≡ true → IsShort (short_head h) h
short_form h e = let p = short_parts h e in (h.lift % 2 ^ 7, omega arith, p.0, seven_bits h.lift p.1 p.2, refl)

long_form : (h : Header) → h.dscale < 2 ^ 14 → h.lift < 2 ^ 16 → IsLong (long_head h) h
long_form h f l = ((h.lift + 2 ^ 15) % 2 ^ 16, omega arith, f, sixteen_bits h.lift l, refl)

head_form : (form : NumericForm) (h : Header) → h.dscale < 2 ^ 14 → h.lift < 2 ^ 16 → (form ≡ ShortVarlena → is_short h ≡ true)
    → IsShort (head form h) h ⊎ IsLong (head form h) h
head_form Long h f l s = inr (long_form h f l)
head_form ShortVarlena h f l s = inl (short_form h (s refl))
head_form Short h f l s = go (is_short h) refl
  where
    go : (b : Bool) → is_short h ≡ b → IsShort (cond b (short_head h) (long_head h)) h ⊎ IsLong (cond b (short_head h) (long_head h)) h
    go true e = inl (short_form h e)
    go false e = inr (long_form h f l)

head_small : (form : NumericForm) (h : Header) → length (head form h) ≤ 4
head_small Long h = omega arith
head_small ShortVarlena h = omega arith
head_small Short h = go (is_short h)
  where
    go : (b : Bool) → length (cond b (short_head h) (long_head h)) ≤ 4
    go true = omega arith
    go false = omega arith

pub one_byte_head : (h : Header) → length (head ShortVarlena h) ≡ 2
one_byte_head h = refl

-- ---- the whole

four_bytes : (b : List ℕ) → length b < 2 ^ 20 → IsVarlena (to_le_bytes w32 (4 * (4 + length b)) ++ b) b
four_bytes b lt = inl (omega arith, ap (λ (k : ℕ). to_le_bytes w32 (4 * k) ++ b) (sym (four (length b))))
  where
    four : (n : ℕ) → suc (suc (suc (suc n))) ≡ 4 + n
    four n = omega arith

varlena_is : (form : NumericForm) (b : List ℕ) → length b < 2 ^ 20 → (form ≡ ShortVarlena → length b < 127) → IsVarlena (varlena form b) b
varlena_is Short b lt s = four_bytes b lt
varlena_is Long b lt s = four_bytes b lt
varlena_is ShortVarlena b lt s =
    let l = s refl in
    let n : suc (length b) ≡ 1 + length b = omega arith in
    inr (omega arith, ap (λ (k : ℕ). (2 * k + 1) ∷ b) (sym n))

fits_is : (form : NumericForm) (d : Decimal) → IsTrue (fits form d) → form ≡ ShortVarlena → is_short (header d) ≡ true
unfolding fits
fits_is ShortVarlena d h e = (and_parts (is_short (header d)) (ltb (length (body ShortVarlena d)) 127) h).0
fits_is Short d h e = absurd cc
fits_is Long d h e = absurd cc

header_parts : (d : Decimal) → IsInRange d → ((header d).dscale < 2 ^ 14) × ((header d).lift < 2 ^ 16)
unfolding header
header_parts d h = (let le = h.1 in omega arith, lift_below d h)

-- the size of a number that has the form of one size byte is below 128
pub fits_byte : (form : NumericForm) (d : Decimal) → IsTrue (fits form d) → form ≡ ShortVarlena → length (body form d) < 127
unfolding fits
fits_byte ShortVarlena d h e = ltb-true (length (body ShortVarlena d)) 127
    (and_parts (is_short (header d)) (ltb (length (body ShortVarlena d)) 127) h).1
fits_byte Short d h e = absurd cc
fits_byte Long d h e = absurd cc

-- a number in range has at most so many groups
pub groups_within : (d : Decimal) → IsInRange d → length (groups d) ≤ 36864
groups_within d h = elim (cases_lt 0 (magnitude d)) [
  | inr none ↦ omega (arith, ap length (none_groups d (let z : magnitude d ≡ 0 = omega arith in z)))
  | inl some ↦
      let s = shape_of d some in
      let F = fraction_groups d.places in
      let le = h.1 in
      let r = room (nat_abs d.digits) F (4 * F - d.places) d.places h.0 (omega arith) in
      let t = under_power (s.under + s.zeros) (32768 + F) (magnitude d) s.low r in
      omega (arith, ap length s.groups_are, spread_length (suc s.under) s.digits)
]

-- how long what follows the size is
pub body_length : (form : NumericForm) (d : Decimal) → length (body form d) ≡ length (head form (header d)) + 2 * length (groups d)
body_length form d = omega (arith, length-append (head form (header d)) (flat_map (to_le_bytes w16) (groups d)), halves_length (groups d))

-- and few in any form, where the number is in range
pub body_within : (form : NumericForm) (d : Decimal) → IsInRange d → length (body form d) < 2 ^ 20
body_within form d h = omega (arith, body_length form d, head_small form (header d), groups_within d h)

-- the bytes of a number in range, in a form that it has, stand for it
pub number_stands : (form : NumericForm) (d : Decimal) → IsInRange d → IsTrue (fits form d) → Numeric (numeric form d) d
unfolding numeric
number_stands form d h fit =
    let p = header_parts d h in
    let long = body_within form d h in
    let short = fits_byte form d fit in
    record {
      body = body form d;
      head = head form (header d);
      header = header d;
      groups = groups d;
      varlena = varlena_is form (body form d) long short;
      parts = refl;
      form = head_form form (header d) p.0 p.1 (fits_is form d fit);
      fit = groups_fit d;
      value = value_of d h;
    }

-- behind its size byte a narrow number has few bytes
pub narrow_byte : (d : Decimal) → IsNarrow d → ltb (length (body ShortVarlena d)) 127 ≡ true
narrow_byte d narrow = lt-ltb (length (body ShortVarlena d)) 127
    (omega (arith, groups_few d narrow, body_length ShortVarlena d, one_byte_head (header d)))

-- a narrow number has the form of one size byte where it has the short header
pub narrow_fits : (d : Decimal) (b : Bool) → IsNarrow d → b ≡ is_short (header d) → b ≡ fits ShortVarlena d
unfolding fits
narrow_fits d b narrow e = e ∙ sym (ap (λ (c : Bool). is_short (header d) && c) (narrow_byte d narrow) ∙ and_true (is_short (header d)))
  where
    and_true : (c : Bool) → (c && true) ≡ c
    and_true true = refl
    and_true false = refl
