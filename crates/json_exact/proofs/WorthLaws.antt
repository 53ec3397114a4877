-- What is written tells what it is worth, and the other way round. For the callers of `Decimal` and `Number`.
use Rattle.std.proofs.Common.{◌≡◌, ℕ, ◌+◌, ◌-◌, ◌*◌, ◌^◌, ◌<◌, ◌≤◌, sym, ap, ◌∙◌, ℤ, pos, nat_abs, arith}
use Rattle.std.specs.Prelude.{◌*ℤ◌, ◌↔◌}
use Rattle.std.proofs.Math.Nat.{eq_of_mul-eq-mul_right}
use Rattle.std.proofs.lemmas.Nat.{pow-add}
use Rattle.json_model.specs.Decimal.{Decimal as Written, HasNarrowDigits, IsNarrow, IsWhole, IsSameValue}
use Rattle.json_exact.specs.Exact.{IsWorth, parts, exactly}
use Rattle.json_exact.specs.inner.DecimalInverseLaws.{ten_pos}
use Rattle.json_exact.proofs.SignLaws.{abs_times, turn, cancel}
use Rattle.json_exact.proofs.NarrowLaws.{narrow_same}

pub parts_pos : 0 < parts
unfolding parts
parts_pos = ten_pos 16383

-- one value with as many fraction digits is written one way
pub one_record : (d : ℤ) (w v : Written) → IsWorth d w → IsWorth d v → w.places ≡ v.places → w ≡ v
one_record d w v f g e =
    let same : w.digits ≡ v.digits = cancel w.digits v.digits parts parts_pos (sym f ∙ ap (λ (k : ℕ). d *ℤ pos (10 ^ k)) e ∙ g) in
    ap (λ (c : ℤ). record { digits = c; places = w.places }) same ∙ ap (λ (k : ℕ). record { digits = v.digits; places = k }) e

-- what is written one way has one value
pub one_value : (d e : ℤ) (w : Written) → IsWorth d w → IsWorth e w → d ≡ e
one_value d e w f g = cancel d e (10 ^ w.places) (ten_pos w.places) (f ∙ sym g)

one_worth : (d : ℤ) (w v : Written) → IsWorth d w → IsWorth d v → IsSameValue w v
one_worth d w v f g = cancel (w.digits *ℤ pos (10 ^ v.places)) (v.digits *ℤ pos (10 ^ w.places)) parts parts_pos
    (turn w.digits (10 ^ v.places) parts ∙ ap (λ (z : ℤ). z *ℤ pos (10 ^ v.places)) (sym f) ∙ turn d (10 ^ w.places) (10 ^ v.places)
    ∙ ap (λ (z : ℤ). z *ℤ pos (10 ^ w.places)) g ∙ turn v.digits parts (10 ^ w.places))

worth_one : (d e : ℤ) (w v : Written) → IsWorth d w → IsWorth e v → IsSameValue w v → d ≡ e
worth_one d e w v f g s =
    cancel d e (10 ^ v.places) (ten_pos v.places) (cancel (d *ℤ pos (10 ^ v.places)) (e *ℤ pos (10 ^ v.places)) (10 ^ w.places) (ten_pos w.places)
    (turn d (10 ^ v.places) (10 ^ w.places) ∙ ap (λ (z : ℤ). z *ℤ pos (10 ^ v.places)) f ∙ turn w.digits parts (10 ^ v.places)
    ∙ ap (λ (z : ℤ). z *ℤ pos parts) s ∙ turn v.digits (10 ^ w.places) parts ∙ ap (λ (z : ℤ). z *ℤ pos (10 ^ w.places)) (sym g)))

-- values are the same exactly where what they are written as is
pub same_as_written : (d e : ℤ) (w v : Written) → IsWorth d w → IsWorth e v → (d ≡ e) ↔ IsSameValue w v
same_as_written d e w v f g =
    (λ s. one_worth d w v f (ap (λ (x : ℤ). x *ℤ pos (10 ^ v.places)) s ∙ g), worth_one d e w v f g)

-- a value is whole exactly where what it is written as is
pub whole_as_written : (d : ℤ) (w : Written) → IsWorth d w → IsWhole (exactly d) ↔ IsWhole w
unfolding exactly parts
whole_as_written d w f = (
  λ h. (
    h.0,
    cancel w.digits (h.0 *ℤ pos (10 ^ w.places)) parts parts_pos
        (sym f ∙ ap (λ (z : ℤ). z *ℤ pos (10 ^ w.places)) h.1 ∙ turn h.0 parts (10 ^ w.places)),
  ),
  λ h. (
    h.0,
    cancel d (h.0 *ℤ pos parts) (10 ^ w.places) (ten_pos w.places)
        (f ∙ ap (λ (z : ℤ). z *ℤ pos parts) h.1 ∙ turn h.0 (10 ^ w.places) parts),
  ),
)

-- a value and what it is written as are of one size, once both are counted in the same parts
pub sizes : (d : ℤ) (w : Written) → IsWorth d w → nat_abs d * 10 ^ w.places ≡ nat_abs w.digits * parts
sizes d w f = sym (abs_times d (10 ^ w.places)) ∙ ap nat_abs f ∙ abs_times w.digits parts

-- a value is narrow exactly where what it is written as is
pub narrow_as_written : (d : ℤ) (w : Written) → IsWorth d w → HasNarrowDigits (nat_abs d) ↔ IsNarrow w
unfolding parts
narrow_as_written d w f = (
  narrow_same (nat_abs w.digits) (nat_abs d) 16383 w.places (sym (sizes d w f)),
  narrow_same (nat_abs d) (nat_abs w.digits) w.places 16383 (sizes d w f),
)

-- what is written, in parts
pub worth_in_parts : (d : ℤ) (w : Written) → IsWorth d w → w.places ≤ 16383 → nat_abs d ≡ nat_abs w.digits * 10 ^ (16383 - w.places)
unfolding parts
worth_in_parts d w f le =
    let i : 16383 - w.places + w.places ≡ 16383 = omega arith in
    eq_of_mul-eq-mul_right (10 ^ w.places) (ten_pos w.places) (nat_abs d) (nat_abs w.digits * 10 ^ (16383 - w.places))
    (sizes d w f ∙ ap (λ (x : ℕ). nat_abs w.digits * x) (ap (λ (k : ℕ). 10 ^ k) (sym i) ∙ pow-add 10 (16383 - w.places) w.places)
    ∙ products (nat_abs w.digits) (10 ^ (16383 - w.places)) (10 ^ w.places))
  where
    products : (x y z : ℕ) → x * (y * z) ≡ x * y * z
    products x y z = omega arith

-- so many fraction digits write the value exactly, as `Number::new` asks
pub exact_as_written : (d : ℤ) (w : Written) → IsWorth d w → w.places ≤ 16383 → (q : ℕ) × (nat_abs d ≡ q * 10 ^ (16383 - w.places))
exact_as_written d w f le = (nat_abs w.digits, worth_in_parts d w f le)
