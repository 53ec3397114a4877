-- Numbers of values are exact, and are written as items.
use Rattle.std.proofs.Common.{◌≡◌, ℕ, ◌*◌, ◌^◌, ◌<◌, ◌≤◌, List, ◌++◌, refl, sym, ap, subst, ◌∙◌, append_assoc, arith, ℤ, nat_abs}
use Rattle.std.proofs.Math.Nat.{lt_of_mul-lt-mul_right}
use Rattle.std.proofs.lemmas.Nat.{pow-add}
use Rattle.json_model.specs.Decimal.{Decimal, IsNarrow}
use Rattle.json_model.specs.Tree.{scalar, number}
use Rattle.json_exact.specs.Exact.{IsWorth, IsWithinLimits, limit, parts}
use Rattle.json_exact.specs.Parsed.{IsInRange}
use Rattle.json_exact.specs.inner.DecimalInverseLaws.{ten_pos}
use Rattle.json_exact.proofs.SignLaws.{abs_times}
use Rattle.json_exact.proofs.WorthLaws.{narrow_as_written}
use Rattle.jsonb_layout.specs.Stands.{padding}
use Rattle.jsonb_encode.specs.Encoded.{item}
use Rattle.jsonb_encode.specs.Number.{numeric}
use Rattle.jsonb_encode.specs.declared.number_form.NumericForm.{NumericForm}
use Rattle.jsonb_encode.specs.inner.Writing.{IsWritten}
use Rattle.std.proofs.Math.Nat.{mul-lt-mul_of_pos_right}

turn : (l p q : ℕ) → l * p * q ≡ l * q * p
turn l p q = omega arith

-- the digits of a number within the limits are in range
in_range : (n c p q l : ℕ) → 0 < q → n * q ≡ c * p → n < l * p → c < l * q
in_range n c p q l some e lt =
    let a : n * q < l * p * q = mul-lt-mul_of_pos_right lt some in
    lt_of_mul-lt-mul_right p (subst (λ (x : ℕ). x < l * q * p) e (subst (λ (x : ℕ). n * q < x) (turn l p q) a))

pub range_of : (d : ℤ) (w : Decimal) → IsWorth d w → w.places ≤ 16383 → IsWithinLimits d → IsInRange w
unfolding limit
range_of d w worth le h =
    let sizes : nat_abs d * 10 ^ w.places ≡ nat_abs w.digits * parts =
    sym (abs_times d (10 ^ w.places)) ∙ ap nat_abs worth ∙ abs_times w.digits parts in (
      subst (λ (x : ℕ). nat_abs w.digits < x) (sym (pow-add 10 131072 w.places))
          (in_range (nat_abs d) (nat_abs w.digits) parts (10 ^ w.places) (10 ^ 131072) (ten_pos w.places) sizes h.below),
      le,
    )

pub narrow_of : (d : ℤ) (w : Decimal) → IsWorth d w → IsWithinLimits d → IsNarrow w
narrow_of d w worth h = (narrow_as_written d w worth).0 h.narrow

pub wrote_number : (f : NumericForm) (w : Decimal) (at : ℕ) (before mid after : List ℕ) → mid ≡ before ++ padding at → after ≡ mid ++ numeric f w
    → IsInRange w → IsWritten f (scalar (number w)) at before after 1
unfolding item
wrote_number f w at before mid after e h range = record {
  kind_is = refl;
  bytes = h ∙ ap (λ (xs : List ℕ). xs ++ numeric f w) e ∙ append_assoc before (padding at) (numeric f w);
  small = tt;
  value = record { rise = tt; exact = range };
}
