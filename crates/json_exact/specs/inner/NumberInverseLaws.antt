-- The fields of a `Number` follow from the decimal that it writes, which lets the type be Copy. This project's own.
-- Lemmas, which stand here and not in proofs/ only because an `inverse_ok` reads no other folder. Nothing here need be believed.
use Rattle.std.proofs.Common.{◌≡◌, ℕ, zero, suc, ◌-◌, ◌*◌, ◌/◌, ◌^◌, ◌<◌, Bool, true, false, refl, sym, ap, ◌∙◌, arith, ℤ, pos, negsuc, neg_ℤ, nat_abs}
use Rattle.std.specs.Prelude.{◌*ℤ◌, int_lt}
use Rattle.std.proofs.Math.Nat.{mul-div_cancel}
use Rattle.std.proofs.Math.IntN.{negsuc-*ℤ-pos}
use Rattle.std.proofs.lemmas.Bool.{le-ltb}
use Rattle.json_model.specs.Decimal.{Decimal as Written, signed}
use Rattle.json_exact.specs.inner.NumberFields.{written_with, IsWrittenWith}
use Rattle.json_exact.specs.inner.DecimalInverseLaws.{ten_pos}
use Rattle.json_exact.specs.declared.number.Number.TheInside.{Inside}

unfoldable pub number_fields : Written → Inside
number_fields w = record { decimal = w.digits *ℤ pos (10 ^ (16383 - w.places)); fraction_digits = w.places }

pub signed_times : (m : Bool) (a b : ℕ) → signed m a *ℤ pos b ≡ signed m (a * b)
signed_times false a b = refl
signed_times true zero b = let z : 0 * b ≡ 0 = omega arith in ap (λ (x : ℕ). pos x) z ∙ sym (ap (λ (x : ℕ). neg_ℤ (pos x)) z)
signed_times true (suc a) b = negsuc-*ℤ-pos a b

pub sign_abs : (v : ℤ) → v ≡ signed (int_lt v (pos 0)) (nat_abs v)
sign_abs (pos n) = ap (λ (b : Bool). signed b n) (sym (le-ltb n 0 (omega arith)))
sign_abs (negsuc n) = refl

-- a multiple, divided and multiplied again
pub divided_times : (d : ℤ) (q p : ℕ) → 0 < p → nat_abs d ≡ q * p → signed (int_lt d (pos 0)) (nat_abs d / p) *ℤ pos p ≡ d
divided_times d q p some e =
    signed_times (int_lt d (pos 0)) (nat_abs d / p) p
    ∙ ap (λ (x : ℕ). signed (int_lt d (pos 0)) (x / p * p)) e
    ∙ ap (λ (x : ℕ). signed (int_lt d (pos 0)) (x * p)) (mul-div_cancel q some)
    ∙ ap (λ (x : ℕ). signed (int_lt d (pos 0)) x) (sym e)
    ∙ sym (sign_abs d)

pub number_fields-written_with : (n : Inside) → IsWrittenWith n → number_fields (written_with n) ≡ n
unfolding number_fields written_with
number_fields-written_with n h = ap (λ (d : ℤ). record { decimal = d; fraction_digits = n.fraction_digits })
    (divided_times n.decimal h.exact.0 (10 ^ (16383 - n.fraction_digits)) (ten_pos (16383 - n.fraction_digits)) h.exact.1)
