-- What a `Number` is, from its fields.
use Rattle.std.proofs.Common.{◌≡◌, ℕ, ◌+◌, ◌-◌, ◌/◌, ◌^◌, ◌≤◌, Bool, true, false, eqb, refl, sym, ap, subst, ◌∙◌, arith, ℤ, pos, nat_abs}
use Rattle.std.specs.Prelude.{◌*ℤ◌, int_lt, ◌&&◌}
use Rattle.std.specs.Ordering.{int_eq}
use Rattle.std.proofs.lemmas.Bool.Decides.{Decides-int_eq}
use Rattle.std.proofs.lemmas.Bool.{ne_eqb, eq-eqb, both_ways}
use Rattle.std.proofs.lemmas.Nat.{pow-add}
use Rattle.json_model.specs.Decimal.{Decimal as Written, signed}
use Rattle.json_exact.specs.Exact.{IsWorth, parts}
use Rattle.json_exact.specs.inner.NumberFields.{written_with, IsWrittenWith}
use Rattle.json_exact.specs.declared.number.Number.TheInside.{Inside}
use Rattle.json_exact.specs.inner.DecimalInverseLaws.{ten_pos}
use Rattle.json_exact.proofs.SignLaws.{twice}
use Rattle.json_exact.specs.inner.NumberInverseLaws.{divided_times}
use Rattle.json_exact.proofs.EqualityLaws.{differ}
use Rattle.json_exact.proofs.WorthLaws.{one_record, one_value}

-- c with f fraction digits is worth what it is with 16383 of them
worth_of_multiple : (d c : ℤ) (f : ℕ) → f ≤ 16383 → c *ℤ pos (10 ^ (16383 - f)) ≡ d → IsWorth d (record { digits = c; places = f })
unfolding parts
worth_of_multiple d c f le e =
    let i : 16383 - f + f ≡ 16383 = omega arith in
    ap (λ (x : ℤ). x *ℤ pos (10 ^ f)) (sym e) ∙ twice c (10 ^ (16383 - f)) (10 ^ f)
    ∙ ap (λ (x : ℕ). c *ℤ pos x) (sym (pow-add 10 (16383 - f) f) ∙ ap (λ (k : ℕ). 10 ^ k) i)

pub worth_of : (n : Inside) (w : Written) → IsWrittenWith n → written_with n ≡ w → IsWorth n.decimal w
unfolding written_with
worth_of n w h e = subst (λ (w : Written). IsWorth n.decimal w) e
    (worth_of_multiple n.decimal (signed (int_lt n.decimal (pos 0)) (nat_abs n.decimal / 10 ^ (16383 - n.fraction_digits))) n.fraction_digits h.few
    (divided_times n.decimal h.exact.0 (10 ^ (16383 - n.fraction_digits)) (ten_pos (16383 - n.fraction_digits)) h.exact.1))

pub places_of : (n : Inside) (w : Written) → written_with n ≡ w → n.fraction_digits ≡ w.places
unfolding written_with
places_of n w e = ap (λ (w : Written). w.places) e

-- numbers are compared by their fields
pub apart : (n m : Inside) (w v : Written) → written_with n ≡ w → written_with m ≡ v → (n.fraction_digits ≡ m.fraction_digits → ⊥)
    → false ≡ (int_eq w.digits v.digits && eqb w.places v.places)
apart n m w v e f h =
    sym (no (int_eq w.digits v.digits) (eqb w.places v.places) (ne_eqb w.places v.places (λ g. h (places_of n w e ∙ g ∙ sym (places_of m v f)))))
  where
    no : (a b : Bool) → b ≡ false → (a && b) ≡ false
    no true b e = e
    no false b e = refl

pub compared : (n m : Inside) (w v : Written) (r : Bool) → IsWrittenWith n → written_with n ≡ w → IsWrittenWith m → written_with m ≡ v
    → n.fraction_digits ≡ m.fraction_digits
    → r ≡ int_eq n.decimal m.decimal → r ≡ (int_eq w.digits v.digits && eqb w.places v.places)
compared n m w v r h e g f same s = s ∙ go (int_eq n.decimal m.decimal) refl
  where
    p : w.places ≡ v.places
    p = sym (places_of n w e) ∙ same ∙ places_of m v f

    worths : n.decimal ≡ m.decimal → w.digits ≡ v.digits
    worths d =
        ap (λ (u : Written). u.digits) (one_record n.decimal w v (worth_of n w h e) (subst (λ (x : ℤ). IsWorth x v) (sym d) (worth_of m v g f)) p)

    digits : w.digits ≡ v.digits → n.decimal ≡ m.decimal
    digits d = one_value n.decimal m.decimal w (worth_of n w h e)
        (subst (λ (u : Written). IsWorth m.decimal u) (sym (both w v d p)) (worth_of m v g f))
      where
        both : (w v : Written) → w.digits ≡ v.digits → w.places ≡ v.places → w ≡ v
        both w v d e = ap (λ (c : ℤ). record { digits = c; places = w.places }) d ∙ ap (λ (k : ℕ). record { digits = v.digits; places = k }) e

    yes : (a b : Bool) → a ≡ true → b ≡ true → (a && b) ≡ true
    yes a b e f = cc

    no : (a b : Bool) → a ≡ false → (a && b) ≡ false
    no true b e = cc
    no false b e = refl

    go : (t : Bool) → int_eq n.decimal m.decimal ≡ t → int_eq n.decimal m.decimal ≡ (int_eq w.digits v.digits && eqb w.places v.places)
    go true t = t ∙ sym (yes (int_eq w.digits v.digits) (eqb w.places v.places)
        ((Decides-int_eq w.digits v.digits).1 (worths ((Decides-int_eq n.decimal m.decimal).0 t))) (eq-eqb w.places v.places p))
    go false t = t
        ∙ sym (no (int_eq w.digits v.digits) (eqb w.places v.places)
        (differ w.digits v.digits (λ d. both_ways (int_eq n.decimal m.decimal) t ((Decides-int_eq n.decimal m.decimal).1 (digits d)))))
