-- The fields of a `Decimal` follow from the parts that it is, which lets the type be Copy. This project's own.
-- Lemmas, which stand here and not in proofs/ only because an `inverse_ok` reads no other folder. Nothing here need be believed.
use Rattle.std.proofs.Common.{◌≡◌, ℕ, zero, suc, ◌*◌, ◌/◌, ◌^◌, ◌<◌, Bool, true, false, List, refl, sym, ap, ◌∙◌, arith, ℤ, pos, nat_abs}
use Rattle.std.specs.Prelude.{int_lt}
use Rattle.std.proofs.Math.Nat.{pow-suc, mul-div_cancel}
use Rattle.std.proofs.lemmas.Bool.{le-ltb}
use Rattle.json_model.specs.Decimal.{signed}
use Rattle.json_model.proofs.DecimalLaws.{abs_signed}
use Rattle.json_exact.specs.Digits.{spread, count_of}
use Rattle.json_exact.specs.inner.LeadingDigits.{Keeps}
use Rattle.json_exact.specs.inner.LeadingDigitsLaws.{power_pos, from_len, len_is, digits_are}
use Rattle.json_exact.specs.inner.DecimalFields.{size_of, parts_of, IsFields}
use Rattle.json_exact.specs.declared.decimal.Decimal.TheInside.{Inside}

unfoldable pub fields_of : ℤ → Inside
fields_of d = record {
  negative = int_lt d (pos 0);
  groups = spread 10000 11 (nat_abs d * 10 * 10000 ^ 11 / 10000 ^ count_of 10000 (nat_abs d * 10));
  top = count_of 10000 (nat_abs d * 10);
}

pub ten_pos : (b : ℕ) → 0 < 10 ^ b
ten_pos zero = omega arith
ten_pos (suc b) = let h = ten_pos b in let e : 10 ^ suc b ≡ 10 ^ b * 10 = pow-suc 10 b in omega arith

pub sign_back : (m : Bool) (n : ℕ) → (m ≡ true → 0 < n) → int_lt (signed m n) (pos 0) ≡ m
sign_back false n h = le-ltb n 0 (omega arith)
sign_back true zero h = absurd (let p = h refl in omega arith)
sign_back true (suc n) h = refl

pub sign_signed : (m : Bool) (n : ℕ) → 0 < n → int_lt (signed m n) (pos 0) ≡ m
sign_signed m n h = sign_back m n (λ _. h)

make : Bool → List ℕ → ℕ → Inside
make n gs t = record { negative = n; groups = gs; top = t }

same : (m n : Bool) (gs hs : List ℕ) (t u : ℕ) → m ≡ n → gs ≡ hs → t ≡ u → make m gs t ≡ make n hs u
same m n gs hs t u e f g = cc

pub size_is : (gs : List ℕ) (top q : ℕ) → Keeps 10000 10 gs top (q * 10) → size_of gs top ≡ q
unfolding size_of
size_is gs top q h =
    ap (λ (x : ℕ). x / 10000 ^ 11 / 10) (sym h.size) ∙ ap (λ (x : ℕ). x / 10) (mul-div_cancel (q * 10) (power_pos 10000 11 (omega arith)))
    ∙ mul-div_cancel q (omega arith)

-- where there are groups, the number is not 0
pub some_parts : (gs : List ℕ) (top q : ℕ) → Keeps 10000 10 gs top (q * 10) → 0 < top → 0 < q
some_parts gs zero q h p = absurd (omega arith)
some_parts gs (suc u) q h p = let l = from_len 10000 10 (omega arith) gs u (q * 10) h in let g = power_pos 10000 u (omega arith) in omega arith

-- the fields of a number of q parts
back : (m : Bool) (gs : List ℕ) (top q : ℕ) → Keeps 10000 10 gs top (q * 10) → (m ≡ true → 0 < top) → fields_of (signed m q) ≡ make m gs top
unfolding fields_of make
back m gs top q h s =
    let a = abs_signed m q in
    same (int_lt (signed m q) (pos 0)) m
    (spread 10000 11 (nat_abs (signed m q) * 10 * 10000 ^ 11 / 10000 ^ count_of 10000 (nat_abs (signed m q) * 10))) gs
    (count_of 10000 (nat_abs (signed m q) * 10)) top
    (sign_back m q (λ e. some_parts gs top q h (s e)))
    (ap (λ (x : ℕ). spread 10000 11 (x * 10 * 10000 ^ 11 / 10000 ^ count_of 10000 (x * 10))) a ∙ digits_are 10000 10 (omega arith) gs top (q * 10) h)
    (ap (λ (x : ℕ). count_of 10000 (x * 10)) a ∙ len_is 10000 10 (omega arith) gs top (q * 10) h)

pub fields_of-parts_of : (a : Inside) → IsFields a → fields_of (parts_of a) ≡ a
unfolding parts_of make
fields_of-parts_of a h =
    ap (λ (x : ℕ). fields_of (signed a.negative x)) (size_is a.groups a.top h.worth.0 h.worth.1)
    ∙ back a.negative a.groups a.top h.worth.0 h.worth.1 h.sign
