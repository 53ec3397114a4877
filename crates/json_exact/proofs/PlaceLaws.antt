-- What a number with fraction digits and an exponent is worth, and whether it is in range.
use Rattle.std.proofs.Common.{◌≡◌, ℕ, suc, ◌+◌, ◌-◌, ◌*◌, ◌^◌, ◌<◌, ◌≤◌, Bool, true, false, List, sym, ap, subst, ◌∙◌, arith, inl, inr, ℤ, nat_abs}
use Rattle.std.specs.Prelude.{if◌then◌else◌}
use Rattle.std.proofs.Math.Nat.{pow-suc, mul-lt-mul_of_pos_right, mul-le-mul_right}
use Rattle.std.proofs.lemmas.Nat.{pow-add}
use Rattle.json_model.specs.Decimal.{HasNarrowDigits, signed}
use Rattle.json_exact.specs.Exact.{IsWorth, parts}
use Rattle.json_exact.specs.Digits.{joined}
use Rattle.json_exact.specs.inner.DecimalInverseLaws.{ten_pos}
use Rattle.json_model.proofs.DecimalLaws.{abs_signed}
use Rattle.json_exact.specs.inner.LeadingDigitsLaws.{joined_small}
use Rattle.json_exact.specs.inner.NumberInverseLaws.{signed_times}
use Rattle.json_exact.specs.inner.LeadingDigits.{Keeps}
use Rattle.json_exact.specs.inner.Reading.{capped}
use Rattle.json_exact.specs.inner.LiteralParts.{IsRead, IsFault}
use Rattle.json_exact.specs.declared.number_error.NumberError.TheVariants.{OutOfRange}
use Rattle.json_exact.proofs.DigitLaws.{ten_mono}
use Rattle.json_exact.proofs.NarrowLaws.{narrow_more, narrow_back}

-- a number that is kept is narrow
kept_narrow : (ds : List ℕ) (len n : ℕ) → Keeps 10 37 ds len n → HasNarrowDigits n
kept_narrow ds len n h =
    let below : joined 10 ds * 10 ^ len < 10 ^ 38 * 10 ^ len = mul-lt-mul_of_pos_right (joined_small 10 37 (omega arith) ds len n h) (ten_pos len) in
    narrow_back n 38 (
      len,
      joined 10 ds,
      h.size,
      subst (λ (x : ℕ). n * 10 ^ 38 < x) (sym (pow-add 10 38 len)) (subst (λ (x : ℕ). x < 10 ^ 38 * 10 ^ len) (sym h.size) below),
    )

-- a number has no more digits than are counted
pub below_top : (ds : List ℕ) (len n : ℕ) → Keeps 10 37 ds len n → n < 10 ^ len
below_top ds len n h =
    let s = h.size in
    let b : joined 10 ds * 10 ^ len < 10 ^ 38 * 10 ^ len = mul-lt-mul_of_pos_right (joined_small 10 37 (omega arith) ds len n h) (ten_pos len) in
    omega arith

-- and no fewer
pub from_top : (ds : List ℕ) (len n : ℕ) → 0 < len → Keeps 10 37 ds len n → 10 ^ len ≤ n * 10
from_top ds len n some h = elim h.lead [
  | inl z ↦ absurd (let p = z.0 in omega arith)
  | inr z ↦ let s = h.size in let b : 10 ^ 37 * 10 ^ len ≤ joined 10 ds * 10 ^ len = mul-le-mul_right (10 ^ len) (z.1) in omega arith
]

small : (n len up k : ℕ) → n < 10 ^ len → len + up ≤ k → n * 10 ^ up < 10 ^ k
small n len up k lt le =
    let a : n * 10 ^ up < 10 ^ len * 10 ^ up = mul-lt-mul_of_pos_right lt (ten_pos up) in
    let b = ten_mono (len + up) k le in
    let e = pow-add 10 len up in
    omega arith

large : (n len up k : ℕ) → 10 ^ len ≤ n * 10 → k < len + up → 10 ^ k ≤ n * 10 ^ up
large n len up k ge lt =
    let a : 10 ^ len * 10 ^ up ≤ n * 10 * 10 ^ up = mul-le-mul_right (10 ^ up) ge in
    let b = ten_mono (suc k) (len + up) lt in
    let e = pow-add 10 len up in
    let f = pow-suc 10 k in
    omega arith

worth : (m : Bool) (n up f : ℕ) → f ≤ 16383
    → IsWorth (signed m (n * 10 ^ (up + (16383 - f)))) (record { digits = signed m (n * 10 ^ up); places = f })
unfolding parts
worth m n up f le =
    signed_times m (n * 10 ^ (up + (16383 - f))) (10 ^ f)
    ∙ ap (λ (x : ℕ). signed m x)
    (products n (10 ^ (up + (16383 - f))) (10 ^ f)
    ∙ ap (λ (x : ℕ). n * x) (sym (pow-add 10 (up + (16383 - f)) f) ∙ ap (λ (k : ℕ). 10 ^ k) i ∙ pow-add 10 up 16383)
    ∙ sym (products n (10 ^ up) (10 ^ 16383)))
    ∙ sym (signed_times m (n * 10 ^ up) (10 ^ 16383))
  where
    products : (x y z : ℕ) → x * y * z ≡ x * (y * z)
    products x y z = omega arith

    i : up + (16383 - f) + f ≡ up + 16383
    i = omega arith

abs_at : (m : Bool) (n up k : ℕ) → n * 10 ^ up < 10 ^ k → nat_abs (signed m (n * 10 ^ up)) < 10 ^ k
abs_at m n up k lt = subst (λ (x : ℕ). x < 10 ^ k) (sym (abs_signed m (n * 10 ^ up))) lt

narrow_at : (m : Bool) (ds : List ℕ) (len n up : ℕ) → Keeps 10 37 ds len n → HasNarrowDigits (nat_abs (signed m (n * 10 ^ up)))
narrow_at m ds len n up h = subst HasNarrowDigits (sym (abs_signed m (n * 10 ^ up))) (narrow_more n up (kept_narrow ds len n h))

-- a number that is in range is read
pub read_some : (m : Bool) (ds : List ℕ) (len n up f : ℕ) (d : ℤ) (p : ℕ) → Keeps 10 37 ds len n → f ≤ 16383 → len + up ≤ 131072 + f
    → d ≡ signed m (n * 10 ^ (up + (16383 - f))) → p ≡ f
    → IsRead d p (record { digits = signed m (n * 10 ^ up); places = f })
read_some m ds len n up f d p h le fits e g = record {
  narrow = narrow_at m ds len n up h;
  in_range = (abs_at m n up (131072 + f) (small n len up (131072 + f) (below_top ds len n h) fits), le);
  worth = subst (λ (x : ℤ). IsWorth x (record { digits = signed m (n * 10 ^ up); places = f })) (sym e) (worth m n up f le);
  places_are = g;
}

-- 0 is read, whatever its exponent
pub read_none : (m : Bool) (ds : List ℕ) (n up f : ℕ) (d : ℤ) (p : ℕ) → Keeps 10 37 ds 0 n → f ≤ 16383 → d ≡ signed m 0 → p ≡ f
    → IsRead d p (record { digits = signed m (n * 10 ^ up); places = f })
read_none m ds n up f d p h le e g =
    let n0 : n ≡ 0 = let b = below_top ds 0 n h in omega arith in
    let a : n * 10 ^ up ≡ 0 = rw n0 (omega arith) in
    let b : n * 10 ^ (up + (16383 - f)) ≡ 0 = rw n0 (omega arith) in
    record {
      narrow = narrow_at m ds 0 n up h;
      in_range = (abs_at m n up (131072 + f) (let p = ten_pos (131072 + f) in omega arith), le);
      worth = subst (λ (x : ℤ). IsWorth x (record { digits = signed m (n * 10 ^ up); places = f })) (ap (λ (x : ℕ). signed m x) b ∙ sym e)
          (worth m n up f le);
      places_are = g;
    }

-- too many fraction digits are out of range
pub fault_places : (m : Bool) (ds : List ℕ) (len n up f : ℕ) → Keeps 10 37 ds len n → 16383 < f
    → IsFault OutOfRange (record { digits = signed m (n * 10 ^ up); places = f })
fault_places m ds len n up f h lt = (narrow_at m ds len n up h, λ r. let l = r.1 in omega arith)

-- too large a number is out of range
pub fault_high : (m : Bool) (ds : List ℕ) (len n up f : ℕ) → 0 < len → Keeps 10 37 ds len n → 131072 + f < len + up
    → IsFault OutOfRange (record { digits = signed m (n * 10 ^ up); places = f })
fault_high m ds len n up f some h lt = (
  narrow_at m ds len n up h,
  λ r.
      let a : n * 10 ^ up < 10 ^ (131072 + f) = subst (λ (x : ℕ). x < 10 ^ (131072 + f)) (abs_signed m (n * 10 ^ up)) (r.0) in
      let b = large n len up (131072 + f) (from_top ds len n some h) lt in
      omega arith,
)

-- The exponent is kept up to a size that no text's length reaches.

-- few fraction digits are those of the literal
pub places_same : (down : Bool) (count size e p : ℕ) → e ≡ capped size → count < 2 ^ 63 → p ≡ (if down then capped (count + e) else count - e)
    → p ≤ 16383
    → p ≡ (if down then count + size else count - size)
places_same true count size e p h lt g le = omega arith
places_same false count size e p h lt g le = omega arith

-- where many are counted, the literal has many
pub places_many : (down : Bool) (count size e p : ℕ) → e ≡ capped size → count < 2 ^ 63 → p ≡ (if down then capped (count + e) else count - e)
    → 16383 < p
    → 16383 < (if down then count + size else count - size)
places_many true count size e p h lt g le = omega arith
places_many false count size e p h lt g le = omega arith

-- few zeros behind the digits are those of the literal
pub raised_same : (down : Bool) (count size e r : ℕ) → e ≡ capped size → count < 2 ^ 63 → r ≡ (if down then 0 else e - count) → r ≤ 147455
    → r ≡ (if down then 0 else size - count)
raised_same true count size e r h lt g le = omega arith
raised_same false count size e r h lt g le = omega arith

-- where many are counted, the literal has many
pub raised_many : (down : Bool) (count size e r : ℕ) → e ≡ capped size → r ≡ (if down then 0 else e - count) → 147455 < r
    → 147455 < (if down then 0 else size - count)
raised_many true count size e r h g le = omega arith
raised_many false count size e r h g le = omega arith
