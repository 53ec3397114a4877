-- A whole number is a sign and a magnitude.
use Rattle.std.proofs.Common.{◌≡◌, ℕ, zero, suc, ◌*◌, ◌<◌, Bool, true, false, refl, sym, ap, subst, ◌∙◌, arith, ℤ, pos, negsuc, nat_abs}
use Rattle.std.specs.Prelude.{◌*ℤ◌, int_lt}
use Rattle.std.proofs.Math.Nat.{eq_of_mul-eq-mul_right}
use Rattle.std.proofs.lemmas.Bool.{le-ltb}
use Rattle.json_model.specs.Decimal.{signed}
use Rattle.json_exact.specs.inner.DecimalInverseLaws.{sign_signed}
use Rattle.json_model.proofs.DecimalLaws.{abs_signed}
use Rattle.json_exact.specs.inner.NumberInverseLaws.{signed_times, sign_abs}

-- a product has the sign of the number, and the magnitude times the factor
pub times : (d : ℤ) (p : ℕ) → d *ℤ pos p ≡ signed (int_lt d (pos 0)) (nat_abs d * p)
times d p = ap (λ (x : ℤ). x *ℤ pos p) (sign_abs d) ∙ signed_times (int_lt d (pos 0)) (nat_abs d) p

pub abs_times : (d : ℤ) (p : ℕ) → nat_abs (d *ℤ pos p) ≡ nat_abs d * p
abs_times d p = ap nat_abs (times d p) ∙ abs_signed (int_lt d (pos 0)) (nat_abs d * p)

pub twice : (d : ℤ) (a b : ℕ) → (d *ℤ pos a) *ℤ pos b ≡ d *ℤ pos (a * b)
twice d a b =
    let m = int_lt d (pos 0) in
    let n = nat_abs d in
    ap (λ (x : ℤ). x *ℤ pos b) (times d a) ∙ signed_times m (n * a) b ∙ ap (λ (x : ℕ). signed m x) (products n a b) ∙ sym (times d (a * b))
  where
    products : (x y z : ℕ) → x * y * z ≡ x * (y * z)
    products x y z = omega arith

pub turn : (d : ℤ) (a b : ℕ) → (d *ℤ pos a) *ℤ pos b ≡ (d *ℤ pos b) *ℤ pos a
turn d a b = twice d a b ∙ ap (λ (x : ℕ). d *ℤ pos x) (let e : a * b ≡ b * a = omega arith in e) ∙ sym (twice d b a)

-- a factor above 0 keeps the sign
pub sign_times : (d : ℤ) (p : ℕ) → 0 < p → int_lt (d *ℤ pos p) (pos 0) ≡ int_lt d (pos 0)
sign_times (pos n) p some =
    ap (λ (x : ℤ). int_lt x (pos 0)) (signed_times false n p) ∙ le-ltb (n * p) 0 (omega arith) ∙ sym (le-ltb n 0 (omega arith))
sign_times (negsuc n) p some = ap (λ (x : ℤ). int_lt x (pos 0)) (signed_times true (suc n) p) ∙ sign_signed true (suc n * p) (positive n p some)
  where
    positive : (n p : ℕ) → 0 < p → 0 < suc n * p
    positive n zero h = absurd (omega arith)
    positive n (suc p) h = omega arith

-- a product tells its factor
pub cancel : (d e : ℤ) (p : ℕ) → 0 < p → d *ℤ pos p ≡ e *ℤ pos p → d ≡ e
cancel d e p some h = same (nat_abs d) abs refl
  where
    abs : nat_abs d ≡ nat_abs e
    abs = eq_of_mul-eq-mul_right p some (nat_abs d) (nat_abs e) (sym (abs_times d p) ∙ ap nat_abs h ∙ abs_times e p)

    positive : (n p : ℕ) → 0 < p → 0 < suc n * p
    positive n zero h = absurd (omega arith)
    positive n (suc p) h = omega arith

    nothing : (m n : Bool) → signed m 0 ≡ signed n 0
    nothing true true = refl
    nothing true false = refl
    nothing false true = refl
    nothing false false = refl

    same : (n : ℕ) → nat_abs d ≡ nat_abs e → nat_abs d ≡ n → d ≡ e
    same zero a z = sign_abs d ∙ ap (λ (x : ℕ). signed (int_lt d (pos 0)) x) z ∙ nothing (int_lt d (pos 0)) (int_lt e (pos 0))
        ∙ ap (λ (x : ℕ). signed (int_lt e (pos 0)) x) (sym z ∙ a) ∙ sym (sign_abs e)
    same (suc n) a z =
        let u : 0 < nat_abs d * p = subst (λ (x : ℕ). 0 < x * p) (sym z) (positive n p some) in
        let v : 0 < nat_abs e * p = subst (λ (x : ℕ). 0 < x * p) a u in
        let s : int_lt d (pos 0) ≡ int_lt e (pos 0) =
        sym (sign_signed (int_lt d (pos 0)) (nat_abs d * p) u) ∙ ap (λ (x : ℤ). int_lt x (pos 0)) (sym (times d p) ∙ h ∙ times e p)
        ∙ sign_signed (int_lt e (pos 0)) (nat_abs e * p) v in
        sign_abs d ∙ ap (λ (b : Bool). signed b (nat_abs d)) s ∙ ap (λ (x : ℕ). signed (int_lt e (pos 0)) x) a ∙ sym (sign_abs e)
