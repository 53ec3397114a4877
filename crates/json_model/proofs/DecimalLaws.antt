-- Signs and powers of ten, of which the numbers of each representation are made.
use Rattle.std.proofs.Common.{◌≡◌, ℕ, zero, suc, ◌+◌, ◌*◌, ◌^◌, Bool, true, false, nat_abs, refl, sym, ap, ◌∙◌, arith}
use Rattle.std.proofs.Math.Nat.{pow-suc}
use Rattle.std.proofs.lemmas.Nat.{pow-add}
use Rattle.json_model.specs.Decimal.{signed}

-- a sign changes no size
pub abs_signed : (m : Bool) (n : ℕ) → nat_abs (signed m n) ≡ n
abs_signed false n = refl
abs_signed true zero = refl
abs_signed true (suc n) = refl

-- a group is four digits
pub fours : (n : ℕ) → 10000 ^ n ≡ 10 ^ (4 * n)
fours zero = refl
fours (suc n) =
    let e : 4 * suc n ≡ 4 * n + 4 = omega arith in
    pow-suc 10000 n ∙ ap (λ (x : ℕ). x * 10000) (fours n) ∙ sym (pow-add 10 (4 * n) 4) ∙ ap (λ (k : ℕ). 10 ^ k) (sym e)
