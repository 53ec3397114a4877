-- What is true of each byte below 128, by looking at each.
use Rattle.std.proofs.Common.{◌≡◌, ℕ, zero, suc, ◌<◌, Bool, true, false, not, ◌&&◌, nat_eq, length, cond, bit_and, refl, arith}
use Rattle.std.specs.Prelude.{count_ones}
use lib.Count.{ones}
use Rattle.std.specs.List.{filter}
use Rattle.json_traits.specs.declared.types.json_type.JsonType.{JsonType}
use Rattle.json_traits.specs.declared.types.json_type.JsonType.TheVariants.{Null, Boolean, Integer, Number, String, Array, Object}
use Rattle.json_traits.specs.Weights.{weight, is_set, all_types}

upto : ℕ → (ℕ → Bool) → Bool
upto zero test = true
upto (suc n) test = test n && upto n test

both : (x y : Bool) → (x && y) ≡ true → (x ≡ true) × (y ≡ true)
both true y e = (refl, e)
both false y e = absurd cc

upto_at : (n : ℕ) (test : ℕ → Bool) → upto n test ≡ true → (b : ℕ) → b < n → test b ≡ true
unfolding upto
upto_at zero test e b h = absurd (omega (arith, h))
upto_at (suc n) test e b h = let h2 = both (test n) (upto n test) e in grind (arith, h2.0, upto_at n test h2.1 b)

-- how many bits are set
counts : upto 128 (λ b. nat_eq (count_ones b) (length (filter (is_set b) all_types))) ≡ true
unfolding upto lib.Count.ones
counts = refl

pub count_is : (b : ℕ) → b < 128 → count_ones b ≡ length (filter (is_set b) all_types)
count_is b h = grind (arith, upto_at 128 (λ n. nat_eq (count_ones n) (length (filter (is_set n) all_types))) counts b h)

tests : (ty : JsonType) → upto 128 (λ b. nat_eq (cond (not (nat_eq (bit_and b (weight ty)) 0)) 1 0) (cond (is_set b ty) 1 0)) ≡ true
unfolding upto
tests Null = refl
tests Boolean = refl
tests Integer = refl
tests Number = refl
tests String = refl
tests Array = refl
tests Object = refl

as_one : (x y : Bool) → nat_eq (cond x 1 0) (cond y 1 0) ≡ true → x ≡ y
as_one true true e = refl
as_one true false e = absurd cc
as_one false true e = absurd cc
as_one false false e = refl

-- whether `b & w` has a bit, where w is a type's own bit
pub test_is : (b : ℕ) (ty : JsonType) → b < 128 → not (nat_eq (bit_and b (weight ty)) 0) ≡ is_set b ty
test_is b ty h =
    as_one (not (nat_eq (bit_and b (weight ty)) 0)) (is_set b ty)
    (upto_at 128 (λ n. nat_eq (cond (not (nat_eq (bit_and n (weight ty)) 0)) 1 0) (cond (is_set n ty) 1 0)) (tests ty) b h)
