-- What `&`, `|` and `!` do to the bits of a byte.
use Rattle.std.proofs.Common.{◌≡◌, ℕ, zero, suc, ◌-◌, ◌/◌, ◌^◌, ◌<◌, min, max, not, ◌&&◌, ◌||◌, nat_eq, bit_and, bit_or, refl, ap, ◌∙◌, mod-lt, zero-lt-suc, le_of_suc-le-suc, not-suc-le-zero, arith}
use Rattle.std.specs.Int.{bit_at}
use Rattle.std.proofs.lemmas.Nat.Bits.{bit_at_and, bit_at_or}
use Rattle.json_traits.specs.declared.types.json_type.JsonType.{JsonType}
use Rattle.json_traits.specs.declared.types.json_type.JsonType.TheVariants.{Null, Boolean, Integer, Number, String, Array, Object}
use Rattle.json_traits.specs.Weights.{weight, same, is_set}

bit_cases : (P : ℕ → Type 0) → P 0 → P 1 → (x : ℕ) → x < 2 → P x
bit_cases P p q zero h = p
bit_cases P p q (suc zero) h = q
bit_cases P p q (suc (suc r)) h = absurd (not-suc-le-zero (le_of_suc-le-suc (le_of_suc-le-suc h)))

bit_lt : (n i : ℕ) → bit_at n i < 2
bit_lt n i = mod-lt (n / 2 ^ i) (zero-lt-suc 1)

two_bits : (P : ℕ → ℕ → Type 0) → P 0 0 → P 0 1 → P 1 0 → P 1 1 → (a b i : ℕ) → P (bit_at a i) (bit_at b i)
two_bits P p q r s a b i =
    bit_cases (λ x. P x (bit_at b i)) (bit_cases (P 0) p q (bit_at b i) (bit_lt b i)) (bit_cases (P 1) r s (bit_at b i) (bit_lt b i)) (bit_at a i)
    (bit_lt a i)

and_at : (a b i : ℕ) → nat_eq (bit_at (bit_and a b) i) 1 ≡ nat_eq (bit_at a i) 1 && nat_eq (bit_at b i) 1
and_at a b i = ap (λ n. nat_eq n 1) (bit_at_and a b i) ∙ two_bits (λ x y. nat_eq (min x y) 1 ≡ nat_eq x 1 && nat_eq y 1) refl refl refl refl a b i

or_at : (a b i : ℕ) → nat_eq (bit_at (bit_or a b) i) 1 ≡ nat_eq (bit_at a i) 1 || nat_eq (bit_at b i) 1
or_at a b i = ap (λ n. nat_eq n 1) (bit_at_or a b i) ∙ two_bits (λ x y. nat_eq (max x y) 1 ≡ nat_eq x 1 || nat_eq y 1) refl refl refl refl a b i

-- a bit of `a & b`
pub and_is : (a b : ℕ) (ty : JsonType) → is_set (bit_and a b) ty ≡ is_set a ty && is_set b ty
and_is a b Null = and_at a b 0
and_is a b Boolean = and_at a b 1
and_is a b Integer = and_at a b 2
and_is a b Number = and_at a b 3
and_is a b String = and_at a b 4
and_is a b Array = and_at a b 5
and_is a b Object = and_at a b 6

-- a bit of `a | b`
pub or_is : (a b : ℕ) (ty : JsonType) → is_set (bit_or a b) ty ≡ is_set a ty || is_set b ty
or_is a b Null = or_at a b 0
or_is a b Boolean = or_at a b 1
or_is a b Integer = or_at a b 2
or_is a b Number = or_at a b 3
or_is a b String = or_at a b 4
or_is a b Array = or_at a b 5
or_is a b Object = or_at a b 6

-- a bit of a type's own bit
pub weight_is : (ty other : JsonType) → is_set (weight ty) other ≡ same other ty
weight_is ty other = grind arith

-- a bit of the byte without a type's own bit
pub mask_is : (ty other : JsonType) → is_set (255 - weight ty) other ≡ not (same other ty)
mask_is ty other = grind arith

pub weight_below : (ty : JsonType) → weight ty < 128
weight_below ty = grind arith
