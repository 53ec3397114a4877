-- A set of types is known by its byte.
use Rattle.std.proofs.Common.{◌≡◌, ℕ, ◌/◌, ◌%◌, ◌<◌, Bool, true, false, nat_eq, refl, sym, ◌∙◌, arith}
use Rattle.std.proofs.lemmas.Bool.{eqb-true, eqb-false}
use Rattle.json_traits.specs.declared.types.json_type.JsonType.{JsonType}
use Rattle.json_traits.specs.declared.types.json_type.JsonType.TheVariants.{Null, Boolean, Integer, Number, String, Array, Object}
use Rattle.json_traits.specs.Weights.{weight, is_set}

-- bits that are set alike are one bit
same_bit : (x y : ℕ) → x < 2 → y < 2 → nat_eq x 1 ≡ nat_eq y 1 → x ≡ y
same_bit x y lt lu e = go (nat_eq x 1) (nat_eq y 1) refl refl e
  where
    go : (s t : Bool) → nat_eq x 1 ≡ s → nat_eq y 1 ≡ t → s ≡ t → x ≡ y
    go true true f g h = eqb-true x 1 f ∙ sym (eqb-true y 1 g)
    go false false f g h = let p = eqb-false x 1 f in let q = eqb-false y 1 g in omega arith
    go true false f g h = absurd cc
    go false true f g h = absurd cc

bit_at_type : (a b : ℕ) → ((ty : JsonType) → is_set a ty ≡ is_set b ty) → (ty : JsonType) → a / weight ty % 2 ≡ b / weight ty % 2
bit_at_type a b h ty = same_bit (a / weight ty % 2) (b / weight ty % 2) (omega arith) (omega arith) (h ty)

-- bytes below 128 in which the same types are set are one byte
pub one_byte : (a b : ℕ) → a < 128 → b < 128 → ((ty : JsonType) → is_set a ty ≡ is_set b ty) → a ≡ b
one_byte a b lt lu h =
    let p = bit_at_type a b h Null in
    let q = bit_at_type a b h Boolean in
    let r = bit_at_type a b h Integer in
    let s = bit_at_type a b h Number in
    let t = bit_at_type a b h String in
    let u = bit_at_type a b h Array in
    let v = bit_at_type a b h Object in
    omega arith
