-- The pair that a member is: the bytes of its key, and its value. This project's own.
use Rattle.std.specs.Prelude.{ℕ, List, map, string_bytes}
use Rattle.key_map.specs.declared.map.Member.{Member}

module _ {V : Type 0} where
  abbrev pub key_of : Member V → List ℕ
  key_of m = string_bytes m.key

  abbrev pub pair_of : Member V → List ℕ × V
  pair_of m = (key_of m, m.value)

  -- the keys of pairs, in order
  abbrev pub keys_of : List (List ℕ × V) → List (List ℕ)
  keys_of ps = map (λ p. p.0) ps

  -- the member with another value under its key
  abbrev pub with_value : Member V → V → Member V
  with_value m v = record { key = m.key; value = v }
