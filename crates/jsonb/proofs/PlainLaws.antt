-- Scalars in which nothing is found: what is told of them at once.
use Rattle.std.proofs.Common.{◌≡◌, true, ℕ, zero, suc, ◌≤◌, List, [], ◌∷◌, length, Option, Some, None, refl, sym, ap, ◌∙◌, arith}
use Rattle.std.specs.Prelude.{option_map}
use Rattle.std.specs.Str.{IsAscii, is_utf8}
use Rattle.jsonb_layout.specs.Layout.{Item}
use Rattle.jsonb_layout.specs.inner.Reading.{scalar_of}
use Rattle.jsonb.specs.declared.found.Found.{Found}
use Rattle.jsonb.specs.Found.{nothing, scalar_found}
use Rattle.jsonb.specs.inner.Widths.{IsPlain}
use Rattle.jsonb.proofs.Texts.{ascii_text}

-- nothing is found in an ASCII text
pub plain_string : (at : ℕ) (piece : List ℕ) → IsAscii piece → IsPlain at (record { kind = 0; piece = piece })
unfolding scalar_of
plain_string at piece low = rw (ascii_text piece low) refl

-- nor in any other
pub plain_text : (at : ℕ) (piece : List ℕ) → true ≡ is_utf8 piece → IsPlain at (record { kind = 0; piece = piece })
unfolding scalar_of
plain_text at piece e = rw (sym e) refl

-- null and the truth values have no bytes, and nothing is found in them
pub plain_literal : (at n : ℕ) (piece : List ℕ) → (n ≡ 0 → ⊥) → (n ≡ 1 → ⊥) → n ≤ 4 → length piece ≤ 0
    → IsPlain at (record { kind = n; piece = piece })
unfolding scalar_of
plain_literal at zero piece a b c e = absurd (a refl)
plain_literal at (suc zero) piece a b c e = absurd (b refl)
plain_literal at (suc (suc zero)) [] a b c e = refl
plain_literal at (suc (suc (suc zero))) [] a b c e = refl
plain_literal at (suc (suc (suc (suc zero)))) [] a b c e = refl
plain_literal at (suc (suc (suc (suc (suc n))))) piece a b c e = absurd (omega (arith, c))
plain_literal at (suc (suc zero)) (x ∷ piece) a b c e = absurd (omega (arith, e))
plain_literal at (suc (suc (suc zero))) (x ∷ piece) a b c e = absurd (omega (arith, e))
plain_literal at (suc (suc (suc (suc zero)))) (x ∷ piece) a b c e = absurd (omega (arith, e))

-- no container is a plain scalar
pub plain_other : (at : ℕ) (x : Item) → IsPlain at x → x.kind ≡ 5 → ⊥
unfolding scalar_of
plain_other at x plain five = none_some (sym (kind_five at x five) ∙ plain)
  where
    kind_five : (at : ℕ) (x : Item) → x.kind ≡ 5 → option_map scalar_found (scalar_of at x) ≡ None
    kind_five at x e = rw e refl

    none_some : ◌≡◌ {A = Option Found} None (Some nothing) → ⊥
    none_some e = absurd cc

-- an item is its kind and its piece
pub item_is : (n : ℕ) (piece : List ℕ) (x : Item) → n ≡ x.kind → piece ≡ x.piece → ◌≡◌ {A = Item} (record { kind = n; piece = piece }) x
item_is n piece x e f =
    ap (λ (k : ℕ). made k piece) e ∙ ap (made x.kind) f
  where
    made : ℕ → List ℕ → Item
    made k p = record { kind = k; piece = p }
