-- What is read of a stored value's header is what the table says.
use Rattle.std.proofs.Common.{◌≡◌, ℕ, zero, suc, ◌/◌, ◌%◌, ◌≤◌, Bool, true, false, eqb, leb, List, [], ◌∷◌, length, take, slice_range, Ok, Err, refl, arith, inl, inr, ◌&&◌, if◌then◌else◌}
use Rattle.std.specs.Int.{w32, from_le_bytes}
use Rattle.std.proofs.lemmas.Bool.{eqb-true, eq-eqb, leb-true, le-leb}
use Rattle.jsonb_encode.specs.Varlena.{IsBehind, IsStripped}
use Rattle.jsonb_encode.specs.declared.varlena.VarlenaError.TheVariants.{External, Compressed, Short}
use Rattle.jsonb_encode.specs.inner.Varlena.{behind_header, stripped}

not_equal : (n k : ℕ) → eqb n k ≡ false → n ≡ k → ⊥
not_equal n k e h = let t : eqb n k ≡ true = eq-eqb n k h in cc

not_below : (n k : ℕ) → leb n k ≡ false → n ≤ k → ⊥
not_below n k e h = let t : leb n k ≡ true = le-leb n k h in cc

behind_is : (header size : ℕ) (bytes : List ℕ) → IsBehind header size bytes (behind_header header size bytes)
behind_is header size bytes = go (leb header (length bytes)) (leb header size) (leb size (length bytes)) refl refl refl
  where
    go : (a b c : Bool) → leb header (length bytes) ≡ a → leb header size ≡ b → leb size (length bytes) ≡ c
        → IsBehind header size bytes (if a && b && c then Ok (slice_range bytes header size) else Err Short)
    go true true true x y z = (leb-true header size y, leb-true size (length bytes) z, refl)
    go true true false x y z = (refl, λ h k. not_below size (length bytes) z k)
    go true false c x y z = (refl, λ h k. not_below header size y h)
    go false b c x y z = (refl, λ h k. not_below header (length bytes) x (omega (arith, h, k)))

-- the two lowest bits that are left
both_zero : (n : ℕ) → eqb (n % 2) 1 ≡ false → eqb (n % 4) 2 ≡ false → n % 4 ≡ 0
both_zero n y z = go (n % 4) refl
  where
    go : (r : ℕ) → n % 4 ≡ r → n % 4 ≡ 0
    go zero e = e
    go (suc zero) e = absurd (not_equal (n % 2) 1 y (omega arith))
    go (suc (suc zero)) e = absurd (not_equal (n % 4) 2 z e)
    go (suc (suc (suc zero))) e = absurd (not_equal (n % 2) 1 y (omega arith))
    go (suc (suc (suc (suc r)))) e = absurd (omega arith)

-- what is read is what the table says
pub stripped_is : (bytes : List ℕ) → IsStripped bytes (stripped bytes)
unfolding stripped
stripped_is [] = refl
stripped_is (first ∷ rest) = go (eqb first 1) (eqb (first % 2) 1) (eqb (first % 4) 2) refl refl refl
  where
    go : (a b c : Bool) → eqb first 1 ≡ a → eqb (first % 2) 1 ≡ b → eqb (first % 4) 2 ≡ c
        → IsStripped (first ∷ rest) (if a then Err External else (if b then behind_header 1 (first / 2) (first ∷ rest)
        else (if c then Err Compressed else behind_header 4 (from_le_bytes w32 (take 4 (first ∷ rest)) / 4) (first ∷ rest))))
    go true b c x y z = inl (eqb-true first 1 x, refl)
    go false true c x y z =
        inr (inl ((eqb-true (first % 2) 1 y, not_equal first 1 x), behind_is 1 (first / 2) (first ∷ rest)))
    go false false true x y z = inr (inr (inl (eqb-true (first % 4) 2 z, refl)))
    go false false false x y z =
        inr (inr (inr (both_zero first y z, behind_is 4 (from_le_bytes w32 (take 4 (first ∷ rest)) / 4) (first ∷ rest))))
