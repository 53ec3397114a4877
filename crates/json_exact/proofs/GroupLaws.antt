-- What groups are worth.
use Rattle.std.proofs.Common.{◌≡◌, ℕ, suc, ◌+◌, ◌*◌, ◌/◌, ◌^◌, Bool, true, false, List, [], ◌∷◌, length, refl, sym, ap, ◌∙◌, arith, ℤ, w16, to_z, of_z}
use mir.Val.{SFits}
use Rattle.std.proofs.lemmas.Int.{to_z-of_z}
use Rattle.std.proofs.Math.Nat.{pow-suc}
use Rattle.std.proofs.lemmas.Nat.{pow-add}
use native.Mathlib.Numerals.{unary_clauses}
use Rattle.json_model.specs.Decimal.{HasNarrowDigits}
use Rattle.json_model.proofs.DecimalLaws.{fours}
use Rattle.json_exact.specs.Exact.{parts}
use Rattle.json_exact.specs.Digits.{joined}
use Rattle.json_exact.specs.Groups.{groups_of, lifted, AreGroups, AreWorth}
use Rattle.json_exact.specs.inner.SignificantDigits.{Pushed, kept, lost}

pub many : (bytes : List ℕ) → AreGroups bytes → length (groups_of bytes) ≡ length bytes / 2
many [] h = refl
many (low ∷ []) h = absurd h
many (low ∷ high ∷ bytes) h = let m = many bytes h.1 in omega arith

-- the number that more digits behind n make
abbrev pub after : ℕ → ℕ → List ℕ → ℕ
after b n [] = n
after b n (d ∷ ds) = after b (n * b + d) ds

-- digits behind n make n times a power of the base, and what they are joined
pub after_is : (b n : ℕ) (ds : List ℕ) → after b n ds ≡ n * b ^ length ds + joined b ds
after_is b n [] = let e : b ^ 0 ≡ 1 = simp unary_clauses in rw e (omega arith)
after_is b n (d ∷ ds) = after_is b (n * b + d) ds ∙ step n b d (b ^ length ds) (b ^ suc (length ds)) (joined b ds) (pow-suc b (length ds))
  where
    step : (n b d u w j : ℕ) → w ≡ u * b → (n * b + d) * u + j ≡ n * w + (d * u + j)
    step n b d u w j e = rw e (omega arith)

pub after_zero : (b : ℕ) (ds : List ℕ) → after b 0 ds ≡ joined b ds
after_zero b ds = after_is b 0 ds ∙ none (b ^ length ds) (joined b ds)
  where
    none : (u j : ℕ) → 0 * u + j ≡ j
    none u j = omega arith

-- 4096 groups are one digit more than the parts have
pub whole_groups : 10000 ^ 4096 ≡ 10 ^ 16383 * 10
whole_groups = fours 4096 ∙ pow-add 10 16383 1

-- what is worth q parts is q and a 0, moved by groups
pub worth : (weight : ℤ) (bytes : List ℕ) (lift q : ℕ) → AreGroups bytes → lift ≡ lifted weight → AreWorth weight (groups_of bytes) q
    → joined 10000 (groups_of bytes) * 10000 ^ (lift + 1 + 4096) ≡ q * 10 * 10000 ^ (length bytes / 2 + 2 ^ 15)
unfolding parts
worth weight bytes lift q h e w =
    ap (λ (x : ℕ). joined 10000 (groups_of bytes) * x) (pow-add 10000 (lift + 1) 4096 ∙ ap (λ (x : ℕ). 10000 ^ (lift + 1) * x) whole_groups)
    ∙ products (joined 10000 (groups_of bytes)) (10000 ^ (lift + 1)) (10 ^ 16383)
    ∙ ap (λ (k : ℕ). 10 ^ 16383 * (joined 10000 (groups_of bytes) * 10000 ^ (k + 1)) * 10) e
    ∙ ap (λ (x : ℕ). x * 10) (sym w)
    ∙ turned q (10000 ^ (length (groups_of bytes) + 2 ^ 15))
    ∙ ap (λ (k : ℕ). q * 10 * 10000 ^ (k + 2 ^ 15)) (many bytes h)
  where
    products : (n x p : ℕ) → n * (x * (p * 10)) ≡ p * (n * x) * 10
    products n x p = omega arith

    turned : (q p : ℕ) → q * p * 10 ≡ q * 10 * p
    turned q p = omega arith

pub not_narrow : {b more : ℕ} (ds : List ℕ) (len n : ℕ) (w : Bool) → Pushed b more ds len w n → w ≡ true → HasNarrowDigits n → ⊥
not_narrow ds len n false (kept h rest) e = absurd cc
not_narrow ds len n true (lost h) e = h.wide

pub not_wide : {b more : ℕ} (ds : List ℕ) (len n : ℕ) (w : Bool) → Pushed b more ds len w n → HasNarrowDigits n → w ≡ false
not_wide ds len n false h narrow = refl
not_wide ds len n true (lost h) narrow = absurd (h.wide narrow)

-- a lift of a 16-bit number is that of the integer
pub lifts : (l : ℕ) (w : ℤ) → SFits w16 w → l ≡ lifted (to_z w16 (of_z w16 w)) → l ≡ lifted w
lifts l w h e = e ∙ ap lifted (to_z-of_z w16 w h)
