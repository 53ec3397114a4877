-- How a vector's lanes are marked: 1 where the byte passes a test, else 0.
use Rattle.std.proofs.Common.{◌≡◌, ℕ, zero, suc, ◌+◌, ◌/◌, ◌%◌, ◌<◌, ◌≤◌, List, [], ◌∷◌, Bool, true, false, not, cond, leb, eqb, length, map, replicate, refl, ap, arith, Fits, w8}
use Rattle.std.specs.Simd.Lanes.{zip2, sel_l, Each1}
use Rattle.std.proofs.lemmas.Bool.{eqb-true, eqb-false}
use Rattle.bytecount.specs.Bytes.{begins_char}
use Rattle.bytecount.specs.Tallies.{mark}
use Rattle.bytecount.proofs.TallyLaws.{ge_cases}

-- 1 or 0 is chosen by a comparison of each lane with y
pub select-marks : (t : ℕ → ℕ → Bool) (y : ℕ) (bytes : List ℕ) (n : ℕ) → length bytes ≡ n
    → sel_l (zip2 t bytes (replicate n y)) (replicate n 1) (replicate n 0) ≡ map (mark (λ b. t b y)) bytes
select-marks t y [] zero e = refl
select-marks t y [] (suc n) e = absurd (omega arith)
select-marks t y (b ∷ bytes) zero e = absurd (omega arith)
select-marks t y (b ∷ bytes) (suc n) e = ap (λ marks. cond (t b y) 1 0 ∷ marks) (select-marks t y bytes n (omega arith))

not_two : (x : Bool) (b : ℕ) → eqb (b / 64) 2 ≡ x → b < 256 → 64 ≤ (b + 128) % 256 → true ≡ not x
not_two true b e lt far = absurd (omega (arith, eqb-true (b / 64) 2 e))
not_two false b e lt far = refl

is_two : (x : Bool) (b : ℕ) → eqb (b / 64) 2 ≡ x → b < 256 → (b + 128) % 256 < 64 → false ≡ not x
is_two true b e lt near = refl
is_two false b e lt near = absurd (eqb-false (b / 64) 2 e (omega arith))

-- a byte begins a code point where, 128 further round the circle of 256, it is 64 or more
turned-begins : (b : ℕ) → b < 256 → leb 64 ((b + 128) % 256) ≡ begins_char b
turned-begins b lt =
    ge_cases (λ x. x ≡ begins_char b) ((b + 128) % 256) 64 (not_two (eqb (b / 64) 2) b refl lt) (is_two (eqb (b / 64) 2) b refl lt)

-- 1 or 0 is chosen so
pub select-turned : (n : ℕ) (bytes : List ℕ) → Each1 (Fits w8) bytes → length bytes ≡ n
    → sel_l (zip2 leb (replicate n 64) (zip2 (λ a b. (a + b) % 256) bytes (replicate n 128))) (replicate n 1) (replicate n 0)
    ≡ map (mark begins_char) bytes
select-turned zero [] each e = refl
select-turned (suc n) [] each e = absurd (omega arith)
select-turned zero (b ∷ bytes) each e = absurd (omega arith)
select-turned (suc n) (b ∷ bytes) (h, each) e = λ i. cond (turned-begins b h.fits i) 1 0 ∷ select-turned n bytes each (omega arith) i
