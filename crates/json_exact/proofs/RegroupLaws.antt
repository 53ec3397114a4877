-- Digits that are read one after another, and in groups of four.
use Rattle.std.proofs.Common.{◌≡◌, ℕ, zero, suc, ◌+◌, ◌-◌, ◌*◌, ◌/◌, ◌%◌, ◌^◌, ◌<◌, List, [], ◌∷◌, length, get_or, refl, sym, ap, subst, ◌∙◌, arith}
use Rattle.std.proofs.Math.Nat.{pow-suc}
use Rattle.std.proofs.lemmas.Nat.{pow-add}
use Rattle.json_exact.specs.Digits.{joined}
use Rattle.json_model.specs.Decimal.{HasNarrowDigits}
use Rattle.json_exact.specs.inner.LeadingDigits.{Keeps}
use Rattle.json_exact.specs.inner.LeadingDigitsLaws.{joined_small}
use Rattle.json_exact.proofs.DigitLaws.{ten_mono, factor_last}
use Rattle.json_model.proofs.DecimalLaws.{fours}
use Rattle.json_exact.proofs.NarrowLaws.{narrow_more}

-- the number that the first k digits behind n make, zeros behind the last
abbrev pub read : ℕ → List ℕ → ℕ → ℕ
read n ds zero = n
read n [] (suc k) = read (n * 10) [] k
read n (d ∷ ds) (suc k) = read (n * 10 + d) ds k

-- one digit more
pub read_step : (n : ℕ) (ds : List ℕ) (k : ℕ) → read n ds (suc k) ≡ read n ds k * 10 + get_or ds k 0
read_step n [] zero = omega arith
read_step n [] (suc k) = read_step (n * 10) [] k
read_step n (d ∷ ds) zero = refl
read_step n (d ∷ ds) (suc k) = read_step (n * 10 + d) ds k

read_zeros : (n k : ℕ) → read n [] k ≡ n * 10 ^ k
read_zeros n zero = omega arith
read_zeros n (suc k) = read_zeros (n * 10) k ∙ (let e = pow-suc 10 k in turned n (10 ^ k) ∙ ap (λ (x : ℕ). n * x) (sym e))
  where
    turned : (n p : ℕ) → n * 10 * p ≡ n * (p * 10)
    turned n p = omega arith

-- all digits, and zeros
pub read_all : (n : ℕ) (ds : List ℕ) (k : ℕ) → read n ds (length ds + k) ≡ (n * 10 ^ length ds + joined 10 ds) * 10 ^ k
read_all n [] k =
    ap (λ (i : ℕ). read n [] i) (let i : 0 + k ≡ k = omega arith in i) ∙ read_zeros n k
    ∙ ap (λ (x : ℕ). x * 10 ^ k) (let e : n ≡ n * 1 + 0 = omega arith in e)
read_all n (d ∷ ds) k =
    ap (λ (i : ℕ). read n (d ∷ ds) i) (let i : length (d ∷ ds) + k ≡ suc (length ds + k) = omega arith in i)
    ∙ read_all (n * 10 + d) ds k
    ∙ ap (λ (x : ℕ). x * 10 ^ k) (step n d (10 ^ length ds) (10 ^ suc (length ds)) (joined 10 ds) (pow-suc 10 (length ds)))
  where
    step : (n d u w j : ℕ) → w ≡ u * 10 → (n * 10 + d) * u + j ≡ n * w + (d * u + j)
    step n d u w j e = rw e (omega arith)

-- a group that is not full takes one digit more
pub filling : (g f d : ℕ) → f < 4 → g < 10 ^ f → d < 10 → (g * 10 + d < 10000) × (g * 10 + d < 10 ^ (f + 1))
filling g f d few below lt =
    let m = ten_mono f 3 (omega arith) in
    let e : 10 ^ (f + 1) ≡ 10 ^ f * 10 = pow-add 10 f 1 in
    (omega arith, omega arith)

-- n are whole groups, and g what is behind them, with `f` digits
pub one_digit : (n g f d : ℕ) (ds : List ℕ) (k : ℕ) → n * 10 ^ f + g ≡ read 0 ds k → d ≡ get_or ds k 0
    → n * 10 ^ (f + 1) + (g * 10 + d) ≡ read 0 ds (k + 1)
one_digit n g f d ds k e h =
    let i : k + 1 ≡ suc k = omega arith in
    step n g d (10 ^ f) (10 ^ (f + 1)) (get_or ds k 0) (read 0 ds k) (pow-add 10 f 1) e h ∙ sym (read_step 0 ds k)
    ∙ ap (λ (j : ℕ). read 0 ds j) (sym i)
  where
    step : (n g d p q t r : ℕ) → q ≡ p * 10 → n * p + g ≡ r → d ≡ t → n * q + (g * 10 + d) ≡ r * 10 + t
    step n g d p q t r a b c = rw (a, c, sym b) (omega arith)

pub full_group : (n g f d : ℕ) (ds : List ℕ) (k : ℕ) → f + 1 ≡ 4 → n * 10 ^ f + g ≡ read 0 ds k → d ≡ get_or ds k 0
    → (n * 10000 + (g * 10 + d)) * 10 ^ 0 + 0 ≡ read 0 ds (k + 1)
full_group n g f d ds k full e h =
    let x = one_digit n g f d ds k e h in
    let y : n * 10 ^ (f + 1) ≡ n * 10000 = ap (λ (i : ℕ). n * 10 ^ i) full in
    (let z : (n * 10000 + (g * 10 + d)) * 10 ^ 0 + 0 ≡ n * 10 ^ (f + 1) + (g * 10 + d) = omega arith in z) ∙ x

-- all digits were read, and no group is open
pub all_read : (n g f p i k : ℕ) (ds : List ℕ) → length ds ≡ 38 → p < 4 → i ≡ 44 - p → f < 4 → p + i ≡ 4 * k + f → g < 10 ^ f
    → n * 10 ^ f + g ≡ read 0 ds i → n ≡ joined 10 ds * 10 ^ (6 - p)
all_read n g f p i k ds len lt e few whole below h =
    let f0 : f ≡ 0 = omega arith in
    let g0 : g < 10 ^ 0 = subst (λ (j : ℕ). g < 10 ^ j) f0 below in
    let a : n * 10 ^ 0 + g ≡ read 0 ds i = subst (λ (j : ℕ). n * 10 ^ j + g ≡ read 0 ds i) f0 h in
    let b : i ≡ length ds + (6 - p) = omega arith in
    (let z : n ≡ n * 10 ^ 0 + g = omega arith in z) ∙ a ∙ ap (λ (j : ℕ). read 0 ds j) b ∙ read_all 0 ds (6 - p)
    ∙ ap (λ (x : ℕ). x * 10 ^ (6 - p)) (none (10 ^ length ds) (joined 10 ds))
  where
    none : (u j : ℕ) → 0 * u + j ≡ j
    none u j = omega arith

-- the zeros that fill the first group, where ten times the number has `count` digits
pub padded : (count p : ℕ) → p ≡ (4 - count % 4) % 4 → 4 * ((count + p) / 4) ≡ count + p
padded count p e = omega arith

-- the groups of digits, moved by whole groups, are ten times the number that the digits make, moved
pub regrouped_is : (ds : List ℕ) (len n up p t : ℕ) → Keeps 10 37 ds len n → p < 4 → 4 * t ≡ len + up + 1 + p
    → joined 10 ds * 10 ^ (6 - p) * 10000 ^ t ≡ n * 10 ^ up * 10 * 10000 ^ 11
regrouped_is ds len n up p t h lt e =
    factor_last (joined 10 ds) (10 ^ (6 - p)) (10000 ^ t)
    ∙ ap (λ (x : ℕ). joined 10 ds * x)
    (ap (λ (x : ℕ). 10 ^ (6 - p) * x) (fours t) ∙ sym (pow-add 10 (6 - p) (4 * t))
    ∙ ap (λ (k : ℕ). 10 ^ k) (let i : 6 - p + 4 * t ≡ len + (up + 7) = omega arith in i) ∙ pow-add 10 len (up + 7))
    ∙ sym (factor_last (joined 10 ds) (10 ^ len) (10 ^ (up + 7)))
    ∙ ap (λ (x : ℕ). x * 10 ^ (up + 7)) (sym h.size)
    ∙ ap (λ (x : ℕ). n * 10 ^ 38 * x) (pow-add 10 up 7)
    ∙ last n (10 ^ up)
  where
    last : (n u : ℕ) → n * 10 ^ 38 * (u * 10 ^ 7) ≡ n * u * 10 * 10000 ^ 11
    last n u = omega arith

pub regrouped_narrow : (ds : List ℕ) (len n p : ℕ) → Keeps 10 37 ds len n → HasNarrowDigits (joined 10 ds * 10 ^ (6 - p))
regrouped_narrow ds len n p h = narrow_more (joined 10 ds) (6 - p) (0, joined 10 ds, omega arith, joined_small 10 37 (omega arith) ds len n h)
