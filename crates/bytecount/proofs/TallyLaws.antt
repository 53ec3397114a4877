-- Lanes that add up to how many bytes pass a test.
use Rattle.std.proofs.Common.{◌≡◌, ℕ, zero, suc, ◌+◌, ◌-◌, ◌<◌, ◌≤◌, List, [], ◌∷◌, ◌++◌, Bool, true, false, cond, leb, length, drop, map, replicate, refl, sym, ap, ◌∙◌, arith, Fits, w8, count_by}
use Rattle.std.specs.List.{range_with_len}
use Rattle.std.specs.Simd.Lanes.{zip2, sel_l, sum_l, Each1, Each2}
use Rattle.std.proofs.lemmas.Simd.{length-zip2, sum-zip2, Each1-zip2, Each1-replicate, Each2-of}
use Rattle.std.proofs.lemmas.List.{length-map, length-drop, length-append, length-replicate, drop-map}
use Rattle.std.proofs.lemmas.Bool.{leb-true, leb-false}
use Rattle.std.proofs.lemmas.List.Sums.{sum_by-cons, sum_by-append}
use Rattle.std.proofs.Math.Seq.{drop-nil}
use Rattle.bytecount.specs.Tallies.{mark, Tallies}

-- ---- marks
mark-le : (b : Bool) → cond {A = ℕ} b 1 0 ≤ 1
mark-le true = omega arith
mark-le false = omega arith

marks-le : (p : ℕ → Bool) (bytes : List ℕ) → Each1 (λ lane. lane ≤ 1) (map (mark p) bytes)
marks-le p [] = tt
marks-le p (b ∷ bytes) = (mark-le (p b), marks-le p bytes)

sum-marks : (p : ℕ → Bool) (bytes : List ℕ) → sum_l (map (mark p) bytes) ≡ count_by p bytes
sum-marks p [] = refl
sum-marks p (b ∷ bytes) = ap (λ n. mark p b + n) (sum-marks p bytes) ∙ sym (sum_by-cons (mark p) b bytes)

sum-marks_drop : (p : ℕ → Bool) (k : ℕ) (bytes : List ℕ) → sum_l (drop k (map (mark p) bytes)) ≡ count_by p (drop k bytes)
sum-marks_drop p k bytes = ap sum_l (drop-map (mark p) k bytes) ∙ sum-marks p (drop k bytes)

-- the marks of as many bytes as there are lanes
pub Tallies-marks : {n : ℕ} (p : ℕ → Bool) (bytes : List ℕ) → length bytes ≡ n → Tallies p n 1 bytes (map (mark p) bytes)
Tallies-marks p bytes e = record {
  long = length-map bytes (mark p) ∙ e;
  each = marks-le p bytes;
  total = sum-marks p bytes;
}

-- ---- sums of lanes
sum-zeros : (n : ℕ) → sum_l (replicate n 0) ≡ 0
sum-zeros zero = refl
sum-zeros (suc n) = omega (arith, sum-zeros n)

zeros-le : (most n : ℕ) → Each1 (λ lane. lane ≤ most) (replicate n 0)
zeros-le most n = Each1-replicate (λ lane. lane ≤ most) n 0 (omega arith)

-- no byte was looked at
pub Tallies-none : (p : ℕ → Bool) (n : ℕ) → Tallies p n 0 [] (replicate n 0)
Tallies-none p n = record { long = length-replicate n 0; each = zeros-le 0 n; total = sum-zeros n }

module _ {p : ℕ → Bool} {n k m : ℕ} {bs vs cs ws : List ℕ} where
  -- the lanes of two parts, added: no lane of the sum passes 255 where the two limits together do not
  pub Tallies-fit : Tallies p n k bs vs → Tallies p n m cs ws → k + m < 256 → Each2 (λ a b. Fits w8 (a + b)) vs ws
  Tallies-fit s t lt =
      Each2-of (λ a. a ≤ k) (λ a. a ≤ m) (λ a b. Fits w8 (a + b)) (λ a b ha hb. record { fits = omega arith }) vs ws s.each t.each

  pub Tallies-both : Tallies p n k bs vs → Tallies p n m cs ws → Tallies p n (k + m) (bs ++ cs) (zip2 (λ a b. a + b) vs ws)
  Tallies-both s t =
      let same : length vs ≡ length ws = s.long ∙ sym t.long in
      let within = Each2-of (λ a. a ≤ k) (λ a. a ≤ m) (λ a b. a + b ≤ k + m) (λ a b ha hb. omega arith) vs ws s.each t.each in
      let parts : sum_l vs + sum_l ws ≡ count_by p bs + count_by p cs = omega (arith, s.total, t.total) in
      record {
        long = length-zip2 (λ a b. a + b) vs ws same ∙ s.long;
        each = Each1-zip2 (λ a b. a + b) (λ a. a ≤ k + m) vs ws within;
        total = sum-zip2 vs ws same ∙ parts ∙ sym (sum_by-append (mark p) bs cs);
      }

-- ---- the last lanes alone
ge_by : (P : Bool → Type 0) (x : Bool) (a b : ℕ) → leb b a ≡ x → (b ≤ a → P true) → (a < b → P false) → P x
ge_by P true a b e ge lt = ge (leb-true b a e)
ge_by P false a b e ge lt = lt (leb-false b a e)

-- a fact of a comparison, by its two cases
pub ge_cases : (P : Bool → Type 0) (a b : ℕ) → (b ≤ a → P true) → (a < b → P false) → P (leb b a)
ge_cases P a b ge lt = ge_by P (leb b a) a b refl ge lt

-- n lanes numbered from a on, those below `from` made 0
abbrev kept : ℕ → ℕ → ℕ → List ℕ → List ℕ
kept from a n lanes = sel_l (zip2 leb (replicate n from) (range_with_len a n)) lanes (replicate n 0)

sum-kept : (from a n : ℕ) (lanes : List ℕ) → length lanes ≡ n → sum_l (kept from a n lanes) ≡ sum_l (drop (from - a) lanes)
sum-kept from a zero [] e = ap sum_l (sym (drop-nil (from - a)))
sum-kept from a zero (x ∷ xs) e = absurd (omega arith)
sum-kept from a (suc n) [] e = absurd (omega arith)
sum-kept from a (suc n) (x ∷ xs) e =
    let rest = kept from (a + 1) n xs in
    let sums : sum_l rest ≡ sum_l (drop (from - (a + 1)) xs) = sum-kept from (a + 1) n xs (omega arith) in
    ge_cases (λ b. cond b x 0 + sum_l rest ≡ sum_l (drop (from - a) (x ∷ xs))) a from
    (λ le.
    let here : from - a ≡ 0 = omega arith in
    let next : from - (a + 1) ≡ 0 = omega arith in
    ap (λ m. x + m) (sums ∙ ap (λ k. sum_l (drop k xs)) next) ∙ sym (ap (λ k. sum_l (drop k (x ∷ xs))) here))
    (λ lt.
    let here : from - a ≡ suc (from - (a + 1)) = omega arith in
    let left : 0 + sum_l rest ≡ sum_l (drop (from - (a + 1)) xs) = omega (arith, sums) in
    left ∙ sym (ap (λ k. sum_l (drop k (x ∷ xs))) here))

kept-length : (from a n : ℕ) (lanes : List ℕ) → length lanes ≡ n → length (kept from a n lanes) ≡ n
kept-length from a zero [] e = refl
kept-length from a zero (x ∷ xs) e = absurd (omega arith)
kept-length from a (suc n) [] e = absurd (omega arith)
kept-length from a (suc n) (x ∷ xs) e = ap suc (kept-length from (a + 1) n xs (omega arith))

select-le : (ms : List Bool) (k : ℕ) (xs ys : List ℕ) → Each1 (λ a. a ≤ k) xs → Each1 (λ a. a ≤ k) ys → Each1 (λ a. a ≤ k) (sel_l ms xs ys)
select-le [] k xs ys hx hy = tt
select-le (m ∷ ms) k [] ys hx hy = tt
select-le (m ∷ ms) k (x ∷ xs) [] hx hy = tt
select-le (true ∷ ms) k (x ∷ xs) (y ∷ ys) (hx, hxs) (hy, hys) = (hx, select-le ms k xs ys hxs hys)
select-le (false ∷ ms) k (x ∷ xs) (y ∷ ys) (hx, hxs) (hy, hys) = (hy, select-le ms k xs ys hxs hys)

-- the marks of n bytes, all but the last `size` of them made 0 by a mask
pub Tallies-kept : (p : ℕ → Bool) (n size : ℕ) (bytes : List ℕ) → length bytes ≡ n
    → Tallies p n 1 (drop (n - size) bytes)
    (sel_l (zip2 leb (replicate n (n - size)) (range_with_len 0 n)) (map (mark p) bytes) (replicate n 0))
Tallies-kept p n size bytes e =
    let marks = map (mark p) bytes in
    let long : length marks ≡ n = length-map bytes (mark p) ∙ e in
    let all : n - size - 0 ≡ n - size = omega arith in
    record {
      long = kept-length (n - size) 0 n marks long;
      each = select-le _ 1 marks (replicate n 0) (marks-le p bytes) (zeros-le 1 n);
      total = sum-kept (n - size) 0 n marks long ∙ ap (λ k. sum_l (drop k marks)) all ∙ sum-marks_drop p (n - size) bytes;
    }

drop-le : (k : ℕ) (lanes : List ℕ) → Each1 (λ a. a ≤ 1) lanes → Each1 (λ a. a ≤ 1) (drop k lanes)
drop-le zero lanes each = each
drop-le (suc k) [] each = tt
drop-le (suc k) (x ∷ xs) (le, each) = drop-le k xs each

append-le : (xs ys : List ℕ) → Each1 (λ a. a ≤ 1) xs → Each1 (λ a. a ≤ 1) ys → Each1 (λ a. a ≤ 1) (xs ++ ys)
append-le [] ys hx hy = hy
append-le (x ∷ xs) ys (le, hx) hy = (le, append-le xs ys hx hy)

sum-append : (xs ys : List ℕ) → sum_l (xs ++ ys) ≡ sum_l xs + sum_l ys
sum-append [] ys = omega arith
sum-append (x ∷ xs) ys = omega (arith, sum-append xs ys)

-- the marks of n bytes, moved down by k lanes, and zeros behind them
pub Tallies-moved : (p : ℕ → Bool) (n k : ℕ) (bytes : List ℕ) → length bytes ≡ n → k ≤ n
    → Tallies p n 1 (drop k bytes) (drop k (map (mark p) bytes) ++ replicate k 0)
Tallies-moved p n k bytes e le =
    let marks = map (mark p) bytes in
    let zeros = replicate k 0 in
    record {
      long = omega (arith, length-append (drop k marks) zeros, length-drop k marks, length-map bytes (mark p), e, length-replicate {A = ℕ} k 0);
      each = append-le (drop k marks) zeros (drop-le k marks (marks-le p bytes)) (zeros-le 1 k);
      total = omega (arith, sum-append (drop k marks) zeros, sum-zeros k, sum-marks_drop p k bytes);
    }
