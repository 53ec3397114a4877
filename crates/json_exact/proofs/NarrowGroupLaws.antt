-- Whether a number is narrow shows at the first of its eleven groups and at the last two.
use Rattle.std.proofs.Common.{◌≡◌, ℕ, ◌+◌, ◌*◌, ◌/◌, ◌%◌, ◌^◌, ◌<◌, ◌≤◌, true, List, [], ◌∷◌, length, get_or, take, drop, refl, sym, ap, subst, ◌∙◌, arith, inl, inr, eqb, eqb-true, eq-eqb}
use Rattle.std.specs.Prelude.{◌↔◌}
use Rattle.json_model.specs.Decimal.{HasNarrowDigits}
use Rattle.json_exact.specs.Digits.{joined, AllBelow}
use Rattle.json_exact.specs.inner.LeadingDigits.{Keeps}
use Rattle.json_exact.specs.inner.LeadingDigitsLaws.{joined_below}
use Rattle.json_exact.proofs.DigitPlaceLaws.{drop_at, below_at}
use Rattle.json_exact.proofs.FieldLaws.{none_is}
use Rattle.json_model.proofs.DecimalLaws.{fours}
use Rattle.json_exact.proofs.NarrowLaws.{narrow_same, narrow_zeros, zeros_narrow}
use Rattle.json_exact.proofs.WholeLaws.{split, drop_length}

-- eleven groups as a number: the first and what is behind it, and the last two and what is before them
record Ends (gs : List ℕ) (j : ℕ) : Type 0 where
  behind : ℕ
  before : ℕ
  first : j ≡ get_or gs 0 0 * 10000 ^ 10 + behind
  small : behind < 10000 ^ 10
  last : j ≡ before * 100000000 + get_or gs 9 0 * 10000 + get_or gs 10 0
  below_9 : get_or gs 9 0 < 10000
  below_10 : get_or gs 10 0 < 10000

ends : (gs : List ℕ) → length gs ≡ 11 → AllBelow 10000 gs → Ends gs (joined 10000 gs)
ends [] c h = absurd (omega arith)
ends (g ∷ gs) c h =
    let len : length gs ≡ 10 = omega arith in
    record {
      behind = joined 10000 gs;
      before = joined 10000 (take 9 (g ∷ gs));
      first = ap (λ (k : ℕ). g * 10000 ^ k + joined 10000 gs) len;
      small = subst (λ (k : ℕ). joined 10000 gs < 10000 ^ k) len (joined_below 10000 gs h.1);
      last = split 10000 (omega arith) 9 2 (g ∷ gs) c ∙ ap (λ (x : ℕ). joined 10000 (take 9 (g ∷ gs)) * 10000 ^ 2 + x) two
          ∙ (let e : joined 10000 (take 9 (g ∷ gs)) * 10000 ^ 2 + (get_or (g ∷ gs) 9 0 * 10000 + get_or (g ∷ gs) 10 0) ≡ joined 10000
          (take 9 (g ∷ gs)) * 100000000 + get_or (g ∷ gs) 9 0 * 10000 + get_or (g ∷ gs) 10 0 = omega arith in e);
      below_9 = below_at 10000 (g ∷ gs) 9 (omega arith) h;
      below_10 = below_at 10000 (g ∷ gs) 10 (omega arith) h;
    }
  where
    none : (ds : List ℕ) → length ds ≡ 0 → joined 10000 ds ≡ 0
    none [] e = refl
    none (d ∷ ds) e = absurd (omega arith)

    two : joined 10000 (drop 9 (g ∷ gs)) ≡ get_or (g ∷ gs) 9 0 * 10000 + get_or (g ∷ gs) 10 0
    two =
        let l : length (drop 10 (g ∷ gs)) ≡ 1 = drop_length 10 1 (g ∷ gs) c in
        let m : length (drop 11 (g ∷ gs)) ≡ 0 = drop_length 11 0 (g ∷ gs) c in
        ap (λ (ds : List ℕ). joined 10000 ds) (drop_at (g ∷ gs) 9 (omega arith))
        ∙ ap (λ (k : ℕ). get_or (g ∷ gs) 9 0 * 10000 ^ k + joined 10000 (drop 10 (g ∷ gs))) l
        ∙ ap (λ (ds : List ℕ). get_or (g ∷ gs) 9 0 * 10000 + joined 10000 ds) (drop_at (g ∷ gs) 10 (omega arith))
        ∙ ap (λ (k : ℕ). get_or (g ∷ gs) 9 0 * 10000 + (get_or (g ∷ gs) 10 0 * 10000 ^ k + joined 10000 (drop 11 (g ∷ gs)))) m
        ∙ ap (λ (x : ℕ). get_or (g ∷ gs) 9 0 * 10000 + (get_or (g ∷ gs) 10 0 * 1 + x)) (none (drop 11 (g ∷ gs)) m)
        ∙ (let e : get_or (g ∷ gs) 9 0 * 10000 + (get_or (g ∷ gs) 10 0 * 1 + 0) ≡ get_or (g ∷ gs) 9 0 * 10000 + get_or (g ∷ gs) 10 0 = omega arith in
        e)

-- a number is as narrow as its first groups
kept_narrow : (gs : List ℕ) (len n : ℕ) → Keeps 10000 10 gs len n → HasNarrowDigits (joined 10000 gs) ↔ HasNarrowDigits n
kept_narrow gs len n h =
    let e : n * 10 ^ 44 ≡ joined 10000 gs * 10 ^ (4 * len) = h.size ∙ ap (λ (x : ℕ). joined 10000 gs * x) (fours len) in
    (narrow_same n (joined 10000 gs) 44 (4 * len) e, narrow_same (joined 10000 gs) n (4 * len) 44 (sym e))

-- where the first group has d digits, narrow is a multiple of 10 ^ (2 + d)
sized_narrow : (gs : List ℕ) (len n d : ℕ) → Keeps 10000 10 gs len n → 10 ^ (39 + d) ≤ joined 10000 gs → joined 10000 gs < 10 ^ (40 + d)
    → ((q : ℕ) × (joined 10000 gs ≡ q * 10 ^ (2 + d))) ↔ HasNarrowDigits n
sized_narrow gs len n d h lo hi =
    let k = kept_narrow gs len n h in
    (λ q. k.0 (narrow_zeros (joined 10000 gs) d hi q), λ a. zeros_narrow (joined 10000 gs) d lo (k.1 a))

pub one_digit : (gs : List ℕ) (len n : ℕ) → Keeps 10000 10 gs len n → get_or gs 0 0 < 10 → (eqb (get_or gs 10 0 % 1000) 0 ≡ true) ↔ HasNarrowDigits n
one_digit gs len n h lt = elim h.lead [
  | inl z ↦
      let n0 : n ≡ 0 = none_is 10000 10 (omega arith) gs n (subst (λ (k : ℕ). Keeps 10000 10 gs k n) z.0 h) in
      let l = e.last in
      let j = z.1 in
      (λ _. (0, 0, omega arith, omega arith), λ _. eq-eqb _ _ (omega arith))
  | inr z ↦
      let s = sized_narrow gs len n 1 h (omega (arith, z.1)) (let f = e.first in let g = e.small in omega arith) in
      let l = e.last in
      (λ t. s.0 (joined 10000 gs / 1000, (let t2 = eqb-true _ _ t in omega arith)), λ a. eq-eqb _ _ (let q = (s.1 a).1 in omega arith))
]
  where
    e : Ends gs (joined 10000 gs)
    e = ends gs h.count h.below

pub two_digits : (gs : List ℕ) (len n : ℕ) → Keeps 10000 10 gs len n → 10 ≤ get_or gs 0 0 → get_or gs 0 0 < 100
    → (eqb (get_or gs 10 0) 0 ≡ true) ↔ HasNarrowDigits n
two_digits gs len n h lo hi =
    let e = ends gs h.count h.below in
    let f = e.first in
    let g = e.small in
    let l = e.last in
    let b = e.below_10 in
    let s = sized_narrow gs len n 2 h (omega arith) (omega arith) in
    (λ t. s.0 (joined 10000 gs / 10000, (let t2 = eqb-true _ _ t in omega arith)), λ a. eq-eqb _ _ (let q = (s.1 a).1 in omega arith))

pub three_digits : (gs : List ℕ) (len n : ℕ) → Keeps 10000 10 gs len n → 100 ≤ get_or gs 0 0 → get_or gs 0 0 < 1000
    → ((get_or gs 10 0 ≡ 0) × (get_or gs 9 0 % 10 ≡ 0)) ↔ HasNarrowDigits n
three_digits gs len n h lo hi =
    let e = ends gs h.count h.below in
    let f = e.first in
    let g = e.small in
    let l = e.last in
    let b = e.below_10 in
    let s = sized_narrow gs len n 3 h (omega arith) (omega arith) in
    (λ t. s.0 (joined 10000 gs / 100000, (let t0 = t.0 in let t1 = t.1 in omega arith)), λ a. (let q = (s.1 a).1 in (omega arith, omega arith)))

pub four_digits : (gs : List ℕ) (len n : ℕ) → Keeps 10000 10 gs len n → 1000 ≤ get_or gs 0 0
    → ((get_or gs 10 0 ≡ 0) × (get_or gs 9 0 % 100 ≡ 0)) ↔ HasNarrowDigits n
four_digits gs len n h lo =
    let e = ends gs h.count h.below in
    let f = e.first in
    let g = e.small in
    let l = e.last in
    let b = e.below_10 in
    let hi = below_at 10000 gs 0 (omega arith) h.below in
    let s = sized_narrow gs len n 4 h (omega arith) (omega arith) in
    (λ t. s.0 (joined 10000 gs / 1000000, (let t0 = t.0 in let t1 = t.1 in omega arith)), λ a. (let q = (s.1 a).1 in (omega arith, omega arith)))
