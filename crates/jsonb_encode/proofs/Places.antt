-- The groups of a decimal, by their places, are the digits of its magnitude in base 10000.
use Rattle.std.proofs.Common.{◌≡◌, ℕ, zero, suc, ◌+◌, ◌-◌, ◌*◌, ◌/◌, ◌%◌, ◌^◌, ◌<◌, ◌≤◌, ◌⊎◌, List, [], ◌∷◌, ◌++◌, length, refl, sym, ap, subst, ◌∙◌, arith, inl, inr, ℤ, pos, negsuc, nat_abs, ◌-ℤ◌}
use Rattle.std.specs.Prelude.{◌+ℤ◌, ◌<ℤ◌}
use Rattle.std.proofs.Math.Nat.{pow-suc, mul-div_cancel, mul-mod_left, div-div-eq-div-mul}
use Rattle.std.proofs.lemmas.Nat.{pow-add, div_below}
use Rattle.std.proofs.lemmas.Bool.{cases_lt}
use Rattle.std.proofs.lemmas.Int.{ints}
use Rattle.std.proofs.lemmas.List.{length-append}
use Rattle.json_model.specs.Decimal.{Decimal}
use Rattle.json_exact.specs.DecimalGroups.{group, IsGreatestPlace, IsLeastPlace}
use Rattle.json_exact.specs.Digits.{spread}
use Rattle.json_exact.specs.Exact.{IsWorth}
use Rattle.json_model.proofs.DecimalLaws.{fours}
use Rattle.json_exact.proofs.GroupPlaceLaws.{group_lifted, group_under, same_quotient}
use Rattle.json_exact.proofs.WorthLaws.{worth_in_parts}
use Rattle.jsonb_encode.specs.Number.{fraction_groups, magnitude, groups}
use Rattle.jsonb_encode.specs.inner.Writing.{groups_down}
use Rattle.jsonb_encode.proofs.Digits.{base_pos, spread_last, Ends, all_digits, below_top}

-- n parts are a number of the last groups of the fraction digits, N
abbrev pub Scaled : ℕ → ℕ → ℕ → Type 0
Scaled n N F = (F ≤ 4096) × (n * 10 ≡ N * 10000 ^ (4096 - F))

-- the parts of a number
pub scaled : (d : ℤ) (w : Decimal) → IsWorth d w → w.places ≤ 16383 → Scaled (nat_abs d) (magnitude w) (fraction_groups w.places)
scaled d w worth le =
    let f = w.places in
    let F = fraction_groups f in
    let c = nat_abs w.digits in
    let i : suc (16383 - f) ≡ (4 * F - f) + 4 * (4096 - F) = omega arith in (
      omega arith,
      ap (λ (x : ℕ). x * 10) (worth_in_parts d w worth le)
          ∙ products c (10 ^ (16383 - f)) 10
          ∙ ap (λ (x : ℕ). c * x) (sym (pow-suc 10 (16383 - f)) ∙ ap (λ (k : ℕ). 10 ^ k) i ∙ pow-add 10 (4 * F - f) (4 * (4096 - F)))
          ∙ sym (products c (10 ^ (4 * F - f)) (10 ^ (4 * (4096 - F))))
          ∙ ap (λ (x : ℕ). c * 10 ^ (4 * F - f) * x) (sym (fours (4096 - F))),
    )
  where
    products : (x y z : ℕ) → x * y * z ≡ x * (y * z)
    products x y z = omega arith

-- the group at a place is a digit
pub digit : (p : ℤ) (i n N F : ℕ) → Scaled n N F → p +ℤ pos F ≡ pos i → N / 10000 ^ i % 10000 ≡ group p n
digit p i n N F s e =
    let j = i + (4096 - F) in
    let le = s.0 in
    let at : p +ℤ pos 4096 ≡ pos j = omega (arith, ints) in
    ap (λ (x : ℕ). x % 10000)
    (sym (same_quotient N (10000 ^ i) (10000 ^ (4096 - F)) (base_pos (4096 - F)))
    ∙ ap (λ (x : ℕ). N * 10000 ^ (4096 - F) / x) (sym (pow-add 10000 i (4096 - F)))
    ∙ ap (λ (x : ℕ). x / 10000 ^ j) (sym s.1))
    ∙ group_lifted p j n at

-- a place counts a digit, or is below all of them
pub counts : (p : ℤ) (F : ℕ) → ((i : ℕ) × (p +ℤ pos F ≡ pos i)) ⊎ ((p +ℤ pos F) <ℤ pos 0)
counts (pos p) F = inl (p + F, omega (arith, ints))
counts (negsuc p) F = elim (cases_lt p F) [
  | inl lt ↦ inl (F - suc p, omega (arith, ints))
  | inr ge ↦ inr (omega (arith, ints))
]

-- below the digits there are zeros
pub none_under : (p : ℤ) (n N F : ℕ) → Scaled n N F → (p +ℤ pos F) <ℤ pos 0 → group p n ≡ 0
none_under p n N F s lt = elim (counts p 4096) [
  | inr under ↦ sym (group_under p n under)
  | inl c ↦
      let j = c.0 in
      let e = c.1 in
      let le = s.0 in
      let i : 4096 - F ≡ suc (4096 - F - suc j) + j = omega (arith, ints) in
      let k = 4096 - F - suc j in
      sym (group_lifted p j n e)
      ∙ ap (λ (x : ℕ). x / 10000 ^ j % 10000)
      (s.1 ∙ ap (λ (m : ℕ). N * 10000 ^ m) i ∙ ap (λ (x : ℕ). N * x) (pow-add 10000 (suc k) j ∙ ap (λ (x : ℕ). x * 10000 ^ j) (pow-suc 10000 k))
      ∙ turned N (10000 ^ k) (10000 ^ j))
      ∙ ap (λ (x : ℕ). x % 10000) (mul-div_cancel (N * 10000 ^ k * 10000) (base_pos j))
      ∙ mul-mod_left (N * 10000 ^ k) 10000
]
  where
    turned : (a x y : ℕ) → a * (x * 10000 * y) ≡ a * x * 10000 * y
    turned a x y = omega arith

-- where the first and the last digit stand
pub record Spans (first last : ℤ) (n N F : ℕ) : Type 0 where
  pub top : ℕ
  pub z : ℕ
  pub first_is : first +ℤ pos F ≡ pos top
  pub last_is : last +ℤ pos F ≡ pos z
  pub ends : Ends N top z

pub spans : (first last : ℤ) (n N F : ℕ) → Scaled n N F → IsGreatestPlace n first → IsLeastPlace n last → Spans first last n N F
spans first last n N F s g l = elim (counts first F) [
  | inr under ↦ absurd (g.some (none_under first n N F s under))
  | inl a ↦ elim (counts last F) [
    | inr under ↦ absurd (l.some (none_under last n N F s under))
    | inl b ↦ record {
      top = a.0;
      z = b.0;
      first_is = a.1;
      last_is = b.1;
      ends = record {
        low = elim (cases_lt a.0 b.0) [
          | inr ge ↦ ge
          | inl lt ↦ absurd (g.some (below first a.0 last b.0 b.1 a.1 lt))
        ];
        above = λ i le. above i (pos i -ℤ pos F) a.0 a.1 le (omega (arith, ints));
        first = λ z. g.some (sym (digit first a.0 n N F s a.1) ∙ z);
        below = λ i lt. let p = pos i -ℤ pos F in let e : p +ℤ pos F ≡ pos i = omega (arith, ints) in digit p i n N F s e ∙ below p i last
            b.0 b.1 e lt;
        last = λ z. l.some (sym (digit last b.0 n N F s b.1) ∙ z);
      };
    }
  ]
]
  where
    below : (p : ℤ) (i : ℕ) (q : ℤ) (z : ℕ) → last +ℤ pos F ≡ pos z → p +ℤ pos F ≡ pos i → i < z → group p n ≡ 0
    below p i q z e f lt = l.none_below p (omega (arith, ints))

    above : (i : ℕ) (p : ℤ) (t : ℕ) → first +ℤ pos F ≡ pos t → suc t ≤ i → p +ℤ pos F ≡ pos i → N / 10000 ^ i % 10000 ≡ 0
    above i p t e le f = digit p i n N F s f ∙ g.none_above p (omega (arith, ints))

-- the groups from the first place downwards
pub run : (first : ℤ) (k top n N F : ℕ) → Scaled n N F → first +ℤ pos F ≡ pos top → k ≤ suc top → N < 10000 ^ suc top
    → groups_down first k n ≡ spread 10000 k (N / 10000 ^ (suc top - k))
run first zero top n N F s e le lt = refl
run first (suc k) top n N F s e le lt =
    let i = top - k in
    let x = N / 10000 ^ i in
    let j : suc top - suc k ≡ i = omega arith in
    let m : suc top - k ≡ suc i = omega arith in
    let at : (first -ℤ pos k) +ℤ pos F ≡ pos i = omega (arith, ints) in
    let more : x / 10000 ≡ N / 10000 ^ suc i = div-div-eq-div-mul N (10000 ^ i) 10000 ∙ ap (λ (p : ℕ). N / p) (sym (pow-suc 10000 i)) in
    let b : suc k + i ≡ suc top = omega arith in
    let small : x < 10000 ^ suc k = div_below N (10000 ^ i) (10000 ^ suc k) (base_pos i)
    (subst (λ (p : ℕ). N < p) (ap (λ (t : ℕ). 10000 ^ t) (sym b) ∙ pow-add 10000 (suc k) i) lt) in
    ap (λ (g : ℕ). groups_down first k n ++ g ∷ []) (sym (digit (first -ℤ pos k) i n N F s at))
    ∙ ap (λ (gs : List ℕ). gs ++ (x % 10000) ∷ [])
    (run first k top n N F s e (omega arith) lt ∙ ap (λ (t : ℕ). spread 10000 k (N / 10000 ^ t)) m ∙ ap (λ (y : ℕ). spread 10000 k y) (sym more))
    ∙ sym (spread_last k x small)
    ∙ ap (λ (t : ℕ). spread 10000 (suc k) (N / 10000 ^ t)) (sym j)

pub run_length : (first : ℤ) (k n : ℕ) → length (groups_down first k n) ≡ k
run_length first zero n = refl
run_length first (suc k) n = omega (arith, length-append (groups_down first k n) (group (first -ℤ pos k) n ∷ []), run_length first k n)

-- of a number that is not 0, the groups from the first to the last are all
pub all_groups : (first last : ℤ) (n : ℕ) (w : Decimal) (s : Scaled n (magnitude w) (fraction_groups w.places))
    (p : Spans first last n (magnitude w) (fraction_groups w.places)) (k : ℕ)
    → k ≡ suc p.top - p.z → groups_down first k n ≡ groups w
unfolding groups
all_groups first last n w s p k e =
    let N = magnitude w in
    let low = p.ends.low in
    let i : suc p.top - k ≡ p.z = omega arith in
    run first k p.top n N (fraction_groups w.places) s p.first_is (omega arith) (below_top N (suc p.top) p.ends.above)
    ∙ ap (λ (t : ℕ). spread 10000 k (N / 10000 ^ t)) i
    ∙ ap (λ (t : ℕ). spread 10000 t (N / 10000 ^ p.z)) e
    ∙ sym (all_digits N p.top p.z p.ends)
