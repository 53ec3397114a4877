-- The fields that significant digits make.
use Rattle.std.proofs.Common.{◌≡◌, ℕ, zero, suc, ◌+◌, ◌-◌, ◌*◌, ◌^◌, ◌<◌, ◌≤◌, Bool, true, false, List, refl, sym, ap, subst, ◌∙◌, arith, inl, inr, pos}
use Rattle.std.proofs.Math.Nat.{mul-lt-mul_of_pos_right, eq_of_mul-eq-mul_right}
use Rattle.std.proofs.lemmas.Nat.{pow-add}
use Rattle.std.proofs.lemmas.Bool.{cases_lt}
use native.Mathlib.Numerals.{unary_clauses}
use Rattle.json_model.specs.Decimal.{HasNarrowDigits, signed}
use Rattle.json_exact.specs.Digits.{joined}
use Rattle.json_exact.specs.inner.LeadingDigits.{Keeps}
use Rattle.json_exact.specs.inner.LeadingDigitsLaws.{power_pos, below_len, from_len}
use Rattle.json_exact.specs.inner.DecimalFields.{parts_of, IsFields}
use Rattle.json_exact.specs.inner.DecimalInverseLaws.{size_is}
use Rattle.json_exact.specs.inner.SignificantDigits.{Pushed, kept, lost}
use Rattle.json_exact.proofs.DigitLaws.{power_mono, none_of, above_of, factor_last}
use Rattle.json_model.proofs.DecimalLaws.{fours}
use Rattle.json_exact.proofs.NarrowLaws.{narrow_same}

pub keeps_of : {b more : ℕ} (ds : List ℕ) (len : ℕ) (w : Bool) (n : ℕ) → Pushed b more ds len w n → w ≡ false → Keeps b more ds len n
keeps_of ds len false n (kept h rest) e = h
keeps_of ds len true n (lost h) e = absurd cc

module _ (b more : ℕ) (two : 1 < b) where
  pub none_is : (ds : List ℕ) (n : ℕ) → Keeps b more ds 0 n → n ≡ 0
  none_is ds n h = let l = below_len b more two ds 0 n h in let e : b ^ 0 ≡ 1 = simp unary_clauses in omega arith

  pub some_is : (ds : List ℕ) (len n : ℕ) → 0 < len → Keeps b more ds len n → 0 < n
  some_is ds zero n some h = absurd (omega arith)
  some_is ds (suc under) n some h = let l = from_len b more two ds under n h in let p = power_pos b under (omega arith) in omega arith

  -- q is n moved up by some digits and down by others; it has no digits that are cut off
  pub under : (ds : List ℕ) (len n up down q : ℕ) → 0 < len → Keeps b more ds len n → n * b ^ up ≡ q * b ^ down → down < len + up
  under ds len n up down q some h e = elim (cases_lt down (len + up)) [
    | inl lt ↦ lt
    | inr ge ↦ absurd (
        let p : 0 < q * b ^ down = subst (λ (x : ℕ). 0 < x) e (above_of n (b ^ up) (some_is ds len n some h) (power_pos b up (omega arith))) in
        let l : n * b ^ up < b ^ len * b ^ up = mul-lt-mul_of_pos_right (below_len b more two ds len n h) (power_pos b up (omega arith)) in
        let m : b ^ (len + up) ≤ b ^ down = power_mono b (len + up) down (omega arith) ge in
        let s = pow-add b len up in
        let g = at_least q (b ^ down) p in
        omega arith)
  ]
    where
      at_least : (q u : ℕ) → 0 < q * u → u ≤ q * u
      at_least zero u h = absurd (omega arith)
      at_least (suc q) u h = omega arith

  -- and the same first digits
  pub moved : (ds : List ℕ) (len n up down q : ℕ) → 0 < len → Keeps b more ds len n → n * b ^ up ≡ q * b ^ down → Keeps b more ds (len + up - down) q
  moved ds len n up down q some h e =
      let lt = under ds len n up down q some h e in
      let i : len + up - down + down ≡ len + up = omega arith in
      let g : b ^ (len + up) ≡ b ^ (len + up - down) * b ^ down = ap (λ (k : ℕ). b ^ k) (sym i) ∙ pow-add b (len + up - down) down in
      record {
        count = h.count;
        below = h.below;
        size = eq_of_mul-eq-mul_right (b ^ down) (power_pos b down (omega arith)) (q * b ^ suc more) (joined b ds * b ^ (len + up - down))
            (turn n q (joined b ds) (b ^ up) (b ^ down) (b ^ suc more) (b ^ len) e h.size
            ∙ ap (λ (x : ℕ). joined b ds * x) (sym (pow-add b len up) ∙ g) ∙ sym (factor_last (joined b ds) (b ^ (len + up - down)) (b ^ down)));
        lead = elim h.lead [ inl z ↦ absurd (let t = z.0 in omega arith) | inr z ↦ inr (omega arith, z.1) ];
      }
    where
      turn : (n q j u d a l : ℕ) → n * u ≡ q * d → n * a ≡ j * l → q * a * d ≡ j * (l * u)
      turn n q j u d a l e f =
          let x : n * u * a ≡ q * d * a = ap (λ (x : ℕ). x * a) e in
          let y : n * a * u ≡ j * l * u = ap (λ (x : ℕ). x * u) f in
          omega arith

-- what is moved by whole groups is as narrow
pub narrow_moved : (n q up down : ℕ) → n * 10000 ^ up ≡ q * 10 * 10000 ^ down → HasNarrowDigits n → HasNarrowDigits q
narrow_moved n q up down e h = narrow_same q n (4 * down + 1) (4 * up) (shifted ∙ sym e ∙ ap (λ (x : ℕ). n * x) (fours up)) h
  where
    shifted : q * 10 ^ (4 * down + 1) ≡ q * 10 * 10000 ^ down
    shifted = ap (λ (x : ℕ). q * x) (pow-add 10 (4 * down) 1) ∙ turned q (10 ^ (4 * down)) ∙ ap (λ (x : ℕ). q * 10 * x) (sym (fours down))
      where
        turned : (q p : ℕ) → q * (p * 10) ≡ q * 10 * p
        turned q p = omega arith

pub wide_moved : (n q up down : ℕ) → n * 10000 ^ up ≡ q * 10 * 10000 ^ down → HasNarrowDigits q → HasNarrowDigits n
wide_moved n q up down e h = narrow_same n q (4 * up) (4 * down + 1) (ap (λ (x : ℕ). n * x) (sym (fours up)) ∙ e ∙ sym shifted) h
  where
    shifted : q * 10 ^ (4 * down + 1) ≡ q * 10 * 10000 ^ down
    shifted = ap (λ (x : ℕ). q * x) (pow-add 10 (4 * down) 1) ∙ turned q (10 ^ (4 * down)) ∙ ap (λ (x : ℕ). q * 10 * x) (sym (fours down))
      where
        turned : (q p : ℕ) → q * (p * 10) ≡ q * 10 * p
        turned q p = omega arith

none_group : (gs : List ℕ) (n : ℕ) → Keeps 10000 10 gs 0 n → Keeps 10000 10 gs 0 (0 * 10)
none_group gs n h = subst (λ (x : ℕ). Keeps 10000 10 gs 0 x) (none_is 10000 10 (omega arith) gs n h) h

pub fields_none : (gs : List ℕ) (n : ℕ) → Keeps 10000 10 gs 0 n → IsFields (record { negative = false; groups = gs; top = 0 })
fields_none gs n h = record { worth = (0, none_group gs n h, (0, 0, refl, omega arith)); sign = λ e. absurd cc; low = omega arith }

pub parts_none : (m : Bool) (gs : List ℕ) (n up down q : ℕ) → Keeps 10000 10 gs 0 n → n * 10000 ^ up ≡ q * 10 * 10000 ^ down
    → parts_of (record { negative = false; groups = gs; top = 0 }) ≡ signed m q
unfolding parts_of
parts_none m gs n up down q h e =
    let n0 = none_is 10000 10 (omega arith) gs n h in
    let z : q * 10 * 10000 ^ down ≡ 0 = sym e ∙ rw n0 (omega arith) in
    let q0 : q ≡ 0 = (let y = none_of (q * 10) (10000 ^ down) (power_pos 10000 down (omega arith)) z in omega arith) in
    ap (λ (x : ℕ). pos x) (size_is gs 0 0 (none_group gs n h)) ∙ zeros m ∙ ap (λ (x : ℕ). signed m x) (sym q0)
  where
    zeros : (m : Bool) → pos 0 ≡ signed m 0
    zeros true = refl
    zeros false = refl

pub fields_some : (m : Bool) (gs : List ℕ) (len n up down q : ℕ) → 0 < len → Keeps 10000 10 gs len n → HasNarrowDigits n
    → n * 10000 ^ up ≡ q * 10 * 10000 ^ down → len + up ≤ 36864 + down
    → IsFields (record { negative = m; groups = gs; top = len + up - down })
fields_some m gs len n up down q p h narrow e le = record {
  worth = (q, moved 10000 10 (omega arith) gs len n up down (q * 10) p h e, narrow_moved n q up down e narrow);
  sign = λ _. (let u = under 10000 10 (omega arith) gs len n up down (q * 10) p h e in omega arith);
  low = omega arith;
}

pub parts_some : (m : Bool) (gs : List ℕ) (len n up down q : ℕ) → 0 < len → Keeps 10000 10 gs len n → n * 10000 ^ up ≡ q * 10 * 10000 ^ down
    → parts_of (record { negative = m; groups = gs; top = len + up - down }) ≡ signed m q
unfolding parts_of
parts_some m gs len n up down q p h e =
    ap (λ (x : ℕ). signed m x) (size_is gs (len + up - down) q (moved 10000 10 (omega arith) gs len n up down (q * 10) p h e))
