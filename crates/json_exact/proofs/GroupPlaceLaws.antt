-- The group at a place that counts from the point is the one at the place that counts from the last of 4096 groups behind it.
use Rattle.std.proofs.Common.{◌≡◌, ℕ, zero, suc, ◌+◌, ◌-◌, ◌*◌, ◌/◌, ◌%◌, ◌^◌, ◌<◌, ◌≤◌, ◌⊎◌, List, [], ◌∷◌, length, get_or, take, drop, sym, ap, subst, ◌∙◌, arith, inl, inr, ℤ, pos, negsuc, nat_abs}
use Rattle.std.specs.Prelude.{◌+ℤ◌, ◌<ℤ◌}
use Rattle.std.proofs.Math.Nat.{pow-suc, mul-div_cancel, div-div-eq-div-mul, mul-mod_left, eq_of_mul-eq-mul_right}
use Rattle.std.proofs.lemmas.Nat.{pow-add, mod-mul-add}
use Rattle.std.proofs.lemmas.Bool.{cases_lt}
use Rattle.std.proofs.lemmas.Int.{ints}
use Rattle.std.proofs.lemmas.List.{drop_all, length-take-le}
use native.Mathlib.Numerals.{unary_clauses}
use Rattle.std.proofs.lemmas.List.Elements.{All-nil, All-cons}
use Rattle.json_exact.specs.Exact.{parts}
use Rattle.json_exact.specs.Digits.{joined}
use Rattle.json_exact.specs.DecimalGroups.{group, IsGreatestPlace, IsLeastPlace}
use Rattle.json_exact.specs.inner.LeadingDigits.{Keeps}
use Rattle.json_exact.specs.inner.LeadingDigitsLaws.{power_pos}
use Rattle.json_exact.specs.inner.DecimalFields.{parts_of, IsFields}
use Rattle.json_exact.specs.inner.DecimalInverseLaws.{some_parts}
use Rattle.json_exact.specs.declared.decimal.Decimal.TheInside.{Inside}
use Rattle.json_exact.proofs.DigitLaws.{factor_last, above_none}
use Rattle.json_exact.proofs.DigitPlaceLaws.{drop_at, below_at, group_above, group_within, first_group_some}
use Rattle.json_exact.proofs.FieldLaws.{none_is}
use Rattle.json_exact.proofs.GroupLaws.{whole_groups}
use Rattle.json_exact.proofs.WholeLaws.{sized, AreZeros, none_counts, drop_length}

-- a common factor does not matter to a quotient
pub same_quotient : (a b c : ℕ) → 0 < c → a * c / (b * c) ≡ a / b
same_quotient a b c some =
    ap (λ (x : ℕ). a * c / x) (let e : b * c ≡ c * b = omega arith in e) ∙ sym (div-div-eq-div-mul (a * c) c b)
    ∙ ap (λ (x : ℕ). x / b) (mul-div_cancel a some)

-- k counts from the last of the groups, p from the point
pub group_lifted : (p : ℤ) (k n : ℕ) → p +ℤ pos 4096 ≡ pos k → n * 10 / 10000 ^ k % 10000 ≡ group p n
unfolding parts
group_lifted (pos p) k n e =
    let i : k ≡ 4096 + p = omega (arith, ints) in
    ap (λ (x : ℕ). n * 10 / x % 10000)
    (ap (λ (j : ℕ). 10000 ^ j) i ∙ pow-add 10000 4096 p ∙ ap (λ (x : ℕ). x * 10000 ^ p) whole_groups ∙ turned (10 ^ 16383) (10000 ^ p))
    ∙ ap (λ (x : ℕ). x % 10000) (same_quotient n (10 ^ 16383 * 10000 ^ p) 10 (omega arith))
  where
    turned : (u v : ℕ) → u * 10 * v ≡ u * v * 10
    turned u v = omega arith
group_lifted (negsuc p) k n e =
    let i : k + suc p ≡ 4096 = omega (arith, ints) in
    let u = 10000 ^ suc p in
    let f : 10000 ^ k * u ≡ 10 ^ 16383 * 10 = sym (pow-add 10000 k (suc p)) ∙ ap (λ (j : ℕ). 10000 ^ j) i ∙ whole_groups in
    ap (λ (x : ℕ). x % 10000)
    (sym (same_quotient (n * 10) (10000 ^ k) u (power_pos 10000 (suc p) (omega arith)))
    ∙ ap (λ (x : ℕ). n * 10 * u / x) f
    ∙ ap (λ (x : ℕ). x / (10 ^ 16383 * 10)) (turned n u)
    ∙ same_quotient (n * u) (10 ^ 16383) 10 (omega arith))
  where
    turned : (n u : ℕ) → n * 10 * u ≡ n * u * 10
    turned n u = omega arith

-- past the last of the groups there are zeros
pub group_under : (p : ℤ) (n : ℕ) → (p +ℤ pos 4096) <ℤ pos 0 → 0 ≡ group p n
unfolding parts
group_under (pos p) n lt = absurd (omega (arith, ints))
group_under (negsuc p) n lt =
    let i : suc p ≡ 4096 + suc (p - 4096) = omega (arith, ints) in
    let j = p - 4096 in
    sym (ap (λ (x : ℕ). n * x / 10 ^ 16383 % 10000)
    (ap (λ (k : ℕ). 10000 ^ k) i ∙ pow-add 10000 4096 (suc j) ∙ ap (λ (x : ℕ). 10000 ^ 4096 * x) (pow-suc 10000 j)
    ∙ ap (λ (x : ℕ). x * (10000 ^ j * 10000)) whole_groups)
    ∙ ap (λ (x : ℕ). x / 10 ^ 16383 % 10000) (turned n (10 ^ 16383) (10000 ^ j))
    ∙ ap (λ (x : ℕ). x % 10000) (mul-div_cancel (n * 10 * 10000 ^ j * 10000) (power_pos 10 16383 (omega arith)))
    ∙ mul-mod_left (n * 10 * 10000 ^ j) 10000)
  where
    turned : (n u v : ℕ) → n * (u * 10 * (v * 10000)) ≡ n * 10 * v * 10000 * u
    turned n u v = omega arith

lifted_of : (p : ℤ) → ((k : ℕ) × (p +ℤ pos 4096 ≡ pos k)) ⊎ ((p +ℤ pos 4096) <ℤ pos 0)
lifted_of (pos p) = inl (p + 4096, omega (arith, ints))
lifted_of (negsuc p) = elim (cases_lt p 4096) [ inl lt ↦ inl (4095 - p, omega (arith, ints)) | inr ge ↦ inr (omega (arith, ints)) ]

-- the value is 0 exactly where there are no groups
pub zero_is : (a : Inside) (d : ℤ) → IsFields a → parts_of a ≡ d → a.top ≡ 0 → d ≡ pos 0
zero_is a d h e z =
    let (q, s) = sized a d h e in
    let n0 = none_is 10000 10 (omega arith) a.groups (q * 10) (subst (λ (k : ℕ). Keeps 10000 10 a.groups k (q * 10)) z s.keeps) in
    nothing d (s.abs ∙ (let q0 : q ≡ 0 = omega arith in q0))
  where
    nothing : (d : ℤ) → nat_abs d ≡ 0 → d ≡ pos 0
    nothing (pos n) e = ap (λ (k : ℕ). pos k) e
    nothing (negsuc n) e = absurd (omega arith)

pub not_zero : (a : Inside) (d : ℤ) → IsFields a → parts_of a ≡ d → (a.top ≡ 0 → ⊥) → d ≡ pos 0 → ⊥
not_zero a d h e some z =
    let (q, s) = sized a d h e in
    let p = some_parts a.groups a.top q s.keeps (above_none a.top some) in
    let q0 : q ≡ 0 = sym s.abs ∙ ap nat_abs z in
    omega arith

-- the first group stands at the greatest place
pub greatest : (a : Inside) (d w : ℤ) → IsFields a → parts_of a ≡ d → (a.top ≡ 0 → ⊥) → w +ℤ pos 4096 ≡ pos (a.top - 1)
    → IsGreatestPlace (nat_abs d) w
greatest a d w h e some at = record {
  some = λ z.
      let p = above_none a.top some in
      let f = first_group_some a h some in
      let g = group_within a d (a.top - 1) h e (omega arith) (omega arith) ∙ group_lifted w (a.top - 1) (nat_abs d) at ∙ z in
      let i : a.top - 1 - (a.top - 1) ≡ 0 = omega arith in
      let j : get_or a.groups 0 0 ≡ 0 = sym (ap (λ (k : ℕ). get_or a.groups k 0) i) ∙ g in
      omega arith;
  none_above = λ p lt. elim (lifted_of p) [
    | inl k ↦ sym (group_above a d k.0 h e (let l = k.1 in let s = above_none a.top some in omega (arith, ints)) ∙ group_lifted p k.0 (nat_abs d) k.1)
    | inr under ↦ sym (group_under p (nat_abs d) under)
  ];
}

-- one digit more
pub take_joined : (b k : ℕ) (ds : List ℕ) → k < length ds → joined b (take (suc k) ds) ≡ joined b (take k ds) * b + get_or ds k 0
take_joined b k [] lt = absurd (omega arith)
take_joined b zero (d ∷ ds) lt = let e : b ^ 0 ≡ 1 = simp unary_clauses in rw e (omega arith)
take_joined b (suc k) (d ∷ ds) lt =
    let more = length-take-le (suc k) ds (omega arith) in
    let less = length-take-le k ds (omega arith) in
    rw (more, less)
    (step d b (b ^ k) (b ^ suc k) (joined b (take k ds)) (joined b (take (suc k) ds)) (get_or ds k 0) (pow-suc b k)
    (take_joined b k ds (omega arith)))
  where
    step : (d b u v x y g : ℕ) → v ≡ u * b → y ≡ x * b + g → d * v + y ≡ (d * u + x) * b + g
    step d b u v x y g e f = rw (e, f) (omega arith)

-- the digits up to a place as a number, and those past it
pub front_joined : (b k r : ℕ) (ds : List ℕ) → length ds ≡ k + r → joined b ds ≡ joined b (take k ds) * b ^ r + joined b (drop k ds)
front_joined b zero r ds e = none (b ^ r) (joined b ds)
  where
    none : (u j : ℕ) → j ≡ 0 * u + j
    none u j = omega arith
front_joined b (suc k) r ds e =
    let h = front_joined b k (suc r) ds (omega arith) in
    let c : joined b (drop k ds) ≡ get_or ds k 0 * b ^ r + joined b (drop (suc k) ds) = ap (λ (xs : List ℕ). joined b xs)
    (drop_at ds k (omega arith)) ∙ ap (λ (j : ℕ). get_or ds k 0 * b ^ j + joined b (drop (suc k) ds)) (drop_length (suc k) r ds e) in
    h ∙ step (joined b (take k ds)) b (b ^ r) (b ^ suc r) (get_or ds k 0) (joined b (drop k ds)) (joined b (drop (suc k) ds)) (pow-suc b r) c
    ∙ ap (λ (x : ℕ). x * b ^ r + joined b (drop (suc k) ds)) (sym (take_joined b k ds (omega arith)))
  where
    step : (x b u v g j t : ℕ) → v ≡ u * b → j ≡ g * u + t → x * v + j ≡ (x * b + g) * u + t
    step x b u v g j t e f = rw (e, f) (omega arith)

-- the groups up to the last that is not 0, moved by whole groups
pub record UpTo (ds : List ℕ) (len n last : ℕ) : Type 0 where
  pub within : suc last ≤ len
  pub exact : n ≡ joined 10000 (take (suc last) ds) * 10000 ^ (len - suc last)

pub up_to : (ds : List ℕ) (len n last : ℕ) → Keeps 10000 10 ds len n → last < 11 → 0 < get_or ds last 0 → AreZeros (drop (suc last) ds)
    → UpTo ds len n last
up_to ds len n last h lt some zeros = record {
  within = within;
  exact = eq_of_mul-eq-mul_right (10000 ^ suc last) (power_pos 10000 (suc last) (omega arith)) n (a * 10000 ^ (len - suc last))
      (moved ∙ ap (λ (x : ℕ). a * x)
      (ap (λ (k : ℕ). 10000 ^ k) (let i : len ≡ len - suc last + suc last = let w = within in omega arith in i)
      ∙ pow-add 10000 (len - suc last) (suc last)) ∙ sym (factor_last a (10000 ^ (len - suc last)) (10000 ^ suc last)));
}
  where
    a : ℕ
    a = joined 10000 (take (suc last) ds)

    all : joined 10000 ds ≡ a * 10000 ^ (10 - last)
    all = front_joined 10000 (suc last) (10 - last) ds (let c = h.count in omega arith)
        ∙ ap (λ (x : ℕ). a * 10000 ^ (10 - last) + x) (none_counts 10000 (omega arith) (drop (suc last) ds) zeros) ∙ none (a * 10000 ^ (10 - last))
      where
        none : (x : ℕ) → x + 0 ≡ x
        none x = omega arith

    moved : n * 10000 ^ suc last ≡ a * 10000 ^ len
    moved = eq_of_mul-eq-mul_right (10000 ^ (10 - last)) (power_pos 10000 (10 - last) (omega arith)) (n * 10000 ^ suc last) (a * 10000 ^ len)
        (factor_last n (10000 ^ suc last) (10000 ^ (10 - last))
        ∙ ap (λ (x : ℕ). n * x)
        (sym (pow-add 10000 (suc last) (10 - last)) ∙ ap (λ (k : ℕ). 10000 ^ k) (let i : suc last + (10 - last) ≡ 11 = omega arith in i))
        ∙ h.size ∙ ap (λ (x : ℕ). x * 10000 ^ len) all ∙ turned a (10000 ^ (10 - last)) (10000 ^ len))
      where
        turned : (x y z : ℕ) → x * y * z ≡ x * z * y
        turned x y z = omega arith

    within : suc last ≤ len
    within = elim (cases_lt len (suc last)) [
      | inr ge ↦ ge
      | inl less ↦ absurd (
          let t = last - len in
          let f : a ≡ n * 10000 ^ suc t = eq_of_mul-eq-mul_right (10000 ^ len) (power_pos 10000 len (omega arith)) a (n * 10000 ^ suc t)
          (sym moved ∙ ap (λ (x : ℕ). n * x)
          (ap (λ (k : ℕ). 10000 ^ k) (let i : suc last ≡ suc t + len = omega arith in i) ∙ pow-add 10000 (suc t) len)
          ∙ sym (factor_last n (10000 ^ suc t) (10000 ^ len))) in
          let g : a % 10000 ≡ 0 =
          ap (λ (x : ℕ). x % 10000) (f ∙ ap (λ (x : ℕ). n * x) (pow-suc 10000 t) ∙ sym (factor_last n (10000 ^ t) 10000))
          ∙ mul-mod_left (n * 10000 ^ t) 10000 in
          let few : last < length ds = (let c = h.count in omega arith) in
          let j : a % 10000 ≡ get_or ds last 0 = ap (λ (x : ℕ). x % 10000) (take_joined 10000 last ds few)
          ∙ mod-mul-add (joined 10000 (take last ds)) 10000 (get_or ds last 0) (below_at 10000 ds last (omega arith) h.below) in
          omega arith)
    ]

-- groups that are 0 from an index on
pub zeros_end : (ds : List ℕ) (k : ℕ) → length ds ≤ k → AreZeros (drop k ds)
zeros_end ds k le = subst (λ (xs : List ℕ). AreZeros xs) (sym (drop_all k ds le)) (All-nil (λ d. d ≡ 0))

pub zeros_more : (ds : List ℕ) (k : ℕ) → k < length ds → get_or ds k 0 ≡ 0 → AreZeros (drop (suc k) ds) → AreZeros (drop k ds)
zeros_more ds k lt z h = subst (λ (xs : List ℕ). AreZeros xs) (sym (drop_at ds k lt)) (All-cons (λ d. d ≡ 0) (get_or ds k 0) (drop (suc k) ds) z h)

pub zeros_from : (ds : List ℕ) (i k : ℕ) → i ≡ k → AreZeros (drop i ds) → AreZeros (drop k ds)
zeros_from ds i k e h = subst (λ (j : ℕ). AreZeros (drop j ds)) e h

pub last_within : (a : Inside) (last : ℕ) → IsFields a → last < 11 → 0 < get_or a.groups last 0 → AreZeros (drop (suc last) a.groups)
    → suc last ≤ a.top
last_within a last h lt some zeros = (up_to a.groups a.top (h.worth.0 * 10) last h.worth.1 lt some zeros).within

-- the last group that is not 0 stands at the least place
pub least : (a : Inside) (d w : ℤ) (last : ℕ) → IsFields a → parts_of a ≡ d → last < 11 → 0 < get_or a.groups last 0
    → AreZeros (drop (suc last) a.groups)
    → w +ℤ pos 4096 ≡ pos (a.top - 1 - last) → IsLeastPlace (nat_abs d) w
least a d w last h e lt some zeros at =
    let (q, s) = sized a d h e in
    let u = up_to a.groups a.top (q * 10) last s.keeps lt some zeros in
    let within = u.within in
    record {
      some = λ z.
          let g = group_within a d (a.top - 1 - last) h e (omega arith) (omega arith) ∙ group_lifted w (a.top - 1 - last) (nat_abs d) at ∙ z in
          let i : a.top - 1 - (a.top - 1 - last) ≡ last = omega arith in
          let j : get_or a.groups last 0 ≡ 0 = sym (ap (λ (k : ℕ). get_or a.groups k 0) i) ∙ g in
          omega arith;
      none_below = λ p less. elim (lifted_of p) [
        | inl k ↦
            let l = k.1 in
            let few : k.0 < a.top - suc last = omega (arith, ints) in
            sym (group_lifted p k.0 (nat_abs d) k.1) ∙ ap (λ (x : ℕ). x * 10 / 10000 ^ k.0 % 10000) s.abs
            ∙ none (q * 10) (joined 10000 (take (suc last) a.groups)) (a.top - suc last) k.0 u.exact few
        | inr under ↦ sym (group_under p (nat_abs d) under)
      ];
    }
  where
    none : (n x t k : ℕ) → n ≡ x * 10000 ^ t → k < t → n / 10000 ^ k % 10000 ≡ 0
    none n x t k e lt =
        let i : t ≡ suc (t - suc k) + k = omega arith in
        let j = t - suc k in
        ap (λ (y : ℕ). y / 10000 ^ k % 10000)
        (e ∙ ap (λ (y : ℕ). x * y) (ap (λ (m : ℕ). 10000 ^ m) i ∙ pow-add 10000 (suc j) k) ∙ sym (factor_last x (10000 ^ suc j) (10000 ^ k)))
        ∙ ap (λ (y : ℕ). y % 10000)
        (mul-div_cancel (x * 10000 ^ suc j) (power_pos 10000 k (omega arith)) ∙ ap (λ (y : ℕ). x * y) (pow-suc 10000 j)
        ∙ sym (factor_last x (10000 ^ j) 10000))
        ∙ mul-mod_left (x * 10000 ^ j) 10000
