-- A decimal is whole where its groups past the point are 0.
use Rattle.std.proofs.Common.{◌≡◌, ℕ, zero, suc, ◌+◌, ◌-◌, ◌*◌, ◌%◌, ◌^◌, ◌<◌, ◌≤◌, List, [], ◌∷◌, length, take, drop, refl, sym, ap, subst, ◌∙◌, arith, inl, inr, ℤ, pos, nat_abs}
use Rattle.std.specs.Prelude.{◌↔◌, int_lt, All}
use Rattle.std.proofs.Math.Nat.{eq_of_mul-eq-mul_right, mul-mod_left}
use Rattle.std.proofs.lemmas.Nat.{pow-add, mod-mul-add}
use Rattle.std.proofs.lemmas.Bool.{cases_lt}
use Rattle.std.proofs.lemmas.List.{drop_all}
use Rattle.std.proofs.lemmas.List.Elements.{All-nil, All-cons, All-tail}
use Rattle.json_model.specs.Decimal.{HasNarrowDigits, IsWhole, signed}
use Rattle.json_exact.specs.Exact.{parts, limit, exactly, IsWithinLimits}
use Rattle.json_exact.specs.Digits.{joined, AllBelow}
use Rattle.json_exact.specs.inner.LeadingDigits.{Keeps}
use Rattle.json_exact.specs.inner.LeadingDigitsLaws.{power_pos, joined_below, below_len}
use Rattle.json_exact.specs.inner.DecimalFields.{parts_of, IsFields}
use Rattle.json_exact.specs.declared.decimal.Decimal.TheInside.{Inside}
use Rattle.json_exact.specs.inner.DecimalInverseLaws.{size_is}
use Rattle.json_model.proofs.DecimalLaws.{abs_signed, fours}
use Rattle.json_exact.specs.inner.NumberInverseLaws.{signed_times, sign_abs}
use Rattle.json_exact.proofs.DigitLaws.{power_mono, none_of, factor_last}
use Rattle.json_exact.proofs.GroupLaws.{whole_groups}
use Rattle.json_exact.proofs.SignLaws.{abs_times}

abbrev pub AreZeros : List ℕ → Type 0
AreZeros ds = All (λ d. d ≡ 0) ds

-- P is a power of the base, and w is how many digits stand before the point
module _ (b : ℕ) (some : 0 < b) where
  -- zeros make 0, and nothing else does
  pub none_counts : (ds : List ℕ) → AreZeros ds → joined b ds ≡ 0
  none_counts [] h = refl
  none_counts (d ∷ ds) h =
      let z : d ≡ 0 = h 0 0 (omega arith) in
      let m : joined b ds ≡ 0 = none_counts ds (All-tail (λ d. d ≡ 0) d ds h) in
      let p : d * b ^ length ds ≡ 0 = rw z (omega arith) in
      omega arith

  pub counts_none : (ds : List ℕ) → joined b ds ≡ 0 → AreZeros ds
  counts_none [] h = All-nil (λ d. d ≡ 0)
  counts_none (d ∷ ds) h =
      All-cons (λ d. d ≡ 0) d ds (none_of d (b ^ length ds) (power_pos b (length ds) some) (omega arith)) (counts_none ds (omega arith))

  -- the digits up to a place, and past it
  pub split : (k r : ℕ) (ds : List ℕ) → length ds ≡ k + r → joined b ds ≡ joined b (take k ds) * b ^ r + joined b (drop k ds)
  split zero r ds e = zeros (b ^ r) (joined b ds)
    where
      zeros : (p j : ℕ) → j ≡ 0 * p + j
      zeros p j = omega arith
  split (suc k) r [] e = absurd (omega arith)
  split (suc k) r (d ∷ ds) e =
      let h = split k r ds (omega arith) in
      let l = lengths k r ds (omega arith) in
      let p : b ^ length ds ≡ b ^ length (take k ds) * b ^ r = ap (λ (n : ℕ). b ^ n) l ∙ pow-add b (length (take k ds)) r in
      step d (b ^ length ds) (b ^ length (take k ds)) (b ^ r) (joined b ds) (joined b (take k ds)) (joined b (drop k ds)) p h
    where
      lengths : (k r : ℕ) (ds : List ℕ) → length ds ≡ k + r → length ds ≡ length (take k ds) + r
      lengths zero r ds e = omega arith
      lengths (suc k) r [] e = absurd (omega arith)
      lengths (suc k) r (d ∷ ds) e = let h = lengths k r ds (omega arith) in omega arith

      step : (d a p c j t u : ℕ) → a ≡ p * c → j ≡ t * c + u → d * a + j ≡ (d * p + t) * c + u
      step d a p c j t u e f = rw e (omega arith)

pub below_drop : (b k : ℕ) (ds : List ℕ) → AllBelow b ds → AllBelow b (drop k ds)
below_drop b zero ds h = h
below_drop b (suc k) [] h = tt
below_drop b (suc k) (d ∷ ds) h = below_drop b k ds h.1

pub drop_length : (k r : ℕ) (ds : List ℕ) → length ds ≡ k + r → length (drop k ds) ≡ r
drop_length zero r ds e = omega arith
drop_length (suc k) r [] e = absurd (omega arith)
drop_length (suc k) r (d ∷ ds) e = drop_length k r ds (omega arith)

-- of n, which has `len` digits, the first of which are ds, `point` digits stand behind the point
module _ (b more : ℕ) (two : 1 < b) (point : ℕ) where
  abbrev pub WholePart : ℕ → Type 0
  WholePart n = (k : ℕ) × (n ≡ k * b ^ point)

  some : 0 < b
  some = omega arith

  -- all digits stand behind the point
  whole_none : (ds : List ℕ) (len n : ℕ) → Keeps b more ds len n → len ≤ point → AreZeros (drop (len - point) ds) → WholePart n
  whole_none ds len n h le z =
      let k : len - point ≡ 0 = omega arith in
      let j : joined b ds ≡ 0 = none_counts b some ds (subst (λ (i : ℕ). AreZeros (drop i ds)) k z) in
      let e : n * b ^ suc more ≡ 0 = h.size ∙ rw j (omega arith) in
      (0, none_of n (b ^ suc more) (power_pos b (suc more) some) e ∙ zeros (b ^ point))
    where
      zeros : (p : ℕ) → 0 ≡ 0 * p
      zeros p = omega arith

  none_whole : (ds : List ℕ) (len n : ℕ) → Keeps b more ds len n → len ≤ point → WholePart n → AreZeros (drop (len - point) ds)
  none_whole ds len n h le (zero, e) =
      let k : len - point ≡ 0 = omega arith in
      let n0 : n ≡ 0 = e ∙ zeros (b ^ point) in
      let z : joined b ds * b ^ len ≡ 0 = sym h.size ∙ rw n0 (zeros (b ^ suc more)) in
      subst (λ (i : ℕ). AreZeros (drop i ds)) (sym k) (counts_none b some ds (none_of (joined b ds) (b ^ len) (power_pos b len some) z))
    where
      zeros : (p : ℕ) → 0 * p ≡ 0
      zeros p = omega arith
  none_whole ds len n h le (suc k, e) = absurd (no (b ^ len) (b ^ point) n k (power_mono b len point some le) (below_len b more two ds len n h) e)
    where
      no : (t p n k : ℕ) → t ≤ p → n < t → n ≡ suc k * p → ⊥
      no t p n k a g e = omega arith

  -- more digits than are kept stand before the point
  whole_long : (ds : List ℕ) (len n t : ℕ) → Keeps b more ds len n → len ≡ suc more + (t + point) → WholePart n
  whole_long ds len n t h e = (
    joined b ds * b ^ t,
    eq_of_mul-eq-mul_right (b ^ suc more) (power_pos b (suc more) some) n (joined b ds * b ^ t * b ^ point)
        (h.size ∙ ap (λ (x : ℕ). joined b ds * x)
        (ap (λ (k : ℕ). b ^ k) e ∙ pow-add b (suc more) (t + point) ∙ ap (λ (x : ℕ). b ^ suc more * x) (pow-add b t point))
        ∙ products (joined b ds) (b ^ suc more) (b ^ t) (b ^ point)),
  )
    where
      products : (j a t p : ℕ) → j * (a * (t * p)) ≡ j * t * p * a
      products j a t p = omega arith

  -- w of the digits stand before the point, and r behind it
  whole_some : (ds : List ℕ) (len n w r : ℕ) → Keeps b more ds len n → len ≡ w + point → w + r ≡ suc more → AreZeros (drop w ds) → WholePart n
  whole_some ds len n w r h e f z =
      let s = split b some w r ds (h.count ∙ sym f) in
      let n = none_counts b some (drop w ds) z in (
        joined b (take w ds),
        eq_of_mul-eq-mul_right (b ^ suc more) (power_pos b (suc more) some) _ (joined b (take w ds) * b ^ point)
            (h.size ∙ ap (λ (x : ℕ). x * b ^ len) (s ∙ ap (λ (x : ℕ). joined b (take w ds) * b ^ r + x) n)
            ∙ ap (λ (x : ℕ). (joined b (take w ds) * b ^ r + 0) * x) (ap (λ (k : ℕ). b ^ k) e ∙ pow-add b w point)
            ∙ step (joined b (take w ds)) (b ^ r) (b ^ w) (b ^ point) (b ^ suc more) (sym (pow-add b w r) ∙ ap (λ (k : ℕ). b ^ k) f)),
      )
    where
      step : (j r w p a : ℕ) → w * r ≡ a → (j * r + 0) * (w * p) ≡ j * p * a
      step j r w p a e = let x : j * p * (w * r) ≡ j * p * a = ap (λ (x : ℕ). j * p * x) e in omega arith

  some_whole : (ds : List ℕ) (len n w r : ℕ) → Keeps b more ds len n → len ≡ w + point → w + r ≡ suc more → WholePart n → AreZeros (drop w ds)
  some_whole ds len n w r h e f (k, g) =
      let s = split b some w r ds (h.count ∙ sym f) in
      let u = joined_below b (drop w ds) (below_drop b w ds h.below) in
      let v : joined b (drop w ds) < b ^ r = subst (λ (i : ℕ). joined b (drop w ds) < b ^ i) (drop_length w r ds (h.count ∙ sym f)) u in
      let a : joined b ds * b ^ w ≡ k * b ^ suc more =
      eq_of_mul-eq-mul_right (b ^ point) (power_pos b point some) (joined b ds * b ^ w) (k * b ^ suc more)
      (factor_last (joined b ds) (b ^ w) (b ^ point) ∙ ap (λ (x : ℕ). joined b ds * x) (sym (pow-add b w point) ∙ ap (λ (i : ℕ). b ^ i) (sym e))
      ∙ sym h.size ∙ ap (λ (x : ℕ). x * b ^ suc more) g ∙ turned k (b ^ point) (b ^ suc more)) in
      let c : joined b ds ≡ k * b ^ r = eq_of_mul-eq-mul_right (b ^ w) (power_pos b w some) (joined b ds) (k * b ^ r)
      (a ∙ ap (λ (x : ℕ). k * x) (ap (λ (i : ℕ). b ^ i) (sym f) ∙ pow-add b w r) ∙ shuffled k (b ^ w) (b ^ r)) in
      counts_none b some (drop w ds) (left (joined b (take w ds)) (joined b (drop w ds)) k (b ^ r) v (sym s ∙ c))
    where
      turned : (x y z : ℕ) → x * y * z ≡ x * z * y
      turned x y z = omega arith

      shuffled : (x y z : ℕ) → x * (y * z) ≡ x * z * y
      shuffled x y z = omega arith

      left : (j u k p : ℕ) → u < p → j * p + u ≡ k * p → u ≡ 0
      left j u k p lt e = sym (mod-mul-add j p u lt) ∙ ap (λ (x : ℕ). x % p) e ∙ mul-mod_left k p

  pub tells : (ds : List ℕ) (len n : ℕ) → Keeps b more ds len n → AreZeros (drop (len - point) ds) ↔ WholePart n
  tells ds len n h = elim (cases_lt len (suc point)) [
    | inl lt ↦ (whole_none ds len n h (omega arith), none_whole ds len n h (omega arith))
    | inr ge ↦ elim (cases_lt (len - point) (suc more)) [
      | inl lt ↦ (
        whole_some ds len n (len - point) (suc more - (len - point)) h (omega arith) (omega arith),
        some_whole ds len n (len - point) (suc more - (len - point)) h (omega arith) (omega arith),
      )
      | inr long ↦ (
        λ z. whole_long ds len n (len - point - suc more) h (omega arith),
        λ w. none_left (drop_all (len - point) ds (let c = h.count in omega arith)),
      )
    ]
  ]
    where
      none_left : {es : List ℕ} → es ≡ [] → AreZeros es
      none_left {es} e = subst (λ (xs : List ℕ). AreZeros xs) (sym e) (All-nil (λ d. d ≡ 0))

-- what the fields say of the value that contracts see
pub record Sized (a : Inside) (d : ℤ) (q : ℕ) : Type 0 where
  pub keeps : Keeps 10000 10 a.groups a.top (q * 10)
  pub narrow : HasNarrowDigits q
  pub value : d ≡ signed a.negative q
  pub abs : nat_abs d ≡ q

pub sized : (a : Inside) (d : ℤ) → IsFields a → parts_of a ≡ d → (q : ℕ) × Sized a d q
unfolding parts_of
sized a d h e =
    let v : d ≡ signed a.negative h.worth.0 = sym e ∙ ap (λ (x : ℕ). signed a.negative x) (size_is a.groups a.top h.worth.0 h.worth.1) in
    (h.worth.0, record { keeps = h.worth.1; narrow = h.worth.2; value = v; abs = ap nat_abs v ∙ abs_signed a.negative h.worth.0 })

abbrev pub Whole : ℕ → Type 0
Whole q = (k : ℕ) × (q ≡ k * parts)

whole_of : (d : ℤ) → Whole (nat_abs d) → IsWhole (exactly d)
unfolding exactly parts
whole_of d (k, e) = (
  signed (int_lt d (pos 0)) k,
  sign_abs d ∙ ap (λ (x : ℕ). signed (int_lt d (pos 0)) x) e ∙ sym (signed_times (int_lt d (pos 0)) k parts),
)

of_whole : (d : ℤ) → IsWhole (exactly d) → Whole (nat_abs d)
unfolding exactly parts
of_whole d (k, e) = (nat_abs k, ap nat_abs e ∙ abs_times k parts)

-- a number of parts is whole where the groups that write it are
whole_parts : (q : ℕ) → WholePart 10000 10 (omega arith) 4096 (q * 10) → Whole q
unfolding parts
whole_parts q (k, e) =
    (k, eq_of_mul-eq-mul_right 10 (omega arith) q (k * 10 ^ 16383) (e ∙ ap (λ (x : ℕ). k * x) whole_groups ∙ sym (factor_last k (10 ^ 16383) 10)))

parts_whole : (q : ℕ) → Whole q → WholePart 10000 10 (omega arith) 4096 (q * 10)
unfolding parts
parts_whole q (k, e) = (k, ap (λ (x : ℕ). x * 10) e ∙ factor_last k (10 ^ 16383) 10 ∙ ap (λ (x : ℕ). k * x) (sym whole_groups))

pub whole_digits : (a : Inside) (d : ℤ) → IsFields a → parts_of a ≡ d → AreZeros (drop (a.top - 4096) a.groups) ↔ IsWhole (exactly d)
whole_digits a d h e =
    let (q, s) = sized a d h e in
    let t = tells 10000 10 (omega arith) 4096 a.groups a.top (q * 10) s.keeps in
    (λ z. whole_of d (subst Whole (sym s.abs) (whole_parts q (t.0 z))), λ w. t.1 (parts_whole q (subst Whole s.abs (of_whole d w))))

below_limit : (q top : ℕ) → q * 10 < 10000 ^ top → top ≤ 36864 → q < limit
unfolding parts limit
below_limit q top lt le = subst (λ (x : ℕ). q < x) (pow-add 10 131072 16383)
    (let m = power_mono 10000 top 36864 (omega arith) le in
    chain q (10000 ^ top) (10000 ^ 36864) (10 ^ 147455) lt m (fours 36864 ∙ pow-add 10 147455 1))
  where
    chain : (q x y z : ℕ) → q * 10 < x → x ≤ y → y ≡ z * 10 → q < z
    chain q x y z a g e = omega arith

-- what is true of each decimal
pub limits : (a : Inside) (d : ℤ) → IsFields a → parts_of a ≡ d → IsWithinLimits d
limits a d h e =
    let (q, s) = sized a d h e in
    record {
      narrow = subst HasNarrowDigits (sym s.abs) s.narrow;
      below = subst (λ (x : ℕ). x < limit) (sym s.abs) (below_limit q a.top (below_len 10000 10 (omega arith) a.groups a.top (q * 10) s.keeps) h.low);
    }
