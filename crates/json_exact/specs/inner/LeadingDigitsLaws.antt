-- The first digits of a number tell how many digits it has, and the other way round. This project's own.
-- Lemmas, which stand here and not in proofs/ only because an `inverse_ok` reads no other folder. Nothing here need be believed.
use Rattle.std.proofs.Common.{◌≡◌, ℕ, zero, suc, ◌+◌, ◌*◌, ◌/◌, ◌^◌, ◌<◌, ◌≤◌, Bool, true, false, List, [], ◌∷◌, length, refl, sym, ap, subst, ◌∙◌, arith, inl, inr}
use Rattle.std.proofs.Math.Nat.{pow-suc, mul-div_cancel, mul-lt-mul_of_pos_right, mul-le-mul_right, lt_of_mul-lt-mul_right}
use Rattle.std.proofs.lemmas.Nat.{div-mul-add, mod-mul-add, div-add-mod', le-div, div_below}
use Rattle.std.proofs.lemmas.Bool.{ne_eqb, cases_order}
use native.Mathlib.Numerals.{unary_clauses}
use Rattle.json_exact.specs.Digits.{joined, AllBelow, spread, count_in, count_of}
use Rattle.json_exact.specs.inner.LeadingDigits.{Keeps}

pub power_pos : (b k : ℕ) → 0 < b → 0 < b ^ k
power_pos b zero h = let e : b ^ 0 ≡ 1 = simp unary_clauses in omega arith
power_pos b (suc k) h = let m = power_pos b k h in let e = pow-suc b k in step (b ^ k) b (b ^ suc k) m h e
  where
    step : (p b q : ℕ) → 0 < p → 0 < b → q ≡ p * b → 0 < q
    step zero b q h g e = absurd (omega arith)
    step (suc p) zero q h g e = absurd (omega arith)
    step (suc p) (suc b) q h g e = omega arith

-- digits make less than a 1 in front of them would
pub joined_below : (b : ℕ) (ds : List ℕ) → AllBelow b ds → joined b ds < b ^ length ds
joined_below b [] h = let e : b ^ 0 ≡ 1 = simp unary_clauses in omega arith
joined_below b (d ∷ ds) h =
    let more = joined_below b ds h.1 in
    let p : b ^ suc (length ds) ≡ b ^ length ds * b = pow-suc b (length ds) in
    room d b (b ^ length ds) (joined b ds) (b ^ suc (length ds)) h.0 more p
  where
    room : (g b u j w : ℕ) → g < b → j < u → w ≡ u * b → g * u + j < w
    room g b u j w lt more e =
        let h : (g + 1) * u ≤ b * u = mul-le-mul_right u (omega arith) in
        omega arith

pub spread_joined : (b : ℕ) (ds : List ℕ) → AllBelow b ds → spread b (length ds) (joined b ds) ≡ ds
spread_joined b [] h = refl
spread_joined b (d ∷ ds) h =
    let lt = joined_below b ds h.1 in
    rw (div-mul-add d (b ^ length ds) (joined b ds) lt, mod-mul-add d (b ^ length ds) (joined b ds) lt, spread_joined b ds h.1) refl

pub count_step : (b fuel n : ℕ) → 0 < n → count_in b (suc fuel) n ≡ suc (count_in b fuel (n / b))
count_step b fuel n p =
    ap (λ (t : Bool). elim t as (λ _. ℕ) [ true ↦ 0 | false ↦ suc (count_in b fuel (n / b)) ]) (ne_eqb n 0 (λ e. absurd (omega arith)))

pub count_zero : (b fuel : ℕ) → count_in b fuel 0 ≡ 0
count_zero b zero = refl
count_zero b (suc fuel) = refl

smaller : (b n fuel : ℕ) → 1 < b → n ≤ suc fuel → n / b ≤ fuel
smaller b n fuel h le =
    let e = div-add-mod' n b in
    let m : n / b * 2 ≤ n / b * b = more (n / b) b h in
    omega arith
  where
    more : (x b : ℕ) → 1 < b → x * 2 ≤ x * b
    more x (suc (suc b)) h = omega arith
    more x (suc zero) h = absurd (omega arith)
    more x zero h = absurd (omega arith)

count_in_is : (b fuel n k : ℕ) → 1 < b → n ≤ fuel → b ^ k ≤ n → n < b ^ suc k → count_in b fuel n ≡ suc k
count_in_is b zero n k h le lo hi = let p = power_pos b k (omega arith) in absurd (omega arith)
count_in_is b (suc fuel) n zero h le lo hi =
    let one : b ^ 0 ≡ 1 = simp unary_clauses in
    let e = pow-suc b 0 in
    let f : b ^ suc 0 ≡ b = e ∙ ap (λ (x : ℕ). x * b) one ∙ (let g : 1 * b ≡ b = omega arith in g) in
    count_step b fuel n (omega arith) ∙ ap (λ (x : ℕ). suc (count_in b fuel x)) (none n b (omega arith)) ∙ ap (λ (x : ℕ). suc x) (count_zero b fuel)
  where
    none : (n b : ℕ) → n < b → n / b ≡ 0
    none n b a = sym (ap (λ (x : ℕ). x / b) (let e : 0 * b + n ≡ n = omega arith in e)) ∙ div-mul-add 0 b n a
count_in_is b (suc fuel) n (suc k) h le lo hi =
    let p = power_pos b (suc k) (omega arith) in
    let least = le-div (b ^ k) n b (omega arith) (subst (λ (x : ℕ). x ≤ n) (pow-suc b k) lo) in
    let most = div_below n b (b ^ suc k) (omega arith) (subst (λ (x : ℕ). n < x) (pow-suc b (suc k)) hi) in
    count_step b fuel n (omega arith) ∙ ap (λ (x : ℕ). suc x) (count_in_is b fuel (n / b) k h (smaller b n fuel h le) least most)

-- how large a number is tells how many digits it has
pub count_is : (b n k : ℕ) → 1 < b → b ^ k ≤ n → n < b ^ suc k → count_of b n ≡ suc k
unfolding count_of
count_is b n k h lo hi = count_in_is b n n k h (omega arith) lo hi

pub count_none : (b : ℕ) → count_of b 0 ≡ 0
unfolding count_of
count_none b = refl

module _ (b more : ℕ) (two : 1 < b) where
  pub joined_small : (ds : List ℕ) (len n : ℕ) → Keeps b more ds len n → joined b ds < b ^ suc more
  joined_small ds len n h = subst (λ (k : ℕ). joined b ds < b ^ k) h.count (joined_below b ds h.below)

  -- a number of so many digits is below the least one with more
  pub below_len : (ds : List ℕ) (len n : ℕ) → Keeps b more ds len n → n < b ^ len
  below_len ds len n h =
      let a : joined b ds * b ^ len < b ^ suc more * b ^ len = mul-lt-mul_of_pos_right (joined_small ds len n h) (power_pos b len (omega arith)) in
      let s = h.size in
      lt_of_mul-lt-mul_right (b ^ suc more) (let i : n * b ^ suc more < b ^ len * b ^ suc more = omega arith in i)

  -- and no smaller than the least one with as many
  pub from_len : (ds : List ℕ) (under n : ℕ) → Keeps b more ds (suc under) n → b ^ under ≤ n
  from_len ds under n h = elim h.lead [
    | inl z ↦ absurd (let t = z.0 in omega arith)
    | inr z ↦
        let a : b ^ more * b ^ suc under ≤ joined b ds * b ^ suc under = mul-le-mul_right (b ^ suc under) (z.1) in
        let e : b ^ under * b ^ suc more ≡ b ^ more * b ^ suc under =
        shuffled (b ^ under) (b ^ more) b (b ^ suc more) (b ^ suc under) (pow-suc b more) (pow-suc b under) in
        let s = h.size in
        le_of (b ^ under) n (b ^ suc more) (power_pos b (suc more) (omega arith)) (omega arith)
  ]
    where
      shuffled : (u s b v w : ℕ) → v ≡ s * b → w ≡ u * b → u * v ≡ s * w
      shuffled u s b v w e f = rw (e, f) (omega arith)

      le_of : (x y m : ℕ) → 0 < m → x * m ≤ y * m → x ≤ y
      le_of x y m p h = elim (cases_order x y) [
        | inl e ↦ omega arith
        | inr o ↦ elim o [ inl l ↦ omega arith | inr g ↦ absurd (let k : y * m < x * m = mul-lt-mul_of_pos_right g p in omega arith) ]
      ]

  pub len_is : (ds : List ℕ) (len n : ℕ) → Keeps b more ds len n → count_of b n ≡ len
  len_is ds zero n h =
      let l = below_len ds 0 n h in
      let e : b ^ 0 ≡ 1 = simp unary_clauses in
      let z : n ≡ 0 = omega arith in
      ap (λ (x : ℕ). count_of b x) z ∙ count_none b
  len_is ds (suc k) n h = count_is b n k two (from_len ds k n h) (below_len ds (suc k) n h)

  pub digits_are : (ds : List ℕ) (len n : ℕ) → Keeps b more ds len n → spread b (suc more) (n * b ^ suc more / b ^ count_of b n) ≡ ds
  digits_are ds len n h =
      ap (λ (k : ℕ). spread b (suc more) (n * b ^ suc more / b ^ k)) (len_is ds len n h)
      ∙ ap (λ (x : ℕ). spread b (suc more) (x / b ^ len)) h.size
      ∙ ap (λ (x : ℕ). spread b (suc more) x) (mul-div_cancel (joined b ds) (power_pos b len (omega arith)))
      ∙ ap (λ (k : ℕ). spread b k (joined b ds)) (sym h.count)
      ∙ spread_joined b ds h.below
