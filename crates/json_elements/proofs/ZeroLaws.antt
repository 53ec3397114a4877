-- Zeros at the end of a number, and the mantissa and exponent of a decimal.
use Rattle.std.proofs.Common.{◌≡◌, ◌≢◌, ◌<◌, ◌≤◌, ℕ, zero, suc, ◌+◌, ◌-◌, ◌*◌, ◌/◌, ◌%◌, ◌^◌, Bool, eqb, min, refl, sym, ap, ◌∙◌, arith, inl, inr, ◌⊎◌}
use Rattle.std.specs.Prelude.{if◌then◌else◌}
use Rattle.std.proofs.Math.Nat.{eq_of_mul-eq-mul_right, mul-mod_left, mul-div_cancel, pow-suc}
use Rattle.std.proofs.lemmas.Bool.{ne_eqb, eq-eqb}
use Rattle.std.proofs.lemmas.Nat.{pow-add, div-add-mod'}
use native.Mathlib.Numerals.{unary_clauses}
use Rattle.json_exact.specs.inner.DecimalInverseLaws.{ten_pos}
use Rattle.json_elements.specs.Number.{powers_in, zeros}

-- n is m, which does not end in 0, and z zeros behind it
abbrev pub EndsIn : ℕ → ℕ → ℕ → Type 0
EndsIn n m z = (n ≡ m * 10 ^ z) × (0 < m % 10)

products : (x y z : ℕ) → x * y * z ≡ x * (y * z)
products x y z = omega arith

pub raised : (m a b : ℕ) → m * 10 ^ a * 10 ^ b ≡ m * 10 ^ (a + b)
raised m a b = products m (10 ^ a) (10 ^ b) ∙ ap (λ (x : ℕ). m * x) (sym (pow-add 10 a b))

-- a power of ten that is no more than the zeros divides
divides : (m z k : ℕ) → suc k ≤ z → m * 10 ^ z % 10 ^ suc k ≡ 0
divides m z k le =
    let e : z ≡ z - suc k + suc k = omega arith in
    ap (λ (i : ℕ). m * 10 ^ i % 10 ^ suc k) e
    ∙ ap (λ (x : ℕ). x % 10 ^ suc k) (sym (raised m (z - suc k) (suc k)))
    ∙ mul-mod_left (m * 10 ^ (z - suc k)) (10 ^ suc k)

-- what a greater power of ten divides ends in a zero more
divided : (m z j q : ℕ) → m * 10 ^ z ≡ q * 10 ^ (z + suc j) → m % 10 ≡ 0
divided m z j q e =
    let s : z + suc j ≡ suc j + z = omega arith in
    let one : m ≡ q * 10 ^ suc j =
    eq_of_mul-eq-mul_right (10 ^ z) (ten_pos z) m (q * 10 ^ suc j) (e ∙ ap (λ (i : ℕ). q * 10 ^ i) s ∙ sym (raised q (suc j) z)) in
    let ten : q * 10 ^ suc j ≡ q * 10 ^ j * 10 = ap (λ (x : ℕ). q * x) (pow-suc 10 j) ∙ sym (products q (10 ^ j) 10) in
    ap (λ (x : ℕ). x % 10) (one ∙ ten) ∙ mul-mod_left (q * 10 ^ j) 10

not_divides : (m z k : ℕ) → 0 < m % 10 → z ≤ k → m * 10 ^ z % 10 ^ suc k ≢ 0
not_divides m z k some le none =
    let q = m * 10 ^ z / 10 ^ suc k in
    let whole : m * 10 ^ z ≡ q * 10 ^ suc k = let d = div-add-mod' (m * 10 ^ z) (10 ^ suc k) in omega (arith, d, none) in
    let i : suc k ≡ z + suc (k - z) = omega arith in
    let last = divided m z (k - z) q (whole ∙ ap (λ (x : ℕ). q * 10 ^ x) i) in
    omega (arith, some, last)

one_more : (n k p s : ℕ) → powers_in n k ≡ p → (if eqb (n % 10 ^ suc k) 0 then 1 else 0) ≡ s → powers_in n (suc k) ≡ s + p
unfolding powers_in
one_more n k p s e f = rw (f, e) refl

le_or : (z k : ℕ) → (z ≤ k) ⊎ (suc k ≤ z)
le_or zero k = inl (omega arith)
le_or (suc z) zero = inr (omega arith)
le_or (suc z) (suc k) = elim (le_or z k) [ inl h ↦ inl (omega arith) | inr h ↦ inr (omega arith) ]

-- of the first k powers of ten as many divide as there are zeros
counted : (m z k : ℕ) → 0 < m % 10 → powers_in (m * 10 ^ z) k ≡ min k z
unfolding powers_in
counted m z zero some = omega arith
counted m z (suc k) some = elim (le_or z k) [
  | inl le ↦
      (let none = not_divides m z k some le in
      let test : (if eqb (m * 10 ^ z % 10 ^ suc k) 0 then 1 else 0) ≡ 0 =
      ap (λ (b : Bool). if b then 1 else 0) (ne_eqb (m * 10 ^ z % 10 ^ suc k) 0 none) in
      one_more (m * 10 ^ z) k (min k z) 0 (counted m z k some) test ∙ (let m : 0 + min k z ≡ min (suc k) z = omega (arith, le) in m))
  | inr lt ↦
      (let test : (if eqb (m * 10 ^ z % 10 ^ suc k) 0 then 1 else 0) ≡ 1 = ap (λ (b : Bool). if b then 1 else 0)
      (eq-eqb (m * 10 ^ z % 10 ^ suc k) 0 (divides m z k lt)) in
      one_more (m * 10 ^ z) k (min k z) 1 (counted m z k some) test ∙ (let m : 1 + min k z ≡ min (suc k) z = omega (arith, lt) in m))
]

above : (z : ℕ) → z < 10 ^ z
above zero = omega arith
above (suc z) = let h = above z in let e = pow-suc 10 z in omega (arith, h, e)

at_least : (m p : ℕ) → 0 < m → p ≤ m * p
at_least zero p some = absurd (omega arith)
at_least (suc m) p some = omega arith

-- as many zeros as stand behind what does not end in 0
pub zeros_are : (n m z : ℕ) → EndsIn n m z → zeros n ≡ z
zeros_are n m z h =
    let more : z < n = let a = above z in let b = at_least m (10 ^ z) (omega (arith, h.1)) in omega (arith, a, b, h.0) in
    ap (λ (x : ℕ). powers_in x n) h.0 ∙ counted m z n h.1 ∙ omega (arith, more)

-- and the rest is that
pub mantissa_is : (n m z : ℕ) → EndsIn n m z → n / 10 ^ zeros n ≡ m
mantissa_is n m z h =
    ap (λ (x : ℕ). n / 10 ^ x) (zeros_are n m z h) ∙ ap (λ (x : ℕ). x / 10 ^ z) h.0 ∙ mul-div_cancel m (ten_pos z)

itself : (n : ℕ) → n ≡ n * 10 ^ 0
itself n = let e : 10 ^ 0 ≡ 1 = simp unary_clauses in rw e (omega arith)

-- each number but 0 is such a one
pub ends_in : (f n : ℕ) → n ≤ f → 0 < n → (m z : ℕ) × EndsIn n m z
ends_in zero n le some = absurd (omega arith)
ends_in (suc f) n le some = elim (le_or 1 (n % 10)) [
  | inl last ↦ (n, 0, (itself n, last))
  | inr none ↦
      (let r = ends_in f (n / 10) (omega arith) (omega arith) in
      let whole : n ≡ n / 10 * 10 = let d = div-add-mod' n 10 in omega (arith, d, none) in
      let more = whole ∙ ap (λ (x : ℕ). x * 10) r.2.0 ∙ products r.0 (10 ^ r.1) 10 ∙ ap (λ (x : ℕ). r.0 * x) (sym (pow-suc 10 r.1)) in
      (r.0, suc r.1, (more, r.2.1)))
]
