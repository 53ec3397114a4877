-- `is_narrow` is `IsNarrow`.
use Rattle.std.proofs.Common.{◌≡◌, ℕ, zero, suc, ◌*◌, ◌/◌, ◌%◌, ◌^◌, ◌<◌, ◌≤◌, Bool, true, false, eqb, refl, sym, subst, ◌∙◌, arith, nat_abs, inl, inr, lit<}
use Rattle.std.proofs.Math.Nat.{pow-suc, lt_of_mul-lt-mul_right, mul-lt-mul_of_pos_right, one-le-pow}
use Rattle.std.proofs.lemmas.Nat.{pow-add}
use Rattle.std.proofs.lemmas.Bool.{eqb-true, eqb-false, lt-ltb, ltb-true, cases_lt}
use Rattle.json_model.specs.Decimal.{Decimal, IsNarrow}
use Rattle.jsonb_layout.specs.inner.Narrow.{stripped, is_narrow}

-- one zero digit more
pub ten_more : (a b : ℕ) → a * 10 ^ suc b ≡ (a * 10 ^ b) * 10
ten_more a b = rw (pow-suc 10 b) (omega arith)

strip_is : (fuel n : ℕ) → (b : ℕ) × (n ≡ stripped fuel n * 10 ^ b)
strip_is zero n = (0, omega arith)
strip_is (suc fuel) n = go (eqb (n % 10) 0) refl (strip_is fuel (n / 10))
  where
    go : (t : Bool) → eqb (n % 10) 0 ≡ t → (b : ℕ) × (n / 10 ≡ stripped fuel (n / 10) * 10 ^ b)
        → (b : ℕ) × (n ≡ (elim t [ true ↦ stripped fuel (n / 10) | false ↦ n ]) * 10 ^ b)
    go true e h = let z = eqb-true (n % 10) 0 e in (suc h.0, let k = ten_more (stripped fuel (n / 10)) h.0 in omega (arith, h.1))
    go false e h = (0, omega arith)

strip_ends : (fuel n : ℕ) → n ≤ fuel → 0 < n → stripped fuel n % 10 ≡ 0 → ⊥
strip_ends zero n le pos e = omega arith
strip_ends (suc fuel) n le pos e = go (λ h. strip_ends fuel (n / 10) (omega arith) (omega arith)) (eqb (n % 10) 0) refl e
  where
    go : (n % 10 ≡ 0 → stripped fuel (n / 10) % 10 ≡ 0 → ⊥) → (t : Bool) → eqb (n % 10) 0 ≡ t
        → (elim t [ true ↦ stripped fuel (n / 10) | false ↦ n ]) % 10 ≡ 0 → ⊥
    go more true h k = more (eqb-true (n % 10) 0 h) k
    go more false h k = eqb-false (n % 10) 0 h k

pub at_least : (s m : ℕ) → 0 < m → s ≤ s * m
at_least s zero p = absurd (omega arith)
at_least s (suc m) p = omega arith

-- no number with the same digits and a last digit is less
pub least : (s b k c : ℕ) → s * 10 ^ b ≡ k * 10 ^ c → (s % 10 ≡ 0 → ⊥) → s ≤ k
least s zero k zero e last = omega arith
least s (suc b) k zero e last = let h = at_least s (10 ^ suc b) (one-le-pow (suc b) 10 (lit< tt)) in omega arith
least s zero k (suc c) e last = let h = ten_more k c in absurd (last (omega arith))
least s (suc b) k (suc c) e last = let h = ten_more s b in let g = ten_more k c in least s b k c (omega arith) last

-- what the test takes is narrow
pub narrow_takes : (d : Decimal) → is_narrow d ≡ true → IsNarrow d
unfolding is_narrow
narrow_takes d e =
    let n = nat_abs d.digits in
    let s = strip_is n n in
    let lt : stripped n n < 10 ^ 38 = ltb-true (stripped n n) (10 ^ 38) e in
    let small : stripped n n * 10 ^ s.0 < 10 ^ 38 * 10 ^ s.0 = mul-lt-mul_of_pos_right lt (one-le-pow s.0 10 (lit< tt)) in
    (s.0, stripped n n, s.1, rw (pow-add 10 38 s.0) (subst (λ (x : ℕ). x < 10 ^ 38 * 10 ^ s.0) (sym s.1) small))

strip_zero : stripped 0 0 ≡ 0
strip_zero = refl

-- the test takes what is narrow
pub narrow_again : (d : Decimal) → IsNarrow d → is_narrow d ≡ true
unfolding is_narrow
narrow_again d (b, k, e, lt) =
    let n = nat_abs d.digits in
    let s = strip_is n n in
    let below : k * 10 ^ b < 10 ^ 38 * 10 ^ b = subst (λ (x : ℕ). x < 10 ^ 38 * 10 ^ b) e (subst (λ (x : ℕ). n < x) (pow-add 10 38 b) lt) in
    let small : k < 10 ^ 38 = lt_of_mul-lt-mul_right (10 ^ b) below in
    lt-ltb (stripped n n) (10 ^ 38) (elim (cases_lt 0 n) [
      | inl some ↦ let h = least (stripped n n) s.0 k b (sym s.1 ∙ e) (strip_ends n n (omega arith) some) in omega arith
      | inr none ↦ let z : n ≡ 0 = omega arith in subst (λ (m : ℕ). stripped m m < 10 ^ 38) (sym z) (omega arith)
    ])
