-- Decimals are ordered as their fields are.
use Rattle.std.proofs.Common.{◌≡◌, ℕ, suc, ◌+◌, ◌-◌, ◌*◌, ◌^◌, ◌<◌, ◌≤◌, true, false, List, [], ◌∷◌, length, refl, sym, ap, subst, ◌∙◌, arith, ℤ, pos, negsuc, nat_abs, lt→ltb}
use Rattle.std.specs.Prelude.{◌<ℤ◌, int_lt}
use Rattle.std.specs.Ordering.{MatchOrdering, nat_cmp, int_cmp, ordering_then}
use Rattle.std.specs.declared.cmp.Ordering.{Ordering}
use Rattle.std.specs.declared.cmp.Ordering.TheVariants.{Less, Equal, Greater}
use Rattle.std.specs.Cmp.{ranks, nat_cmp_is, int_cmp_is}
use Rattle.std.specs.Cmp.Lexicographic.{slice_cmp}
use Rattle.std.proofs.lemmas.Cmp.{ranked}
use Rattle.std.proofs.Math.Nat.{mul-lt-mul_of_pos_right, mul-le-mul_right}
use Rattle.std.proofs.lemmas.Bool.{le-ltb}
use Rattle.json_exact.specs.Digits.{joined, AllBelow}
use Rattle.json_exact.specs.inner.DecimalFields.{parts_of, IsFields}
use Rattle.json_exact.specs.inner.LeadingDigits.{Keeps}
use Rattle.json_exact.specs.inner.LeadingDigitsLaws.{power_pos, joined_below, below_len, from_len}
use Rattle.json_exact.specs.inner.DecimalInverseLaws.{some_parts, sign_back}
use Rattle.json_exact.specs.declared.decimal.Decimal.TheInside.{Inside}
use Rattle.json_exact.proofs.DigitLaws.{power_mono}
use Rattle.json_exact.proofs.WholeLaws.{Sized, sized}

-- o is the order of x and y
abbrev pub Orders : Ordering → ℕ → ℕ → Type 0
Orders o x y = MatchOrdering o (x < y) (x ≡ y) (y < x)

-- a larger high digit makes a larger number, whatever stands behind it
above : (x y j k p : ℕ) → j < p → x < y → x * p + j < y * p + k
above x y j k p a h = let m : (x + 1) * p ≤ y * p = mul-le-mul_right p (omega arith) in omega arith

-- the order of the high digits x and y decides, then that of what stands behind them, j and k
pub high_then_low : (o s : Ordering) (x y j k p : ℕ) → j < p → k < p → Orders o x y → Orders s j k
    → Orders (ordering_then o s) (x * p + j) (y * p + k)
high_then_low Less s x y j k p a b h g = above x y j k p a h
high_then_low Greater s x y j k p a b h g = above y x k j p b h
high_then_low Equal Less x y j k p a b h g = rw h (omega arith)
high_then_low Equal Equal x y j k p a b h g = rw h (omega arith)
high_then_low Equal Greater x y j k p a b h g = rw h (omega arith)

-- of two numbers with as many digits, the first digits that differ decide
pub digits_order : (b : ℕ) (xs ys : List ℕ) → AllBelow b xs → AllBelow b ys → length xs ≡ length ys
    → Orders (slice_cmp nat_cmp xs ys) (joined b xs) (joined b ys)
digits_order b [] [] h g e = refl
digits_order b [] (y ∷ ys) h g e = absurd (omega arith)
digits_order b (x ∷ xs) [] h g e = absurd (omega arith)
digits_order b (x ∷ xs) (y ∷ ys) h g e =
    let l : length xs ≡ length ys = omega arith in
    let small : joined b ys < b ^ length xs = subst (λ (n : ℕ). joined b ys < b ^ n) (sym l) (joined_below b ys g.1) in
    subst (λ (n : ℕ). Orders (slice_cmp nat_cmp (x ∷ xs) (y ∷ ys)) (joined b (x ∷ xs)) (y * b ^ n + joined b ys)) l
    (high_then_low (nat_cmp x y) (slice_cmp nat_cmp xs ys) x y (joined b xs) (joined b ys) (b ^ length xs) (joined_below b xs h.1) small (ranks x y)
    (digits_order b xs ys h.1 g.1 l))

-- the groups of numbers with as many groups are in the order of the numbers
scaled : (o : Ordering) (j k q r p : ℕ) → 0 < p → q * 10 * 10000 ^ 11 ≡ j * p → r * 10 * 10000 ^ 11 ≡ k * p → Orders o j k → Orders o q r
scaled Less j k q r p some e f h = let m : j * p < k * p = mul-lt-mul_of_pos_right h some in omega arith
scaled Equal j k q r p some e f h = let m : j * p ≡ k * p = ap (λ (n : ℕ). n * p) h in omega arith
scaled Greater j k q r p some e f h = let m : k * p < j * p = mul-lt-mul_of_pos_right h some in omega arith

-- a number with more groups is larger
longer : (a b : Inside) (x y : ℤ) (q r : ℕ) → Sized a x q → Sized b y r → a.top < b.top → q < r
longer a b x y q r s t lt =
    let below = below_len 10000 10 (omega arith) a.groups a.top (q * 10) s.keeps in
    let least = from_len 10000 10 (omega arith) b.groups (b.top - 1) (r * 10)
    (subst (λ (k : ℕ). Keeps 10000 10 b.groups k (r * 10)) (let i : b.top ≡ suc (b.top - 1) = omega arith in i) t.keeps) in
    let more = power_mono 10000 a.top (b.top - 1) (omega arith) (omega arith) in
    omega arith

-- the count of groups decides
pub magnitudes_by_top : (a b : Inside) (x y : ℤ) → IsFields a → parts_of a ≡ x → IsFields b → parts_of b ≡ y → (a.top ≡ b.top → ⊥)
    → nat_cmp a.top b.top ≡ nat_cmp (nat_abs x) (nat_abs y)
magnitudes_by_top a b x y h e g f ne =
    let (q, s) = sized a x h e in
    let (r, t) = sized b y g f in
    nat_cmp_is q r _ (go (nat_cmp a.top b.top) q r s t (ranks a.top b.top)) ∙ ap (λ (z : ℕ). nat_cmp z r) (sym s.abs)
    ∙ ap (λ (z : ℕ). nat_cmp (nat_abs x) z) (sym t.abs)
  where
    go : (o : Ordering) (q r : ℕ) → Sized a x q → Sized b y r → Orders o a.top b.top → Orders o q r
    go Less q r s t lt = longer a b x y q r s t lt
    go Greater q r s t lt = longer b a y x r q t s lt
    go Equal q r s t same = absurd (ne same)

-- of as many groups, the first that differ decide
pub magnitudes_by_groups : (a b : Inside) (x y : ℤ) → IsFields a → parts_of a ≡ x → IsFields b → parts_of b ≡ y → a.top ≡ b.top
    → slice_cmp nat_cmp a.groups b.groups ≡ nat_cmp (nat_abs x) (nat_abs y)
magnitudes_by_groups a b x y h e g f same =
    let (q, s) = sized a x h e in
    let (r, t) = sized b y g f in
    nat_cmp_is q r _
    (scaled (slice_cmp nat_cmp a.groups b.groups) (joined 10000 a.groups) (joined 10000 b.groups) q r (10000 ^ a.top)
    (power_pos 10000 a.top (omega arith)) s.keeps.size
    (t.keeps.size ∙ ap (λ (k : ℕ). joined 10000 b.groups * 10000 ^ k) (sym same))
    (digits_order 10000 a.groups b.groups s.keeps.below t.keeps.below (s.keeps.count ∙ sym t.keeps.count)))
    ∙ ap (λ (z : ℕ). nat_cmp z r) (sym s.abs) ∙ ap (λ (z : ℕ). nat_cmp (nat_abs x) z) (sym t.abs)

-- the field tells whether the value is below 0
pub sign_is : (a : Inside) (x : ℤ) → IsFields a → parts_of a ≡ x → int_lt x (pos 0) ≡ a.negative
sign_is a x h e =
    let (q, s) = sized a x h e in
    ap (λ (z : ℤ). int_lt z (pos 0)) s.value ∙ sign_back a.negative q (λ m. some_parts a.groups a.top q s.keeps (h.sign m))

-- values that are not below 0 are in the order of their magnitudes
pub both_plus : (x y : ℤ) (o : Ordering) → int_lt x (pos 0) ≡ false → int_lt y (pos 0) ≡ false → o ≡ nat_cmp (nat_abs x) (nat_abs y) → o ≡ int_cmp x y
both_plus (pos m) (pos n) o h g e = int_cmp_is (pos m) (pos n) o (go o (ranked m n o e))
  where
    go : (o : Ordering) → Orders o m n → MatchOrdering o (pos m <ℤ pos n) (pos m ≡ pos n) (pos n <ℤ pos m)
    go Less h = omega (arith, lt→ltb)
    go Equal h = ap (λ (k : ℕ). pos k) h
    go Greater h = omega (arith, lt→ltb)
both_plus (pos m) (negsuc n) o h g e = absurd cc
both_plus (negsuc m) y o h g e = absurd cc

-- values below 0 are in the order of their magnitudes turned round
pub both_minus : (x y : ℤ) (o : Ordering) → int_lt x (pos 0) ≡ true → int_lt y (pos 0) ≡ true → o ≡ nat_cmp (nat_abs y) (nat_abs x) → o ≡ int_cmp x y
both_minus (negsuc m) (negsuc n) o h g e = int_cmp_is (negsuc m) (negsuc n) o (go o (ranked (suc n) (suc m) o e))
  where
    go : (o : Ordering) → Orders o (suc n) (suc m) → MatchOrdering o (negsuc m <ℤ negsuc n) (negsuc m ≡ negsuc n) (negsuc n <ℤ negsuc m)
    go Less h = omega (arith, lt→ltb)
    go Equal h = let e : m ≡ n = omega arith in ap (λ (k : ℕ). negsuc k) e
    go Greater h = omega (arith, lt→ltb)
both_minus (negsuc m) (pos n) o h g e = let z = le-ltb n 0 (omega arith) in absurd cc
both_minus (pos m) y o h g e = let z = le-ltb m 0 (omega arith) in absurd cc

-- a value below 0 is below one that is not
pub minus_plus : (x y : ℤ) → int_lt x (pos 0) ≡ true → int_lt y (pos 0) ≡ false → Less ≡ int_cmp x y
minus_plus (negsuc m) (pos n) h g = refl
minus_plus (negsuc m) (negsuc n) h g = absurd cc
minus_plus (pos m) y h g = let z = le-ltb m 0 (omega arith) in absurd cc

-- and the other way round
pub plus_minus : (x y : ℤ) → int_lt x (pos 0) ≡ false → int_lt y (pos 0) ≡ true → Greater ≡ int_cmp x y
plus_minus (pos m) (negsuc n) h g = refl
plus_minus (pos m) (pos n) h g = let z = le-ltb n 0 (omega arith) in absurd cc
plus_minus (negsuc m) y h g = absurd cc
