-- The digit at a place of a decimal's magnitude is the one that its fields keep for it.
use Rattle.std.proofs.Common.{◌≡◌, ℕ, zero, suc, ◌+◌, ◌-◌, ◌*◌, ◌/◌, ◌%◌, ◌^◌, ◌<◌, ◌≤◌, List, [], ◌∷◌, length, get_or, take, drop, refl, sym, ap, subst, ◌∙◌, arith, inl, inr, ℤ, pos, nat_abs}
use Rattle.std.specs.Prelude.{int_lt}
use Rattle.std.proofs.Math.Nat.{pow-suc, mul-lt-mul_of_pos_right, mul-le-mul_right, lt_of_mul-lt-mul_right, eq_of_mul-eq-mul_right, mul-mod_left, mul-div_cancel, zero-mod, div-div-eq-div-mul}
use Rattle.std.proofs.lemmas.Nat.{pow-add, mod-mul-add, div-mul-add, div-add-mod', div_below}
use Rattle.std.proofs.lemmas.Bool.{cases_lt}
use Rattle.json_exact.specs.Digits.{joined, AllBelow, count}
use Rattle.json_exact.specs.inner.LeadingDigits.{Keeps}
use Rattle.json_exact.specs.inner.LeadingDigitsLaws.{power_pos, joined_below, below_len, count_is, count_none}
use Rattle.json_exact.specs.inner.DecimalFields.{parts_of, IsFields}
use Rattle.json_exact.specs.inner.DecimalInverseLaws.{fields_of, fields_of-parts_of, some_parts}
use Rattle.json_exact.specs.declared.decimal.Decimal.TheInside.{Inside}
use Rattle.json_exact.proofs.DigitLaws.{power_mono, above_none, factor_last}
use Rattle.json_model.proofs.DecimalLaws.{fours}
use Rattle.json_exact.proofs.WholeLaws.{sized, split, below_drop, drop_length}

-- the sign is the field `negative`
pub sign_is : (a : Inside) (d : ℤ) → IsFields a → parts_of a ≡ d → a.negative ≡ int_lt d (pos 0)
unfolding fields_of
sign_is a d h e = sym (ap (λ (i : Inside). i.negative) (fields_of-parts_of a h)) ∙ ap (λ (x : ℤ). int_lt x (pos 0)) e

pub below_at : (b : ℕ) (ds : List ℕ) (i : ℕ) → 0 < b → AllBelow b ds → get_or ds i 0 < b
below_at b [] i some h = some
below_at b (d ∷ ds) zero some h = h.0
below_at b (d ∷ ds) (suc i) some h = below_at b ds i some h.1

pub drop_at : (ds : List ℕ) (i : ℕ) → i < length ds → drop i ds ≡ get_or ds i 0 ∷ drop (suc i) ds
drop_at [] i h = absurd (omega arith)
drop_at (d ∷ ds) zero h = refl
drop_at (d ∷ ds) (suc i) h = drop_at ds i (omega arith)

-- where n * r is j * p, and j is a * r and less than r more, n is a * p and less than p more
quotient_is : (a b j n p r : ℕ) → 0 < p → 0 < r → j ≡ a * r + b → b < r → n * r ≡ j * p → n / p ≡ a
quotient_is a b j n p r more some e lt f =
    let g : n * r ≡ a * p * r + b * p = f ∙ ap (λ (x : ℕ). x * p) e ∙ products a r b p in
    let le : a * p ≤ n =
    elim (cases_lt n (a * p)) [ inr h ↦ h | inl h ↦ absurd (let k : n * r < a * p * r = mul-lt-mul_of_pos_right h some in omega arith) ] in
    let t = n - a * p in
    let u : t * r ≡ b * p = let k : (a * p + t) * r ≡ n * r = ap (λ (x : ℕ). x * r) (let i : a * p + t ≡ n = omega arith in i) in omega arith in
    let small : t < p =
    (let k : b * p < r * p = mul-lt-mul_of_pos_right lt more in lt_of_mul-lt-mul_right r (let m : t * r < p * r = omega arith in m)) in
    sym (ap (λ (x : ℕ). x / p) (let i : a * p + t ≡ n = omega arith in i)) ∙ div-mul-add a p t small
  where
    products : (a r b p : ℕ) → (a * r + b) * p ≡ a * p * r + b * p
    products a r b p = omega arith

module _ (b more : ℕ) (two : 1 < b) where
  some : 0 < b
  some = omega arith

  -- before the first digit there are zeros
  high_digit : (n len place : ℕ) → n < b ^ len → len ≤ place → n / b ^ place % b ≡ 0
  high_digit n len place lt le =
      let m = power_mono b len place some le in
      let z : n / b ^ place ≡ 0 = sym (ap (λ (x : ℕ). x / b ^ place) (none (b ^ place) n)) ∙ div-mul-add 0 (b ^ place) n (omega arith) in
      ap (λ (x : ℕ). x % b) z ∙ zero-mod b
    where
      none : (p n : ℕ) → 0 * p + n ≡ n
      none p n = omega arith

  -- past the digits that are kept there are zeros
  low_digit : (j n len place t : ℕ) → n * b ^ suc more ≡ j * b ^ len → len ≡ place + suc t + suc more → n / b ^ place % b ≡ 0
  low_digit j n len place t e f =
      let r : n ≡ j * b ^ suc t * b ^ place = eq_of_mul-eq-mul_right (b ^ suc more) (power_pos b (suc more) some) n (j * b ^ suc t * b ^ place)
      (e ∙ ap (λ (x : ℕ). j * x)
      (ap (λ (k : ℕ). b ^ k) f ∙ pow-add b (place + suc t) (suc more) ∙ ap (λ (x : ℕ). x * b ^ suc more) (pow-add b place (suc t)))
      ∙ products j (b ^ place) (b ^ suc t) (b ^ suc more)) in
      ap (λ (x : ℕ). x / b ^ place % b) r ∙ ap (λ (x : ℕ). x % b) (mul-div_cancel (j * b ^ suc t) (power_pos b place some))
      ∙ ap (λ (x : ℕ). x % b) (ap (λ (x : ℕ). j * x) (pow-suc b t) ∙ sym (factor_last j (b ^ t) b)) ∙ mul-mod_left (j * b ^ t) b
    where
      products : (j p s a : ℕ) → j * (p * s * a) ≡ j * s * p * a
      products j p s a = omega arith

  -- digit i of those that are kept
  kept_digit : (ds : List ℕ) (len n place i : ℕ) → Keeps b more ds len n → i < suc more → len ≡ place + suc i → n / b ^ place % b ≡ get_or ds i 0
  kept_digit ds len n place i h small t =
      let r = more - i in
      let c = h.count in
      let s = split b some i (suc r) ds (omega arith) in
      let d = get_or ds i 0 in
      let cut = drop_at ds i (omega arith) in
      let rest : length (drop (suc i) ds) ≡ r = drop_length (suc i) r ds (omega arith) in
      let below : joined b (drop (suc i) ds) < b ^ r =
      subst (λ (k : ℕ). joined b (drop (suc i) ds) < b ^ k) rest (joined_below b (drop (suc i) ds) (below_drop b (suc i) ds h.below)) in
      let whole : joined b ds ≡ (joined b (take i ds) * b + d) * b ^ r + joined b (drop (suc i) ds) =
      s ∙ ap (λ (x : ℕ). joined b (take i ds) * b ^ suc r + x)
      (ap (λ (xs : List ℕ). joined b xs) cut ∙ ap (λ (k : ℕ). d * b ^ k + joined b (drop (suc i) ds)) rest)
      ∙ ap (λ (x : ℕ). joined b (take i ds) * x + (d * b ^ r + joined b (drop (suc i) ds))) (pow-suc b r)
      ∙ grouped (joined b (take i ds)) d (b ^ r) (joined b (drop (suc i) ds)) in
      let shifted : n * b ^ r ≡ joined b ds * b ^ place =
      eq_of_mul-eq-mul_right (b ^ suc i) (power_pos b (suc i) some) (n * b ^ r) (joined b ds * b ^ place)
      (factor_last n (b ^ r) (b ^ suc i)
      ∙ ap (λ (x : ℕ). n * x) (sym (pow-add b r (suc i)) ∙ ap (λ (k : ℕ). b ^ k) (let k : r + suc i ≡ suc more = omega arith in k)) ∙ h.size
      ∙ ap (λ (x : ℕ). joined b ds * x) (ap (λ (k : ℕ). b ^ k) t ∙ pow-add b place (suc i))
      ∙ sym (factor_last (joined b ds) (b ^ place) (b ^ suc i))) in
      ap (λ (x : ℕ). x % b)
      (quotient_is (joined b (take i ds) * b + d) (joined b (drop (suc i) ds)) (joined b ds) n (b ^ place) (b ^ r) (power_pos b place some)
      (power_pos b r some) whole below shifted)
      ∙ mod-mul-add (joined b (take i ds)) b d (below_at b ds i some h.below)
    where
      grouped : (a d p u : ℕ) → a * (p * b) + (d * p + u) ≡ (a * b + d) * p + u
      grouped a d p u = omega arith

-- from ten times the parts that the fields make to the decimal
at_decimal : (a : Inside) (d : ℤ) (place group : ℕ) → IsFields a → parts_of a ≡ d
    → ((n : ℕ) → Keeps 10000 10 a.groups a.top n → n / 10000 ^ place % 10000 ≡ group) → group ≡ nat_abs d * 10 / 10000 ^ place % 10000
at_decimal a d place group h e f =
    let (q, s) = sized a d h e in
    sym (f (q * 10) s.keeps) ∙ ap (λ (n : ℕ). n * 10 / 10000 ^ place % 10000) (sym s.abs)

-- at a place before the first group
pub group_above : (a : Inside) (d : ℤ) (place : ℕ) → IsFields a → parts_of a ≡ d → a.top ≤ place → 0 ≡ nat_abs d * 10 / 10000 ^ place % 10000
group_above a d place h e le =
    at_decimal a d place 0 h e (λ n s. high_digit 10000 10 (omega arith) n a.top place (below_len 10000 10 (omega arith) a.groups a.top n s) le)

-- at a place among the groups that are kept
pub group_within : (a : Inside) (d : ℤ) (place : ℕ) → IsFields a → parts_of a ≡ d → place < a.top → a.top - 1 - place < 11
    → get_or a.groups (a.top - 1 - place) 0 ≡ nat_abs d * 10 / 10000 ^ place % 10000
group_within a d place h e lt small =
    at_decimal a d place (get_or a.groups (a.top - 1 - place) 0) h e
    (λ n s. kept_digit 10000 10 (omega arith) a.groups a.top n place (a.top - 1 - place) s small (omega arith))

-- at a place past them
pub group_below : (a : Inside) (d : ℤ) (place : ℕ) → IsFields a → parts_of a ≡ d → 11 ≤ a.top - 1 - place → 0 ≡ nat_abs d * 10 / 10000 ^ place % 10000
group_below a d place h e le =
    at_decimal a d place 0 h e
    (λ n s. low_digit 10000 10 (omega arith) (joined 10000 a.groups) n a.top place (a.top - 1 - place - 11) s.size (omega arith))

-- each group is one
pub group_small : (a : Inside) (i : ℕ) → IsFields a → get_or a.groups i 0 < 10000
group_small a i h = below_at 10000 a.groups i (omega arith) h.worth.1.below

first_some : (gs : List ℕ) (len n : ℕ) → Keeps 10000 10 gs len n → 0 < len → 0 < get_or gs 0 0
first_some [] len n h some = absurd (let c = h.count in omega arith)
first_some (g ∷ gs) len n h some = elim h.lead [
  | inl z ↦ absurd (let t = z.0 in omega arith)
  | inr z ↦
      let c : length gs ≡ 10 = (let e = h.count in omega arith) in
      let small : joined 10000 gs < 10000 ^ 10 = subst (λ (k : ℕ). joined 10000 gs < 10000 ^ k) c (joined_below 10000 gs h.below.1) in
      let large : 10000 ^ 10 ≤ g * 10000 ^ 10 + joined 10000 gs = subst (λ (k : ℕ). 10000 ^ 10 ≤ g * 10000 ^ k + joined 10000 gs) c z.1 in
      omega arith
]

-- the first group is not 0
pub first_group_some : (a : Inside) → IsFields a → (a.top ≡ 0 → ⊥) → 0 < get_or a.groups 0 0
first_group_some a h ne = first_some a.groups a.top (h.worth.0 * 10) h.worth.1 (above_none a.top ne)

-- a digit of ten times n is a digit of its group; it is the digit of n one place below
pub digit_in_group : (n place : ℕ) → n * 10 / 10000 ^ ((place + 1) / 4) % 10000 / 10 ^ ((place + 1) % 4) % 10 ≡ n / 10 ^ place % 10
digit_in_group n place =
    let k = (place + 1) / 4 in
    let r = (place + 1) % 4 in
    let i : 4 * k + r ≡ place + 1 = omega arith in
    let e : n * 10 / 10000 ^ k / 10 ^ r ≡ n / 10 ^ place =
    ap (λ (x : ℕ). n * 10 / x / 10 ^ r) (fours k) ∙ div-div-eq-div-mul (n * 10) (10 ^ (4 * k)) (10 ^ r)
    ∙ ap (λ (x : ℕ). n * 10 / x) (sym (pow-add 10 (4 * k) r) ∙ ap (λ (j : ℕ). 10 ^ j) i ∙ pow-add 10 place 1 ∙ turned (10 ^ place))
    ∙ sym (div-div-eq-div-mul (n * 10) 10 (10 ^ place)) ∙ ap (λ (x : ℕ). x / 10 ^ place) (mul-div_cancel n (omega arith)) in
    cut (n * 10 / 10000 ^ k) r (omega arith) ∙ ap (λ (x : ℕ). x % 10) e
  where
    turned : (p : ℕ) → p * 10 ≡ 10 * p
    turned p = omega arith

    cut : (m r : ℕ) → r < 4 → m % 10000 / 10 ^ r % 10 ≡ m / 10 ^ r % 10
    cut m zero lt = omega arith
    cut m (suc zero) lt = omega arith
    cut m (suc (suc zero)) lt = omega arith
    cut m (suc (suc (suc zero))) lt = omega arith
    cut m (suc (suc (suc (suc r)))) lt = absurd (omega arith)

-- nothing is counted of 0
pub none_counted : (a : Inside) (d : ℤ) → IsFields a → parts_of a ≡ d → a.top ≡ 0 → 0 ≡ count (nat_abs d)
unfolding count
none_counted a d h e z =
    let (q, s) = sized a d h e in
    let l = below_len 10000 10 (omega arith) a.groups 0 (q * 10) (subst (λ (k : ℕ). Keeps 10000 10 a.groups k (q * 10)) z s.keeps) in
    let q0 : q ≡ 0 = (let o : 10000 ^ 0 ≡ 1 = refl in omega arith) in
    sym (ap (λ (x : ℕ). count x) (s.abs ∙ q0) ∙ count_none 10)

-- a number that is not 0, and how large ten times it is
counted : (q k : ℕ) → 0 < q → 10 ^ k ≤ q * 10 → q * 10 < 10 ^ suc k → k ≡ count q
unfolding count
counted q zero some lo hi = absurd (omega arith)
counted q (suc k) some lo hi =
    let e = pow-suc 10 k in
    let f = pow-suc 10 (suc k) in
    sym (count_is 10 q k (omega arith) (omega arith) (omega arith))

-- ten times the parts, in units of the first group
first_group : (gs : List ℕ) (u n : ℕ) → Keeps 10000 10 gs (suc u) n → n / 10000 ^ u ≡ get_or gs 0 0
first_group gs u n h =
    let below = below_len 10000 10 (omega arith) gs (suc u) n h in
    let e = pow-suc 10000 u in
    let small : n / 10000 ^ u < 10000 = div_below n (10000 ^ u) 10000 (power_pos 10000 u (omega arith)) (omega arith) in
    let g = kept_digit 10000 10 (omega arith) gs (suc u) n u 0 h (omega arith) (omega arith) in
    omega arith

-- the digits of the first group and those of the groups behind it are counted
pub some_counted : (a : Inside) (d : ℤ) (c : ℕ) → IsFields a → parts_of a ≡ d → 0 < a.top → 10 ^ c ≤ get_or a.groups 0 0
    → get_or a.groups 0 0 < 10 ^ suc c
    → 4 * (a.top - 1) + c ≡ count (nat_abs d)
some_counted a d c h e lt lo hi =
    let (q, s) = sized a d h e in
    let u = a.top - 1 in
    let k : Keeps 10000 10 a.groups (suc u) (q * 10) =
    subst (λ (i : ℕ). Keeps 10000 10 a.groups i (q * 10)) (let i : a.top ≡ suc u = omega arith in i) s.keeps in
    let n = q * 10 in
    let p = 10000 ^ u in
    let some = power_pos 10000 u (omega arith) in
    let g = ap (λ (x : ℕ). x * p) (first_group a.groups u n k) in
    let f = div-add-mod' n p in
    let low : 10 ^ c * p ≤ get_or a.groups 0 0 * p = mul-le-mul_right p lo in
    let high : (get_or a.groups 0 0 + 1) * p ≤ 10 ^ suc c * p = mul-le-mul_right p (omega arith) in
    let i : 10 ^ (4 * u + c) ≡ 10 ^ c * p = pow-add 10 (4 * u) c ∙ ap (λ (x : ℕ). x * 10 ^ c) (sym (fours u)) ∙ turned p (10 ^ c) in
    let j : 10 ^ suc (4 * u + c) ≡ 10 ^ suc c * p =
    pow-suc 10 (4 * u + c) ∙ ap (λ (x : ℕ). x * 10) i ∙ raised (10 ^ c) p (10 ^ suc c) (pow-suc 10 c) in
    counted q (4 * u + c) (some_parts a.groups a.top q s.keeps lt) (omega arith) (omega arith) ∙ ap (λ (x : ℕ). count x) (sym s.abs)
  where
    turned : (x y : ℕ) → x * y ≡ y * x
    turned x y = omega arith

    raised : (x p y : ℕ) → y ≡ x * 10 → x * p * 10 ≡ y * p
    raised x p y e = rw e (omega arith)
