-- From the first and the last group one sees whether a decimal is whole in its fraction digits, and whether it is narrow.
use Rattle.std.proofs.Common.{◌≡◌, ℕ, zero, suc, ◌+◌, ◌-◌, ◌*◌, ◌/◌, ◌%◌, ◌^◌, ◌<◌, ◌≤◌, Bool, true, false, cond, eqb, ltb, leb, List, [], ◌∷◌, length, get_or, Some, nat_abs, refl, sym, ap, subst, ◌∙◌, arith, inl, inr, lit<}
use Rattle.std.specs.Prelude.{option_map}
use Rattle.std.proofs.Math.Nat.{pow-suc, mul-mod_left, mul-div_cancel, lt_of_mul-lt-mul_right, mul-lt-mul_of_pos_right, mul-le-mul_right, pow-le-pow_right, one-le-pow, mul_assoc}
use Rattle.std.proofs.lemmas.Nat.{pow-add}
use Rattle.std.proofs.lemmas.Bool.{ne_eqb, eq-eqb, lt-ltb, le-ltb, ltb-true, le-leb, lt-leb, cases_lt, and_parts}
use Rattle.json_model.specs.Decimal.{Decimal, signed}
use Rattle.jsonb_layout.specs.inner.Narrow.{is_narrow}
use Rattle.jsonb_layout.specs.Numeric.{joined, all_below, are_groups}
use Rattle.jsonb_layout.specs.declared.header.Header.{Header}
use Rattle.jsonb_layout.specs.Options.{only_if}
use Rattle.jsonb_layout.specs.inner.Reading.{value_of}
use Rattle.jsonb_layout.proofs.Narrow.{ten_more, least, narrow_takes, narrow_again}
use Rattle.jsonb_layout.proofs.Numbers.{whole, unit, some_of, none_of, whole_of}
use Rattle.json_model.proofs.DecimalLaws.{abs_signed, fours}

-- ---- powers of ten

ten : 0 < 10
ten = lit< tt

higher : (n a q b : ℕ) → n * 10 ^ a ≡ q * 10 ^ b → (n % 10 ≡ 0 → ⊥) → b ≤ a
higher n a q zero e last = omega arith
higher n zero q (suc b) e last = let h = ten_more q b in absurd (last (omega arith))
higher n (suc a) q (suc b) e last = let h = ten_more n a in let g = ten_more q b in let k = higher n a q b (omega arith) last in omega arith

cut : (n a b : ℕ) → b ≤ a → n * 10 ^ a ≡ (n * 10 ^ (a - b)) * 10 ^ b
cut n a b le =
    let e : a ≡ (a - b) + b = omega arith in
    ap (λ (k : ℕ). n * 10 ^ k) e ∙ ap (λ (x : ℕ). n * x) (pow-add 10 (a - b) b) ∙ sym (mul_assoc n (10 ^ (a - b)) (10 ^ b))

-- ---- groups

times : (g p q : ℕ) → p ≡ q * 10000 → g * p ≡ g * q * 10000
times g p q e = rw e (omega arith)

joined_last : (gs : List ℕ) → 0 < length gs → (a : ℕ) × (joined gs ≡ a * 10000 + get_or gs (length gs - 1) 1)
joined_last [] h = absurd (omega arith)
joined_last (g ∷ []) h = (0, omega arith)
joined_last (g ∷ g' ∷ gs) h =
    let more = joined_last (g' ∷ gs) (omega arith) in
    let i : length (g ∷ g' ∷ gs) - 1 ≡ suc (length (g' ∷ gs) - 1) = omega arith in
    let last : get_or (g ∷ g' ∷ gs) (length (g ∷ g' ∷ gs) - 1) 1 ≡ get_or (g' ∷ gs) (length (g' ∷ gs) - 1) 1 =
    ap (λ (n : ℕ). get_or (g ∷ g' ∷ gs) n 1) i in
    let p : g * 10000 ^ length (g' ∷ gs) ≡ g * 10000 ^ length gs * 10000 =
    times g (10000 ^ length (g' ∷ gs)) (10000 ^ length gs) (pow-suc 10000 (length gs)) in
    (g * 10000 ^ length gs + more.0, omega (arith, more.1, last, p))

joined_below : (gs : List ℕ) → all_below gs ≡ true → joined gs < 10000 ^ length gs
joined_below [] h = omega arith
joined_below (g ∷ gs) h =
    let t = and_parts (ltb g 10000) (all_below gs) h in
    let lt = ltb-true g 10000 t.0 in
    let more = joined_below gs t.1 in
    let p : 10000 ^ suc (length gs) ≡ 10000 ^ length gs * 10000 = pow-suc 10000 (length gs) in
    room g (10000 ^ length gs) (joined gs) (10000 ^ suc (length gs)) lt more p
  where
    room : (g u j w : ℕ) → g < 10000 → j < u → w ≡ u * 10000 → g * u + j < w
    room g u j w lt more e =
        let h : (g + 1) * u ≤ 10000 * u = mul-le-mul_right u (omega arith) in
        omega arith

joined_least : (g : ℕ) (gs : List ℕ) → g * 10000 ^ length gs ≤ joined (g ∷ gs)
joined_least g gs = omega arith

-- what is known of the first and the last group
pub record Ends (g : ℕ) (gs : List ℕ) (k z : ℕ) : Type 0 where
  pub below : all_below (g ∷ gs) ≡ true
  pub some : 1 ≤ k
  pub at_least : 10 ^ (k - 1) ≤ g
  pub at_most : g < 10 ^ k
  pub few : z ≤ 3
  pub last : (q : ℕ) × (get_or (g ∷ gs) (length (g ∷ gs) - 1) 1 ≡ q * 10 ^ z) × (q % 10 ≡ 0 → ⊥)

pub record Joins (g : ℕ) (gs : List ℕ) (z n : ℕ) : Type 0 where
  pub size : joined (g ∷ gs) ≡ n * 10 ^ z
  pub last : n % 10 ≡ 0 → ⊥

split_last : (a q z j : ℕ) → z ≤ 3 → j ≡ a * 10000 + q * 10 ^ z → (q % 10 ≡ 0 → ⊥) → (n : ℕ) × (j ≡ n * 10 ^ z) × (n % 10 ≡ 0 → ⊥)
split_last a q z j few e last =
    let i : suc (3 - z) + z ≡ 4 = omega arith in
    let t : 10000 ≡ 10 ^ (3 - z) * 10 * 10 ^ z =
    sym (ap (λ (x : ℕ). x * 10 ^ z) (sym (pow-suc 10 (3 - z))) ∙ sym (pow-add 10 (suc (3 - z)) z) ∙ ap (λ (k : ℕ). 10 ^ k) i) in
    let n = a * 10 ^ (3 - z) * 10 + q in
    (n, e ∙ ap (λ (x : ℕ). a * x + q * 10 ^ z) t ∙ products a (10 ^ (3 - z)) (10 ^ z) q, λ h. last (omega arith))
  where
    products : (a x y q : ℕ) → a * (x * 10 * y) + q * y ≡ (a * x * 10 + q) * y
    products a x y q = omega arith

joins : (g : ℕ) (gs : List ℕ) (k z : ℕ) → Ends g gs k z → (n : ℕ) × Joins g gs z n
joins g gs k z e =
    let a = joined_last (g ∷ gs) (omega arith) in
    let s = split_last a.0 e.last.0 z (joined (g ∷ gs)) e.few (a.1 ∙ ap (λ (x : ℕ). a.0 * 10000 + x) e.last.1) e.last.2 in
    (s.0, record { size = s.1; last = s.2 })

whole_is : (h : Header) (g : ℕ) (gs : List ℕ) (z n : ℕ) → Joins g gs z n → whole h (g ∷ gs) ≡ n * 10 ^ (h.dscale + z + 4 * (h.lift + 1))
whole_is h g gs z n j =
    ap (λ (x : ℕ). 10 ^ h.dscale * (x * 10000 ^ (h.lift + 1))) j.size
    ∙ ap (λ (x : ℕ). 10 ^ h.dscale * (n * 10 ^ z * x)) (fours (h.lift + 1))
    ∙ products (10 ^ h.dscale) n (10 ^ z) (10 ^ (4 * (h.lift + 1)))
    ∙ ap (λ (x : ℕ). n * (x * 10 ^ (4 * (h.lift + 1)))) (sym (pow-add 10 h.dscale z))
    ∙ ap (λ (x : ℕ). n * x) (sym (pow-add 10 (h.dscale + z) (4 * (h.lift + 1))))
  where
    products : (f n z w : ℕ) → f * (n * z * w) ≡ n * (f * z * w)
    products f n z w = omega arith

-- how many digits there are
bounds : (g : ℕ) (gs : List ℕ) (k z n : ℕ) → Ends g gs k z → Joins g gs z n
    → (n * 10 ^ z < 10 ^ (k + 4 * length gs)) × (10 ^ (k - 1 + 4 * length gs) ≤ n * 10 ^ z)
bounds g gs k z n e j =
    let t = and_parts (ltb g 10000) (all_below gs) e.below in
    let f = fours (length gs) in
    let more : joined gs < 10 ^ (4 * length gs) = subst (λ (x : ℕ). joined gs < x) f (joined_below gs t.1) in
    let size : n * 10 ^ z ≡ g * 10 ^ (4 * length gs) + joined gs = sym j.size ∙ ap (λ (x : ℕ). g * x + joined gs) f in (
      rw (pow-add 10 k (4 * length gs)) (above g (10 ^ k) (10 ^ (4 * length gs)) (joined gs) (n * 10 ^ z) e.at_most more size),
      rw (pow-add 10 (k - 1) (4 * length gs)) (under g (10 ^ (k - 1)) (10 ^ (4 * length gs)) (joined gs) (n * 10 ^ z) e.at_least size),
    )
  where
    above : (g u w r j : ℕ) → g < u → r < w → j ≡ g * w + r → j < u * w
    above g u w r j a b e = let h : (g + 1) * w ≤ u * w = mul-le-mul_right w (omega arith) in omega arith

    under : (g u w r j : ℕ) → u ≤ g → j ≡ g * w + r → u * w ≤ j
    under g u w r j a e = let h : u * w ≤ g * w = mul-le-mul_right w a in omega arith

small_if : (n z t : ℕ) → t ≤ 38 + z → n * 10 ^ z < 10 ^ t → n < 10 ^ 38
small_if n z t le lt =
    let up = pow-le-pow_right ten le in
    let e = pow-add 10 38 z in
    let h : n * 10 ^ z < 10 ^ 38 * 10 ^ z = subst (λ (x : ℕ). n * 10 ^ z < x) e (omega arith) in
    lt_of_mul-lt-mul_right (10 ^ z) h

large_if : (n z t : ℕ) → 38 + z ≤ t → 10 ^ t ≤ n * 10 ^ z → n < 10 ^ 38 → ⊥
large_if n z t le ge lt =
    let up = pow-le-pow_right ten le in
    let e = pow-add 10 38 z in
    let h : n * 10 ^ z < 10 ^ 38 * 10 ^ z = mul-lt-mul_of_pos_right lt (one-le-pow z 10 ten) in
    let k : 10 ^ 38 * 10 ^ z ≤ 10 ^ t = subst (λ (x : ℕ). x ≤ 10 ^ t) e up in
    omega arith

not_narrow : (d : Decimal) (n c : ℕ) → nat_abs d.digits ≡ n * 10 ^ c → (n % 10 ≡ 0 → ⊥) → 10 ^ 38 ≤ n → (b : Bool) → is_narrow d ≡ b → b ≡ false
not_narrow d n c e last ge true h =
    let w = narrow_takes d h in
    let below : w.1 * 10 ^ w.0 < 10 ^ 38 * 10 ^ w.0 =
    subst (λ (x : ℕ). x < 10 ^ 38 * 10 ^ w.0) w.2 (subst (λ (x : ℕ). nat_abs d.digits < x) (pow-add 10 38 w.0) w.3) in
    let small : w.1 < 10 ^ 38 = lt_of_mul-lt-mul_right (10 ^ w.0) below in
    let le : n ≤ w.1 = least n c w.1 w.0 (sym e ∙ w.2) last in
    absurd (omega arith)
not_narrow d n c e last ge false h = refl

narrow_test : (d : Decimal) (n c : ℕ) → nat_abs d.digits ≡ n * 10 ^ c → (n % 10 ≡ 0 → ⊥) → is_narrow d ≡ ltb n (10 ^ 38)
narrow_test d n c e last = elim (cases_lt n (10 ^ 38)) [
  | inl lt ↦ narrow_again d (c, n, e, rw (e, pow-add 10 38 c) (mul-lt-mul_of_pos_right lt (one-le-pow c 10 ten))) ∙ sym (lt-ltb n (10 ^ 38) lt)
  | inr ge ↦ not_narrow d n c e last ge (is_narrow d) refl ∙ sym (le-ltb n (10 ^ 38) ge)
]

-- the number of digits decides
count_test : (g : ℕ) (gs : List ℕ) (k z n : ℕ) → Ends g gs k z → Joins g gs z n → ltb n (10 ^ 38) ≡ leb (4 * length gs + k - z) 38
count_test g gs k z n e j = elim (cases_lt 38 (4 * length gs + k - z)) [
  | inl gt ↦
      le-ltb n (10 ^ 38) (not_lt n (10 ^ 38) (large_if n z (k - 1 + 4 * length gs) (omega (arith, e.some)) (bounds g gs k z n e j).1))
      ∙ sym (lt-leb (4 * length gs + k - z) 38 gt)
  | inr le ↦
      lt-ltb n (10 ^ 38) (small_if n z (k + 4 * length gs) (omega arith) (bounds g gs k z n e j).0) ∙ sym (le-leb (4 * length gs + k - z) 38 le)
]
  where
    not_lt : (a b : ℕ) → (a < b → ⊥) → b ≤ a
    not_lt a b h = elim (cases_lt a b) [ inl lt ↦ absurd (h lt) | inr le ↦ le ]

are_some : (h : Header) (g : ℕ) (gs : List ℕ) (k z : ℕ) → Ends g gs k z → are_groups (g ∷ gs) ≡ true
are_some h g gs k z e =
    let t = one-le-pow (k - 1) 10 ten in
    let last : 0 < get_or (g ∷ gs) (length (g ∷ gs) - 1) 1 =
    last_pos (get_or (g ∷ gs) (length (g ∷ gs) - 1) 1) e.last.0 (10 ^ z) e.last.1 e.last.2 (one-le-pow z 10 ten) in
    rw (e.below, lt-ltb 0 g (omega (arith, e.at_least)), lt-ltb 0 (get_or (g ∷ gs) (length (g ∷ gs) - 1) 1) last) refl
  where
    last_pos : (l q p : ℕ) → l ≡ q * p → (q % 10 ≡ 0 → ⊥) → 0 < p → 0 < l
    last_pos l zero p e h pos = absurd (h refl)
    last_pos l (suc q) zero e h pos = absurd (omega arith)
    last_pos l (suc q) (suc p) e h pos = omega arith

-- no digit is past the fraction digits
abbrev pub fits_in : Header → List ℕ → ℕ → Bool
fits_in h gs z = leb (4 * (length gs + 2 ^ 15)) (h.dscale + z + 4 * (h.lift + 1))

divides : (n a b : ℕ) → (n % 10 ≡ 0 → ⊥) → (w u : ℕ) → w ≡ n * 10 ^ a → u ≡ 10 ^ b → eqb (w % u) 0 ≡ leb b a
divides n a b last w u e f = elim (cases_lt a b) [
  | inl lt ↦ ne_eqb (w % u) 0 (λ z. no_part lt z) ∙ sym (lt-leb b a lt)
  | inr le ↦ eq-eqb (w % u) 0 (rw (e, f, cut n a b le) (mul-mod_left (n * 10 ^ (a - b)) (10 ^ b))) ∙ sym (le-leb b a le)
]
  where
    no_part : a < b → w % u ≡ 0 → ⊥
    no_part lt z =
        let back : n * 10 ^ a ≡ w / u * 10 ^ b = sym e ∙ sym (whole_of w u z) ∙ ap (λ (x : ℕ). w / u * x) f in
        let le : b ≤ a = higher n a (w / u) b back last in
        omega arith

quotient : (n a b w u : ℕ) → b ≤ a → w ≡ n * 10 ^ a → u ≡ 10 ^ b → w / u ≡ n * 10 ^ (a - b)
quotient n a b w u le e f = rw (e, f, cut n a b le) (mul-div_cancel (n * 10 ^ (a - b)) (one-le-pow b 10 ten))

-- the ends of the groups decide
pub decided : (h : Header) (g : ℕ) (gs : List ℕ) (k z : ℕ) → Ends g gs k z
    → option_map is_narrow (only_if (are_groups (g ∷ gs)) (value_of h (g ∷ gs)))
    ≡ only_if (fits_in h (g ∷ gs) z) (Some (leb (4 * length gs + k - z) 38))
unfolding value_of
decided h g gs k z e =
    let jn = joins g gs k z e in
    let n = jn.0 in
    let j = jn.1 in
    let w = whole h (g ∷ gs) in
    let u = unit (g ∷ gs) in
    let a = h.dscale + z + 4 * (h.lift + 1) in
    let b = 4 * (length (g ∷ gs) + 2 ^ 15) in
    let w-is : w ≡ n * 10 ^ a = whole_is h g gs z n j in
    let u-is : u ≡ 10 ^ b = fours (length (g ∷ gs) + 2 ^ 15) in
    ap (λ (t : Bool). option_map is_narrow (only_if t (value_of h (g ∷ gs)))) (are_some h g gs k z e)
    ∙ ap (λ (t : Bool). option_map is_narrow (cond t (none_of h) (some_of h w u))) (ne_eqb (suc (length gs)) 0 (λ y. absurd cc))
    ∙ ap (λ (t : Bool). option_map is_narrow (only_if t (Some (record { digits = signed h.minus (w / u); places = h.dscale }))))
    (divides n a b j.last w u w-is u-is)
    ∙ elim (cases_lt a b) [
      | inl lt ↦ rw (lt-leb b a lt) refl
      | inr le ↦
          rw (le-leb b a le)
          (ap (λ (t : Bool). Some t)
          (narrow_test (record { digits = signed h.minus (w / u); places = h.dscale }) n (a - b)
          (abs_signed h.minus (w / u) ∙ quotient n a b w u le w-is u-is) j.last
          ∙ count_test g gs k z n e j))
    ]
