-- Runs of digits: how they are read, and how they compare.
use Rattle.std.proofs.Common.{◌≡◌, ℕ, ◌+◌, ◌*◌, ◌-◌, ◌<◌, ◌≤◌, Bool, true, false, [], ◌∷◌, Option, Some, None, option_and_then, refl, ap, sym, ◌∙◌, subst, arith}
use Rattle.std.specs.Prelude.{if◌then◌else◌, ◌==◌, nat_le, nat_lt, ◌&&◌}
use Rattle.std.proofs.lemmas.Bool.Decides.{nat_tests}
use Rattle.std.proofs.lemmas.Bool.{leb-true, le-leb}
use Rattle.pattern_model.specs.Text.{Text, is_at}
use Rattle.pattern_model.specs.Digits.{is_digit, digits_from, hex_value, hex_to_brace}
use Rattle.pattern_model.specs.CodePoints.{if_code_point}
use Rattle.pattern_tree.specs.Capped.{run}

pub digits_on : (n c : ℕ) (x y : Text) → y ≡ c ∷ x → is_digit c ≡ true → digits_from n y ≡ digits_from (10 * n + (c - 48)) x
digits_on n c x y e d = ap (digits_from n) e ∙ ap (λ z. if z then digits_from (10 * n + (c - 48)) x else (n, c ∷ x)) d

pub digits_off : (n c : ℕ) (x y : Text) → y ≡ c ∷ x → is_digit c ≡ false → digits_from n y ≡ (n, y)
digits_off n c x y e d = ap (digits_from n) e ∙ (ap (λ z. if z then digits_from (10 * n + (c - 48)) x else (n, c ∷ x)) d
    ∙ ap (λ z. (n, z)) (sym e))

pub run_on : (c : ℕ) (x y : Text) → y ≡ c ∷ x → is_digit c ≡ true → run y ≡ run x + 1
run_on c x y e d = ap run e ∙ ap (λ z. if z then run x + 1 else 0) d

pub run_off : (c : ℕ) (x y : Text) → y ≡ c ∷ x → is_digit c ≡ false → run y ≡ 0
run_off c x y e d = ap run e ∙ ap (λ z. if z then run x + 1 else 0) d

pub no_run : (n : ℕ) (x : Text) → run x ≡ 0 → digits_from n x ≡ (n, x)
no_run n [] e = refl
no_run n (c ∷ x) e = go (is_digit c) e
  where
    go : (b : Bool) → (if b then run x + 1 else 0) ≡ 0 → (if b then digits_from (10 * n + (c - 48)) x else (n, c ∷ x)) ≡ (n, c ∷ x)
    go true h = absurd (omega arith)
    go false h = refl

pub digit_small : (c : ℕ) → is_digit c ≡ true → (48 ≤ c) × (c ≤ 57)
digit_small c h = go (nat_le 48 c) (nat_le c 57) refl refl h
  where
    go : (a b : Bool) → nat_le 48 c ≡ a → nat_le c 57 ≡ b → a && b ≡ true → (48 ≤ c) × (c ≤ 57)
    go true true e f h = (leb-true 48 c e, leb-true c 57 f)
    go true false e f h = cc
    go false b e f h = cc

abbrev pub LessFrom : Text → Type 0
LessFrom x = (u w : ℕ) (y : Text) → run x ≡ run y → u < w → (digits_from u x).0 < (digits_from w y).0

step_less : (c : ℕ) (x : Text) → LessFrom x → LessFrom (c ∷ x)
step_less c x ih u w [] e h = let q : digits_from u (c ∷ x) ≡ (u, c ∷ x) = no_run u (c ∷ x) e in subst (λ z. z.0 < w) (sym q) h
step_less c x ih u w (d ∷ y) e h = go (is_digit c) (is_digit d) refl refl e
  where
    go : (a b : Bool) → is_digit c ≡ a → is_digit d ≡ b → (if a then run x + 1 else 0) ≡ (if b then run y + 1 else 0) →
        (if a then digits_from (10 * u + (c - 48)) x else (u, c ∷ x)).0 < (if b then digits_from (10 * w + (d - 48)) y else (w, d ∷ y)).0
    go true true p q k = let s = digit_small c p in ih (10 * u + (c - 48)) (10 * w + (d - 48)) y (omega arith) (omega (arith, s.0, s.1))
    go true false p q k = absurd (omega arith)
    go false true p q k = absurd (omega arith)
    go false false p q k = h

-- runs of one length: what comes first decides
pub same_less : (x : Text) → LessFrom x
same_less [] u w y e h = let q : digits_from w y ≡ (w, y) = no_run w y (sym e) in subst (λ z. u < z.0) (sym q) h
same_less (c ∷ x) u w y e h = step_less c x (same_less x) u w y e h

abbrev pub LongFrom : Text → Text → Type 0
LongFrom x y = (w : ℕ) → run x ≤ run y → 0 < w → (digits_from 0 x).0 < (digits_from w y).0

long_step : (x : Text) (d : ℕ) (y : Text) → LongFrom x y → LongFrom x (d ∷ y)
long_step x d y ih w h p = go (is_digit d) refl h
  where
    go : (b : Bool) → is_digit d ≡ b → run x ≤ (if b then run y + 1 else 0) →
        (digits_from 0 x).0 < (if b then digits_from (10 * w + (d - 48)) y else (w, d ∷ y)).0
    go false e h = let q : digits_from 0 x ≡ (0, x) = no_run 0 x (omega arith) in subst (λ z. z.0 < w) (sym q) p
    go true e h = pick (nat_le (run x) (run y)) refl
      where
        pick : (t : Bool) → nat_le (run x) (run y) ≡ t → (digits_from 0 x).0 < (digits_from (10 * w + (d - 48)) y).0
        pick true f = ih (10 * w + (d - 48)) (leb-true (run x) (run y) f) (omega arith)
        pick false f =
            let longer : run y < run x = grind (arith, nat_tests) in
            let same : run x ≡ run (d ∷ y) = let r : run (d ∷ y) ≡ run y + 1 = run_on d y (d ∷ y) refl e in omega arith in
            subst (λ z. (digits_from 0 x).0 < z.0) (digits_on w d y (d ∷ y) refl e) (same_less x 0 w (d ∷ y) same p)

pub less_long : (x y : Text) → LongFrom x y
less_long x [] w h p = let q : digits_from 0 x ≡ (0, x) = no_run 0 x (omega arith) in subst (λ z. z.0 < w) (sym q) p
less_long x (d ∷ y) w h p = long_step x d y (less_long x y) w h p

-- a longer run that begins with no zero is the greater number
pub strip_less : (x y : Text) → is_at 48 y ≡ false → run x < run y → (digits_from 0 x).0 < (digits_from 0 y).0
strip_less x [] e h = absurd (omega arith)
strip_less x (d ∷ y) e h = go (is_digit d) refl h
  where
    go : (b : Bool) → is_digit d ≡ b → run x < (if b then run y + 1 else 0) →
        (digits_from 0 x).0 < (if b then digits_from (10 * 0 + (d - 48)) y else (0, d ∷ y)).0
    go false f h = absurd (omega arith)
    go true f h =
        let s = digit_small d f in
        let n : (d ≡ 48) → ⊥ = λ k. let q : (d == 48) ≡ true = grind (arith, nat_tests) in cc in
        less_long x y (10 * 0 + (d - 48)) (omega arith) (let n2 = n in let s0 = s.0 in grind (arith, nat_tests))

pub le_true : (a b : ℕ) → a ≤ b → nat_le a b ≡ true
le_true a b h = le-leb a b h

pub le_false : (a b : ℕ) → b < a → nat_le a b ≡ false
le_false a b h = grind (arith, nat_tests)

-- the escape in braces: a number above 10FFFF stays above
pub too_high : (n : ℕ) (x : Text) → 1114111 < n → option_and_then if_code_point (hex_to_brace n x) ≡ None
too_high n [] h = refl
too_high n (c ∷ x) h = go (c == 125) (hex_value c) (λ d. too_high (16 * n + d) x (omega arith))
  where
    go : (b : Bool) (o : Option ℕ) → ((d : ℕ) → option_and_then if_code_point (hex_to_brace (16 * n + d) x) ≡ None) →
        option_and_then if_code_point (if b then Some (n, x) else option_and_then (λ d. hex_to_brace (16 * n + d) x) o) ≡ None
    go true o ih = ap (λ z. if z then Some (n, x) else None) (le_false n 1114111 h)
    go false None ih = refl
    go false (Some d) ih = ih d

-- the loop over two runs of one length
pub same_none : (n : ℕ) (x y : Text) (p q : ℕ × Text) → x ≡ [] → run x ≡ run y → digits_from n x ≡ p → digits_from n y ≡ q →
    true ≡ nat_le p.0 q.0
same_none n x y p q e r f g =
    let a : (digits_from n x).0 ≡ n = ap (λ z. (digits_from n z).0) e in
    let zero_run : run y ≡ 0 = sym r ∙ ap run e in
    let b : (digits_from n y).0 ≡ n = ap (λ z. z.0) (no_run n y zero_run) in
    let k : p.0 ≡ q.0 = sym (ap (λ z. z.0) f) ∙ (a ∙ (sym b ∙ ap (λ z. z.0) g)) in
    sym (le_true p.0 q.0 (omega arith))

pub same_end : (n c : ℕ) (next x y : Text) (p q : ℕ × Text) → x ≡ c ∷ next → is_digit c ≡ false → run x ≡ run y → digits_from n x ≡ p →
    digits_from n y ≡ q → true ≡ nat_le p.0 q.0
same_end n c next x y p q e d r f g =
    let zero_run : run x ≡ 0 = run_off c next x e d in
    let a : (digits_from n x).0 ≡ n = ap (λ z. z.0) (no_run n x zero_run) in
    let b : (digits_from n y).0 ≡ n = ap (λ z. z.0) (no_run n y (sym r ∙ zero_run)) in
    let k : p.0 ≡ q.0 = sym (ap (λ z. z.0) f) ∙ (a ∙ (sym b ∙ ap (λ z. z.0) g)) in
    sym (le_true p.0 q.0 (omega arith))

other_digit : (d : ℕ) (y : Text) (n : ℕ) → run (d ∷ y) ≡ n + 1 → (is_digit d ≡ true) × (run y ≡ n)
other_digit d y n e = go (is_digit d) refl e
  where
    go : (b : Bool) → is_digit d ≡ b → (if b then run y + 1 else 0) ≡ n + 1 → (is_digit d ≡ true) × (run y ≡ n)
    go true f h = (f, omega arith)
    go false f h = absurd (omega arith)

pub same_decides : (n c d : ℕ) (next other x y : Text) (p q : ℕ × Text) → x ≡ c ∷ next → y ≡ d ∷ other → is_digit c ≡ true → (c ≡ d → ⊥) →
    run x ≡ run y → digits_from n x ≡ p → digits_from n y ≡ q → nat_lt c d ≡ nat_le p.0 q.0
same_decides n c d next other x y p q ex ey dc ne r f g =
    let rx : run x ≡ run next + 1 = run_on c next x ex dc in
    let two = other_digit d other (run next) (sym (ap run ey) ∙ (sym r ∙ rx)) in
    let a : digits_from (10 * n + (c - 48)) next ≡ p = sym (digits_on n c next x ex dc) ∙ f in
    let b : digits_from (10 * n + (d - 48)) other ≡ q = sym (digits_on n d other y ey two.0) ∙ g in
    let sc = digit_small c dc in
    let sd = digit_small d two.0 in
    go (nat_lt c d) refl a b two.1 sc.0 sc.1 sd.0 sd.1
  where
    go : (t : Bool) → nat_lt c d ≡ t → digits_from (10 * n + (c - 48)) next ≡ p → digits_from (10 * n + (d - 48)) other ≡ q →
        run other ≡ run next →
        48 ≤ c → c ≤ 57 → 48 ≤ d → d ≤ 57 → t ≡ nat_le p.0 q.0
    go true t a b r c1 c2 d1 d2 =
        let lt : c < d = grind (arith, nat_tests) in
        let l : (digits_from (10 * n + (c - 48)) next).0 < (digits_from (10 * n + (d - 48)) other).0 =
        same_less next _ _ other (sym r) (omega arith) in
        let k : p.0 < q.0 = subst (λ z. z.0 < q.0) a (subst (λ z. (digits_from (10 * n + (c - 48)) next).0 < z.0) b l) in
        sym (le_true p.0 q.0 (omega arith))
    go false t a b r c1 c2 d1 d2 =
        let lt : d < c = grind (arith, nat_tests) in
        let l : (digits_from (10 * n + (d - 48)) other).0 < (digits_from (10 * n + (c - 48)) next).0 =
        same_less other _ _ next r (omega arith) in
        let k : q.0 < p.0 = subst (λ z. z.0 < p.0) b (subst (λ z. (digits_from (10 * n + (d - 48)) other).0 < z.0) a l) in
        sym (le_false p.0 q.0 k)

pub runs_decide : (x y : Text) (p q : ℕ × Text) → is_at 48 x ≡ false → is_at 48 y ≡ false → (run x ≡ run y → ⊥) → digits_from 0 x ≡ p →
    digits_from 0 y ≡ q → nat_lt (run x) (run y) ≡ nat_le p.0 q.0
runs_decide x y p q ex ey ne f g = go (nat_lt (run x) (run y)) refl
  where
    go : (t : Bool) → nat_lt (run x) (run y) ≡ t → t ≡ nat_le p.0 q.0
    go true t =
        let lt : run x < run y = grind (arith, nat_tests) in
        let k : p.0 < q.0 = subst (λ z. z.0 < q.0) f (subst (λ z. (digits_from 0 x).0 < z.0) g (strip_less x y ey lt)) in
        sym (le_true p.0 q.0 (omega arith))
    go false t =
        let lt : run y < run x = grind (arith, nat_tests) in
        let k : q.0 < p.0 = subst (λ z. z.0 < p.0) g (subst (λ z. (digits_from 0 y).0 < z.0) f (strip_less y x ex lt)) in
        sym (le_false p.0 q.0 k)

pub brace_high : (n c d : ℕ) (next x : Text) → x ≡ c ∷ next → (c ≡ 125 → ⊥) → Some d ≡ hex_value c → 1114111 < 16 * n + d →
    option_and_then if_code_point (hex_to_brace n x) ≡ None
brace_high n c d next x e ne v h =
    let f : (c == 125) ≡ false = grind (arith, nat_tests) in
    ap (λ z. option_and_then if_code_point (hex_to_brace n z)) e
    ∙ (ap (λ z. option_and_then if_code_point (if z then Some (n, next) else option_and_then (λ d. hex_to_brace (16 * n + d) next)
    (hex_value c))) f
    ∙ (ap (λ z. option_and_then if_code_point (option_and_then (λ d. hex_to_brace (16 * n + d) next) z)) (sym v)
    ∙ too_high (16 * n + d) next h))
