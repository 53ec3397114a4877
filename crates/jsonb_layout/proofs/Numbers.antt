-- A number that is read is the number that its bytes stand for.
use Rattle.std.proofs.Common.{◌≡◌, ℕ, zero, suc, ◌+◌, ◌-◌, ◌*◌, ◌/◌, ◌%◌, ◌^◌, ◌<◌, ◌≤◌, Bool, true, false, cond, eqb, ltb, leb, List, [], ◌∷◌, ◌++◌, length, get_or, take, drop, Option, Some, ℤ, pos, nat_abs, refl, sym, ap, subst, ◌∙◌, arith, inl, inr, ◌⊎◌}
use Rattle.std.specs.Prelude.{◌&&◌, not, IsTrue}
use Rattle.std.specs.Int.{w16, w32, to_le_bytes, from_le_bytes}
use Rattle.std.specs.List.{flat_map}
use Rattle.std.proofs.Math.Nat.{pow-suc, mul-mod_left, mul-div_cancel}
use Rattle.std.proofs.lemmas.Bool.{le-leb, leb-true, lt-leb, leb-false, lt-ltb, le-ltb, ltb-true, ltb-false, eqb-true, eqb-false, eq-eqb, ne_eqb, and_parts}
use Rattle.std.proofs.lemmas.List.{take_at, drop_at, take-append-drop, length-append, length-drop, drop-drop, length-take-le}
use Rattle.std.proofs.lemmas.Nat.{le_bytes_2, le_bytes_4, from_le_bytes-to_le_bytes_2, from_le_bytes-to_le_bytes_4, div-add-mod'}
use Rattle.json_model.specs.Decimal.{Decimal, signed}
use Rattle.json_model.proofs.DecimalLaws.{abs_signed}
use Rattle.jsonb_layout.specs.Numeric.{IsVarlena, bit, short_lift, long_lift, IsShort, IsLong, joined, all_below, are_groups, IsValue, Numeric}
use Rattle.jsonb_layout.specs.declared.header.Header.{Header}
use Rattle.jsonb_layout.specs.Options.{◌>>=◌, only_if}
use Rattle.jsonb_layout.specs.inner.Reading.{varlena_of, header_of, header_with, short_of, long_of, groups_of, value_of, numeric_of}
use Rattle.jsonb_layout.proofs.Tools.{guard, bind_some, some_is, IsBytes, IsBytes-take, IsBytes-drop}
use Rattle.jsonb_layout.proofs.Tools.{chosen}

-- ---- the varlena header

odd_first : (p : List ℕ) → get_or p 0 0 % 2 ≡ 1 → p ≡ get_or p 0 0 ∷ drop 1 p
odd_first [] e = absurd (omega arith)
odd_first (b ∷ p) e = refl

pub varlena_takes : (p body : List ℕ) → IsBytes p → varlena_of p ≡ Some body → IsVarlena p body × IsBytes body
unfolding varlena_of
varlena_takes p body fits e = elim (chosen (eqb (get_or p 0 0 % 2) 1) _ _ (Some body) e) [
  | inl g ↦
      let odd = eqb-true (get_or p 0 0 % 2) 1 g.0 in
      let h = guard (eqb (get_or p 0 0) (2 * length p + 1)) (Some (drop 1 p)) body g.1 in
      let size = eqb-true (get_or p 0 0) (2 * length p + 1) h.0 in
      let same : drop 1 p ≡ body = some_is (drop 1 p) body h.1 in (
        inr (omega (arith, fits 0), odd_first p odd ∙ ap (λ (n : ℕ). n ∷ drop 1 p) size ∙ ap (λ (r : List ℕ). (2 * length p + 1) ∷ r) same),
        subst IsBytes same (IsBytes-drop 1 p fits),
      )
  | inr g ↦
      let h = guard (leb 4 (length p) && eqb (from_le_bytes w32 (take 4 p)) (4 * length p)) (Some (drop 4 p)) body g.1 in
      let t = and_parts (leb 4 (length p)) (eqb (from_le_bytes w32 (take 4 p)) (4 * length p)) h.0 in
      let long = leb-true 4 (length p) t.0 in
      let size = eqb-true (from_le_bytes w32 (take 4 p)) (4 * length p) t.1 in
      let fits4 = IsBytes-take 4 p fits in
      let small : from_le_bytes w32 (take 4 p) < 2 ^ 32 = omega (arith, fits4 0, fits4 1, fits4 2, fits4 3) in
      let front : take 4 p ≡ to_le_bytes w32 (4 * length p) =
      sym (le_bytes_4 (take 4 p) (from_le_bytes w32 (take 4 p)) (length-take-le 4 p long) fits4 refl) ∙ ap (to_le_bytes w32) size in
      let same : drop 4 p ≡ body = some_is (drop 4 p) body h.1 in (
        inl (
          omega arith,
          sym (take-append-drop 4 p) ∙ ap (λ (f : List ℕ). f ++ drop 4 p) front ∙ ap (λ (r : List ℕ). to_le_bytes w32 (4 * length p) ++ r) same,
        ),
        subst IsBytes same (IsBytes-drop 4 p fits),
      )
]

-- the bytes behind a varlena header of one byte, and of four that say n
abbrev behind_one : List ℕ → Option (List ℕ)
behind_one p = only_if (eqb (get_or p 0 0) (2 * length p + 1)) (Some (drop 1 p))

abbrev behind_four : List ℕ → ℕ → Option (List ℕ)
behind_four p n = only_if (leb 4 (length p) && eqb (from_le_bytes w32 (take 4 p)) n) (Some (drop 4 p))

first_even : (n : ℕ) (r : List ℕ) → get_or (to_le_bytes w32 (4 * n) ++ r) 0 0 % 2 ≡ 0
first_even n r = omega arith

pub varlena_again : (p body : List ℕ) → IsVarlena p body → varlena_of p ≡ Some body
unfolding varlena_of
varlena_again p body (inl (small, e)) =
    let n = 4 * length p in
    let even : get_or p 0 0 % 2 ≡ 0 = ap (λ (x : List ℕ). get_or x 0 0 % 2) e ∙ first_even (length p) body in
    let long : 4 ≤ length p = omega (arith, ap length e, length-append (to_le_bytes w32 n) body) in
    let word : from_le_bytes w32 (take 4 p) ≡ n =
    ap (from_le_bytes w32) (ap (take 4) e ∙ take_at (to_le_bytes w32 n) body 4 refl) ∙ from_le_bytes-to_le_bytes_4 n (omega arith) in
    let rest : drop 4 p ≡ body = ap (drop 4) e ∙ drop_at (to_le_bytes w32 n) body 4 refl in
    ap
    (λ (k : ℕ). cond (eqb k 1) (behind_one p) (behind_four p n))
    even
    ∙ ap (λ (k : Bool). only_if (k && eqb (from_le_bytes w32 (take 4 p)) n) (Some (drop 4 p))) (le-leb 4 (length p) long)
    ∙ ap (λ (k : Bool). only_if k (Some (drop 4 p))) (eq-eqb (from_le_bytes w32 (take 4 p)) n word)
    ∙ ap (λ (r : List ℕ). Some r) rest
varlena_again p body (inr (small, e)) =
    let first : get_or p 0 0 ≡ 2 * length p + 1 = ap (λ (x : List ℕ). get_or x 0 0) e in
    let odd : get_or p 0 0 % 2 ≡ 1 = omega (arith, first) in
    let rest : drop 1 p ≡ body = ap (drop 1) e in
    ap
    (λ (k : ℕ). cond (eqb k 1) (behind_one p) (behind_four p (4 * length p)))
    odd
    ∙ ap (λ (k : Bool). only_if k (Some (drop 1 p))) (eq-eqb (get_or p 0 0) (2 * length p + 1) first)
    ∙ ap (λ (r : List ℕ). Some r) rest

-- ---- the numeric header

two_bytes : (b : List ℕ) → IsBytes b → 2 ≤ length b
    → (from_le_bytes w16 (take 2 b) < 2 ^ 16) × (take 2 b ≡ to_le_bytes w16 (from_le_bytes w16 (take 2 b)))
two_bytes b fits long =
    let f = IsBytes-take 2 b fits in
    (omega (arith, f 0, f 1), sym (le_bytes_2 (take 2 b) (from_le_bytes w16 (take 2 b)) (length-take-le 2 b long) f refl))

bit_of : (b : Bool) → bit b ≤ 1
bit_of true = omega arith
bit_of false = omega arith

long_word : (w : ℕ) → w < 2 ^ 15 → w ≡ 2 ^ 14 * bit (leb (2 ^ 14) w) + w % 2 ^ 14
long_word w lt = go (leb (2 ^ 14) w) refl
  where
    go : (b : Bool) → leb (2 ^ 14) w ≡ b → w ≡ 2 ^ 14 * bit b + w % 2 ^ 14
    go true e = let h = leb-true (2 ^ 14) w e in omega arith
    go false e = let h = leb-false (2 ^ 14) w e in omega arith

short_word : (w : ℕ) → 2 ^ 15 ≤ w → w < 2 ^ 15 + 2 ^ 14 → w ≡ 2 ^ 15 + 2 ^ 13 * bit (eqb (w / 2 ^ 13 % 2) 1) + 2 ^ 7 * (w / 2 ^ 7 % 64) + w % 128
short_word w ge lt = go (eqb (w / 2 ^ 13 % 2) 1) refl
  where
    go : (b : Bool) → eqb (w / 2 ^ 13 % 2) 1 ≡ b → w ≡ 2 ^ 15 + 2 ^ 13 * bit b + 2 ^ 7 * (w / 2 ^ 7 % 64) + w % 128
    go true e = let h = eqb-true (w / 2 ^ 13 % 2) 1 e in omega arith
    go false e = let h = eqb-false (w / 2 ^ 13 % 2) 1 e in omega arith

pub record Heads (b : List ℕ) (h : Header) (r : List ℕ) : Type 0 where
  pub head : List ℕ
  pub parts : b ≡ head ++ r
  pub form : IsShort head h ⊎ IsLong head h
  pub fits : IsBytes r

-- the two forms of a header, of its first word and its bytes
abbrev long_header : ℕ → List ℕ → Option (Header × List ℕ)
long_header w b = only_if (leb 4 (length b)) (Some (long_of w (from_le_bytes w16 (take 2 (drop 2 b))), drop 4 b))

abbrev short_header : ℕ → List ℕ → Option (Header × List ℕ)
short_header w b = only_if (ltb w (2 ^ 15 + 2 ^ 14)) (Some (short_of w, drop 2 b))

pub header_takes : (b : List ℕ) (x : Header × List ℕ) → IsBytes b → header_of b ≡ Some x → Heads b x.0 x.1
unfolding header_of
header_takes b x fits e =
    let w = from_le_bytes w16 (take 2 b) in
    let g = guard (leb 2 (length b)) (header_with w b) x e in
    let two = two_bytes b fits (leb-true 2 (length b) g.0) in
    let v = from_le_bytes w16 (take 2 (drop 2 b)) in
    elim (chosen (ltb w (2 ^ 15)) (long_header w b) (short_header w b) (Some x) g.1) [
      | inl c ↦
          let lt = ltb-true w (2 ^ 15) c.0 in
          let d = guard (leb 4 (length b)) (Some (long_of w v, drop 4 b)) x c.1 in
          let long = leb-true 4 (length b) d.0 in
          let more = two_bytes (drop 2 b) (IsBytes-drop 2 b fits) (omega (arith, length-drop 2 b)) in
          let head = to_le_bytes w16 (2 ^ 14 * bit (leb (2 ^ 14) w) + w % 2 ^ 14) ++ to_le_bytes w16 v in
          let parts : b ≡ head ++ drop 4 b =
          sym (take-append-drop 2 b)
          ∙ ap (λ (f : List ℕ). f ++ drop 2 b) (two.1 ∙ ap (to_le_bytes w16) (long_word w lt))
          ∙ ap (λ (r : List ℕ). to_le_bytes w16 (2 ^ 14 * bit (leb (2 ^ 14) w) + w % 2 ^ 14) ++ r)
          (sym (take-append-drop 2 (drop 2 b))
          ∙ ap (λ (f : List ℕ). f ++ drop 2 (drop 2 b)) more.1
          ∙ ap (λ (r : List ℕ). to_le_bytes w16 v ++ r) (drop-drop 2 2 b)) in
          subst (λ (y : Header × List ℕ). Heads b y.0 y.1) (some_is (long_of w v, drop 4 b) x d.1)
          (record { head = head; parts = parts; form = inr (v, more.0, omega arith, refl, refl); fits = IsBytes-drop 4 b fits })
      | inr c ↦
          let ge = ltb-false w (2 ^ 15) c.0 in
          let d = guard (ltb w (2 ^ 15 + 2 ^ 14)) (Some (short_of w, drop 2 b)) x c.1 in
          let lt = ltb-true w (2 ^ 15 + 2 ^ 14) d.0 in
          let full = 2 ^ 15 + 2 ^ 13 * bit (eqb (w / 2 ^ 13 % 2) 1) + 2 ^ 7 * (w / 2 ^ 7 % 64) + w % 128 in
          subst (λ (y : Header × List ℕ). Heads b y.0 y.1) (some_is (short_of w, drop 2 b) x d.1) (record {
            head = to_le_bytes w16 full;
            parts = sym (take-append-drop 2 b) ∙ ap (λ (f : List ℕ). f ++ drop 2 b) (two.1 ∙ ap (to_le_bytes w16) (short_word w ge lt));
            form = inl (w % 128, omega arith, omega arith, refl, refl);
            fits = IsBytes-drop 2 b fits;
          })
    ]

header_same : {m m' : Bool} {f f' l l' : ℕ} {r r' : List ℕ} → m ≡ m' → f ≡ f' → l ≡ l' → r ≡ r'
    → ◌≡◌ {A = Option (Header × List ℕ)} (Some (record { minus = m; dscale = f; lift = l }, r))
    (Some (record { minus = m'; dscale = f'; lift = l' }, r'))
header_same e g h k = rw (e, g, h, k) refl

minus_short : (m : Bool) (f s : ℕ) → f < 64 → s < 128 → eqb ((2 ^ 15 + 2 ^ 13 * bit m + 2 ^ 7 * f + s) / 2 ^ 13 % 2) 1 ≡ m
minus_short true f s h k = eq-eqb _ 1 (omega arith)
minus_short false f s h k = ne_eqb _ 1 (λ e. omega arith)

minus_long : (m : Bool) (f : ℕ) → f < 2 ^ 14 → leb (2 ^ 14) (2 ^ 14 * bit m + f) ≡ m
minus_long true f h = le-leb (2 ^ 14) _ (omega arith)
minus_long false f h = lt-leb (2 ^ 14) _ (omega arith)

pub header_again : (head : List ℕ) (h : Header) (r : List ℕ) → IsShort head h ⊎ IsLong head h → header_of (head ++ r) ≡ Some (h, r)
unfolding header_of
header_again head h r (inl (s, k, f, l, e)) =
    let w = 2 ^ 15 + 2 ^ 13 * bit h.minus + 2 ^ 7 * h.dscale + s in
    let b = head ++ r in
    let m = bit_of h.minus in
    let parts : b ≡ to_le_bytes w16 w ++ r = ap (λ (x : List ℕ). x ++ r) e in
    let word : from_le_bytes w16 (take 2 b) ≡ w =
    ap (from_le_bytes w16) (ap (take 2) parts ∙ take_at (to_le_bytes w16 w) r 2 refl) ∙ from_le_bytes-to_le_bytes_2 w (omega arith) in
    let long : 2 ≤ length b = omega (arith, ap length parts, length-append (to_le_bytes w16 w) r) in
    let dscale : w / 2 ^ 7 % 64 ≡ h.dscale = omega arith in
    let lift : w % 128 ≡ s = omega arith in
    ap (λ (k : Bool). only_if k (header_with (from_le_bytes w16 (take 2 b)) b)) (le-leb 2 (length b) long)
    ∙ ap (λ (v : ℕ). header_with v b) word
    ∙ ap (λ (k : Bool). cond k (long_header w b) (short_header w b)) (le-ltb w (2 ^ 15) (omega arith))
    ∙ ap (λ (k : Bool). only_if k (Some (short_of w, drop 2 b))) (lt-ltb w (2 ^ 15 + 2 ^ 14) (omega arith))
    ∙ header_same (minus_short h.minus h.dscale s f k) dscale (ap short_lift lift ∙ sym l) (ap (drop 2) parts ∙ drop_at (to_le_bytes w16 w) r 2 refl)
header_again head h r (inr (v, k, f, l, e)) =
    let w = 2 ^ 14 * bit h.minus + h.dscale in
    let b = head ++ r in
    let m = bit_of h.minus in
    let rest = to_le_bytes w16 v ++ r in
    let parts : b ≡ to_le_bytes w16 w ++ rest = ap (λ (x : List ℕ). x ++ r) e in
    let word : from_le_bytes w16 (take 2 b) ≡ w =
    ap (from_le_bytes w16) (ap (take 2) parts ∙ take_at (to_le_bytes w16 w) rest 2 refl) ∙ from_le_bytes-to_le_bytes_2 w (omega arith) in
    let after : drop 2 b ≡ rest = ap (drop 2) parts ∙ drop_at (to_le_bytes w16 w) rest 2 refl in
    let weight : from_le_bytes w16 (take 2 (drop 2 b)) ≡ v =
    ap (from_le_bytes w16) (ap (take 2) after ∙ take_at (to_le_bytes w16 v) r 2 refl) ∙ from_le_bytes-to_le_bytes_2 v k in
    let long : 4 ≤ length b = omega (arith, ap length parts, length-append (to_le_bytes w16 w) rest, length-append (to_le_bytes w16 v) r) in
    let dscale : w % 2 ^ 14 ≡ h.dscale = omega arith in
    ap (λ (k : Bool). only_if k (header_with (from_le_bytes w16 (take 2 b)) b)) (le-leb 2 (length b) (omega arith))
    ∙ ap (λ (u : ℕ). header_with u b) word
    ∙ ap (λ (k : Bool). cond k (long_header w b) (short_header w b)) (lt-ltb w (2 ^ 15) (omega arith))
    ∙ ap (λ (k : Bool). only_if k (Some (long_of w (from_le_bytes w16 (take 2 (drop 2 b))), drop 4 b))) (le-leb 4 (length b) long)
    ∙ header_same (minus_long h.minus h.dscale f) dscale (ap long_lift weight ∙ sym l) (ap (drop 4) parts)

-- ---- the groups

two_fit : (x y : ℕ) → x < 256 → y < 256 → (i : ℕ) → get_or (x ∷ y ∷ []) i 0 < 256
two_fit x y h k zero = h
two_fit x y h k (suc zero) = k
two_fit x y h k (suc (suc i)) = omega arith

pub groups_take : (n : ℕ) (b gs : List ℕ) → length b ≤ n → IsBytes b → groups_of b ≡ Some gs → b ≡ flat_map (to_le_bytes w16) gs
unfolding groups_of
groups_take n [] gs le fits e = rw (← some_is [] gs e) refl
groups_take n (x ∷ []) gs le fits e = absurd cc
groups_take zero (x ∷ y ∷ b) gs le fits e = absurd (omega arith)
groups_take (suc n) (x ∷ y ∷ b) gs le fits e =
    let a = bind_some (groups_of b) (λ gs. Some ((x + 256 * y) ∷ gs)) gs e in
    let more = groups_take n b a.0 (omega arith) (λ i. fits (suc (suc i))) a.1 in
    let two : to_le_bytes w16 (x + 256 * y) ≡ x ∷ y ∷ [] = le_bytes_2 (x ∷ y ∷ []) (x + 256 * y) refl (two_fit x y (fits 0) (fits 1)) (omega arith) in
    subst (λ (r : List ℕ). x ∷ y ∷ b ≡ flat_map (to_le_bytes w16) r) (some_is ((x + 256 * y) ∷ a.0) gs a.2)
    (ap (λ (f : List ℕ). f ++ b) (sym two) ∙ ap (λ (r : List ℕ). to_le_bytes w16 (x + 256 * y) ++ r) more)

pub groups_again : (gs : List ℕ) → IsTrue (all_below gs) → groups_of (flat_map (to_le_bytes w16) gs) ≡ Some gs
unfolding groups_of
groups_again [] h = refl
groups_again (g ∷ gs) h =
    let t = and_parts (ltb g 10000) (all_below gs) h in
    let lt : g < 10000 = ltb-true g 10000 t.0 in
    let same : from_le_bytes w16 (to_le_bytes w16 g) ≡ g = from_le_bytes-to_le_bytes_2 g (omega arith) in
    rw (groups_again gs t.1) (ap (λ (n : ℕ). Some (n ∷ gs)) (omega arith))

-- ---- the value

-- what is divided without a rest
pub whole_of : (w u : ℕ) → w % u ≡ 0 → w / u * u ≡ w
whole_of w u e = let h = div-add-mod' w u in omega arith

power_pos : (n : ℕ) → 0 < 10000 ^ n
power_pos zero = omega arith
power_pos (suc n) = let h = power_pos n in let e : 10000 ^ suc n ≡ 10000 ^ n * 10000 = pow-suc 10000 n in omega arith

signed_zero : (m : Bool) → pos 0 ≡ signed m 0
signed_zero true = refl
signed_zero false = refl

zero_both : (u a x : ℕ) → 0 * u ≡ a * (0 * x)
zero_both u a x = omega arith

zero_from : (n u a x : ℕ) → 0 < u → n * u ≡ a * (0 * x) → n ≡ 0
zero_from zero u a x p e = refl
zero_from (suc n) u a x p e = absurd (omega arith)

not_true : (b : Bool) → not b ≡ true → b ≡ false
not_true true e = absurd cc
not_true false e = refl

pub decimal_same : (a b : ℤ) (f g : ℕ) → a ≡ b → f ≡ g
    → ◌≡◌ {A = Option Decimal} (Some (record { digits = a; places = f })) (Some (record { digits = b; places = g }))
decimal_same a b f g e h = rw (e, h) refl

-- the digits of the groups, times a power of ten
abbrev pub whole : Header → List ℕ → ℕ
whole h gs = 10 ^ h.dscale * (joined gs * 10000 ^ (h.lift + 1))

-- what one digit of that is of the number
abbrev pub unit : List ℕ → ℕ
unit gs = 10000 ^ (length gs + 2 ^ 15)

-- the number of no groups
abbrev pub none_of : Header → Option Decimal
none_of h = only_if (eqb h.lift (2 ^ 15) && not h.minus) (Some (record { digits = pos 0; places = h.dscale }))

-- the number of some
abbrev pub some_of : Header → ℕ → ℕ → Option Decimal
some_of h w u = only_if (eqb (w % u) 0) (Some (record { digits = signed h.minus (w / u); places = h.dscale }))

-- a value that is computed is the value
pub value_takes : (h : Header) (gs : List ℕ) (d : Decimal) → value_of h gs ≡ Some d → IsValue h gs d
unfolding value_of
value_takes h [] d e =
    let g = guard (eqb h.lift (2 ^ 15) && not h.minus) (Some (record { digits = pos 0; places = h.dscale })) d e in
    let t = and_parts (eqb h.lift (2 ^ 15)) (not h.minus) g.0 in
    subst (λ (y : Decimal). IsValue h [] y) (some_is (record { digits = pos 0; places = h.dscale }) d g.1) (record {
      places = refl;
      sign = signed_zero h.minus;
      size = zero_both (unit []) (10 ^ h.dscale) (10000 ^ (h.lift + 1));
      zero = λ z. (eqb-true h.lift (2 ^ 15) t.0, not_true h.minus t.1);
    })
value_takes h (x ∷ gs) d e =
    let w = whole h (x ∷ gs) in
    let u = unit (x ∷ gs) in
    let c : some_of h w u ≡ Some d = sym (ap (λ (k : Bool). cond k (none_of h) (some_of h w u)) (ne_eqb (suc (length gs)) 0 (λ z. absurd cc))) ∙ e in
    let g = guard (eqb (w % u) 0) (Some (record { digits = signed h.minus (w / u); places = h.dscale })) d c in
    let n = abs_signed h.minus (w / u) in
    subst (λ (y : Decimal). IsValue h (x ∷ gs) y) (some_is (record { digits = signed h.minus (w / u); places = h.dscale }) d g.1) (record {
      places = refl;
      sign = ap (signed h.minus) (sym n);
      size = ap (λ (k : ℕ). k * u) n ∙ whole_of w u (eqb-true (w % u) 0 g.0);
      zero = λ z. absurd cc;
    })

pub value_again : (h : Header) (gs : List ℕ) (d : Decimal) → IsValue h gs d → value_of h gs ≡ Some d
unfolding value_of
value_again h [] d v =
    let z = v.zero refl in
    let n : nat_abs d.digits ≡ 0 = zero_from (nat_abs d.digits) (unit []) (10 ^ h.dscale) (10000 ^ (h.lift + 1)) (power_pos (0 + 2 ^ 15)) v.size in
    let c : pos 0 ≡ d.digits = signed_zero h.minus ∙ ap (signed h.minus) (sym n) ∙ sym v.sign in
    ap (λ (k : Bool). only_if (k && not h.minus) (Some (record { digits = pos 0; places = h.dscale }))) (eq-eqb h.lift (2 ^ 15) z.0)
    ∙ ap (λ (m : Bool). only_if (not m) (Some (record { digits = pos 0; places = h.dscale }))) z.1
    ∙ decimal_same (pos 0) d.digits h.dscale d.places c (sym v.places)
value_again h (x ∷ gs) d v =
    let w = whole h (x ∷ gs) in
    let u = unit (x ∷ gs) in
    let n = nat_abs d.digits in
    let r : w % u ≡ 0 = ap (λ (k : ℕ). k % u) (sym v.size) ∙ mul-mod_left n u in
    let q : w / u ≡ n = ap (λ (k : ℕ). k / u) (sym v.size) ∙ mul-div_cancel n (power_pos (length (x ∷ gs) + 2 ^ 15)) in
    ap (λ (k : Bool). cond k (none_of h) (some_of h w u)) (ne_eqb (suc (length gs)) 0 (λ z. absurd cc))
    ∙ ap (λ (k : Bool). only_if k (Some (record { digits = signed h.minus (w / u); places = h.dscale }))) (eq-eqb (w % u) 0 r)
    ∙ decimal_same (signed h.minus (w / u)) d.digits h.dscale d.places (ap (signed h.minus) q ∙ sym v.sign) (sym v.places)

-- ---- the whole number

are_below : (gs : List ℕ) → are_groups gs ≡ true → all_below gs ≡ true
are_below gs e =
    (and_parts (all_below gs) (ltb 0 (get_or gs 0 1)) (and_parts (all_below gs && ltb 0 (get_or gs 0 1)) (ltb 0 (get_or gs (length gs - 1) 1)) e).0).0

-- a number that is read is the one its bytes stand for
pub numeric_takes : (p : List ℕ) (d : Decimal) → IsBytes p → numeric_of p ≡ Some d → Numeric p d
unfolding numeric_of
numeric_takes p d fits e =
    let a = bind_some (varlena_of p) (λ body. header_of body >>= λ h. groups_of h.1 >>= λ gs. only_if (are_groups gs) (value_of h.0 gs)) d e in
    let b = bind_some (header_of a.0) (λ h. groups_of h.1 >>= λ gs. only_if (are_groups gs) (value_of h.0 gs)) d a.2 in
    let c = bind_some (groups_of b.0.1) (λ gs. only_if (are_groups gs) (value_of b.0.0 gs)) d b.2 in
    let g = guard (are_groups c.0) (value_of b.0.0 c.0) d c.2 in
    let v = varlena_takes p a.0 fits a.1 in
    let h = header_takes a.0 b.0 v.1 b.1 in
    let gs = groups_take (length b.0.1) b.0.1 c.0 (omega arith) h.fits c.1 in
    record {
      body = a.0;
      head = h.head;
      header = b.0.0;
      groups = c.0;
      varlena = v.0;
      parts = h.parts ∙ ap (λ (r : List ℕ). h.head ++ r) gs;
      form = h.form;
      fit = g.0;
      value = value_takes b.0.0 c.0 d g.1;
    }

-- a number that bytes stand for is read
pub numeric_again : (p : List ℕ) (d : Decimal) → Numeric p d → numeric_of p ≡ Some d
unfolding numeric_of
numeric_again p d n =
    let head : header_of n.body ≡ Some (n.header, flat_map (to_le_bytes w16) n.groups) =
    ap header_of n.parts ∙ header_again n.head n.header (flat_map (to_le_bytes w16) n.groups) n.form in
    let gs = groups_again n.groups (are_below n.groups n.fit) in
    rw (varlena_again p n.body n.varlena, head, gs, n.fit) (value_again n.header n.groups d n.value)
