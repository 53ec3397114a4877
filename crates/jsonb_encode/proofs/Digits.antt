-- The digits of a number in base 10000, one after another, and the zeros at their end.
use Rattle.std.proofs.Common.{◌≡◌, ℕ, zero, suc, ◌+◌, ◌-◌, ◌*◌, ◌/◌, ◌%◌, ◌^◌, ◌<◌, ◌≤◌, Bool, true, false, eqb, cond, List, [], ◌∷◌, ◌++◌, length, refl, sym, ap, subst, ◌∙◌, arith, inl, inr}
use Rattle.std.specs.Prelude.{◌&&◌}
use Rattle.std.proofs.Math.Nat.{pow-suc, mul-div_cancel, mul-mod_left, div-div-eq-div-mul, mul-lt-mul_of_pos_right}
use Rattle.std.proofs.lemmas.Nat.{pow-add, div-add-mod', div-mul-add, mod-mul-add, div_below, mod_below}
use Rattle.std.proofs.lemmas.Bool.{lt-ltb, ne_eqb, cases_lt}
use Rattle.json_exact.specs.Digits.{spread, count_of}
use Rattle.json_exact.specs.inner.LeadingDigitsLaws.{power_pos, count_is}
use Rattle.jsonb_layout.specs.Numeric.{joined, all_below}
use Rattle.jsonb_encode.specs.Number.{all_zero, trimmed}

pub base_pos : (k : ℕ) → 0 < 10000 ^ k
base_pos k = power_pos 10000 k (omega arith)

-- so many digits are written
pub spread_length : (m x : ℕ) → length (spread 10000 m x) ≡ m
spread_length zero x = refl
spread_length (suc m) x = ap (λ (n : ℕ). suc n) (spread_length m (x % 10000 ^ m))

-- each is below the base
pub spread_below : (m x : ℕ) → x < 10000 ^ m → all_below (spread 10000 m x) ≡ true
spread_below zero x lt = refl
spread_below (suc m) x lt =
    let p = base_pos m in
    let e : 10000 ^ suc m ≡ 10000 * 10000 ^ m = pow-suc 10000 m ∙ (let t : 10000 ^ m * 10000 ≡ 10000 * 10000 ^ m = omega arith in t) in
    let first = div_below x (10000 ^ m) 10000 p (subst (λ (y : ℕ). x < y) e lt) in
    rw (lt-ltb (x / 10000 ^ m) 10000 first, spread_below m (x % 10000 ^ m) (mod_below x (10000 ^ m) p)) refl

-- joined they are the number
pub spread_joined : (m x : ℕ) → x < 10000 ^ m → joined (spread 10000 m x) ≡ x
spread_joined zero x lt = omega arith
spread_joined (suc m) x lt =
    let p = base_pos m in
    ap (λ (k : ℕ). x / 10000 ^ m * 10000 ^ k + joined (spread 10000 m (x % 10000 ^ m))) (spread_length m (x % 10000 ^ m))
    ∙ ap (λ (y : ℕ). x / 10000 ^ m * 10000 ^ m + y) (spread_joined m (x % 10000 ^ m) (mod_below x (10000 ^ m) p))
    ∙ div-add-mod' x (10000 ^ m)

-- the first digits and the last, of a number that is cut at both
pub record Cut (x p : ℕ) : Type 0 where
  pub first : x / (p * 10000) ≡ x / 10000 / p
  pub middle : x % (p * 10000) / 10000 ≡ x / 10000 % p
  pub last : x % (p * 10000) % 10000 ≡ x % 10000

pub cut : (x p : ℕ) → 0 < p → Cut x p
cut x p pos =
    let pb : 0 < p * 10000 = omega arith in
    let q = x / (p * 10000) in
    let r = x % (p * 10000) in
    let rl : r < p * 10000 = mod_below x (p * 10000) pb in
    let r1 = r / 10000 in
    let r0 = r % 10000 in
    let lt1 : r1 < p = div_below r 10000 p (omega arith) rl in
    let lt0 : r0 < 10000 = mod_below r 10000 (omega arith) in
    let rs : r1 * 10000 + r0 ≡ r = div-add-mod' r 10000 in
    let xs : q * (p * 10000) + r ≡ x = div-add-mod' x (p * 10000) in
    let whole : (q * p + r1) * 10000 + r0 ≡ x = shuffled q p r1 r0 r x rs xs in
    let d : x / 10000 ≡ q * p + r1 = ap (λ (y : ℕ). y / 10000) (sym whole) ∙ div-mul-add (q * p + r1) 10000 r0 lt0 in
    let m : x % 10000 ≡ r0 = ap (λ (y : ℕ). y % 10000) (sym whole) ∙ mod-mul-add (q * p + r1) 10000 r0 lt0 in
    record {
      first = sym (ap (λ (y : ℕ). y / p) d ∙ div-mul-add q p r1 lt1);
      middle = sym (ap (λ (y : ℕ). y % p) d ∙ mod-mul-add q p r1 lt1);
      last = sym m;
    }
  where
    shuffled : (q p a b r x : ℕ) → a * 10000 + b ≡ r → q * (p * 10000) + r ≡ x → (q * p + a) * 10000 + b ≡ x
    shuffled q p a b r x e f = omega arith

-- the last digit by itself
pub spread_last : (m x : ℕ) → x < 10000 ^ suc m → spread 10000 (suc m) x ≡ spread 10000 m (x / 10000) ++ (x % 10000) ∷ []
spread_last zero x lt = let e : x / 10000 ^ 0 ≡ x % 10000 = omega arith in ap (λ (g : ℕ). g ∷ []) e
spread_last (suc m) x lt =
    let p = 10000 ^ m in
    let pos = base_pos m in
    let c = cut x p pos in
    let e : 10000 ^ suc m ≡ p * 10000 = pow-suc 10000 m in
    let small : x % (p * 10000) < 10000 ^ suc m = subst (λ (y : ℕ). x % (p * 10000) < y) (sym e) (mod_below x (p * 10000) (omega arith)) in
    ap (λ (y : ℕ). (x / y) ∷ spread 10000 (suc m) (x % y)) e
    ∙ ap (λ (g : ℕ). g ∷ spread 10000 (suc m) (x % (p * 10000))) c.first
    ∙ ap (λ (gs : List ℕ). (x / 10000 / p) ∷ gs)
    (spread_last m (x % (p * 10000)) small
    ∙ ap (λ (y : ℕ). spread 10000 m y ++ (x % (p * 10000) % 10000) ∷ []) c.middle
    ∙ ap (λ (g : ℕ). spread 10000 m (x / 10000 % p) ++ g ∷ []) c.last)

-- ---- zeros at the end

zero_more : (gs : List ℕ) → all_zero (gs ++ 0 ∷ []) ≡ all_zero gs
zero_more [] = refl
zero_more (g ∷ gs) = ap (λ (b : Bool). eqb g 0 && b) (zero_more gs)

-- a zero at the end is left out
pub trimmed_zero : (gs : List ℕ) → trimmed (gs ++ 0 ∷ []) ≡ trimmed gs
trimmed_zero [] = refl
trimmed_zero (g ∷ gs) =
    ap (λ (b : Bool). cond (eqb g 0 && b) [] (g ∷ trimmed (gs ++ 0 ∷ []))) (zero_more gs)
    ∙ ap (λ (hs : List ℕ). cond (eqb g 0 && all_zero gs) [] (g ∷ hs)) (trimmed_zero gs)

and_false : (b : Bool) → (b && false) ≡ false
and_false true = refl
and_false false = refl

some_last : (gs : List ℕ) (g : ℕ) → 0 < g → all_zero (gs ++ g ∷ []) ≡ false
some_last [] g some = ap (λ (b : Bool). b && true) (ne_eqb g 0 (λ e. absurd (omega arith)))
some_last (h ∷ gs) g some = ap (λ (b : Bool). eqb h 0 && b) (some_last gs g some) ∙ and_false (eqb h 0)

-- where the last is not 0, nothing is
pub trimmed_some : (gs : List ℕ) (g : ℕ) → 0 < g → trimmed (gs ++ g ∷ []) ≡ gs ++ g ∷ []
trimmed_some [] g some = ap (λ (b : Bool). cond b [] (g ∷ [])) (some_last [] g some)
trimmed_some (h ∷ gs) g some =
    ap (λ (b : Bool). cond b [] (h ∷ trimmed (gs ++ g ∷ []))) (some_last (h ∷ gs) g some)
    ∙ ap (λ (hs : List ℕ). h ∷ hs) (trimmed_some gs g some)

-- the digits without the zeros at the end, of a number that ends in z of them
pub trimmed_spread : (z m k x y : ℕ) → k ≡ m + z → x ≡ y * 10000 ^ z → y < 10000 ^ m → 0 < y % 10000
    → trimmed (spread 10000 k x) ≡ spread 10000 m y
trimmed_spread zero zero k x y e f lt some = absurd (omega arith)
trimmed_spread zero (suc m) k x y e f lt some =
    let k-is : k ≡ suc m = omega arith in
    let x-is : x ≡ y = omega arith in
    let last = spread_last m y lt in
    ap (λ (n : ℕ). trimmed (spread 10000 n x)) k-is
    ∙ ap (λ (n : ℕ). trimmed (spread 10000 (suc m) n)) x-is
    ∙ ap trimmed last
    ∙ trimmed_some (spread 10000 m (y / 10000)) (y % 10000) some
    ∙ sym last
trimmed_spread (suc z) m k x y e f lt some =
    let k-is : k ≡ suc (m + z) = omega arith in
    let w = y * 10000 ^ z in
    let x-is : x ≡ w * 10000 = f ∙ times y (10000 ^ suc z) (10000 ^ z) (pow-suc 10000 z) in
    let small : w < 10000 ^ (m + z) = subst (λ (n : ℕ). w < n) (sym (pow-add 10000 m z)) (mul-lt-mul_of_pos_right lt (base_pos z)) in
    let next : x < 10000 ^ suc (m + z) = let p : 10000 ^ suc (m + z) ≡ 10000 ^ (m + z) * 10000 = pow-suc 10000 (m + z) in omega arith in
    let d : x / 10000 ≡ w = ap (λ (n : ℕ). n / 10000) x-is ∙ mul-div_cancel w (omega arith) in
    let r : x % 10000 ≡ 0 = ap (λ (n : ℕ). n % 10000) x-is ∙ mul-mod_left w 10000 in
    ap (λ (n : ℕ). trimmed (spread 10000 n x)) k-is
    ∙ ap trimmed (spread_last (m + z) x next)
    ∙ ap (λ (n : ℕ). trimmed (spread 10000 (m + z) n ++ (x % 10000) ∷ [])) d
    ∙ ap (λ (g : ℕ). trimmed (spread 10000 (m + z) w ++ g ∷ [])) r
    ∙ trimmed_zero (spread 10000 (m + z) w)
    ∙ trimmed_spread z m (m + z) w y refl refl lt some
  where
    times : (y p q : ℕ) → p ≡ q * 10000 → y * p ≡ y * q * 10000
    times y p q e = rw e (omega arith)

-- ---- a number by its digits

next_digit : (x i : ℕ) → x / 10000 / 10000 ^ i ≡ x / 10000 ^ suc i
next_digit x i =
    div-div-eq-div-mul x 10000 (10000 ^ i)
    ∙ ap (λ (p : ℕ). x / p) (let t : 10000 * 10000 ^ i ≡ 10000 ^ i * 10000 = omega arith in t ∙ sym (pow-suc 10000 i))

-- a number whose digits are all 0 is
pub no_digits : (fuel x : ℕ) → x ≤ fuel → ((i : ℕ) → x / 10000 ^ i % 10000 ≡ 0) → x ≡ 0
no_digits zero x le h = omega arith
no_digits (suc fuel) x le h =
    let more = no_digits fuel (x / 10000) (omega arith) (λ i. ap (λ (y : ℕ). y % 10000) (next_digit x i) ∙ h (suc i)) in
    let last : x % 10000 ≡ 0 = ap (λ (y : ℕ). y % 10000) (let t : x ≡ x / 10000 ^ 0 = omega arith in t) ∙ h 0 in
    let whole = div-add-mod' x 10000 in
    omega arith

-- above the digits there is nothing
pub below_top : (x j : ℕ) → ((i : ℕ) → j ≤ i → x / 10000 ^ i % 10000 ≡ 0) → x < 10000 ^ j
below_top x j h =
    let z = no_digits (x / 10000 ^ j) (x / 10000 ^ j) (omega arith) (λ i.
    let le : j ≤ j + i = omega arith in
    ap (λ (y : ℕ). y % 10000) (div-div-eq-div-mul x (10000 ^ j) (10000 ^ i) ∙ ap (λ (p : ℕ). x / p) (sym (pow-add 10000 j i))) ∙ h (j + i) le) in
    let whole = div-add-mod' x (10000 ^ j) in
    let small = mod_below x (10000 ^ j) (base_pos j) in
    done x (x / 10000 ^ j) (x % 10000 ^ j) (10000 ^ j) z whole small
  where
    done : (x q r p : ℕ) → q ≡ 0 → q * p + r ≡ x → r < p → x < p
    done x q r p e f lt = let g : q * p ≡ 0 = ap (λ (k : ℕ). k * p) e ∙ (let t : 0 * p ≡ 0 = omega arith in t) in omega arith

-- and a digit that is not 0 is part of it
pub from_top : (x j : ℕ) → (x / 10000 ^ j % 10000 ≡ 0 → ⊥) → 10000 ^ j ≤ x
from_top x j some = elim (cases_lt x (10000 ^ j)) [
  | inr ge ↦ ge
  | inl lt ↦
      let z : x / 10000 ^ j ≡ 0 = none x (10000 ^ j) lt in
      absurd (some (ap (λ (y : ℕ). y % 10000) z))
]
  where
    none : (x p : ℕ) → x < p → x / p ≡ 0
    none x p lt = ap (λ (y : ℕ). y / p) (let t : x ≡ 0 * p + x = omega arith in t) ∙ div-mul-add 0 p x lt

-- a number whose last digits are 0
pub ends : (x z : ℕ) → ((i : ℕ) → i < z → x / 10000 ^ i % 10000 ≡ 0) → x ≡ x / 10000 ^ z * 10000 ^ z
ends x zero h = omega arith
ends x (suc z) h =
    let so_far = ends x z (λ i lt. h i (omega arith)) in
    let y = x / 10000 ^ z in
    let last : y % 10000 ≡ 0 = h z (omega arith) in
    let whole : y / 10000 * 10000 + y % 10000 ≡ y = div-add-mod' y 10000 in
    let e : y ≡ y / 10000 * 10000 = omega arith in
    let d : y / 10000 ≡ x / 10000 ^ suc z =
    div-div-eq-div-mul x (10000 ^ z) 10000 ∙ ap (λ (p : ℕ). x / p) (sym (pow-suc 10000 z)) in
    so_far
    ∙ ap (λ (v : ℕ). v * 10000 ^ z) e
    ∙ turned (y / 10000) (10000 ^ z)
    ∙ ap (λ (p : ℕ). y / 10000 * p) (sym (pow-suc 10000 z))
    ∙ ap (λ (v : ℕ). v * 10000 ^ suc z) d
  where
    turned : (a p : ℕ) → a * 10000 * p ≡ a * (p * 10000)
    turned a p = omega arith

-- from where the first and the last digit stand that are not 0 to all of them
pub record Ends (x top z : ℕ) : Type 0 where
  pub low : z ≤ top
  pub above : (i : ℕ) → suc top ≤ i → x / 10000 ^ i % 10000 ≡ 0
  pub first : x / 10000 ^ top % 10000 ≡ 0 → ⊥
  pub below : (i : ℕ) → i < z → x / 10000 ^ i % 10000 ≡ 0
  pub last : x / 10000 ^ z % 10000 ≡ 0 → ⊥

pub counted : (x top z : ℕ) → Ends x top z → count_of 10000 x ≡ suc top
counted x top z e = count_is 10000 x top (omega arith) (from_top x top e.first) (below_top x (suc top) e.above)

pub not_zero : (g : ℕ) → (g ≡ 0 → ⊥) → 0 < g
not_zero zero h = absurd (h refl)
not_zero (suc g) h = omega arith

pub cut_below : (x top z : ℕ) → Ends x top z → x / 10000 ^ z < 10000 ^ (suc top - z)
cut_below x top z e =
    let i : (suc top - z) + z ≡ suc top = let l = e.low in omega arith in
    div_below x (10000 ^ z) (10000 ^ (suc top - z)) (base_pos z)
    (subst (λ (p : ℕ). x < p) (ap (λ (k : ℕ). 10000 ^ k) (sym i) ∙ pow-add 10000 (suc top - z) z) (below_top x (suc top) e.above))

pub all_digits : (x top z : ℕ) → Ends x top z → trimmed (spread 10000 (count_of 10000 x) x) ≡ spread 10000 (suc top - z) (x / 10000 ^ z)
all_digits x top z e =
    let l = e.low in
    ap (λ (k : ℕ). trimmed (spread 10000 k x)) (counted x top z e)
    ∙ trimmed_spread z (suc top - z) (suc top) x (x / 10000 ^ z) (omega arith) (ends x z e.below) (cut_below x top z e) (not_zero _ e.last)
