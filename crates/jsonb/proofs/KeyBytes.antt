-- Comparing bytes eight at a time.
use Rattle.std.proofs.Common.{◌≡◌, ℕ, zero, suc, ◌+◌, ◌*◌, ◌<◌, Bool, true, false, eqb, ltb, ◌-◌, ◌≤◌, List, [], ◌∷◌, length, get_or, take, drop, refl, sym, ap, subst, ◌∙◌, arith, inl, inr}
use Rattle.std.specs.Prelude.{◌||◌, ◌&&◌}
use Rattle.std.specs.Int.{w64, from_be_bytes, to_be_bytes}
use Rattle.std.proofs.lemmas.Bool.Decides.{nat_tests}
use Rattle.std.proofs.lemmas.Bool.{ne_eqb, cases_eq}
use Rattle.std.proofs.lemmas.List.{take_rest, take-take, length-take-le, length-drop, drop_all}
use Rattle.std.proofs.lemmas.Nat.{be_bytes_8}
use Rattle.jsonb.specs.inner.Keys.{first_eight}
use Rattle.jsonb_layout.proofs.Tools.{IsBytes, IsBytes-drop, IsBytes-take}
use Rattle.json_model.specs.Keys.{bytes_before}

-- whether the number v comes before w, or they are one and what is behind decides
abbrev decides : ℕ → ℕ → Bool → Bool
decides v w rest = ltb v w || (eqb v w && rest)

-- a byte more
one_byte : (v w a b : ℕ) (rest : Bool) → a < 256 → b < 256 → decides v w (decides a b rest) ≡ decides (v * 256 + a) (w * 256 + b) rest
one_byte v w a b rest le lt = grind (arith, nat_tests)

or_false : (t : Bool) → (t || false) ≡ t
or_false true = refl
or_false false = refl

same_decides : (v w : ℕ) (rest : Bool) → v ≡ w → decides v w rest ≡ rest
same_decides v w rest e = grind (arith, nat_tests)

less_same : (v w : ℕ) → v ≡ w → ltb v w ≡ false
less_same v w e = grind (arith, nat_tests)

abbrev four : ℕ → ℕ → ℕ → ℕ → ℕ
four a b c d = ((a * 256 + b) * 256 + c) * 256 + d

abbrev eight : ℕ → ℕ → ℕ → ℕ → ℕ → ℕ → ℕ → ℕ → ℕ
eight a b c d e f g h = (((four a b c d * 256 + e) * 256 + f) * 256 + g) * 256 + h

in_one_number : (a b c d e f g h : ℕ) → from_be_bytes w64 (a ∷ b ∷ c ∷ d ∷ e ∷ f ∷ g ∷ h ∷ []) ≡ eight a b c d e f g h
in_one_number a b c d e f g h = omega arith

module _ {a0 a1 a2 a3 a4 a5 a6 a7 : ℕ} {b0 b1 b2 b3 b4 b5 b6 b7 : ℕ} (xs ys : List ℕ)
    (is : IsBytes (a0 ∷ a1 ∷ a2 ∷ a3 ∷ a4 ∷ a5 ∷ a6 ∷ a7 ∷ xs)) (are : IsBytes (b0 ∷ b1 ∷ b2 ∷ b3 ∷ b4 ∷ b5 ∷ b6 ∷ b7 ∷ ys)) where
  -- eight bytes are compared as one number
  by_eight : bytes_before (a0 ∷ a1 ∷ a2 ∷ a3 ∷ a4 ∷ a5 ∷ a6 ∷ a7 ∷ xs) (b0 ∷ b1 ∷ b2 ∷ b3 ∷ b4 ∷ b5 ∷ b6 ∷ b7 ∷ ys)
      ≡ decides (eight a0 a1 a2 a3 a4 a5 a6 a7) (eight b0 b1 b2 b3 b4 b5 b6 b7) (bytes_before xs ys)
  by_eight =
      one_byte (a0) (b0) a1 b1 (bytes_before (a2 ∷ a3 ∷ a4 ∷ a5 ∷ a6 ∷ a7 ∷ xs) (b2 ∷ b3 ∷ b4 ∷ b5 ∷ b6 ∷ b7 ∷ ys)) (is 1) (are 1)
      ∙ one_byte (a0 * 256 + a1) (b0 * 256 + b1) a2 b2 (bytes_before (a3 ∷ a4 ∷ a5 ∷ a6 ∷ a7 ∷ xs) (b3 ∷ b4 ∷ b5 ∷ b6 ∷ b7 ∷ ys)) (is 2) (are 2)
      ∙ one_byte ((a0 * 256 + a1) * 256 + a2) ((b0 * 256 + b1) * 256 + b2) a3 b3
      (bytes_before (a4 ∷ a5 ∷ a6 ∷ a7 ∷ xs) (b4 ∷ b5 ∷ b6 ∷ b7 ∷ ys)) (is 3) (are 3)
      ∙ one_byte (((a0 * 256 + a1) * 256 + a2) * 256 + a3) (((b0 * 256 + b1) * 256 + b2) * 256 + b3) a4 b4
      (bytes_before (a5 ∷ a6 ∷ a7 ∷ xs) (b5 ∷ b6 ∷ b7 ∷ ys)) (is 4) (are 4)
      ∙ one_byte ((((a0 * 256 + a1) * 256 + a2) * 256 + a3) * 256 + a4) ((((b0 * 256 + b1) * 256 + b2) * 256 + b3) * 256 + b4) a5 b5
      (bytes_before (a6 ∷ a7 ∷ xs) (b6 ∷ b7 ∷ ys)) (is 5) (are 5)
      ∙ one_byte (((((a0 * 256 + a1) * 256 + a2) * 256 + a3) * 256 + a4) * 256 + a5)
      (((((b0 * 256 + b1) * 256 + b2) * 256 + b3) * 256 + b4) * 256 + b5) a6 b6
      (bytes_before (a7 ∷ xs) (b7 ∷ ys)) (is 6) (are 6)
      ∙ one_byte ((((((a0 * 256 + a1) * 256 + a2) * 256 + a3) * 256 + a4) * 256 + a5) * 256 + a6)
      ((((((b0 * 256 + b1) * 256 + b2) * 256 + b3) * 256 + b4) * 256 + b5) * 256 + b6) a7 b7
      (bytes_before xs ys) (is 7) (are 7)

  abbrev pub left : ℕ
  left = from_be_bytes w64 (a0 ∷ a1 ∷ a2 ∷ a3 ∷ a4 ∷ a5 ∷ a6 ∷ a7 ∷ [])

  abbrev pub right : ℕ
  right = from_be_bytes w64 (b0 ∷ b1 ∷ b2 ∷ b3 ∷ b4 ∷ b5 ∷ b6 ∷ b7 ∷ [])

  -- where they differ, they tell
  pub eight_tell : (left ≡ right → ⊥) → ltb left right
      ≡ bytes_before (a0 ∷ a1 ∷ a2 ∷ a3 ∷ a4 ∷ a5 ∷ a6 ∷ a7 ∷ xs) (b0 ∷ b1 ∷ b2 ∷ b3 ∷ b4 ∷ b5 ∷ b6 ∷ b7 ∷ ys)
  eight_tell h =
      let v = in_one_number a0 a1 a2 a3 a4 a5 a6 a7 in
      let w = in_one_number b0 b1 b2 b3 b4 b5 b6 b7 in
      let n : eqb left right ≡ false = ne_eqb left right h in
      sym (by_eight ∙ ap (λ (n : ℕ). decides n (eight b0 b1 b2 b3 b4 b5 b6 b7) (bytes_before xs ys)) (sym v)
      ∙ ap (λ (n : ℕ). decides left n (bytes_before xs ys)) (sym w)
      ∙ ap (λ (t : Bool). ltb left right || (t && bytes_before xs ys)) n ∙ or_false (ltb left right))

  -- where they are the same, those behind them do
  pub eight_same : left ≡ right → bytes_before xs ys
      ≡ bytes_before (a0 ∷ a1 ∷ a2 ∷ a3 ∷ a4 ∷ a5 ∷ a6 ∷ a7 ∷ xs) (b0 ∷ b1 ∷ b2 ∷ b3 ∷ b4 ∷ b5 ∷ b6 ∷ b7 ∷ ys)
  eight_same h =
      let v = in_one_number a0 a1 a2 a3 a4 a5 a6 a7 in
      let w = in_one_number b0 b1 b2 b3 b4 b5 b6 b7 in
      let e : eight a0 a1 a2 a3 a4 a5 a6 a7 ≡ eight b0 b1 b2 b3 b4 b5 b6 b7 = sym v ∙ h ∙ w in
      sym (by_eight ∙ same_decides _ _ (bytes_before xs ys) e)

-- ---- as the code meets them

taken_apart : (xs : List ℕ) → 8 ≤ length xs
    → xs ≡ get_or xs 0 0 ∷ get_or xs 1 0 ∷ get_or xs 2 0 ∷ get_or xs 3 0 ∷ get_or xs 4 0 ∷ get_or xs 5 0 ∷ get_or xs 6 0 ∷ get_or xs 7 0 ∷ drop 8 xs
taken_apart [] le = absurd (omega (arith, le))
taken_apart (a ∷ []) le = absurd (omega (arith, le))
taken_apart (a ∷ b ∷ []) le = absurd (omega (arith, le))
taken_apart (a ∷ b ∷ c ∷ []) le = absurd (omega (arith, le))
taken_apart (a ∷ b ∷ c ∷ d ∷ []) le = absurd (omega (arith, le))
taken_apart (a ∷ b ∷ c ∷ d ∷ e ∷ []) le = absurd (omega (arith, le))
taken_apart (a ∷ b ∷ c ∷ d ∷ e ∷ f ∷ []) le = absurd (omega (arith, le))
taken_apart (a ∷ b ∷ c ∷ d ∷ e ∷ f ∷ g ∷ []) le = absurd (omega (arith, le))
taken_apart (a ∷ b ∷ c ∷ d ∷ e ∷ f ∷ g ∷ h ∷ xs) le = refl

-- two runs of bytes of which the first eight differ
pub tell : (x y : List ℕ) (v w : ℕ) → IsBytes x → IsBytes y → 8 ≤ length x → 8 ≤ length y → v ≡ first_eight x
    → w ≡ first_eight y → (v ≡ w → ⊥) → ltb v w ≡ bytes_before x y
tell x y v w is are le me e f differ =
    let p = taken_apart x le in
    let q = taken_apart y me in
    let t = eight_tell (drop 8 x) (drop 8 y) (subst IsBytes p is) (subst IsBytes q are) (λ g. differ (e ∙ g ∙ sym f)) in
    ap (λ (n : ℕ). ltb n w) e ∙ ap (λ (n : ℕ). ltb (first_eight x) n) f ∙ t
    ∙ ap (λ (xs : List ℕ). bytes_before xs (get_or y 0 0 ∷ get_or y 1 0 ∷ get_or y 2 0 ∷ get_or y 3 0
    ∷ get_or y 4 0 ∷ get_or y 5 0 ∷ get_or y 6 0 ∷ get_or y 7 0 ∷ drop 8 y)) (sym p) ∙ ap (bytes_before x) (sym q)

-- of a and b, x and y are left, and tell
pub record EightsSoFar (a b x y : List ℕ) : Type 0 where
  pub left_bytes : IsBytes x
  pub right_bytes : IsBytes y
  pub same : bytes_before x y ≡ bytes_before a b

pub eights_go_on : (a b x y : List ℕ) (v w : ℕ) → EightsSoFar a b x y → 8 ≤ length x → 8 ≤ length y → v ≡ first_eight x
    → w ≡ first_eight y → v ≡ w → EightsSoFar a b (drop 8 x) (drop 8 y)
eights_go_on a b x y v w so_far le me e f is =
    let p = taken_apart x le in
    let q = taken_apart y me in
    let t = eight_same (drop 8 x) (drop 8 y) (subst IsBytes p so_far.left_bytes) (subst IsBytes q so_far.right_bytes) (sym e ∙ is ∙ f) in
    record {
      left_bytes = IsBytes-drop 8 x so_far.left_bytes;
      right_bytes = IsBytes-drop 8 y so_far.right_bytes;
      same =
          t
          ∙ ap (λ (xs : List ℕ). bytes_before xs (get_or y 0 0 ∷ get_or y 1 0 ∷ get_or y 2 0 ∷ get_or y 3 0
          ∷ get_or y 4 0 ∷ get_or y 5 0 ∷ get_or y 6 0 ∷ get_or y 7 0 ∷ drop 8 y)) (sym p)
          ∙ ap (bytes_before x) (sym q)
          ∙ so_far.same;
    }

-- what is left behind eight bytes, as a slice of it is written
pub eights_rest : (a b x y : List ℕ) → EightsSoFar a b (drop 8 x) (drop 8 y)
    → EightsSoFar a b (take (length x - 8) (drop 8 x)) (take (length y - 8) (drop 8 y))
eights_rest a b x y h = rw (take_rest x 8, take_rest y 8) h

-- ---- of one length, from 8 to 16

-- the front of bytes, by their first eight as one number
front_is : (xs : List ℕ) → IsBytes xs → 8 ≤ length xs → to_be_bytes w64 (first_eight xs) ≡ take 8 xs
front_is xs is le =
    let p : take 8 xs
    ≡ get_or xs 0 0 ∷ get_or xs 1 0 ∷ get_or xs 2 0 ∷ get_or xs 3 0 ∷ get_or xs 4 0 ∷ get_or xs 5 0 ∷ get_or xs 6 0 ∷ get_or xs 7 0 ∷ [] =
    ap (λ (ys : List ℕ). take 8 ys) (taken_apart xs le) in
    be_bytes_8 (take 8 xs) (first_eight xs) (length-take-le 8 xs le) (IsBytes-take 8 xs is) (ap (λ (ys : List ℕ). from_be_bytes w64 ys) (sym p))

-- the same bytes in front do not tell
same_front : (n : ℕ) (xs ys : List ℕ) → n ≤ length xs → n ≤ length ys → take n xs ≡ take n ys
    → bytes_before xs ys ≡ bytes_before (drop n xs) (drop n ys)
same_front zero xs ys le me e = refl
same_front (suc n) [] ys le me e = absurd (omega (arith, le))
same_front (suc n) (x ∷ xs) [] le me e = absurd (omega (arith, me))
same_front (suc n) (x ∷ xs) (y ∷ ys) le me e =
    let h : x ≡ y = ap (λ (zs : List ℕ). get_or zs 0 0) e in
    let t : take n xs ≡ take n ys = ap (λ (zs : List ℕ). drop 1 zs) e in
    same_decides x y (bytes_before xs ys) h ∙ same_front n xs ys (omega (arith, le)) (omega (arith, me)) t

-- eight bytes and no more are compared as one number
just_eight : (x y : List ℕ) → IsBytes x → IsBytes y → length x ≡ 8 → length y ≡ 8 → ltb (first_eight x) (first_eight y) ≡ bytes_before x y
just_eight x y is are le me = elim (cases_eq (first_eight x) (first_eight y)) [
  | inl e ↦ let h : take 8 x ≡ take 8 y = sym (front_is x is (omega (arith, le))) ∙ ap (to_be_bytes w64) e ∙ front_is y are (omega (arith, me)) in
      let s = same_front 8 x y (omega (arith, le)) (omega (arith, me)) h in
      let t : bytes_before (drop 8 x) (drop 8 y) ≡ false =
      rw (drop_all 8 x (omega (arith, le)), drop_all 8 y (omega (arith, me))) refl in
      less_same _ _ e ∙ sym (s ∙ t)
  | inr n ↦ tell x y _ _ is are (omega (arith, le)) (omega (arith, me)) refl refl n
]

-- two runs of bytes of one length, from 8 to 16, of which the first eight are the same: the last eight tell
pub last_tell : (x y : List ℕ) (v w : ℕ) → IsBytes x → IsBytes y → 8 ≤ length x → length x ≡ length y → length x ≤ 16
    → first_eight x ≡ first_eight y → v ≡ first_eight (drop (length x - 8) x) → w ≡ first_eight (drop (length y - 8) y)
    → ltb v w ≡ bytes_before x y
last_tell x y v w is are le me short same e f =
    let n = length x - 8 in
    let k : length y - 8 ≡ n = omega (arith, me) in
    let front : take 8 x ≡ take 8 y = sym (front_is x is le) ∙ ap (to_be_bytes w64) same ∙ front_is y are (omega (arith, le, me)) in
    let fewer : take n x ≡ take n y =
    sym (take-take n 8 x (omega (arith, short))) ∙ ap (λ (zs : List ℕ). take n zs) front ∙ take-take n 8 y (omega (arith, short)) in
    let behind = same_front n x y (omega (arith, le)) (omega (arith, le, me)) fewer in
    let lasts = just_eight (drop n x) (drop n y) (IsBytes-drop n x is) (IsBytes-drop n y are)
    (omega (arith, length-drop n x, le)) (omega (arith, length-drop n y, le, me)) in
    ap (λ (m : ℕ). ltb m w) e ∙ ap (λ (m : ℕ). ltb (first_eight (drop n x)) m) (f ∙ ap (λ (j : ℕ). first_eight (drop j y)) k) ∙ lasts ∙ sym behind
