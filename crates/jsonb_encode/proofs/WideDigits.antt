-- The digits and the groups of a whole number that is written by digits and zeros.
use Rattle.std.proofs.Common.{◌≡◌, ℕ, zero, suc, ◌+◌, ◌-◌, ◌*◌, ◌/◌, ◌%◌, ◌^◌, ◌<◌, ◌≤◌, List, [], ◌∷◌, ◌++◌, map, length, get_or, take, drop, refl, sym, ap, subst, ◌∙◌, arith}
use Rattle.std.proofs.Math.Nat.{pow-suc, mul-div_cancel, div-div-eq-div-mul, mul-lt-mul_of_pos_right}
use Rattle.std.proofs.lemmas.List.{length-append}
use Rattle.std.proofs.lemmas.Nat.{pow-add, div-add-mod', div-mul-add, mod-mul-add, div_below, mod_below}
use Rattle.json_exact.specs.Digits.{joined, AllBelow, spread}
use Rattle.json_exact.specs.Literal.{AreDigits, number}
use Rattle.json_exact.specs.inner.DecimalInverseLaws.{ten_pos}
use Rattle.json_exact.specs.inner.LeadingDigitsLaws.{joined_below}
use Rattle.json_exact.proofs.DigitLaws.{ten_mono}
use Rattle.json_exact.proofs.DigitPlaceLaws.{below_at}
use Rattle.json_exact.proofs.DigitTextLaws.{number_append}
use Rattle.json_exact.proofs.GroupPlaceLaws.{front_joined, take_joined}
use Rattle.json_exact.proofs.WholeLaws.{below_drop, drop_length}
use Rattle.json_model.proofs.DecimalLaws.{fours}
use Rattle.jsonb_encode.specs.inner.Wide.{IsCount}
use Rattle.jsonb_encode.proofs.Digits.{base_pos, spread_last, from_top}

-- ---- a number that digits write

values_length : (ds : List ℕ) → length (map (λ (c : ℕ). c - 48) ds) ≡ length ds
values_length [] = refl
values_length (d ∷ ds) = ap (λ (n : ℕ). suc n) (values_length ds)

values_below : (ds : List ℕ) → AreDigits ds → AllBelow 10 (map (λ (c : ℕ). c - 48) ds)
values_below [] h = tt
values_below (d ∷ ds) h = ((let a = h.0.0 in let b = h.0.1 in omega arith), values_below ds h.1)

value_at : (ds : List ℕ) (k : ℕ) → get_or (map (λ (c : ℕ). c - 48) ds) k 0 ≡ get_or ds k 0 - 48
value_at [] k = let e : 0 ≡ 0 - 48 = omega arith in e
value_at (d ∷ ds) zero = refl
value_at (d ∷ ds) (suc k) = value_at ds k

-- digits write less than a 1 in front of them would
pub number_below : (ds : List ℕ) → AreDigits ds → number ds < 10 ^ length ds
number_below ds h =
    subst (λ (k : ℕ). number ds < 10 ^ k) (values_length ds) (joined_below 10 (map (λ (c : ℕ). c - 48) ds) (values_below ds h))

-- a digit of a number is the one that is written
pub digit_is : (ds : List ℕ) (k place : ℕ) → AreDigits ds → length ds ≡ suc k + place → get_or ds k 0 - 48 ≡ number ds / 10 ^ place % 10
digit_is ds k place h e =
    let vs = map (λ (c : ℕ). c - 48) ds in
    let len : length vs ≡ suc k + place = values_length ds ∙ e in
    let below = values_below ds h in
    let rest : length (drop (suc k) vs) ≡ place = drop_length (suc k) place vs len in
    let small : joined 10 (drop (suc k) vs) < 10 ^ place =
    subst (λ (n : ℕ). joined 10 (drop (suc k) vs) < 10 ^ n) rest (joined_below 10 (drop (suc k) vs) (below_drop 10 (suc k) vs below)) in
    sym (ap (λ (x : ℕ). x / 10 ^ place % 10) (front_joined 10 (suc k) place vs len)
    ∙ ap (λ (x : ℕ). x % 10) (div-mul-add (joined 10 (take (suc k) vs)) (10 ^ place) (joined 10 (drop (suc k) vs)) small)
    ∙ ap (λ (x : ℕ). x % 10) (take_joined 10 k vs (omega arith))
    ∙ mod-mul-add (joined 10 (take k vs)) 10 (get_or vs k 0) (below_at 10 vs k (omega arith) below)
    ∙ value_at ds k)

-- each digit is at least `0`
pub digit_at_least : (ds : List ℕ) (k : ℕ) → AreDigits ds → k < length ds → 48 ≤ get_or ds k 0
digit_at_least [] k h lt = absurd (omega arith)
digit_at_least (d ∷ ds) zero h lt = h.0.0
digit_at_least (d ∷ ds) (suc k) h lt = digit_at_least ds k h.1 (omega arith)

none_left : (x p : ℕ) → x < p → x / p ≡ 0
none_left x p lt = ap (λ (y : ℕ). y / p) (let t : x ≡ 0 * p + x = omega arith in t) ∙ div-mul-add 0 p x lt

-- before the first digit there are zeros
pub high_digit : (ds : List ℕ) (place : ℕ) → AreDigits ds → length ds ≤ place → 0 ≡ number ds / 10 ^ place % 10
high_digit ds place h le =
    let b = number_below ds h in
    let m = ten_mono (length ds) place le in
    sym (ap (λ (x : ℕ). x % 10) (none_left (number ds) (10 ^ place) (omega arith)))

-- ---- digits behind digits, and zeros

-- the lower digits do not reach a place above them
cut_high : (w f l p : ℕ) → f < 10 ^ l → (w * 10 ^ l + f) / 10 ^ (l + p) ≡ w / 10 ^ p
cut_high w f l p lt =
    ap (λ (x : ℕ). (w * 10 ^ l + f) / x) (pow-add 10 l p)
    ∙ sym (div-div-eq-div-mul (w * 10 ^ l + f) (10 ^ l) (10 ^ p))
    ∙ ap (λ (x : ℕ). x / 10 ^ p) (div-mul-add w (10 ^ l) f lt)

-- nor the higher ones a place below
cut_low : (w f l p : ℕ) → p < l → (w * 10 ^ l + f) / 10 ^ p % 10 ≡ f / 10 ^ p % 10
cut_low w f l p lt =
    let q = 10 ^ p in
    let u = 10 ^ (l - 1 - p) in
    let i : l ≡ suc (l - 1 - p) + p = omega arith in
    let e : 10 ^ l ≡ u * 10 * q = ap (λ (k : ℕ). 10 ^ k) i ∙ pow-add 10 (suc (l - 1 - p)) p ∙ ap (λ (x : ℕ). x * q) (pow-suc 10 (l - 1 - p)) in
    let s : f / q * q + f % q ≡ f = div-add-mod' f q in
    ap (λ (x : ℕ). (w * x + f) / q % 10) e
    ∙ ap (λ (x : ℕ). x / q % 10) (parted w u q f (f / q) (f % q) s)
    ∙ ap (λ (x : ℕ). x % 10) (div-mul-add (w * u * 10 + f / q) q (f % q) (mod_below f q (ten_pos p)))
    ∙ tens (w * u) (f / q)
  where
    parted : (w u q f a b : ℕ) → a * q + b ≡ f → w * (u * 10 * q) + f ≡ (w * u * 10 + a) * q + b
    parted w u q f a b e = rw (← e) (omega arith)

    tens : (x y : ℕ) → (x * 10 + y) % 10 ≡ y % 10
    tens x y = omega arith

-- a place past the zeros
pub digit_above : (ws fs : List ℕ) (zeros place : ℕ) → zeros ≤ place
    → number (ws ++ fs) * 10 ^ zeros / 10 ^ place % 10 ≡ number (ws ++ fs) / 10 ^ (place - zeros) % 10
digit_above ws fs zeros place le =
    let i : place ≡ zeros + (place - zeros) = omega arith in
    ap (λ (k : ℕ). number (ws ++ fs) * 10 ^ zeros / 10 ^ k % 10) i
    ∙ ap (λ (x : ℕ). number (ws ++ fs) * 10 ^ zeros / x % 10) (pow-add 10 zeros (place - zeros))
    ∙ ap (λ (x : ℕ). x % 10) (sym (div-div-eq-div-mul (number (ws ++ fs) * 10 ^ zeros) (10 ^ zeros) (10 ^ (place - zeros))))
    ∙ ap (λ (x : ℕ). x / 10 ^ (place - zeros) % 10) (mul-div_cancel (number (ws ++ fs)) (ten_pos zeros))

-- a place among the zeros
pub digit_zero : (n zeros place : ℕ) → place < zeros → 0 ≡ n * 10 ^ zeros / 10 ^ place % 10
digit_zero n zeros place lt =
    sym (ap (λ (x : ℕ). x / 10 ^ place % 10) (none (n * 10 ^ zeros))
    ∙ cut_low n 0 zeros place lt
    ∙ ap (λ (x : ℕ). x % 10) (none_left 0 (10 ^ place) (ten_pos place)))
  where
    none : (x : ℕ) → x ≡ x + 0
    none x = omega arith

-- a digit of the second part
pub digit_second : (ws fs : List ℕ) (place : ℕ) → place < length fs → number (ws ++ fs) / 10 ^ place % 10 ≡ number fs / 10 ^ place % 10
digit_second ws fs place lt =
    ap (λ (x : ℕ). x / 10 ^ place % 10) (number_append ws fs) ∙ cut_low (number ws) (number fs) (length fs) place lt

-- a digit of the first part
pub digit_first : (ws fs : List ℕ) (place : ℕ) → AreDigits fs → length fs ≤ place
    → number (ws ++ fs) / 10 ^ place % 10 ≡ number ws / 10 ^ (place - length fs) % 10
digit_first ws fs place h le =
    let i : place ≡ length fs + (place - length fs) = omega arith in
    ap (λ (x : ℕ). x / 10 ^ place % 10) (number_append ws fs)
    ∙ ap (λ (k : ℕ). (number ws * 10 ^ length fs + number fs) / 10 ^ k % 10) i
    ∙ ap (λ (x : ℕ). x % 10) (cut_high (number ws) (number fs) (length fs) (place - length fs) (number_below fs h))

-- ---- groups

digit_up : (x place i : ℕ) → x / 10 ^ (4 * place + i) ≡ x / 10000 ^ place / 10 ^ i
digit_up x place i =
    ap (λ (p : ℕ). x / p) (pow-add 10 (4 * place) i)
    ∙ sym (div-div-eq-div-mul x (10 ^ (4 * place)) (10 ^ i))
    ∙ ap (λ (p : ℕ). x / p / 10 ^ i) (sym (fours place))

-- four digits are a group
pub group_is : (x place a b c d : ℕ) → a ≡ x / 10 ^ (4 * place + 3) % 10 → b ≡ x / 10 ^ (4 * place + 2) % 10 → c ≡ x / 10 ^ (4 * place + 1) % 10
    → d ≡ x / 10 ^ (4 * place) % 10 → 1000 * a + 100 * b + 10 * c + d ≡ x / 10000 ^ place % 10000
group_is x place a b c d e f g h =
    let y = x / 10000 ^ place in
    four y a b c d (e ∙ ap (λ (z : ℕ). z % 10) (digit_up x place 3)) (f ∙ ap (λ (z : ℕ). z % 10) (digit_up x place 2))
    (g ∙ ap (λ (z : ℕ). z % 10) (digit_up x place 1)) (h ∙ ap (λ (p : ℕ). x / p % 10) (sym (fours place)))
  where
    four : (y a b c d : ℕ) → a ≡ y / 10 ^ 3 % 10 → b ≡ y / 10 ^ 2 % 10 → c ≡ y / 10 ^ 1 % 10 → d ≡ y % 10
        → 1000 * a + 100 * b + 10 * c + d ≡ y % 10000
    four y a b c d e f g h = omega arith

-- all digits and zeros make less than so many groups
pub size_below : (ws fs : List ℕ) (zeros : ℕ) → AreDigits ws → AreDigits fs
    → number (ws ++ fs) * 10 ^ zeros < 10000 ^ ((length ws + length fs + zeros + 3) / 4)
size_below ws fs zeros h g =
    let n = length (ws ++ fs) in
    let k = (length ws + length fs + zeros + 3) / 4 in
    let e = length-append ws fs in
    let a : number (ws ++ fs) * 10 ^ zeros < 10 ^ n * 10 ^ zeros = mul-lt-mul_of_pos_right (number_below (ws ++ fs) (both ws fs h g))
    (ten_pos zeros) in
    let b : 10 ^ (n + zeros) ≤ 10 ^ (4 * k) = ten_mono (n + zeros) (4 * k) (omega arith) in
    let p = pow-add 10 n zeros in
    let q = fours k in
    omega arith
  where
    both : (ws fs : List ℕ) → AreDigits ws → AreDigits fs → AreDigits (ws ++ fs)
    both [] fs h g = g
    both (w ∷ ws) fs h g = (h.0, both ws fs h.1 g)

-- where the first group is 0, there is one less
pub one_less : (x count : ℕ) → 0 < count → x < 10000 ^ count → x / 10000 ^ (count - 1) % 10000 ≡ 0 → x < 10000 ^ (count - 1)
one_less x count some lt z =
    let p = 10000 ^ (count - 1) in
    let i : count ≡ suc (count - 1) = omega arith in
    let e : 10000 ^ count ≡ p * 10000 = ap (λ (k : ℕ). 10000 ^ k) i ∙ pow-suc 10000 (count - 1) in
    let q : x / p < 10000 = div_below x p 10000 (base_pos (count - 1)) (subst (λ (y : ℕ). x < y) (e ∙ turned p) lt) in
    let none : x / p ≡ 0 = omega arith in
    let whole = div-add-mod' x p in
    let small = mod_below x p (base_pos (count - 1)) in
    done x (x / p) (x % p) p none whole small
  where
    turned : (p : ℕ) → p * 10000 ≡ 10000 * p
    turned p = omega arith

    done : (x q r p : ℕ) → q ≡ 0 → q * p + r ≡ x → r < p → x < p
    done x q r p e f lt = let g : q * p ≡ 0 = ap (λ (k : ℕ). k * p) e ∙ (let t : 0 * p ≡ 0 = omega arith in t) in omega arith

-- and where it is not, there are so many
pub counted : (x count : ℕ) → x < 10000 ^ count → (0 < count → x / 10000 ^ (count - 1) % 10000 ≡ 0 → ⊥) → IsCount count x
counted x count lt some = record { below = lt; first = λ h. from_top x (count - 1) (some h) }

-- one group more
pub next_group : (x count index g : ℕ) → x < 10000 ^ count → index < count → g ≡ x / 10000 ^ (count - 1 - index) % 10000
    → spread 10000 index (x / 10000 ^ (count - index)) ++ g ∷ [] ≡ spread 10000 (index + 1) (x / 10000 ^ (count - (index + 1)))
next_group x count index g lt h e =
    let k = count - 1 - index in
    let y = x / 10000 ^ k in
    let i : count - index ≡ suc k = omega arith in
    let j : count - (index + 1) ≡ k = omega arith in
    let m : index + 1 ≡ suc index = omega arith in
    let n : suc index + k ≡ count = omega arith in
    let up : x / 10000 ^ (count - index) ≡ y / 10000 =
    ap (λ (n : ℕ). x / 10000 ^ n) i ∙ ap (λ (p : ℕ). x / p) (pow-suc 10000 k) ∙ sym (div-div-eq-div-mul x (10000 ^ k) 10000) in
    let small : y < 10000 ^ suc index = div_below x (10000 ^ k) (10000 ^ suc index) (base_pos k)
    (subst (λ (p : ℕ). x < p) (ap (λ (n : ℕ). 10000 ^ n) (sym n) ∙ pow-add 10000 (suc index) k) lt) in
    ap (λ (v : ℕ). spread 10000 index v ++ g ∷ []) up
    ∙ ap (λ (v : ℕ). spread 10000 index (y / 10000) ++ v ∷ []) e
    ∙ sym (spread_last index y small)
    ∙ ap (λ (n : ℕ). spread 10000 n y) (sym m)
    ∙ ap (λ (n : ℕ). spread 10000 (index + 1) (x / 10000 ^ n)) (sym j)
