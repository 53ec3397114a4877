-- The text of a number, digit by digit and from the parts that its decimal is.
use Rattle.std.proofs.Common.{◌≡◌, ℕ, suc, ◌+◌, ◌-◌, ◌*◌, ◌/◌, ◌%◌, ◌^◌, ◌<◌, ◌≤◌, Bool, List, [], ◌∷◌, ◌++◌, sym, ap, ◌∙◌, arith, map, append_assoc, max, ℤ, pos, nat_abs}
use Rattle.std.specs.Prelude.{int_lt, if◌then◌else◌}
use Rattle.std.proofs.Math.Nat.{pow-suc, mul-le-mul_right, mul-div_cancel, div-div-eq-div-mul}
use Rattle.std.proofs.lemmas.Nat.{pow-add, mod-mul-add, div-mul-add, div-add-mod'}
use Rattle.json_model.specs.Decimal.{Decimal as Written}
use Rattle.json_exact.specs.Exact.{IsWorth, parts}
use Rattle.json_exact.specs.Digits.{spread, count}
use Rattle.json_exact.specs.inner.DecimalInverseLaws.{ten_pos}
use Rattle.json_exact.specs.Text.{digits_text, sign_text, whole_text, fraction_text, text}
use Rattle.json_exact.proofs.CountLaws.{count_cut}
use Rattle.json_exact.proofs.SignLaws.{sign_times}
use Rattle.json_exact.proofs.WorthLaws.{worth_in_parts, parts_pos}

-- what is left of x by 10 * p is a digit, and what is left of x by p
pub first_of : (x p : ℕ) → 0 < p → (x % (p * 10) / p ≡ x / p % 10) × (x % (p * 10) % p ≡ x % p)
first_of x p some =
    let r = x % p in
    let a = x / p in
    let lt : r < p = omega arith in
    let whole : x ≡ a / 10 * (p * 10) + (a % 10 * p + r) =
    step x a p r (a / 10) (a % 10) (div-add-mod' x p) (let i : a ≡ a / 10 * 10 + a % 10 = omega arith in i) in
    let small : a % 10 * p + r < p * 10 = room (a % 10) p r (omega arith) lt in
    let m : x % (p * 10) ≡ a % 10 * p + r = ap (λ (y : ℕ). y % (p * 10)) whole ∙ mod-mul-add (a / 10) (p * 10) (a % 10 * p + r) small in
    (ap (λ (y : ℕ). y / p) m ∙ div-mul-add (a % 10) p r lt, ap (λ (y : ℕ). y % p) m ∙ mod-mul-add (a % 10) p r lt)
  where
    step : (x a p r b c : ℕ) → a * p + r ≡ x → a ≡ b * 10 + c → x ≡ b * (p * 10) + (c * p + r)
    step x a p r b c e f = let y : a * p ≡ (b * 10 + c) * p = ap (λ (n : ℕ). n * p) f in omega arith

    room : (c p r : ℕ) → c ≤ 9 → r < p → c * p + r < p * 10
    room c p r le lt = let y : c * p ≤ 9 * p = mul-le-mul_right p le in omega arith

-- the last k + 1 digits are one and the last k
pub digits_more : (k x : ℕ) → digits_text (suc k) x ≡ (48 + (x / 10 ^ k % 10)) ∷ digits_text k x
digits_more k x =
    let f = first_of x (10 ^ k) (ten_pos k) in
    ap (λ (y : ℕ). (48 + (x % y / 10 ^ k)) ∷ map (λ d. 48 + d) (spread 10 k (x % y % 10 ^ k))) (pow-suc 10 k)
    ∙ ap (λ (y : ℕ). (48 + (x % (10 ^ k * 10) / 10 ^ k)) ∷ map (λ d. 48 + d) (spread 10 k y)) (f.1)
    ∙ ap (λ (d : ℕ). (48 + d) ∷ digits_text k x) (f.0)

-- the digit at the next place is written
pub one_more : (n low place digit : ℕ) (before after : List ℕ) → low < place → digit ≡ n / 10 ^ (place - 1) % 10
    → after ≡ before ++ ((48 + digit) ∷ [])
    → after ++ digits_text (place - 1 - low) (n / 10 ^ low) ≡ before ++ digits_text (place - low) (n / 10 ^ low)
one_more n low place digit before after lt d e =
    let k = place - 1 - low in
    let more : place - low ≡ suc k = omega arith in
    let at : low + k ≡ place - 1 = omega arith in
    let same : digit ≡ n / 10 ^ low / 10 ^ k % 10 = d ∙ ap (λ (j : ℕ). n / 10 ^ j % 10) (sym at) ∙ ap (λ (y : ℕ). n / y % 10) (pow-add 10 low k)
    ∙ ap (λ (y : ℕ). y % 10) (sym (div-div-eq-div-mul n (10 ^ low) (10 ^ k))) in
    ap (λ (xs : List ℕ). xs ++ digits_text k (n / 10 ^ low)) e
    ∙ append_assoc before ((48 + digit) ∷ []) (digits_text k (n / 10 ^ low))
    ∙ ap (λ (c : ℕ). before ++ ((48 + c) ∷ digits_text k (n / 10 ^ low))) same
    ∙ ap (λ (xs : List ℕ). before ++ xs) (sym (digits_more k (n / 10 ^ low)))
    ∙ ap (λ (j : ℕ). before ++ digits_text j (n / 10 ^ low)) (sym more)

-- the digits of the whole part begin at the highest place of n, or at that of the ones
pub whole_digits : (n top : ℕ) → top ≡ max (count n) 16384 → digits_text (top - 16383) (n / 10 ^ 16383) ≡ whole_text (n / 10 ^ 16383)
whole_digits n top e =
    let c = count_cut 16383 n in
    let i : top - 16383 ≡ max 1 (count (n / 10 ^ 16383)) = omega arith in
    ap (λ (k : ℕ). digits_text k (n / 10 ^ 16383)) i

-- the text of a number, from the parts d that it is worth
pub text_in_parts : (d : ℤ) (w : Written) → IsWorth d w → w.places ≤ 16383
    → text w ≡ sign_text d ++ whole_text (nat_abs d / 10 ^ 16383) ++ fraction_text w.places (nat_abs d / 10 ^ (16383 - w.places))
unfolding text
text_in_parts d w h le =
    let p = w.places in
    let n = nat_abs w.digits in
    let sign : int_lt w.digits (pos 0) ≡ int_lt d (pos 0) =
    sym (sign_times w.digits parts parts_pos) ∙ ap (λ (x : ℤ). int_lt x (pos 0)) (sym h) ∙ sign_times d (10 ^ p) (ten_pos p) in
    let last : n ≡ nat_abs d / 10 ^ (16383 - p) =
    sym (ap (λ (y : ℕ). y / 10 ^ (16383 - p)) (worth_in_parts d w h le) ∙ mul-div_cancel n (ten_pos (16383 - p))) in
    let i : 16383 - p + p ≡ 16383 = omega arith in
    let whole : n / 10 ^ p ≡ nat_abs d / 10 ^ 16383 =
    ap (λ (y : ℕ). y / 10 ^ p) last ∙ div-div-eq-div-mul (nat_abs d) (10 ^ (16383 - p)) (10 ^ p)
    ∙ ap (λ (y : ℕ). nat_abs d / y) (sym (pow-add 10 (16383 - p) p) ∙ ap (λ (j : ℕ). 10 ^ j) i) in
    ap (λ (b : Bool). (if b then 45 ∷ [] else []) ++ whole_text (n / 10 ^ p) ++ fraction_text p n) sign
    ∙ ap (λ (y : ℕ). sign_text d ++ whole_text y ++ fraction_text p n) whole
    ∙ ap (λ (y : ℕ). sign_text d ++ whole_text (nat_abs d / 10 ^ 16383) ++ fraction_text p y) last

-- the parts of a text, written one after another
pub written_in_turn : (sign whole fraction none after_sign after_whole after_fraction : List ℕ) → none ≡ [] → after_sign ≡ none ++ sign
    → after_whole ≡ after_sign ++ whole → after_fraction ≡ after_whole ++ fraction
    → after_fraction ≡ sign ++ whole ++ fraction
written_in_turn sign whole fraction none after_sign after_whole after_fraction e f g h =
    h ∙ ap (λ (xs : List ℕ). xs ++ fraction) (g ∙ ap (λ (xs : List ℕ). xs ++ whole) (f ∙ ap (λ (xs : List ℕ). xs ++ sign) e))
