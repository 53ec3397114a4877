-- The text of a number is a literal that writes it.
use Rattle.std.proofs.Common.{◌≡◌, ℕ, zero, suc, ◌+◌, ◌-◌, ◌*◌, ◌/◌, ◌%◌, ◌^◌, ◌<◌, ◌≤◌, Bool, true, false, List, [], ◌∷◌, ◌++◌, length, refl, sym, ap, subst, ◌∙◌, arith, inl, inr, max, ℤ, pos, nat_abs, append_assoc}
use Rattle.std.specs.Prelude.{int_lt, if◌then◌else◌}
use Rattle.std.proofs.Math.Nat.{pow-suc, mul-le-mul_right, mod-eq_of_lt}
use Rattle.std.proofs.lemmas.Bool.{ne_eqb, cases_lt}
use Rattle.std.proofs.lemmas.List.{append-nil}
use Rattle.std.proofs.lemmas.Nat.{div-add-mod'}
use Rattle.json_model.specs.Decimal.{Decimal as Written, signed}
use Rattle.json_exact.specs.Digits.{count_in, count_of, count}
use Rattle.json_exact.specs.Literal.{AreDigits, number, IsMinus, IsWholePart, IsFraction, placed, IsLiteral}
use Rattle.json_exact.specs.Text.{digits_text, sign_text, whole_text, fraction_text, text}
use Rattle.json_exact.specs.inner.LeadingDigitsLaws.{count_step, count_zero}
use Rattle.json_exact.specs.inner.DecimalInverseLaws.{ten_pos}
use Rattle.json_exact.specs.inner.NumberInverseLaws.{sign_abs}
use Rattle.json_exact.proofs.DigitTextLaws.{values, number_append}
use Rattle.json_exact.proofs.TextLaws.{first_of, digits_more}

-- a text of k digits is k long
digits_length : (k x : ℕ) → length (digits_text k x) ≡ k
digits_length zero x = refl
digits_length (suc k) x = ap length (digits_more k x) ∙ ap (λ (n : ℕ). suc n) (digits_length k x)

digits_are : (k x : ℕ) → AreDigits (digits_text k x)
digits_are zero x = tt
digits_are (suc k) x =
    subst AreDigits (sym (digits_more k x)) ((omega arith, (let h : x / 10 ^ k % 10 < 10 = omega arith in omega arith)), digits_are k x)

-- the last digits of x write what is left of x by a power of ten
number_digits : (k x : ℕ) → number (digits_text k x) ≡ x % 10 ^ k
number_digits zero x = let h : x % 1 ≡ 0 = omega arith in sym h
number_digits (suc k) x =
    let f = first_of x (10 ^ k) (ten_pos k) in
    ap number (digits_more k x)
    ∙ first (x / 10 ^ k % 10) (digits_text k x) (digits_length k x)
    ∙ ap (λ (n : ℕ). x / 10 ^ k % 10 * 10 ^ k + n) (number_digits k x)
    ∙ ap (λ (n : ℕ). n * 10 ^ k + x % 10 ^ k) (sym f.0)
    ∙ ap (λ (n : ℕ). x % (10 ^ k * 10) / 10 ^ k * 10 ^ k + n) (sym f.1)
    ∙ div-add-mod' (x % (10 ^ k * 10)) (10 ^ k)
    ∙ ap (λ (y : ℕ). x % y) (sym (pow-suc 10 k))
  where
    values_long : (cs : List ℕ) → length (values cs) ≡ length cs
    values_long [] = refl
    values_long (c ∷ cs) = ap (λ (n : ℕ). suc n) (values_long cs)

    first : (d : ℕ) (cs : List ℕ) → length cs ≡ k → number ((48 + d) ∷ cs) ≡ d * 10 ^ k + number cs
    first d cs e =
        let a : 48 + d - 48 ≡ d = omega arith in
        ap (λ (n : ℕ). n * 10 ^ length (values cs) + number cs) a ∙ ap (λ (j : ℕ). d * 10 ^ j + number cs) (values_long cs ∙ e)

-- so many digits as a number is counted to have
record Counted (n c : ℕ) : Type 0 where
  under : ℕ
  count_is : c ≡ suc under
  low : 10 ^ under ≤ n
  high : n < 10 ^ suc under

counted_in : (fuel n : ℕ) → n ≤ fuel → 0 < n → Counted n (count_in 10 fuel n)
counted_in zero n le some = absurd (omega arith)
counted_in (suc fuel) n le some = go (n / 10) refl (λ le some. counted_in fuel (n / 10) le some)
  where
    go : (t : ℕ) → n / 10 ≡ t → (n / 10 ≤ fuel → 0 < n / 10 → Counted (n / 10) (count_in 10 fuel (n / 10))) → Counted n (count_in 10 (suc fuel) n)
    go zero e f = record {
      under = 0;
      count_is = count_step 10 fuel n some ∙ ap (λ (x : ℕ). suc (count_in 10 fuel x)) e ∙ ap (λ (x : ℕ). suc x) (count_zero 10 fuel);
      low = (let h : 10 ^ 0 ≡ 1 = refl in omega arith);
      high = (let h : 10 ^ 1 ≡ 10 = refl in omega arith);
    }
    go (suc t) e f =
        let h = f (omega arith) (omega arith) in
        let p = pow-suc 10 h.under in
        let q = pow-suc 10 (suc h.under) in
        record {
          under = suc h.under;
          count_is = count_step 10 fuel n some ∙ ap (λ (x : ℕ). suc x) h.count_is;
          low = (let l = h.low in omega arith);
          high = (let l = h.high in omega arith);
        }

counted : (n : ℕ) → 0 < n → Counted n (count n)
unfolding count count_of
counted n some = counted_in n n (omega arith) some

zero_part : IsWholePart (whole_text 0)
unfolding count count_of
zero_part = ((omega arith, omega arith), tt, λ e. refl)

-- the whole part is `0`, or digits of which the first is not 0
whole_part : (m : ℕ) → IsWholePart (whole_text m)
whole_part zero = zero_part
whole_part (suc m) =
    let h = counted (suc m) (omega arith) in
    let e : max 1 (count (suc m)) ≡ suc h.under = (let c = h.count_is in omega arith) in
    subst IsWholePart (sym (ap (λ (k : ℕ). digits_text k (suc m)) e ∙ digits_more h.under (suc m))) (
      (omega arith, (let r : suc m / 10 ^ h.under % 10 < 10 = omega arith in omega arith)),
      digits_are h.under (suc m),
      λ z. absurd
          (not_zero (suc m) (10 ^ h.under) (10 ^ suc h.under) h.low h.high (pow-suc 10 h.under) (ten_pos h.under)
          (let y : 48 + suc m / 10 ^ h.under % 10 ≡ 48 = z in omega arith)),
    )
  where
    not_zero : (n p q : ℕ) → p ≤ n → n < q → q ≡ p * 10 → 0 < p → n / p % 10 ≡ 0 → ⊥
    not_zero n p q low high e some z =
        let whole = div-add-mod' n p in
        let rest : n % p < p = omega arith in
        elim (cases_lt (n / p) 10) [
          | inl few ↦ (let none : n / p ≡ 0 = omega arith in let nothing : n / p * p ≡ 0 * p = ap (λ (k : ℕ). k * p) none in omega arith)
          | inr many ↦ (let up : 10 * p ≤ n / p * p = mul-le-mul_right p many in omega arith)
        ]

minus_part : (d : ℤ) → IsMinus (sign_text d) (int_lt d (pos 0))
minus_part d = go (int_lt d (pos 0))
  where
    go : (b : Bool) → IsMinus (if b then 45 ∷ [] else []) b
    go true = inr (refl, refl)
    go false = inl (refl, refl)

fraction_part : (places n : ℕ) → IsFraction (fraction_text places n) (digits_text places n)
fraction_part zero n = inl (refl, refl)
fraction_part (suc p) n = inr (
  ap (λ (t : Bool). if t then [] else 46 ∷ digits_text (suc p) n) (ne_eqb (suc p) 0 (λ e. absurd (omega arith))),
  digits_are (suc p) n,
  (let h = digits_length (suc p) n in omega arith),
)

-- the whole part and the fraction write the number together
number_is : (n p : ℕ) → number (whole_text (n / 10 ^ p) ++ digits_text p n) ≡ n
number_is n p =
    let m = n / 10 ^ p in
    number_append (whole_text m) (digits_text p n)
    ∙ ap (λ (k : ℕ). number (whole_text m) * 10 ^ k + number (digits_text p n)) (digits_length p n)
    ∙ ap (λ (x : ℕ). x * 10 ^ p + number (digits_text p n)) (all_digits m)
    ∙ ap (λ (x : ℕ). m * 10 ^ p + x) (number_digits p n)
    ∙ div-add-mod' n (10 ^ p)
  where
    below : (m : ℕ) → m < 10 ^ max 1 (count m)
    below zero = let h : 0 < 10 ^ max 1 (count 0) = ten_pos (max 1 (count 0)) in h
    below (suc m) = let h = counted (suc m) (omega arith) in
        subst (λ (k : ℕ). suc m < 10 ^ k) (let c = h.count_is in omega arith) h.high

    small : (m q : ℕ) → m < q → m % q ≡ m
    small m q lt = mod-eq_of_lt lt

    all_digits : (m : ℕ) → number (whole_text m) ≡ m
    all_digits m = number_digits (max 1 (count m)) m ∙ small m (10 ^ max 1 (count m)) (below m)

-- the text of a number is a literal, which writes the number
pub text_writes : (w : Written) → IsLiteral (text w) w
unfolding text
text_writes w =
    let n = nat_abs w.digits in
    let p = w.places in
    record {
      minus = sign_text w.digits;
      negative = int_lt w.digits (pos 0);
      whole = whole_text (n / 10 ^ p);
      fraction = fraction_text p n;
      digits = digits_text p n;
      exponent = [];
      down = false;
      size = 0;
      text_is = append_assoc (sign_text w.digits) (whole_text (n / 10 ^ p)) (fraction_text p n)
          ∙ ap (λ (xs : List ℕ). sign_text w.digits ++ (whole_text (n / 10 ^ p) ++ xs)) (sym (append-nil (fraction_text p n)));
      minus_is = minus_part w.digits;
      whole_is = whole_part (n / 10 ^ p);
      fraction_is = fraction_part p n;
      exponent_is = inl (refl, refl, refl);
      written_is =
          same w.digits p (length (digits_text p n)) (number (whole_text (n / 10 ^ p) ++ digits_text p n)) (number_is n p) (digits_length p n);
    }
  where
    made : (d e : ℤ) (p q : ℕ) → d ≡ e → p ≡ q → ◌≡◌ {A = Written} (record { digits = d; places = p }) (record { digits = e; places = q })
    made d e p q f g = λ i. record { digits = f i; places = g i }

    same : (d : ℤ) (p k m : ℕ) → m ≡ nat_abs d → k ≡ p → record { digits = d; places = p } ≡ placed (int_lt d (pos 0)) m k false 0
    same d p k m e f =
        let none : 0 - k ≡ 0 = omega arith in
        let zeros : m * 10 ^ (0 - k) ≡ nat_abs d =
        ap (λ (j : ℕ). m * 10 ^ j) none ∙ (let h : m * 10 ^ 0 ≡ m = (let o : 10 ^ 0 ≡ 1 = refl in omega arith) in h) ∙ e in
        let digits : d ≡ signed (int_lt d (pos 0)) (m * 10 ^ (0 - k)) = sign_abs d ∙ ap (signed (int_lt d (pos 0))) (sym zeros) in
        let places : p ≡ k - 0 = omega arith in
        made d (signed (int_lt d (pos 0)) (m * 10 ^ (0 - k))) p (k - 0) digits places
