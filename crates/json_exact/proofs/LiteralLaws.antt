-- What is read is a literal, and each literal is read.
use Rattle.std.proofs.Common.{◌≡◌, ℕ, Bool, List, ◌++◌, refl, sym, ap, ◌∙◌, length}
use Rattle.std.specs.Prelude.{Option, Some, None}
use Rattle.json_model.specs.Decimal.{Decimal as Written}
use Rattle.json_exact.specs.Literal.{number, placed, IsLiteral}
use Rattle.json_exact.specs.Parsed.{IsNoLiteral}
use Rattle.json_exact.specs.inner.Reading.{minus_of, whole_of, fraction_of, exponent_of, Parts, with_exponent, with_fraction, with_whole, literal_of}
use Rattle.json_exact.proofs.ReadingLaws.{minus_takes, minus_again, whole_takes, whole_again, fraction_takes, fraction_again, exponent_takes, exponent_again, no_digit_exponent, no_point_exponent, no_digit_fraction, no_sign}

-- what parts write
abbrev pub written_of : Parts → Written
written_of p = placed p.negative (number (p.whole ++ p.fraction)) (length p.fraction) p.exponent.0 p.exponent.1

-- the text is read, and its parts write w
pub record Reads (text : List ℕ) (w : Written) : Type 0 where
  pub parts : Parts
  pub is : literal_of text ≡ Some parts
  pub writes : w ≡ written_of parts

-- each literal is read
pub again : (text : List ℕ) (w : Written) → IsLiteral text w → Reads text w
unfolding literal_of with_whole with_fraction with_exponent
again text w l =
    let e = no_digit_exponent l.exponent l.down l.size l.exponent_is in
    let f = no_digit_fraction l.fraction l.digits l.exponent l.fraction_is e in
    record {
      parts = record { negative = l.negative; whole = l.whole; fraction = l.digits; exponent = (l.down, l.size) };
      is =
          ap literal_of l.text_is
          ∙ ap (λ (r : Bool × List ℕ). with_whole r.0 (whole_of r.1))
          (minus_again l.minus l.negative (l.whole ++ (l.fraction ++ l.exponent)) l.minus_is (no_sign l.whole (l.fraction ++ l.exponent) l.whole_is))
          ∙ ap (λ (o : Option (List ℕ × List ℕ)). with_whole l.negative o) (whole_again l.whole (l.fraction ++ l.exponent) l.whole_is f)
          ∙ ap (λ (o : Option (List ℕ × List ℕ)). with_fraction l.negative l.whole o)
          (fraction_again l.fraction l.digits l.exponent l.fraction_is e (no_point_exponent l.exponent l.down l.size l.exponent_is))
          ∙ ap (λ (o : Option (Bool × ℕ)). with_exponent l.negative l.whole l.digits o) (exponent_again l.exponent l.down l.size l.exponent_is);
      writes = l.written_is;
    }

some_same : {x y : Parts} → Some x ≡ Some y → x ≡ y
some_same e = cc

record Step {A B : Type 0} (o : Option A) (next : A → Option B) (p : B) : Type 0 where
  value : A
  is : o ≡ Some value
  goes : next value ≡ Some p

whole_step : (m : Bool) (o : Option (List ℕ × List ℕ)) (p : Parts) → with_whole m o ≡ Some p → Step o (λ r. with_fraction m r.0 (fraction_of r.1)) p
unfolding with_whole
whole_step m None p h = absurd cc
whole_step m (Some r) p h = record { value = r; is = refl; goes = h }

fraction_step : (m : Bool) (w : List ℕ) (o : Option (List ℕ × List ℕ)) (p : Parts) → with_fraction m w o ≡ Some p
    → Step o (λ r. with_exponent m w r.0 (exponent_of r.1)) p
unfolding with_fraction
fraction_step m w None p h = absurd cc
fraction_step m w (Some r) p h = record { value = r; is = refl; goes = h }

exponent_step : (m : Bool) (w ds : List ℕ) (o : Option (Bool × ℕ)) (p : Parts) → with_exponent m w ds o ≡ Some p
    → Step o (λ e. Some (record { negative = m; whole = w; fraction = ds; exponent = e })) p
unfolding with_exponent
exponent_step m w ds None p h = absurd cc
exponent_step m w ds (Some r) p h = record { value = r; is = refl; goes = h }

-- what is read is a literal
pub takes : (text : List ℕ) (p : Parts) → literal_of text ≡ Some p → IsLiteral text (written_of p)
unfolding literal_of
takes text p h =
    let s = minus_takes text in
    let m = (minus_of text).0 in
    let a = whole_step m (whole_of (minus_of text).1) p h in
    let w = whole_takes (minus_of text).1 a.value a.is in
    let b = fraction_step m a.value.0 (fraction_of a.value.1) p a.goes in
    let f = fraction_takes a.value.1 b.value b.is in
    let c = exponent_step m a.value.0 b.value.0 (exponent_of b.value.1) p b.goes in
    let e = exponent_takes b.value.1 c.value c.is in
    let same : record { negative = m; whole = a.value.0; fraction = b.value.0; exponent = c.value } ≡ p = some_same c.goes in
    record {
      minus = s.sign;
      negative = m;
      whole = a.value.0;
      fraction = f.part;
      digits = b.value.0;
      exponent = b.value.1;
      down = c.value.0;
      size = c.value.1;
      text_is = s.text_is ∙ ap (λ (xs : List ℕ). s.sign ++ xs) (w.0.text_is ∙ ap (λ (xs : List ℕ). a.value.0 ++ xs) f.text_is);
      minus_is = s.sign_is;
      whole_is = w.1;
      fraction_is = f.part_is;
      exponent_is = e;
      written_is = ap written_of (sym same);
    }

-- a text writes one number at most
pub one_literal : (text : List ℕ) (w v : Written) → IsLiteral text w → IsLiteral text v → w ≡ v
one_literal text w v l k =
    let a = again text w l in
    let b = again text v k in
    a.writes ∙ ap written_of (some_same (sym a.is ∙ b.is)) ∙ sym b.writes

-- a text that is not read is no literal
pub none_read : (text : List ℕ) → literal_of text ≡ None → IsNoLiteral text
none_read text h w l = no_some (sym h ∙ (again text w l).is)
  where
    no_some : {p : Parts} → None ≡ Some p → ⊥
    no_some e = cc
