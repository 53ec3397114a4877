-- From what is read to the answer.
use Rattle.std.proofs.Common.{◌≡◌, ℕ, Bool, List, ◌++◌, refl, sym, ap, subst, ◌∙◌, ℤ, length}
use Rattle.std.specs.Prelude.{◌↔◌, Some, Result, Ok, Err, MatchResult}
use Rattle.json_model.specs.Decimal.{Decimal as Written, IsNarrow}
use Rattle.json_exact.specs.Exact.{IsWorth}
use Rattle.json_exact.specs.Literal.{number, placed, IsLiteral}
use Rattle.json_exact.specs.inner.LiteralParts.{AreKept, IsRead, IsFault, IsRefused}
use Rattle.json_exact.specs.Parsed.{IsNumber, IsInRange, IsTooWide, IsOutOfRange}
use Rattle.json_exact.specs.inner.Reading.{Parts, capped, literal_of}
use Rattle.json_exact.specs.inner.SignificantDigits.{Holds}
use Rattle.json_exact.specs.declared.literal.Literal.{Literal}
use Rattle.json_exact.specs.declared.number_error.NumberError.{NumberError}
use Rattle.json_exact.specs.declared.number_error.NumberError.TheVariants.{NotANumber, TooWide, OutOfRange}
use Rattle.json_exact.proofs.LiteralLaws.{written_of, takes, one_literal}

-- the text is a literal, whose parts are kept
pub record IsKeptOf (text : List ℕ) (l : Literal) : Type 0 where
  pub size : ℕ
  pub n : ℕ
  pub size_is : l.exponent.size ≡ capped size
  pub holds : Holds l.digits n
  pub literal : IsLiteral text (placed l.negative n l.fraction_digits l.exponent.down size)

-- what is read and kept is a literal
pub kept_literal : (text bytes : List ℕ) (l : Literal) → bytes ≡ text → (p : Parts) × (literal_of bytes ≡ Some p) × AreKept p l → IsKeptOf text l
kept_literal text bytes l e (p, f, k) = record {
  size = p.exponent.1;
  n = number (p.whole ++ p.fraction);
  size_is = k.size;
  holds = k.digits;
  literal = subst (λ (w : Written). IsLiteral text w) same (subst (λ (t : List ℕ). IsLiteral t (written_of p)) e (takes bytes p f));
}
  where
    same : written_of p ≡ placed l.negative (number (p.whole ++ p.fraction)) l.fraction_digits l.exponent.down p.exponent.1
    same = sym (
        ap (λ (b : Bool). placed b (number (p.whole ++ p.fraction)) l.fraction_digits l.exponent.down p.exponent.1) k.negative
        ∙ ap (λ (count : ℕ). placed p.negative (number (p.whole ++ p.fraction)) count l.exponent.down p.exponent.1) k.fraction_digits
        ∙ ap (λ (b : Bool). placed p.negative (number (p.whole ++ p.fraction)) (length p.fraction) b p.exponent.1) k.down)

-- the answer of a literal is that of its text
pub answer : (r : Result (ℤ × ℕ) NumberError) (text : List ℕ) (w : Written) → IsLiteral text w
    → MatchResult r (λ x. IsRead x.0 x.1 w) (λ e. IsFault e w)
    → MatchResult r (λ x. (w : Written) × IsNumber text w × IsWorth x.0 w × (x.1 ≡ w.places)) (λ e. IsRefused e text)
answer (Ok x) text w l h = (w, record { literal = l; narrow = h.narrow; in_range = h.in_range }, h.worth, h.places_are)
answer (Err NotANumber) text w l h = absurd h
answer (Err TooWide) text w l h = (w, l, h)
answer (Err OutOfRange) text w l h = (w, l, h.0, h.1)

-- a number is not refused
pub not_refused : (e : NumberError) (text : List ℕ) → (w : Written) × IsNumber text w → IsRefused e text → ⊥
not_refused NotANumber text (w, h) refused = refused w h.literal
not_refused TooWide text (w, h) (v, l, wide) = wide (subst IsNarrow (one_literal text w v h.literal l) h.narrow)
not_refused OutOfRange text (w, h) (v, l, narrow, out) = out (subst IsInRange (one_literal text w v h.literal l) h.in_range)

wide_or_out : (text : List ℕ) → IsTooWide text → IsOutOfRange text → ⊥
wide_or_out text (w, l, wide) (v, k, narrow, out) = wide (subst IsNarrow (one_literal text v w k l) narrow)

-- a text is refused for one reason
pub one_reason : (e f : NumberError) (text : List ℕ) → IsRefused e text → IsRefused f text → e ≡ f
one_reason NotANumber NotANumber text h k = refl
one_reason NotANumber TooWide text h (w, l, _) = absurd (h w l)
one_reason NotANumber OutOfRange text h (w, l, _, _) = absurd (h w l)
one_reason TooWide NotANumber text (w, l, _) k = absurd (k w l)
one_reason TooWide TooWide text h k = refl
one_reason TooWide OutOfRange text h k = absurd (wide_or_out text h k)
one_reason OutOfRange NotANumber text (w, l, _, _) k = absurd (k w l)
one_reason OutOfRange TooWide text h k = absurd (wide_or_out text k h)
one_reason OutOfRange OutOfRange text h k = refl

-- an answer that is a number is no error
pub ok_not_refused : {A : Type 0} (a : A) (e : NumberError) (text : List ℕ) → (w : Written) × IsNumber text w → (Ok a ≡ Err e) ↔ IsRefused e text
ok_not_refused a e text h = (λ f. cc, λ refused. absurd (not_refused e text h refused))

-- an error is the reason why the text is refused
pub err_refused : {A : Type 0} (r : Result A NumberError) (f e : NumberError) (text : List ℕ) → r ≡ Err f → IsRefused f text
    → (r ≡ Err e) ↔ IsRefused e text
err_refused {A} r f e text g h = (
  λ same. subst (λ (x : NumberError). IsRefused x text) (inside (sym g ∙ same)) h,
  λ k. g
      ∙ ap (λ (x : NumberError). Err x) (one_reason f e text h k),
)
  where
    inside : ◌≡◌ {A = Result A NumberError} (Err f) (Err e) → f ≡ e
    inside g = cc
