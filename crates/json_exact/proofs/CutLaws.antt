-- A literal that is cut into parts is one, and has these parts.
use Rattle.std.proofs.Common.{◌≡◌, ℕ, Bool, List, refl, sym, ap, subst, ◌∙◌, inl, inr}
use Rattle.std.specs.Prelude.{Option, Some, None, option_map, MatchOption}
use Rattle.json_exact.specs.Literal.{AreDigits, IsFraction}
use Rattle.json_exact.specs.inner.Reading.{minus_of, whole_of, fraction_of, exponent_of, capped, capped_exponent, with_exponent, with_fraction, with_whole, literal_of}
use Rattle.json_exact.specs.declared.literal.Exponent.{Exponent}
use Rattle.json_exact.proofs.ReadingLaws.{whole_takes, fraction_takes}

-- the parts that are read of a text
pub record Reads (text whole fraction : List ℕ) (negative : Bool) (e : Exponent) : Type 0 where
  pub size : ℕ
  pub is : literal_of text ≡ Some (record { negative = negative; whole = whole; fraction = fraction; exponent = (e.down, size) })
  pub kept : e.size ≡ capped size
  pub whole_digits : AreDigits whole
  pub fraction_digits : AreDigits fraction

digits_of_fraction : (part ds : List ℕ) → IsFraction part ds → AreDigits ds
digits_of_fraction part ds (inl h) = subst AreDigits (sym h.1) tt
digits_of_fraction part ds (inr h) = h.1

record Capped (o : Option (Bool × ℕ)) (e : Exponent) : Type 0 where
  size : ℕ
  is : o ≡ Some (e.down, size)
  kept : e.size ≡ capped size

capped_of : (o : Option (Bool × ℕ)) (e : Exponent) → Some (e.down, e.size) ≡ option_map capped_exponent o → Capped o e
capped_of None e h = absurd cc
capped_of (Some (down, size)) e h =
    let same : (e.down, e.size) ≡ (down, capped size) = cc in
    record { size = size; is = ap (λ (b : Bool). Some (b, size)) (sym (ap (λ (r : Bool × ℕ). r.0) same)); kept = ap (λ (r : Bool × ℕ). r.1) same }

-- a text whose parts are found one after another is read
pub all_parts : (bytes text start whole rest fraction behind : List ℕ) (negative : Bool) (e : Exponent) → bytes ≡ text
    → ◌≡◌ {A = Bool × List ℕ} (negative, start) (minus_of bytes) → Some (whole, rest) ≡ whole_of start → Some (fraction, behind) ≡ fraction_of rest
    → ◌≡◌ {A = Option (Bool × ℕ)} (Some (e.down, e.size)) (option_map capped_exponent (exponent_of behind)) → Reads text whole fraction negative e
unfolding literal_of with_whole with_fraction with_exponent
all_parts bytes text start whole rest fraction behind negative e same m w f x =
    let c = capped_of (exponent_of behind) e x in
    record {
      size = c.size;
      is = ap literal_of (sym same)
          ∙ ap (λ (r : Bool × List ℕ). with_whole r.0 (whole_of r.1)) (sym m)
          ∙ ap (λ (o : Option (List ℕ × List ℕ)). with_whole negative o) (sym w)
          ∙ ap (λ (o : Option (List ℕ × List ℕ)). with_fraction negative whole o) (sym f)
          ∙ ap (λ (o : Option (Bool × ℕ)). with_exponent negative whole fraction o) c.is;
      kept = c.kept;
      whole_digits = (whole_takes start (whole, rest) (sym w)).0.digits;
      fraction_digits = let t = fraction_takes rest (fraction, behind) (sym f) in digits_of_fraction t.part fraction t.part_is;
    }

-- a text without a whole part is not read
pub no_whole : (bytes text start : List ℕ) (negative : Bool) → bytes ≡ text → ◌≡◌ {A = Bool × List ℕ} (negative, start) (minus_of bytes)
    → None ≡ whole_of start → literal_of text ≡ None
unfolding literal_of with_whole
no_whole bytes text start negative same m w =
    ap literal_of (sym same)
    ∙ ap (λ (r : Bool × List ℕ). with_whole r.0 (whole_of r.1)) (sym m)
    ∙ ap (λ (o : Option (List ℕ × List ℕ)). with_whole negative o) (sym w)

-- nor is one whose fraction has no digit
pub no_fraction : (bytes text start whole rest : List ℕ) (negative : Bool) → bytes ≡ text → ◌≡◌ {A = Bool × List ℕ} (negative, start) (minus_of bytes)
    → Some (whole, rest) ≡ whole_of start → None ≡ fraction_of rest → literal_of text ≡ None
unfolding literal_of with_whole with_fraction
no_fraction bytes text start whole rest negative same m w f =
    ap literal_of (sym same)
    ∙ ap (λ (r : Bool × List ℕ). with_whole r.0 (whole_of r.1)) (sym m)
    ∙ ap (λ (o : Option (List ℕ × List ℕ)). with_whole negative o) (sym w)
    ∙ ap (λ (o : Option (List ℕ × List ℕ)). with_fraction negative whole o) (sym f)

none_of : (o : Option (Bool × ℕ)) → None ≡ option_map capped_exponent o → o ≡ None
none_of None h = refl
none_of (Some e) h = absurd cc

-- nor is one that ends in something else than an exponent
pub no_exponent : (bytes text start whole rest fraction behind : List ℕ) (negative : Bool) → bytes ≡ text
    → ◌≡◌ {A = Bool × List ℕ} (negative, start) (minus_of bytes) → Some (whole, rest) ≡ whole_of start → Some (fraction, behind) ≡ fraction_of rest
    → None ≡ option_map capped_exponent (exponent_of behind) → literal_of text ≡ None
unfolding literal_of with_whole with_fraction with_exponent
no_exponent bytes text start whole rest fraction behind negative same m w f x =
    ap literal_of (sym same)
    ∙ ap (λ (r : Bool × List ℕ). with_whole r.0 (whole_of r.1)) (sym m)
    ∙ ap (λ (o : Option (List ℕ × List ℕ)). with_whole negative o) (sym w)
    ∙ ap (λ (o : Option (List ℕ × List ℕ)). with_fraction negative whole o) (sym f)
    ∙ ap (λ (o : Option (Bool × ℕ)). with_exponent negative whole fraction o) (none_of (exponent_of behind) x)

pub none_as : {A : Type 0} (r : Option A) (P : Type 0) (Q : A → Type 0) → r ≡ None → P → MatchOption r P Q
none_as r P Q e p = rw e p
