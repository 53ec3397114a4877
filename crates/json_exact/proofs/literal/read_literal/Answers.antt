use Rattle.std.proofs.Common.{◌≡◌, ℕ, ◌+◌, ◌*◌, ◌^◌, Bool, List, ◌++◌, length, refl, sym, ap, subst, ◌∙◌, arith}
use Rattle.std.specs.Prelude.{Option, Some, None, option_map, IfSome}
use Rattle.json_exact.specs.Literal.{number}
use Rattle.json_exact.specs.inner.LiteralParts.{AreKept}
use Rattle.json_exact.specs.inner.Reading.{Parts, minus_of, whole_of, fraction_of, counted, exponent_of, capped_exponent, with_exponent, with_fraction, with_whole, literal_of}
use Rattle.json_exact.specs.inner.SignificantDigits.{Holds}
use Rattle.json_exact.specs.declared.literal.Exponent.{Exponent}
use Rattle.json_exact.specs.declared.literal.Literal.{Literal}
use Rattle.json_exact.specs.declared.significant_digits.SignificantDigits.{SignificantDigits}
use Rattle.json_exact.proofs.DigitTextLaws.{number_append}
use Rattle.json_exact.proofs.literal.read_literal.Goals as goal

abbrev Kept : Option Parts → Literal → Type 0
Kept o l = (p : Parts) × (o ≡ Some p) × AreKept p l

-- the digits that are pushed by a part
abbrev Pushes : SignificantDigits → SignificantDigits → Option (List ℕ × List ℕ) → Type 0
Pushes before after o = (n : ℕ) → Holds before n → IfSome o (λ r. Holds after (n * 10 ^ length r.0 + number r.0))

some_same : {A : Type 0} {x y : A} → Some x ≡ Some y → x ≡ y
some_same e = cc

exponent_kept : (negative : Bool) (whole fraction : List ℕ) (o : Option (Bool × ℕ)) (digits : SignificantDigits) (count : ℕ) (e : Exponent)
    → Holds digits (number (whole ++ fraction)) → count ≡ length fraction
    → ◌≡◌ {A = Option (Bool × ℕ)} (Some (e.down, e.size)) (option_map capped_exponent o)
    → Kept (with_exponent negative whole fraction o) (record { negative = negative; digits = digits; fraction_digits = count; exponent = e })
unfolding with_exponent
exponent_kept negative whole fraction None digits count e h f g = absurd cc
exponent_kept negative whole fraction (Some (down, size)) digits count e h f g = (
  record { negative = negative; whole = whole; fraction = fraction; exponent = (down, size) },
  refl,
  record {
    negative = refl;
    digits = h;
    fraction_digits = f;
    down = ap (λ (r : Bool × ℕ). r.0) (some_same g);
    size =
        ap (λ (r : Bool × ℕ). r.1) (some_same g);
  },
)

fraction_kept : (negative : Bool) (whole : List ℕ) (o : Option (List ℕ × List ℕ)) (before digits : SignificantDigits) (count : ℕ) (rest : List ℕ)
    (e : Exponent) → Holds before (number whole) → Pushes before digits o
    → ◌≡◌ {A = Option (ℕ × List ℕ)} (Some (count, rest)) (option_map counted o)
    → ◌≡◌ {A = Option (Bool × ℕ)} (Some (e.down, e.size)) (option_map capped_exponent (exponent_of rest))
    → Kept (with_fraction negative whole o) (record { negative = negative; digits = digits; fraction_digits = count; exponent = e })
unfolding with_fraction
fraction_kept negative whole None before digits count rest e h pushes f g = absurd cc
fraction_kept negative whole (Some (fraction, behind)) before digits count rest e h pushes f g =
    let same : rest ≡ behind = ap (λ (r : ℕ × List ℕ). r.1) (some_same f) in
    exponent_kept negative whole fraction (exponent_of behind) digits count e
    (subst (λ (x : ℕ). Holds digits x) (sym (number_append whole fraction)) (pushes (number whole) h)) (ap (λ (r : ℕ × List ℕ). r.0) (some_same f))
    (g ∙ ap (λ (xs : List ℕ). option_map capped_exponent (exponent_of xs)) same)

whole_kept : (negative : Bool) (o : Option (List ℕ × List ℕ)) (first before digits : SignificantDigits) (rest behind : List ℕ) (count : ℕ)
    (e : Exponent) → Holds first 0 → Pushes first before o
    → Some rest ≡ option_map (λ r. r.1) o → Pushes before digits (fraction_of rest)
    → ◌≡◌ {A = Option (ℕ × List ℕ)} (Some (count, behind)) (option_map counted (fraction_of rest))
    → ◌≡◌ {A = Option (Bool × ℕ)} (Some (e.down, e.size)) (option_map capped_exponent (exponent_of behind))
    → Kept (with_whole negative o) (record { negative = negative; digits = digits; fraction_digits = count; exponent = e })
unfolding with_whole
whole_kept negative None first before digits rest behind count e h pushes s more f g = absurd cc
whole_kept negative (Some (whole, after)) first before digits rest behind count e h pushes s more f g =
    let same : rest ≡ after = cc in
    let none : 0 * 10 ^ length whole + number whole ≡ number whole = omega arith in
    fraction_kept negative whole (fraction_of after) before digits count behind e (subst (λ (x : ℕ). Holds before x) none (pushes 0 h))
    (subst (λ (xs : List ℕ). Pushes before digits (fraction_of xs)) same more)
    (f ∙ ap (λ (xs : List ℕ). option_map counted (fraction_of xs)) same) g

literal_kept : (text : List ℕ) (negative : Bool) (start rest behind : List ℕ) (first before digits : SignificantDigits) (count : ℕ) (e : Exponent)
    → ◌≡◌ {A = Bool × List ℕ} (negative, start) (minus_of text) → Holds first 0 → Pushes first before (whole_of start)
    → Some rest ≡ option_map (λ r. r.1) (whole_of start) → Pushes before digits (fraction_of rest)
    → ◌≡◌ {A = Option (ℕ × List ℕ)} (Some (count, behind)) (option_map counted (fraction_of rest))
    → ◌≡◌ {A = Option (Bool × ℕ)} (Some (e.down, e.size)) (option_map capped_exponent (exponent_of behind))
    → Kept (literal_of text) (record { negative = negative; digits = digits; fraction_digits = count; exponent = e })
unfolding literal_of
literal_kept text negative start rest behind first before digits count e m h pushes s more f g =
    subst (λ (r : Bool × List ℕ). Kept (with_whole r.0 (whole_of r.1))
    (record { negative = negative; digits = digits; fraction_digits = count; exponent = e })) m
    (whole_kept negative (whole_of start) first before digits rest behind count e h pushes s more f g)

pub returns-clause-read : goal.returns-clause-read
returns-clause-read c =
    literal_kept c.args.bytes.now _ c.read_minus-negative.result.1.now c.in_ok-rest.rest.now c.in_ok-fraction_digits.rest.now c.new-digits.result
    c.push_whole.new.digits c.push_fraction.new.digits _ c.in_ok-exponent.exponent
    c.read_minus-negative.ensures.read c.new-digits.ensures.holds c.push_whole.ensures.holds c.in_ok-rest.ensures.read c.push_fraction.ensures.holds
    c.in_ok-fraction_digits.ensures.read c.in_ok-exponent.ensures
