use Rattle.std.proofs.Common.{ℕ, ◌+◌, ◌-◌, ◌*◌, ◌^◌, ◌≡◌, ap, subst, ◌∙◌, arith}
use Rattle.std.specs.Prelude.{if◌then◌else◌}
use Rattle.json_model.specs.Decimal.{HasNarrowDigits, signed}
use Rattle.json_exact.specs.inner.LeadingDigits.{Keeps}
use Rattle.json_model.proofs.DecimalLaws.{abs_signed}
use Rattle.json_exact.proofs.DigitLaws.{above_none}
use Rattle.json_exact.proofs.FieldLaws.{keeps_of}
use Rattle.json_exact.proofs.GroupLaws.{not_narrow}
use Rattle.json_exact.proofs.NarrowLaws.{narrow_back}
use Rattle.json_exact.proofs.PlaceLaws.{below_top, read_some, read_none, fault_places, fault_high, places_same, places_many, raised_same, raised_many}
use Rattle.json_exact.proofs.parse.value.Goals as goal
use Rattle.json_exact.proofs.parse.value.Goals.{then-zeros-via-then-zeros, then-zeros-via-else-zeros+then-digits-zeros}

pub returns-then-digits-clause-value : goal.returns-then-digits-clause-value
returns-then-digits-clause-value c =
    λ n size h e narrow. not_narrow _ _ _ _ h c.if-digits.true (narrow_back _ _ (subst HasNarrowDigits (abs_signed c.args.literal.negative _) narrow))

pub returns-then-fraction_digits-gt-MOST_FRACTION_DIGITS-clause-value :
    goal.returns-then-fraction_digits-gt-MOST_FRACTION_DIGITS-clause-value
returns-then-fraction_digits-gt-MOST_FRACTION_DIGITS-clause-value c = λ n size h e.
    fault_places _ c.args.literal.digits.digits c.args.literal.digits.len n _ _ (keeps_of _ _ _ n h c.if-digits.false)
    (places_many _ _ size _ _ e c.requires.fraction_digits c.written_fraction_digits-fraction_digits.ensures
    c.if-fraction_digits-gt-MOST_FRACTION_DIGITS.true)

pub returns-then-digits-eq0-clause-value : goal.returns-then-digits-eq0-clause-value
returns-then-digits-eq0-clause-value c = λ n size h e.
    let k = keeps_of _ _ _ n h c.if-digits.false in
    let k0 : Keeps 10 37 c.args.literal.digits.digits 0 n = subst (λ (i : ℕ). Keeps 10 37 c.args.literal.digits.digits i n) c.if-digits-eq0.true k in
    let p = places_same _ _ size _ _ e c.requires.fraction_digits c.written_fraction_digits-fraction_digits.ensures
    c.if-fraction_digits-gt-MOST_FRACTION_DIGITS.false in
    let n0 : n ≡ 0 = let b = below_top c.args.literal.digits.digits 0 n k0 in omega arith in
    read_none c.args.literal.negative c.args.literal.digits.digits n _ _ _ _ k0
    (let g = c.if-fraction_digits-gt-MOST_FRACTION_DIGITS.false in omega arith)
    (c.from_digits.ensures.value n h ∙ ap (λ (x : ℕ). signed c.args.literal.negative x) (let z : n * 10 ^ 0 ≡ 0 = omega arith in z)) p

pub returns-then-zeros-clause-value : goal.returns-then-zeros-clause-value
returns-then-zeros-clause-value c = λ n size h e.
    let k = keeps_of _ _ _ n h c.if-digits.false in
    let p = places_same _ _ size _ _ e c.requires.fraction_digits c.written_fraction_digits-fraction_digits.ensures
    c.if-fraction_digits-gt-MOST_FRACTION_DIGITS.false in
    let some = above_none _ c.if-digits-eq0.false in
    fault_high _ c.args.literal.digits.digits c.args.literal.digits.len n _ _ some k
    (elim c.then-zeros.branch [
      | then-zeros-via-then-zeros w ↦
          let r = raised_many _ _ size _ _ e c.zeros_behind-zeros.ensures w.if-zeros.true in
          let g = c.if-fraction_digits-gt-MOST_FRACTION_DIGITS.false in
          omega arith
      | then-zeros-via-else-zeros+then-digits-zeros w ↦
          let r = raised_same _ _ size _ _ e c.requires.fraction_digits c.zeros_behind-zeros.ensures w.if-zeros.false in
          let g = w.if-digits-zeros.true in
          omega arith
    ])

pub returns-clause-value : goal.returns-clause-value
returns-clause-value c = λ n size h e.
    let p = places_same _ _ size _ _ e c.requires.fraction_digits c.written_fraction_digits-fraction_digits.ensures
    c.if-fraction_digits-gt-MOST_FRACTION_DIGITS.false in
    let r = raised_same _ _ size _ _ e c.requires.fraction_digits c.zeros_behind-zeros.ensures c.if-zeros.false in
    let k = keeps_of _ _ _ n h c.if-digits.false in
    read_some c.args.literal.negative c.args.literal.digits.digits c.args.literal.digits.len n _ _ _ _ k
    (let g = c.if-fraction_digits-gt-MOST_FRACTION_DIGITS.false in omega arith) (let g = c.if-digits-zeros.false in omega arith)
    (c.from_digits-2.ensures.value n h
    ∙ ap (λ (x : ℕ). signed c.args.literal.negative (n * 10 ^ (x + (16383 - c.written_fraction_digits-fraction_digits.result)))) r
    ∙ ap (λ (x : ℕ). signed c.args.literal.negative
    (n * 10 ^ ((if c.args.literal.exponent.down then 0 else size - c.args.literal.fraction_digits) + (16383 - x)))) p)
    p
