use Rattle.std.proofs.Common.{◌≡◌, ◌+◌, ◌-◌, ◌*◌, ◌^◌, ◌<◌, ◌++◌, ℕ, length, refl, sym, ap, subst, ◌∙◌, arith}
use Rattle.std.specs.Prelude.{if◌then◌else◌}
use Rattle.json_model.specs.Decimal.{signed}
use Rattle.json_exact.specs.Literal.{number}
use Rattle.json_exact.specs.Parsed.{IsInRange}
use Rattle.json_exact.proofs.PlaceLaws.{places_same, places_many, raised_same, raised_many}
use Rattle.jsonb_encode.specs.inner.Wide.{IsCount, AreZeros}
use Rattle.jsonb_encode.proofs.Numerals.{raised, written, filling, few_groups, many_groups, minus_is, lift_is, kept_as}
use Rattle.jsonb_encode.proofs.Spans.{header_is}
use Rattle.jsonb_encode.proofs.numeral.numeral_of.Goals as goal

pub returns-then-places-gt-MOST_FRACTION_DIGITS : goal.returns-then-places-gt-MOST_FRACTION_DIGITS
returns-then-places-gt-MOST_FRACTION_DIGITS c = λ size w e is range.
    let p = c.args.parts.now in
    let cnt = length p.fraction.now in
    let many = places_many p.exponent.down cnt size p.exponent.size c.fraction_digits-places.result e
    (omega (arith, c.requires.few)) c.fraction_digits-places.ensures
    c.if-places-gt-MOST_FRACTION_DIGITS.true in
    let few = (subst IsInRange is range).1 in
    absurd (omega arith)

pub returns-then-count-fraction_groups : goal.returns-then-count-fraction_groups
returns-then-count-fraction_groups c = λ size w e is range.
    let p = c.args.parts.now in
    let cnt = length p.fraction.now in
    let n = number (p.whole.now ++ p.fraction.now) in
    let f = c.fraction_digits-places.result in
    let zt : ℕ = if p.exponent.down then 0 else size - cnt in
    let small : cnt < 2 ^ 63 = omega (arith, c.requires.few) in
    let places = places_same p.exponent.down cnt size p.exponent.size f e small c.fraction_digits-places.ensures
    c.if-places-gt-MOST_FRACTION_DIGITS.false in
    let up = raised c.min-zeros.result c.zeros.result zt c.min-zeros.ensures
    (raised_same p.exponent.down cnt size p.exponent.size c.zeros.result e small c.zeros.ensures)
    (raised_many p.exponent.down cnt size p.exponent.size c.zeros.result e c.zeros.ensures) in
    let same : w ≡ written p.negative n zt f = is ∙ ap (λ (k : ℕ). record { digits = signed p.negative (n * 10 ^ zt); places = k }) (sym places) in
    many_groups p.negative n c.min-zeros.result zt f c.count-count.result c.if-places-gt-MOST_FRACTION_DIGITS.false up c.count-count.ensures.count
    c.if-count-fraction_groups.true (subst IsInRange same range)

pub returns : goal.returns
returns c = λ size w e is.
    let p = c.args.parts.now in
    let cnt = length p.fraction.now in
    let n = number (p.whole.now ++ p.fraction.now) in
    let f = c.fraction_digits-places.result in
    let z = c.min-zeros.result in
    let zt : ℕ = if p.exponent.down then 0 else size - cnt in
    let small : cnt < 2 ^ 63 = omega (arith, c.requires.few) in
    let places = places_same p.exponent.down cnt size p.exponent.size f e small c.fraction_digits-places.ensures
    c.if-places-gt-MOST_FRACTION_DIGITS.false in
    let up = raised z c.zeros.result zt c.min-zeros.ensures
    (raised_same p.exponent.down cnt size p.exponent.size c.zeros.result e small c.zeros.ensures)
    (raised_many p.exponent.down cnt size p.exponent.size c.zeros.result e c.zeros.ensures) in
    let same : w ≡ written p.negative n zt f = is ∙ ap (λ (k : ℕ). record { digits = signed p.negative (n * 10 ^ zt); places = k }) (sym places) in
    let m = c.count-count.result in
    let v = written p.negative n zt f in
    let sized = few_groups p.negative n z zt f m c.if-places-gt-MOST_FRACTION_DIGITS.false up c.count-count.ensures.count
    c.if-count-fraction_groups.false in
    let count = subst (λ (x : ℕ). IsCount m x) (sym sized.size) c.count-count.ensures.count in
    let few : z + filling f < 2 ^ 20 = omega (arith, c.min-zeros.ensures, c.if-places-gt-MOST_FRACTION_DIGITS.false) in
    kept_as _ v w same (
      sized.in_range,
      record {
        digits = record { whole = c.requires.whole; fraction = c.requires.fraction; few = c.requires.few; zeros = few };
        size = sym sized.size;
        header = header_is v c.is_below_zero.result f c.lift.result
            (c.is_below_zero.ensures ∙ minus_is p.negative n z zt f m c.count-count.ensures.count) refl
            (lift_is v m c.lift.result count c.lift.ensures);
        count = count;
        zeros = subst (λ (x : ℕ). AreZeros c.zero_groups-zeros.result m x) (sym sized.size) c.zero_groups-zeros.ensures;
        few = c.count-count.ensures.few;
      },
    )
