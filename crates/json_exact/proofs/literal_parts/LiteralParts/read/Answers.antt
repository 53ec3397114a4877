use Rattle.std.proofs.Common.{length, rules, arith, ap}
use Rattle.json_exact.specs.CutLiteral.{IsCut}
use Rattle.json_exact.specs.Parsed.{IsNoLiteral}
use Rattle.json_exact.proofs.CutLaws.{all_parts, no_whole, no_fraction, no_exponent, none_as}
use Rattle.json_exact.proofs.LiteralLaws.{takes, none_read}
use Rattle.json_exact.proofs.literal_parts.LiteralParts.read.Goals as goal

pub returns-in_err-whole : goal.returns-in_err-whole
returns-in_err-whole c =
    none_as c.from_residual.result (IsNoLiteral c.args.text.now) (λ parts. IsCut c.args.text.now parts) (search rules)
    (none_read c.args.text.now (no_whole c.as_bytes.result.now c.args.text.now c.read_minus-negative.result.1.now c.read_minus-negative.result.0
    c.as_bytes.ensures.value c.read_minus-negative.ensures.read c.in_err-whole.ensures.cut))

pub returns-in_err-fraction : goal.returns-in_err-fraction
returns-in_err-fraction c =
    none_as c.from_residual-in_err-fraction.result (IsNoLiteral c.args.text.now) (λ parts. IsCut c.args.text.now parts) (search rules)
    (none_read c.args.text.now
    (no_fraction c.as_bytes.result.now c.args.text.now c.read_minus-negative.result.1.now c.in_ok-whole.whole.now c.in_ok-whole.rest.now
    c.read_minus-negative.result.0 c.as_bytes.ensures.value c.read_minus-negative.ensures.read c.in_ok-whole.ensures.cut
    c.in_err-fraction.ensures.cut))

pub returns-in_err-exponent : goal.returns-in_err-exponent
returns-in_err-exponent c =
    none_as c.from_residual-in_err-exponent.result (IsNoLiteral c.args.text.now) (λ parts. IsCut c.args.text.now parts) (search rules)
    (none_read c.args.text.now
    (no_exponent c.as_bytes.result.now c.args.text.now c.read_minus-negative.result.1.now c.in_ok-whole.whole.now c.in_ok-whole.rest.now
    c.in_ok-fraction.fraction.now c.in_ok-fraction.rest.now
    c.read_minus-negative.result.0 c.as_bytes.ensures.value c.read_minus-negative.ensures.read c.in_ok-whole.ensures.cut c.in_ok-fraction.ensures.cut
    c.in_err-exponent.ensures))

pub returns : goal.returns
returns c =
    let r = all_parts c.as_bytes.result.now c.args.text.now c.read_minus-negative.result.1.now c.in_ok-whole.whole.now c.in_ok-whole.rest.now
    c.in_ok-fraction.fraction.now c.in_ok-fraction.rest.now c.read_minus-negative.result.0 c.in_ok-exponent.exponent
    c.as_bytes.ensures.value c.read_minus-negative.ensures.read c.in_ok-whole.ensures.cut c.in_ok-fraction.ensures.cut c.in_ok-exponent.ensures in
    record {
      size = r.size;
      literal = takes c.args.text.now _ r.is;
      kept = r.kept;
      whole_digits = r.whole_digits;
      fraction_digits = r.fraction_digits;
      within = omega (
        arith,
        c.in_ok-whole.ensures.within,
        c.in_ok-fraction.ensures.within,
        c.read_minus-negative.ensures.len,
        ap length
            c.as_bytes.ensures.value,
      );
    }
