use Rattle.std.proofs.Common.{◌-◌, length, arith}
use Rattle.jsonb_encode.proofs.WideDigits.{high_digit, digit_is, digit_at_least}
use Rattle.jsonb_encode.proofs.wide_number.digit_from_end.Goals as goal

pub returns-then-place-digits : goal.returns-then-place-digits
returns-then-place-digits c = high_digit c.args.digits.now c.args.place c.requires.digits c.if-place-digits.true

pub overflow_sub-result-3 : goal.overflow_sub-result-3
overflow_sub-result-3 c = digit_at_least c.args.digits.now (length c.args.digits.now - 1 - c.args.place) c.requires.digits
    (omega (arith, c.if-place-digits.false))

pub returns : goal.returns
returns c = digit_is c.args.digits.now (length c.args.digits.now - 1 - c.args.place) c.args.place c.requires.digits
    (omega (arith, c.if-place-digits.false))
