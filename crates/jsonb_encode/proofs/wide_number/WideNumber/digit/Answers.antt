use Rattle.std.proofs.Common.{◌-◌, ◌++◌, sym, ◌∙◌}
use Rattle.json_exact.specs.Literal.{number}
use Rattle.jsonb_encode.proofs.WideDigits.{digit_zero, digit_above, digit_second, digit_first}
use Rattle.jsonb_encode.proofs.wide_number.WideNumber.digit.Goals as goal

pub returns-then-place-self : goal.returns-then-place-self
returns-then-place-self c =
    let n = c.args.self.now in
    digit_zero (number (n.whole.now ++ n.fraction.now)) n.zeros c.args.place c.if-place-self.true

pub returns-then-place-self-2 : goal.returns-then-place-self-2
returns-then-place-self-2 c =
    let n = c.args.self.now in
    c.digit_from_end.ensures
    ∙ sym (digit_above n.whole.now n.fraction.now n.zeros c.args.place c.if-place-self.false
    ∙ digit_second n.whole.now n.fraction.now (c.args.place - n.zeros) c.if-place-self-2.true)

pub returns-else-place-self-2 : goal.returns-else-place-self-2
returns-else-place-self-2 c =
    let n = c.args.self.now in
    c.digit_from_end-else-place-self-2.ensures
    ∙ sym (digit_above n.whole.now n.fraction.now n.zeros c.args.place c.if-place-self.false
    ∙ digit_first n.whole.now n.fraction.now (c.args.place - n.zeros) c.requires.fraction c.if-place-self-2.false)
