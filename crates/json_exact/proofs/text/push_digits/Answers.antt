use Rattle.std.proofs.Common.{◌∙◌, ◌++◌, ap, nat_abs, string_bytes, arith}
use Rattle.json_exact.proofs.TextLaws.{one_more}
use Rattle.json_exact.proofs.text.push_digits.Goals as goal

pub loop-place-preserved : goal.loop-place-preserved
loop-place-preserved c = record {
  within = (let h = c.loop-place-test.true in omega arith);
  so_far = one_more (nat_abs c.args.decimal.now) c.args.low c.loop-place.place c.digit_at.result (string_bytes c.loop-place.output)
      (string_bytes c.push.new.self) c.loop-place-test.true c.digit_at.ensures
      (c.in_ok-push.ensures.bytes
      ∙ ap (λ xs. string_bytes c.loop-place.output ++ xs) (c.in_ok-push.ensures.ascii (let d = c.digit_at.ensures in omega arith)))
      ∙ c.loop-place.invariant.so_far;
}
