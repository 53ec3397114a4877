use Rattle.std.proofs.Common.{◌/◌, ◌%◌, ◌^◌, ◌+◌, nat_abs, ap, ℕ, ◌∙◌}
use Rattle.json_exact.proofs.DigitPlaceLaws.{digit_in_group}
use Rattle.json_exact.proofs.decimal.Decimal.digit_at.Goals as goal

pub returns : goal.returns
returns c =
    c.digit_of_group.ensures ∙ ap (λ (g : ℕ). g / 10 ^ ((c.args.place + 1) % 4) % 10) c.group_at.ensures.group
    ∙ digit_in_group (nat_abs c.args.self.now) c.args.place
