use Rattle.std.proofs.Common.{◌≡◌, ℤ, pos, nat_abs, sym, ap, ◌∙◌, w32, rules}
use Rattle.std.specs.Prelude.{◌+ℤ◌}
use mir.Val.{SFits}
use Rattle.std.proofs.lemmas.Int.{to_z-of_z}
use Rattle.jsonb_encode.specs.Number.{lift}
use Rattle.jsonb_encode.proofs.Spans.{header_is, sign_written}
use Rattle.jsonb_encode.proofs.number.header_with.Goals as goal

pub returns : goal.returns
returns c =
    let f : SFits w32 c.args.weight = search rules in
    let at : pos (lift c.args.number.now) ≡ pos c.lifted.result =
    sym c.requires.weight ∙ ap (λ (w : ℤ). w +ℤ pos 32768) (sym (to_z-of_z w32 c.args.weight f)) ∙ c.lifted.ensures in
    header_is c.args.number.now c.parts.result.negative c.fraction_digits.result c.lifted.result
    (c.parts.ensures.negative ∙ sign_written c.decimal.result c.args.number.now c.decimal.ensures)
    c.fraction_digits.ensures.places (sym (ap nat_abs at))
