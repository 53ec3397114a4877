use Rattle.std.proofs.Common.{◌++◌, ap, sym, ◌∙◌, arith}
use Rattle.std.specs.Str.{chars}
use Rattle.std.specs.String.{string_bytes}
use Rattle.std.proofs.lemmas.Str.{chars-nil, chars-append, IsUtf8-string_bytes}
use Rattle.pattern_translation.specs.Witness.{times}
use Rattle.pattern_translation.proofs.WitnessLaws.{times_more}
use Rattle.pattern_translation.proofs.witness.copies.Goals as goal

pub loop-done-init : goal.loop-done-init
loop-done-init c = ap chars c.new-copies.ensures.bytes ∙ chars-nil

pub loop-done-preserved : goal.loop-done-preserved
loop-done-preserved c =
    ap chars c.in_ok-push_str.ensures.bytes
    ∙ (chars-append (string_bytes c.loop-done.copies) c.args.text.now (IsUtf8-string_bytes c.loop-done.copies)
    ∙ (ap (λ z. z ++ chars c.args.text.now) c.loop-done.invariant ∙ sym (times_more c.loop-done._done (chars c.args.text.now))))

pub returns : goal.returns
returns c = c.loop-done.invariant ∙ ap (λ z. times z (chars c.args.text.now)) (omega arith)
