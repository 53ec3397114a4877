use Rattle.std.proofs.Common.{sym, ◌∙◌}
use Rattle.std.specs.Str.{chars}
use Rattle.pattern_translation.proofs.ClassWriting.{class_added}
use Rattle.pattern_translation.proofs.class.write_class.Goals as goal

pub returns-clause-class : goal.returns-clause-class
returns-clause-class c = λ t y e.
    let (w, f, g, h) = class_added (chars c.args.text.now) (chars c.in_ok-items.items.now) (chars c.in_ok-end.end.now) t y _ _ _ _
    c.in_ok-items.ensures.begins.0 c.in_ok-items.ensures.begins.1 c.in_ok-end.ensures.items c.in_ok-push_str.ensures.bytes e in
    (w, f ∙ sym c.rest.ensures.value, g, h)
