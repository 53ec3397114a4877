use Rattle.std.proofs.Common.{rules, ap, sym, ◌∙◌, arith, Some}
use Rattle.std.specs.Str.{chars}
use Rattle.std.specs.Prelude.{string_bytes, encode_utf8}
use Rattle.std.proofs.lemmas.List.{append-nil}
use Rattle.pattern_model.specs.Text.{with_front, is_at}
use Rattle.pattern_model.specs.GroupNames.{name_parts, name_part}
use Rattle.pattern_model.proofs.PartLaws.{many_end, many_none, many_more, name_part_shrinks}
use Rattle.pattern_tree.proofs.escape.name_parts.Goals as goal

pub returns-in_default-clause-value : goal.returns-in_default-clause-value
unfolding name_parts
returns-in_default-clause-value c =
    sym c.loop-after.invariant.1
    ∙ ap (with_front (string_bytes c.loop-after.name)) (many_none (is_at 62) name_part name_part_shrinks (chars c.loop-after.after.now)
    (sym c.loop-after-test.ensures) c.in_default.ensures.value)

pub loop-after-preserved : goal.loop-after-preserved
unfolding name_parts
loop-after-preserved c = (
  search rules,
  many_more (is_at 62) name_part name_part_shrinks (string_bytes c.loop-after.name) (string_bytes c.push.new.self) (encode_utf8 c.in-Some.c)
      (chars c.loop-after.after.now) (chars c.in-Some.next.now) _ c.in_ok-push.ensures.bytes (sym c.loop-after-test.ensures)
      c.in-Some.ensures.value
      c.loop-after.invariant.1,
  omega (arith, c.loop-after.invariant.2, c.in-Some.ensures.len),
)

pub returns-clause-value : goal.returns-clause-value
unfolding name_parts
returns-clause-value c =
    sym c.loop-after.invariant.1
    ∙ (ap (with_front (string_bytes c.loop-after.name)) (many_end (is_at 62) name_part name_part_shrinks (chars c.loop-after.after.now)
    (sym c.loop-after-test.ensures))
    ∙ ap (λ z. Some (z, chars c.loop-after.after.now)) (append-nil (string_bytes c.loop-after.name)))
