use Rattle.std.proofs.Common.{rules, ap, sym, ◌∙◌, subst, arith, Some, map}
use Rattle.std.specs.Str.{chars}
use Rattle.std.proofs.lemmas.List.{append-nil}
use Rattle.pattern_model.specs.Text.{with_front, is_at}
use Rattle.pattern_model.specs.Classes.{class_items, class_part}
use Rattle.pattern_tree.specs.Nodes.{item_of}
use Rattle.pattern_model.proofs.PartLaws.{many_end, many_none, many_more, class_part_shrinks}
use Rattle.pattern_model.proofs.ItemLaws.{items_more}
use Rattle.pattern_tree.specs.Spans.{placed_of}
use Rattle.pattern_tree.proofs.ItemLemmas.{ReadTo}
use Rattle.pattern_tree.proofs.class.class_items.Goals as goal

pub returns-in_default-clause-value : goal.returns-in_default-clause-value
unfolding class_items
returns-in_default-clause-value c =
    sym c.loop-items.invariant.value
    ∙ ap (with_front (map item_of c.loop-items.items.items))
    (many_none (is_at 93) (class_part c.args.wide) (class_part_shrinks c.args.wide) (chars c.loop-items.after.now)
    (sym c.loop-items-test.ensures) (rw c.in_default.is at c.in_ok-part.ensures.none))

pub loop-items-preserved : goal.loop-items-preserved
unfolding class_items
loop-items-preserved c =
    let (a, e, f) = (rw c.in-Some.is at c.in_ok-part.ensures.some) in
    let (new, g, r) = (rw c.in-Some.is at c.in_ok-part.ensures.places) in record {
      utf8 = search rules;
      value = many_more (is_at 93) (class_part c.args.wide) (class_part_shrinks c.args.wide) (map item_of c.loop-items.items.items)
          (map item_of c.class_part.new.items.items) a (chars c.loop-items.after.now) (chars c.in-Some.next.now) _ f
          (sym c.loop-items-test.ensures) e
          c.loop-items.invariant.value;
      len = omega (arith, c.loop-items.invariant.len, rw c.in-Some.is at c.in_ok-part.ensures.len);
      places = subst (λ z. ReadTo c.args.total c.args.x.now z c.in-Some.next.now) (sym g)
          (items_more _ _ _ _ _ _ (map placed_of c.loop-items.items.items) new c.loop-items.invariant.places r);
    }

pub returns-clause-value : goal.returns-clause-value
unfolding class_items
returns-clause-value c =
    sym c.loop-items.invariant.value
    ∙ (ap (with_front (map item_of c.loop-items.items.items))
    (many_end (is_at 93) (class_part c.args.wide) (class_part_shrinks c.args.wide) (chars c.loop-items.after.now)
    (sym c.loop-items-test.ensures))
    ∙ ap (λ z. Some (z, chars c.loop-items.after.now)) (append-nil (map item_of c.loop-items.items.items)))

pub returns-clause-places : goal.returns-clause-places
returns-clause-places c = c.loop-items.invariant.places
