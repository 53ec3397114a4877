use Rattle.std.proofs.Common.{sym, subst, refl, arith, false}
use Rattle.std.specs.Prelude.{option_map}
use Rattle.pattern_tree.specs.Nodes.{count_in}
use Rattle.pattern_tree.specs.Patterns.{node_tree}
use Rattle.pattern_translation.specs.Facts.{AreOf}
use Rattle.pattern_translation.proofs.facts.facts_at.Goals as goal

pub group-requires : goal.group-requires
group-requires c =
    let below = c.in-Group.ensures.form.0.below in
    let few = c.requires.facts.few c.in-Group.inner.0 (record {
      look_around = false;
      back_reference = false;
      other_part = false;
      vague = false;
      depth = 0;
    }) (omega (arith, below)) in omega (arith, below, few)

pub returns-in-Class-clause-facts : goal.returns-in-Class-clause-facts
returns-in-Class-clause-facts c =
    let (items, e) = c.in-Class.ensures.form in subst (AreOf c.class.result) (sym e) (c.class.ensures.facts c.in-Class.negated items e)

pub returns-in-Group-clause-facts : goal.returns-in-Group-clause-facts
returns-in-Group-clause-facts c =
    let (part, named) = c.in-Group.ensures.form in
    let (m, e, k) = named in
    let below = part.below in
    let inner = c.requires.facts.facts c.in-Group.inner.0 (record {
      look_around = false;
      back_reference = false;
      other_part = false;
      vague = false;
      depth = 0;
    }) (omega (arith, below)) in
    subst (AreOf c.group.result) (sym e)
    (c.group.ensures.facts m (node_tree c.args.pattern.now c.in-Group.inner) inner k (c.has_other_name.ensures m
    (node_tree c.args.pattern.now c.in-Group.inner) e))

pub returns-in-Repeat-clause-facts : goal.returns-in-Repeat-clause-facts
returns-in-Repeat-clause-facts c =
    let (part, e) = c.in-Repeat.ensures.form in
    let below = part.below in
    let inner = c.requires.facts.facts c.in-Repeat.inner.0 (record {
      look_around = false;
      back_reference = false;
      other_part = false;
      vague = false;
      depth = 0;
    }) (omega (arith, below)) in
    subst (AreOf c.repeat.result) (sym e)
    (c.repeat.ensures.facts (record {
      least = count_in c.in-Repeat.least;
      most = option_map count_in c.in-Repeat.most;
      lazy =
          c.in-Repeat.lazy;
    }) (node_tree c.args.pattern.now c.in-Repeat.inner) inner refl refl)
