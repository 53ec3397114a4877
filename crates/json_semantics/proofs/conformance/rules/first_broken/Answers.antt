use Rattle.json_semantics.proofs.ConformanceLaws.{all_kept, first_broken, kept_on}
use Rattle.json_semantics.proofs.conformance.rules.first_broken.Goals as goal

pub returns-then-not-branch : goal.returns-then-not-branch
returns-then-not-branch g c =
    first_broken (g.N.HasTree.tree c.args.root.now) c.args.order c.loop-rule.rule-index _ c.in_ok-keeps.field-0 c.loop-rule-test.true
    c.loop-rule.invariant c.in_ok-keeps.ensures c.requires.in_order c.if-not-branch.true

pub loop-rule-preserved : goal.loop-rule-preserved
loop-rule-preserved g c =
    kept_on (g.N.HasTree.tree c.args.root.now) c.args.order c.loop-rule.rule-index _ c.in_ok-keeps.field-0 c.loop-rule-test.true
    c.loop-rule.invariant c.in_ok-keeps.ensures c.requires.in_order c.if-not-branch.false

pub returns : goal.returns
returns g c =
    all_kept (g.N.HasTree.tree c.args.root.now) c.loop-rule.rule-index c.loop-rule-test.false c.loop-rule.invariant
