use Rattle.std.proofs.Common.{true, subst, IfSome}
use Rattle.std.specs.Str.{chars}
use Rattle.pattern_model.specs.Grammar.{Grammar}
use Rattle.pattern_tree.specs.Patterns.{tree_of}
use Rattle.pattern_translation.proofs.PatternWitness.{vague_tree, refused_tree, no_witness}
use Rattle.pattern_translation.proofs.witness_of_pattern.pattern_witness.Goals as goal

pub returns-then-facts-clause-none : goal.returns-then-facts-clause-none
returns-then-facts-clause-none c = λ t g r v.
    let read = subst (λ o. IfSome o (λ p. Grammar true (chars c.args.pattern.now) (tree_of p))) c.in-Some.is c.in_ok-tree.ensures.some in
    absurd (vague_tree (chars c.args.pattern.now) t (tree_of c.in-Some.tree) c.in_ok-facts.facts g read c.in_ok-facts.ensures c.if-facts.true
    v)

pub returns-in-Some-cause-clause-none : goal.returns-in-Some-cause-clause-none
returns-in-Some-cause-clause-none c = λ t g r v.
    let read = subst (λ o. IfSome o (λ p. Grammar true (chars c.args.pattern.now) (tree_of p))) c.in-Some.is c.in_ok-tree.ensures.some in
    absurd (refused_tree (chars c.args.pattern.now) t (tree_of c.in-Some.tree) c.in_ok-cause.cause c.in-Some-cause.field-0 g read
    c.in_ok-cause.ensures c.in-Some-cause.is r)

pub returns-clause-none : goal.returns-clause-none
returns-clause-none c =
    let read = subst (λ o. IfSome o (λ p. Grammar true (chars c.args.pattern.now) (tree_of p))) c.in-Some.is c.in_ok-tree.ensures.some in
    no_witness (chars c.args.pattern.now) (tree_of c.in-Some.tree) c.in_ok-text-in-None.text read c.in_ok-text-in-None.ensures
