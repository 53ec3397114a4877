use Rattle.flat_keywords.proofs.Adding.{adds_bound, adds_greatest, adds_least, adds_listed, adds_pattern, adds_unique}
use Rattle.flat_keywords.proofs.PatternVerdicts.{pattern_is, pattern_suits}
use Rattle.flat_keywords.proofs.checks.Checks.add.Goals as goal

pub returns-in_ok-read_listed-in-Enum-clause-ok : goal.returns-in_ok-read_listed-in-Enum-clause-ok
returns-in_ok-read_listed-in-Enum-clause-ok g c =
    let is = c.in_ok-read_listed-in-Enum.ensures in
    let free = rw c.in-Enum.is at c.requires in
    rw c.in-Enum.is (adds_listed c.args.self.now (g.N.HasTree.tree c.args.value.now) c.in_ok-read_listed-in-Enum.field-0 free is.0 is.1)

pub returns-in_ok-read_bound-in-Bound-clause-ok : goal.returns-in_ok-read_bound-in-Bound-clause-ok
returns-in_ok-read_bound-in-Bound-clause-ok g c =
    let b = c.in_ok-read_bound-in-Bound.field-0 in
    rw c.in-Bound.is (adds_bound c.args.self.now (g.N.HasTree.tree c.args.value.now) c.in-Bound.op c.set.new.self b
    c.in_ok-read_bound-in-Bound.ensures c.set.ensures.kept c.set.ensures.free)

pub returns-in_ok-read_limit-in-Least-clause-ok : goal.returns-in_ok-read_limit-in-Least-clause-ok
returns-in_ok-read_limit-in-Least-clause-ok g c =
    rw c.in-Least.is (adds_least c.args.self.now (g.N.HasTree.tree c.args.value.now) c.in-Least.measure
    c.in_ok-read_limit-in-Least.field-0 c.set_least.new.self
    c.in_ok-read_limit-in-Least.ensures c.set_least.ensures.passes c.set_least.ensures.frees c.set_least.ensures.memory)

pub returns-in_ok-read_limit-in-Greatest-clause-ok : goal.returns-in_ok-read_limit-in-Greatest-clause-ok
returns-in_ok-read_limit-in-Greatest-clause-ok g c =
    rw c.in-Greatest.is (adds_greatest c.args.self.now (g.N.HasTree.tree c.args.value.now) c.in-Greatest.measure
    c.in_ok-read_limit-in-Greatest.field-0 c.set_greatest.new.self
    c.in_ok-read_limit-in-Greatest.ensures c.set_greatest.ensures.passes c.set_greatest.ensures.frees c.set_greatest.ensures.memory)

pub returns-in_ok-read_pattern-in-Pattern-clause-ok : goal.returns-in_ok-read_pattern-in-Pattern-clause-ok
returns-in_ok-read_pattern-in-Pattern-clause-ok g c =
    let v = g.N.HasTree.tree c.args.value.now in
    let kept = c.in_ok-read_pattern-in-Pattern.field-0 in
    let is = c.in_ok-read_pattern-in-Pattern.ensures in
    let free = rw c.in-Pattern.is at c.requires in
    rw c.in-Pattern.is (adds_pattern c.args.self.now v kept free (pattern_suits v kept is) (pattern_is v kept is))

pub returns-in_ok-self-in-UniqueItems-clause-ok : goal.returns-in_ok-self-in-UniqueItems-clause-ok
returns-in_ok-self-in-UniqueItems-clause-ok g c =
    let free = rw c.in-UniqueItems.is at c.requires in
    rw c.in-UniqueItems.is (adds_unique c.args.self.now (g.N.HasTree.tree c.args.value.now) c.in_ok-self-in-UniqueItems.field-0 free
    c.in_ok-self-in-UniqueItems.ensures)
