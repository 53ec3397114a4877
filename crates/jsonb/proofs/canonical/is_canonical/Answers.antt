use Rattle.std.proofs.Common.{refl}
use Rattle.jsonb.proofs.CanonicalLaws.{goes_on_by, goes_down_by, stops_by, ends, none_left}
use Rattle.jsonb.proofs.canonical.is_canonical.Goals as goal

pub returns-then-not-branch-2 : goal.returns-then-not-branch-2
returns-then-not-branch-2 c = (
  λ h. absurd cc,
  λ h. absurd (stops_by c.args.node.now c.loop-values.pending.items c.pop.new.self.items c.in-Some.values c.in-Some.ensures.items
      c.loop-values.invariant c.advance.new.pending.items c.in_ok-advance.field-0 c.if-not-branch-2.true c.in_ok-advance.ensures h),
)

pub loop-values-smaller : goal.loop-values-smaller
loop-values-smaller c =
    goes_down_by c.args.node.now c.loop-values.pending.items c.pop.new.self.items c.in-Some.values c.in-Some.ensures.items
    c.loop-values.invariant c.advance.new.pending.items c.in_ok-advance.field-0 c.if-not-branch-2.false c.in_ok-advance.ensures

pub loop-values-preserved : goal.loop-values-preserved
loop-values-preserved c =
    goes_on_by c.args.node.now c.loop-values.pending.items c.pop.new.self.items c.in-Some.values c.in-Some.ensures.items
    c.loop-values.invariant c.advance.new.pending.items c.in_ok-advance.field-0 c.if-not-branch-2.false c.in_ok-advance.ensures

pub returns : goal.returns
returns c = (
  λ h. ends c.args.node.now c.loop-values.pending.items
      (none_left c.loop-values.pending.items c.pop.new.self.items _ c.in_default.ensures.items c.in_default.ensures.rest
      c.in_default.ensures.cases.0)
      c.loop-values.invariant,
  λ h. refl,
)
