use Rattle.std.proofs.Common.{◌∙◌, ◌/◌, ap, arith, List, ℕ}
use Rattle.std.specs.Prelude.{bytes_eq}
use Rattle.json_model.specs.Keys.{key_before}
use Rattle.jsonb.specs.inner.Views.{place}
use Rattle.jsonb.proofs.HalvingLaws.{narrow_begins, narrow_ends, middle_there, middle_goes_on, narrow_finds, narrow_right, narrow_left, halve_begins, halve_goes_on, halve_ends}
use Rattle.jsonb.proofs.lookup.find_key.Goals as goal

pub loop-size-init : goal.loop-size-init
loop-size-init g c = record {
  narrowed = narrow_begins c.args.key.now c.args.count (place c.args.start) c.requires.keys;
  halved = halve_begins c.args.count c.args.steps.now;
  within = omega arith;
  rise = omega arith;
  some = λ h. omega (arith, h);
}

pub leap-middle-requires : goal.leap-middle-requires
leap-middle-requires g c =
    record { there = middle_there c.loop-size.invariant.narrowed (c.loop-size.size / 2) (omega (arith, c.loop-size-test.true)) }

pub unreachable-requires : goal.unreachable-requires
unreachable-requires g c =
    middle_goes_on c.loop-size.invariant.narrowed (c.loop-size.size / 2) (omega (arith, c.loop-size-test.true)) c.leap-middle.ensures.read
    c.in_default.ensures.read

pub returns-then-is_same-clause-read : goal.returns-then-is_same-clause-read
returns-then-is_same-clause-read g c =
    narrow_finds c.loop-size.invariant.narrowed (c.loop-size.size / 2) (omega (arith, c.loop-size-test.true)) c.leap-middle.ensures.read
    c.in-Some.ensures.read (c.if-is_same.ensures ∙ ap (bytes_eq c.args.key.now) c.piece.ensures.piece)

pub returns-then-is_same-clause-rise : goal.returns-then-is_same-clause-rise
returns-then-is_same-clause-rise g c = omega (arith, c.loop-size.invariant.rise, c.leap-middle.ensures.rise, c.in-Some.ensures.rise)

pub returns-then-is_same-clause-few : goal.returns-then-is_same-clause-few
returns-then-is_same-clause-few g c =
    halve_ends (halve_goes_on 0 c.next_item_counted.new.steps c.loop-size.invariant.halved c.loop-size-test.true (omega arith)
    (omega (arith, c.leap-middle.ensures.few, c.in-Some.ensures.few)))

pub returns-then-is_same-clause-some : goal.returns-then-is_same-clause-some
returns-then-is_same-clause-some g c = λ h. omega (arith, c.loop-size.invariant.rise, c.leap-middle.ensures.rise, c.in-Some.ensures.steps)

pub loop-size-preserved-then-comes_before : goal.loop-size-preserved-then-comes_before
loop-size-preserved-then-comes_before g c = record {
  narrowed =
      narrow_right c.loop-size.invariant.narrowed (c.loop-size.size / 2) (omega (arith, c.loop-size-test.true)) c.leap-middle.ensures.read
      c.in-Some.ensures.read
      (c.if-comes_before.ensures ∙ ap (λ (l : List ℕ). key_before l c.args.key.now) c.piece-in-loop-size.ensures.piece);
  halved =
      halve_goes_on _ c.next_item_counted.new.steps c.loop-size.invariant.halved c.loop-size-test.true (omega arith)
      (omega (arith, c.leap-middle.ensures.few, c.in-Some.ensures.few));
  within = omega (arith, c.loop-size.invariant.within);
  rise = omega (arith, c.loop-size.invariant.rise, c.leap-middle.ensures.rise, c.in-Some.ensures.rise);
  some = λ h. omega (arith, c.loop-size.invariant.rise, c.leap-middle.ensures.rise, c.in-Some.ensures.steps);
}

pub loop-size-preserved : goal.loop-size-preserved
loop-size-preserved g c = record {
  narrowed =
      narrow_left c.loop-size.invariant.narrowed (c.loop-size.size / 2) (omega (arith, c.loop-size-test.true)) c.leap-middle.ensures.read
      c.in-Some.ensures.read (c.if-is_same.ensures ∙ ap (bytes_eq c.args.key.now) c.piece.ensures.piece)
      (c.if-comes_before.ensures ∙ ap (λ (l : List ℕ). key_before l c.args.key.now) c.piece-in-loop-size.ensures.piece);
  halved =
      halve_goes_on _ c.next_item_counted.new.steps c.loop-size.invariant.halved c.loop-size-test.true (omega arith)
      (omega (arith, c.leap-middle.ensures.few, c.in-Some.ensures.few));
  within = omega (arith, c.loop-size.invariant.within);
  rise = omega (arith, c.loop-size.invariant.rise, c.leap-middle.ensures.rise, c.in-Some.ensures.rise);
  some = λ h. omega (arith, c.loop-size.invariant.rise, c.leap-middle.ensures.rise, c.in-Some.ensures.steps);
}

pub returns-clause-read : goal.returns-clause-read
returns-clause-read g c = narrow_ends c.loop-size.invariant.narrowed c.loop-size-test.false

pub returns-clause-rise : goal.returns-clause-rise
returns-clause-rise g c = c.loop-size.invariant.rise

pub returns-clause-few : goal.returns-clause-few
returns-clause-few g c = halve_ends c.loop-size.invariant.halved

pub returns-clause-some : goal.returns-clause-some
returns-clause-some g c = λ h. c.loop-size.invariant.some (omega (arith, h, c.loop-size-test.false))
