use Rattle.std.proofs.Common.{◌≡◌, ◌-◌, length, ap, sym, subst, arith, rules, refl}
use Rattle.std.specs.Str.{chars}
use Rattle.pattern_tree.specs.Machine.{spelled}
use Rattle.pattern_tree.specs.Nodes.{state_of, InOuter, token_of, StepsTo}
use Rattle.pattern_tree.proofs.Leads.{Leads, leads_first}
use Rattle.pattern_tree.proofs.Sound.{Goes, step_goes}
use Rattle.pattern_tree.proofs.Told.{Told, told_more}
use Rattle.pattern_tree.proofs.ReadLemmas.{ended_some, ended_none, failed, no_token, no_name, no_step, one_step, may_stand, goes, few_chars, begun, told_first}
use Rattle.pattern_tree.proofs.ScopeLaws.{starts_rise}
use Rattle.pattern_tree.proofs.TestLaws.{captures_one}
use Rattle.pattern_tree.proofs.PlaceLaws.{placed_first}
use denote.Text.{Utf8}
use denote.Shadow.{shadow}
use Rattle.pattern_model.specs.Spans.{IsAfter}
use Rattle.pattern_model.proofs.SpanLaws.{after_first, token_after, token_stands}
use Rattle.pattern_tree.proofs.SpanReader.{bytes_are, first_stands, stands_at_end, ended_spans}
use Rattle.pattern_tree.proofs.reader.read.Goals as goal

pub loop-c-init : goal.loop-c-init
loop-c-init c =
    let x = chars c.args.text.now in
    let none : length c.args.text.now - length c.args.text.now ≡ 0 = omega arith in
    let b = begun c.new-4.result c.new-5.result c.new-5.ensures.items in record {
      utf8 = c.utf8.text;
      leads = subst (λ z. Leads c.args.wide x z x) (sym b) (leads_first c.args.wide x);
      inside = record {
        here = record { done = tt; before = tt; last = tt };
        outer =
            subst (λ z. InOuter (length c.new-4.result.items) z) (sym c.new-5.ensures.items) tt;
      };
      few = omega (arith, ap length c.new-4.ensures.items);
      short = omega arith;
      total = refl;
      told = subst (λ z. Told (record { groups = 0; highest = 0; references = c.new.result }) (spelled z)) (sym b)
          (told_first c.new.result c.new.ensures.items);
      groups = omega arith;
      after = subst (λ z. IsAfter x z x) (sym none) (after_first x);
      stands = first_stands c.args.wide x c.new-4.result c.new-5.result _ c.new-4.ensures.items c.new-5.ensures.items none;
      placed = placed_first c.new-2.result c.new-3.result _ _ c.new-2.ensures.empty c.new-3.ensures.items b;
    }

pub take-requires-in-Some-clause-rise : goal.take-requires-in-Some-clause-rise
take-requires-in-Some-clause-rise c = starts_rise c.loop-c.places (state_of c.loop-c.reader) _ c.loop-c.invariant.placed

pub returns-in_default-read-clause-none : goal.returns-in_default-read-clause-none
returns-in_default-read-clause-none c =
    no_token c.args.wide (chars c.args.text.now) (state_of c.loop-c.reader) (chars c.loop-c.rest.now) c.in-Some.c
    (chars c.in-Some.after.now) (few_chars c.args.text.now c.utf8.text c.requires) c.loop-c.invariant.leads c.in-Some.ensures.0
    (rw c.in_default-read.is at c.in_ok-read.ensures.none)

pub returns-then-not-branch-clause-none : goal.returns-then-not-branch-clause-none
returns-then-not-branch-clause-none c =
    no_name c.args.wide (chars c.args.text.now) (state_of c.loop-c.reader) c.take-in-Some.new.self _ (chars c.loop-c.rest.now) c.in-Some.c
    (chars c.in-Some.after.now) (chars c.in-Some-read.next.now) (token_of c.in-Some-read.token) c.in_ok-take-2.field-0
    c.loop-c.invariant.leads c.in-Some.ensures.0 (rw c.in-Some-read.is at c.in_ok-read.ensures.some)
    (c.in_ok-take-2.ensures (state_of c.loop-c.reader) c.loop-c.invariant.placed) c.if-not-branch.true

pub returns-then-not-branch-2-clause-none : goal.returns-then-not-branch-2-clause-none
returns-then-not-branch-2-clause-none c =
    no_step c.args.wide (chars c.args.text.now) c.loop-c.reader c.step.new.self (chars c.loop-c.rest.now) c.in-Some.c
    (chars c.in-Some.after.now) (chars c.in-Some-read.next.now) (token_of c.in-Some-read.token) c.in_ok-step.field-0
    c.loop-c.invariant.leads c.in-Some.ensures.0 (rw c.in-Some-read.is at c.in_ok-read.ensures.some) c.in_ok-step.ensures.step
    c.if-not-branch-2.true

pub loop-c-preserved : goal.loop-c-preserved
loop-c-preserved c =
    let old = state_of c.loop-c.reader in
    let new = state_of c.step.new.self in
    let t = token_of c.in-Some-read.token in
    let s : StepsTo t c.loop-c.reader c.step.new.self =
    one_step _ _ _ c.in_ok-step.field-0 c.in_ok-step.ensures.step c.if-not-branch-2.false in
    let m = may_stand t old _ c.take-in-Some.new.self c.in_ok-take-2.field-0 (c.in_ok-take-2.ensures old c.loop-c.invariant.placed)
    c.if-not-branch.false in
    let g : Goes old new t = step_goes t old new s.step c.loop-c.invariant.leads.fine in
    let l = rw c.in-Some-read.is at c.in_ok-read.ensures.len in
    let x = chars c.args.text.now in
    let u : shadow (Utf8 c.in-Some-read.next.now) = search rules in
    let bytes = bytes_are c.args.text.now c.utf8.text in
    let left = bytes_are c.in-Some-read.next.now u in
    let start = length c.args.text.now - length c.loop-c.rest.now in
    let end = length c.args.text.now - length c.in-Some-read.next.now in
    let read = rw c.in-Some-read.is at c.in_ok-read.ensures.some in
    let after : IsAfter x end (chars c.in-Some-read.next.now) =
    token_after c.args.wide x (chars c.loop-c.rest.now) start end c.in-Some.c (chars c.in-Some.after.now) (chars c.in-Some-read.next.now) t
    c.loop-c.invariant.after c.in-Some.ensures.0 read (omega (
      arith,
      bytes,
      left,
      c.loop-c.invariant.total,
      c.loop-c.invariant.short,
      c.in-Some.ensures.1,
      l,
    )) in
    let token = token_stands c.args.wide x (chars c.loop-c.rest.now) start end c.in-Some.c (chars c.in-Some.after.now)
    (chars c.in-Some-read.next.now) t
    c.loop-c.invariant.after c.in-Some.ensures.0 read after in record {
      utf8 = u;
      leads = goes c.args.wide (chars c.args.text.now) c.loop-c.reader c.step.new.self (chars c.loop-c.rest.now) c.in-Some.c
          (chars c.in-Some.after.now) (chars c.in-Some-read.next.now) t
          c.loop-c.invariant.leads c.in-Some.ensures.0 (rw c.in-Some-read.is at c.in_ok-read.ensures.some) m.0 s;
      inside = s.inside;
      few = omega (arith, s.few, c.loop-c.invariant.few, c.in-Some.ensures.1, l);
      short = omega (arith, c.loop-c.invariant.short, c.in-Some.ensures.1, l);
      total = refl;
      told = told_more c.loop-c.counters c.take.new.self (spelled old) (spelled new) t g.spelled c.loop-c.invariant.told
          c.in_ok-take.ensures.groups c.in_ok-take.ensures.highest c.in_ok-take.ensures.references;
      groups = omega (arith, captures_one t, c.in_ok-take.ensures.groups, c.loop-c.invariant.groups, c.in-Some.ensures.1, l);
      after = after;
      stands = c.in_ok-step.ensures.stands c.if-not-branch-2.false c.args.wide x c.loop-c.invariant.stands token
          (rw c.in-Some-read.is at c.in_ok-read.ensures.items x start
          (subst (λ z. IsAfter x start z) c.in-Some.ensures.0 c.loop-c.invariant.after) bytes);
      placed = m.1 new s.step;
    }

pub returns-then-not-are_met-clause-none : goal.returns-then-not-are_met-clause-none
returns-then-not-are_met-clause-none c =
    failed c.args.wide (chars c.args.text.now) c.loop-c.counters c.loop-c.places (state_of c.loop-c.reader) _
    (subst (λ z. Leads c.args.wide (chars c.args.text.now) (state_of c.loop-c.reader) z) c.in_default.ensures c.loop-c.invariant.leads)
    c.loop-c.invariant.told c.loop-c.invariant.placed (sym c.if-not-are_met.ensures)

pub returns-clause-some : goal.returns-clause-some
returns-clause-some c =
    ended_some c.args.wide (chars c.args.text.now) c.loop-c.counters c.loop-c.places (state_of c.loop-c.reader) _ c.finish.result
    (subst (λ z. Leads c.args.wide (chars c.args.text.now) (state_of c.loop-c.reader) z) c.in_default.ensures c.loop-c.invariant.leads)
    c.loop-c.invariant.told c.loop-c.invariant.placed (sym c.if-not-are_met.ensures) c.finish.ensures.tree

pub returns-clause-none : goal.returns-clause-none
returns-clause-none c =
    ended_none c.args.wide (chars c.args.text.now) (state_of c.loop-c.reader) c.finish.result
    (subst (λ z. Leads c.args.wide (chars c.args.text.now) (state_of c.loop-c.reader) z) c.in_default.ensures c.loop-c.invariant.leads)
    c.finish.ensures.tree

pub finish-requires-clause-stands : goal.finish-requires-clause-stands
finish-requires-clause-stands c = (
  c.args.wide,
  chars c.args.text.now,
  stands_at_end c.args.wide (chars c.args.text.now) c.loop-c.reader c.loop-c.rest.now _
      c.loop-c.invariant.utf8 c.in_default.ensures c.loop-c.invariant.stands,
)

pub returns-clause-spans : goal.returns-clause-spans
returns-clause-spans c =
    ended_spans c.args.wide (chars c.args.text.now) c.loop-c.reader _ c.finish.result
    (stands_at_end c.args.wide (chars c.args.text.now) c.loop-c.reader c.loop-c.rest.now _ c.loop-c.invariant.utf8 c.in_default.ensures
    c.loop-c.invariant.stands) c.finish.ensures.spans
