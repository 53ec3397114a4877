use Rattle.std.proofs.Common.{arith, ◌∙◌}
use Rattle.jsonb.proofs.Groups.{shown, no_first, no_last, too_long, narrow_if, Counted, ends_are}
use Rattle.jsonb.proofs.numeric.decide.Goals as goal

pub returns-then-groups-lt2 : goal.returns-then-groups-lt2
returns-then-groups-lt2 c = let s = shown c.args.groups.now c.requires.fit c.requires.some in absurd (omega (arith, s.len))

pub returns-then-first-eq0 : goal.returns-then-first-eq0
returns-then-first-eq0 c =
    let s = shown c.args.groups.now c.requires.fit c.requires.some in no_first c.args.header c.args.groups.now s (s.first ∙ c.if-first-eq0.true)

pub returns-then-last-eq0 : goal.returns-then-last-eq0
returns-then-last-eq0 c =
    let s = shown c.args.groups.now c.requires.fit c.requires.some in no_last c.args.header c.args.groups.now s (s.last ∙ c.if-last-eq0.true)

pub zeros-zeros-requires-clause-fits : goal.zeros-zeros-requires-clause-fits
zeros-zeros-requires-clause-fits c = let s = shown c.args.groups.now c.requires.fit c.requires.some in omega (arith, s.last, s.last_fits)

pub digits-digits-requires-clause-fits : goal.digits-digits-requires-clause-fits
digits-digits-requires-clause-fits c = let s = shown c.args.groups.now c.requires.fit c.requires.some in omega (arith, s.first, s.first_fits)

pub returns-then-count-room : goal.returns-then-count-room
returns-then-count-room c =
    let s = shown c.args.groups.now c.requires.fit c.requires.some in
    let first = c.digits-digits.ensures in
    let last = c.zeros-zeros.ensures in
    let counted : Counted _ _ c.digits-digits.result c.zeros-zeros.result =
    record { some = first.some; least = first.least; most = first.most; few = last.few; last = last.last } in
    too_long c.args.header c.args.groups.now s c.digits-digits.result c.zeros-zeros.result
    (ends_are s s.first s.last counted)
    (omega (arith, s.len, c.if-count-room.true))

pub returns : goal.returns
returns c =
    let s = shown c.args.groups.now c.requires.fit c.requires.some in
    let first = c.digits-digits.ensures in
    let last = c.zeros-zeros.ensures in
    let counted : Counted _ _ c.digits-digits.result c.zeros-zeros.result =
    record { some = first.some; least = first.least; most = first.most; few = last.few; last = last.last } in
    narrow_if c.args.header c.args.groups.now s c.digits-digits.result c.zeros-zeros.result _
    (ends_are s s.first s.last counted)
    (omega (arith, s.len, c.if-count-room.false)) (omega (arith, s.len))
