use Rattle.std.proofs.Common.{ℕ, ℤ, ◌+◌, ◌*◌, ◌%◌, ◌^◌, ◌<◌, sym, subst, nat_abs, w32, rules, arith}
use mir.Val.{SFits}
use Rattle.std.proofs.lemmas.Int.{to_z-of_z}
use Rattle.json_exact.specs.DecimalGroups.{IsScaled}
use Rattle.json_exact.proofs.DigitPlaceLaws.{sign_is, first_group_some, group_small}
use Rattle.json_exact.proofs.GroupPlaceLaws.{zero_is, not_zero, last_within}
use Rattle.json_exact.proofs.PartsLaws.{made, scaled_by, none_made, before_small}
use Rattle.json_exact.proofs.decimal.Decimal.parts.Goals as goal

pub returns-then-self-eq0-clause-negative : goal.returns-then-self-eq0-clause-negative
returns-then-self-eq0-clause-negative c = sign_is c.self.inside _ c.self.invariant c.self.view_is

pub returns-then-self-eq0-clause-magnitude : goal.returns-then-self-eq0-clause-magnitude
returns-then-self-eq0-clause-magnitude c = λ up l _. none_made c.self.inside _ c.self.invariant c.self.view_is c.if-self-eq0.true up l

pub returns-then-self-eq0-clause-last : goal.returns-then-self-eq0-clause-last
returns-then-self-eq0-clause-last c = λ ne. absurd (ne (zero_is c.self.inside _ c.self.invariant c.self.view_is c.if-self-eq0.true))

pub last_index-last-requires : goal.last_index-last-requires
last_index-last-requires c = record { first = first_group_some c.self.inside c.self.invariant c.if-self-eq0.false }

pub without_zeros-ending-requires-clause-group : goal.without_zeros-ending-requires-clause-group
without_zeros-ending-requires-clause-group c = group_small c.self.inside c.last_index-last.result c.self.invariant

pub number_of-before-requires-clause-few : goal.number_of-before-requires-clause-few
number_of-before-requires-clause-few c =
    let l = c.last_index-last.ensures in
    let z = c.without_zeros-ending.ensures in
    let m = made c.self.inside _ c.last_index-last.result c.without_zeros-ending.result.digits _ _ c.self.invariant c.self.view_is l.within l.some
    l.last z.digits z.scale z.round z.last in
    let b = before_small _ _ _ _ z.scale m.small in
    omega arith

pub overflow_mul-result : goal.overflow_mul-result
overflow_mul-result c =
    let l = c.last_index-last.ensures in
    let z = c.without_zeros-ending.ensures in
    let m = (made c.self.inside _ c.last_index-last.result c.without_zeros-ending.result.digits _ _ c.self.invariant c.self.view_is l.within l.some
    l.last z.digits z.scale z.round z.last).small in
    let b = c.number_of-before.ensures in
    rw b (omega arith)

pub overflow_add-result : goal.overflow_add-result
overflow_add-result c =
    let l = c.last_index-last.ensures in
    let z = c.without_zeros-ending.ensures in
    let m = (made c.self.inside _ c.last_index-last.result c.without_zeros-ending.result.digits _ _ c.self.invariant c.self.view_is l.within l.some
    l.last z.digits z.scale z.round z.last).small in
    let b = c.number_of-before.ensures in
    rw b (omega arith)

pub overflow_sub-self-inside-2 : goal.overflow_sub-self-inside-2
overflow_sub-self-inside-2 c =
    let l = c.last_index-last.ensures in
    let w = last_within c.self.inside c.last_index-last.result c.self.invariant l.within l.some l.last in
    omega arith

pub returns-clause-negative : goal.returns-clause-negative
returns-clause-negative c = sign_is c.self.inside _ c.self.invariant c.self.view_is

pub returns-clause-magnitude : goal.returns-clause-magnitude
returns-clause-magnitude c =
    let l = c.last_index-last.ensures in
    let z = c.without_zeros-ending.ensures in
    let m = made c.self.inside _ c.last_index-last.result c.without_zeros-ending.result.digits _ _ c.self.invariant c.self.view_is l.within l.some
    l.last z.digits z.scale z.round z.last in
    let f : SFits w32 c.exponent_of.result = search rules in
    subst (λ (w : ℤ). IsScaled (nat_abs c.args.self.now)
    (c.number_of-before.result * c.without_zeros-ending.result.scale + c.without_zeros-ending.result.digits) w)
    (sym (to_z-of_z w32 c.exponent_of.result f))
    (subst (λ (x : ℕ). IsScaled (nat_abs c.args.self.now)
    (x * c.without_zeros-ending.result.scale + c.without_zeros-ending.result.digits) c.exponent_of.result) (sym c.number_of-before.ensures)
    (scaled_by _ _ _ _ c.exponent_of.result m.moved c.exponent_of.ensures))

pub returns-clause-last : goal.returns-clause-last
returns-clause-last c = λ _.
    let l = c.last_index-last.ensures in
    let z = c.without_zeros-ending.ensures in
    subst (λ (x : ℕ). 0 < (x * c.without_zeros-ending.result.scale + c.without_zeros-ending.result.digits) % 10) (sym c.number_of-before.ensures)
    (made c.self.inside _ c.last_index-last.result c.without_zeros-ending.result.digits _ _ c.self.invariant c.self.view_is l.within l.some l.last
    z.digits z.scale z.round z.last).last

pub returns-clause-zero : goal.returns-clause-zero
returns-clause-zero c = λ z. absurd (not_zero c.self.inside _ c.self.invariant c.self.view_is c.if-self-eq0.false z)

pub returns-clause-narrow : goal.returns-clause-narrow
returns-clause-narrow c =
    let l = c.last_index-last.ensures in
    let z = c.without_zeros-ending.ensures in
    subst (λ (x : ℕ). x * c.without_zeros-ending.result.scale + c.without_zeros-ending.result.digits < 10 ^ 38) (sym c.number_of-before.ensures)
    (made c.self.inside _ c.last_index-last.result c.without_zeros-ending.result.digits _ _ c.self.invariant c.self.view_is l.within l.some l.last
    z.digits z.scale z.round z.last).small
