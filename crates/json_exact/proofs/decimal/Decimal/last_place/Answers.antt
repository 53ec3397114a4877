use Rattle.std.proofs.Common.{ℤ, sym, subst, nat_abs, w32, rules, arith}
use mir.Val.{SFits}
use Rattle.std.proofs.lemmas.Int.{to_z-of_z}
use Rattle.json_exact.specs.DecimalGroups.{IsLeastPlace}
use Rattle.json_exact.proofs.DigitPlaceLaws.{first_group_some}
use Rattle.json_exact.proofs.GroupPlaceLaws.{zero_is, not_zero, least, last_within}
use Rattle.json_exact.proofs.decimal.Decimal.last_place.Goals as goal

pub returns-then-self-eq0-clause-least : goal.returns-then-self-eq0-clause-least
returns-then-self-eq0-clause-least c = λ ne. absurd (ne (zero_is c.self.inside _ c.self.invariant c.self.view_is c.if-self-eq0.true))

pub last_index-last-requires : goal.last_index-last-requires
last_index-last-requires c = record { first = first_group_some c.self.inside c.self.invariant c.if-self-eq0.false }

pub overflow_sub-self-inside-2 : goal.overflow_sub-self-inside-2
overflow_sub-self-inside-2 c =
    let w = last_within c.self.inside c.last_index-last.result c.self.invariant c.last_index-last.ensures.within c.last_index-last.ensures.some
    c.last_index-last.ensures.last in
    omega arith

pub returns-clause-zero : goal.returns-clause-zero
returns-clause-zero c = λ z. absurd (not_zero c.self.inside _ c.self.invariant c.self.view_is c.if-self-eq0.false z)

pub returns-clause-least : goal.returns-clause-least
returns-clause-least c = λ _.
    let f : SFits w32 c.place_of.result = search rules in
    subst (λ (w : ℤ). IsLeastPlace (nat_abs c.args.self.now) w) (sym (to_z-of_z w32 c.place_of.result f))
    (least c.self.inside _ c.place_of.result c.last_index-last.result c.self.invariant c.self.view_is c.last_index-last.ensures.within
    c.last_index-last.ensures.some c.last_index-last.ensures.last c.place_of.ensures)
