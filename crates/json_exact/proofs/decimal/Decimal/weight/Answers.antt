use Rattle.std.proofs.Common.{ℤ, sym, subst, nat_abs, w32, rules}
use mir.Val.{SFits}
use Rattle.std.proofs.lemmas.Int.{to_z-of_z}
use Rattle.json_exact.specs.DecimalGroups.{IsGreatestPlace}
use Rattle.json_exact.proofs.GroupPlaceLaws.{zero_is, not_zero, greatest}
use Rattle.json_exact.proofs.decimal.Decimal.weight.Goals as goal

pub returns-then-self-eq0-clause-greatest : goal.returns-then-self-eq0-clause-greatest
returns-then-self-eq0-clause-greatest c = λ ne. absurd (ne (zero_is c.self.inside _ c.self.invariant c.self.view_is c.if-self-eq0.true))

pub returns-clause-zero : goal.returns-clause-zero
returns-clause-zero c = λ z. absurd (not_zero c.self.inside _ c.self.invariant c.self.view_is c.if-self-eq0.false z)

pub returns-clause-greatest : goal.returns-clause-greatest
returns-clause-greatest c = λ _.
    let f : SFits w32 c.place_of.result = search rules in
    subst (λ (w : ℤ). IsGreatestPlace (nat_abs c.args.self.now) w) (sym (to_z-of_z w32 c.place_of.result f))
    (greatest c.self.inside _ c.place_of.result c.self.invariant c.self.view_is c.if-self-eq0.false c.place_of.ensures)
