use Rattle.std.proofs.Common.{Some, subst, sym, ap, ◌∙◌}
use Rattle.json_model.specs.Parts.{lookup}
use Rattle.key_map.specs.Order.{StandsAt, GoesAt}
use Rattle.key_map.proofs.Members.{lookup_stands, lookup_goes}
use Rattle.key_map.proofs.map.KeyMap.get.Goals as goal

pub returns-in-Ok : goal.returns-in-Ok
returns-in-Ok g c =
    let key = c.args.key.now in
    let stands = subst (λ ms. StandsAt ms key c.in-Ok.place) c.deref.ensures.value (c.in-Ok.ensures) in
    let found = lookup_stands c.self.inside.members.items key c.in-Ok.place c.index.result.now c.self.invariant stands in
    ap (λ m. Some m.value) c.index.ensures ∙ sym found ∙ ap (lookup key) c.self.view_is

pub returns-in-Err : goal.returns-in-Err
returns-in-Err g c =
    let key = c.args.key.now in
    let goes = subst (λ ms. GoesAt ms key c.in-Err.field-0) c.deref.ensures.value (c.in-Err.ensures) in
    sym (lookup_goes c.self.inside.members.items key c.in-Err.field-0 goes) ∙ ap (lookup key) c.self.view_is
