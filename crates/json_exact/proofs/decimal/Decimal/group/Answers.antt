use Rattle.std.proofs.Common.{ℤ, ◌≡◌, ◌∙◌, subst, nat_abs, pos, w32, rules}
use Rattle.std.specs.Prelude.{◌+ℤ◌, ◌<ℤ◌}
use mir.Val.{SFits}
use Rattle.std.proofs.lemmas.Int.{to_z-of_z}
use Rattle.json_exact.proofs.GroupPlaceLaws.{group_lifted, group_under}
use Rattle.json_exact.proofs.decimal.Decimal.group.Goals as goal

pub returns-in-Some : goal.returns-in-Some
returns-in-Some c =
    let f : SFits w32 c.args.place = search rules in
    c.group_at.ensures.group
    ∙ group_lifted c.args.place c.in-Some.lifted (nat_abs c.args.self.now)
    (subst (λ (p : ℤ). p +ℤ pos 4096 ≡ pos c.in-Some.lifted) (to_z-of_z w32 c.args.place f) c.in-Some.ensures)

pub returns-in-None : goal.returns-in-None
returns-in-None c =
    let f : SFits w32 c.args.place = search rules in
    group_under c.args.place (nat_abs c.args.self.now) (subst (λ (p : ℤ). (p +ℤ pos 4096) <ℤ pos 0) (to_z-of_z w32 c.args.place f) c.in-None.ensures)
