use Rattle.std.proofs.Common.{length, sym, ap, ◌∙◌, arith}
use Rattle.json_traits.specs.Sets.{holds}
use Rattle.json_traits.proofs.ListLaws.{rest_is}
use Rattle.json_traits.proofs.types.iter.JsonTypeSetIteratorIterator.next.Goals as goal

pub returns-clause-steps : goal.returns-clause-steps
returns-clause-steps c =
    rest_is (holds c.args.self.now.set) (holds c.remove-self.result) c.in_ok-ty.ty c.remove-self.ensures (sym c.in_ok-ty.was ∙ c.first.ensures)

pub returns-clause-goes : goal.returns-clause-goes
returns-clause-goes c =
    let e = rest_is (holds c.args.self.now.set) (holds c.remove-self.result) c.in_ok-ty.ty c.remove-self.ensures (sym c.in_ok-ty.was ∙
    c.first.ensures) in
    record { on = λ _. (tt, tt, omega (arith, ap length e)); keeps = tt; rests = λ _. tt }
