use Rattle.std.proofs.Common.{sym, subst, true}
use Rattle.std.specs.Prelude.{IfOk}
use Rattle.pattern_tree.specs.Machine.{State}
use Rattle.pattern_tree.specs.Nodes.{token_of}
use Rattle.pattern_tree.specs.Places.{Placed, Allows}
use Rattle.pattern_tree.proofs.PlaceLaws.{take_closes}
use Rattle.pattern_tree.proofs.places.Places.take.Goals as goal

pub returns-in-Opens : goal.returns-in-Opens
returns-in-Opens c = subst (λ z. IfOk c.open.result (λ yes. (s : State) → Placed c.args.self.now s c.args.start →
    Allows (token_of z) s c.args.end c.open.new.self yes)) (sym c.in-Opens.is) c.open.ensures

pub returns-in-Closes : goal.returns-in-Closes
returns-in-Closes c = subst (λ z. (s : State) → Placed c.args.self.now s c.args.start →
    Allows (token_of z) s c.args.end c.close.new.self true) (sym c.in-Closes.is)
    (λ s h. take_closes c.args.self.now c.close.new.self s c.args.start c.args.end h c.requires.from c.close.ensures.latest
    c.close.ensures.outer)
