use Rattle.std.proofs.Common.{sym, ap, ◌∙◌}
use Rattle.json_model.specs.Keys.{rises}
use Rattle.key_map.specs.Pairs.{keys_of}
use Rattle.key_map.proofs.Members.{keys_same}
use Rattle.key_map.proofs.map.KeyMap.members.Goals as goal

pub returns-clause-rise : goal.returns-clause-rise
returns-clause-rise g c =
    ap (λ ps. rises (keys_of ps)) (sym c.self.view_is) ∙ ap rises (keys_same c.self.inside.members.items) ∙ c.self.invariant
