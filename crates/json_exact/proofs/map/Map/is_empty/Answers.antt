use Rattle.std.proofs.Common.{map, sym, ap, ◌∙◌}
use Rattle.json_exact.proofs.TreeLaws.{pairs-of, value_pair, none-left}
use Rattle.json_exact.proofs.map.Map.is_empty.Goals as goal

pub returns : goal.returns
returns c = (
  λ t. pairs-of c.args.self.now
      ∙ ap (map value_pair) (c.is_empty.ensures.0 t),
  λ e. c.is_empty.ensures.1 (none-left _ (sym (pairs-of c.args.self.now) ∙ e)),
)
