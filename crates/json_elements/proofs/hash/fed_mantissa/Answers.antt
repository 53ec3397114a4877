use Rattle.std.proofs.Common.{ℕ, List, ap, ◌∙◌}
use Rattle.json_elements.specs.Number.{fed as fed_bytes, mantissa_bytes}
use Rattle.json_elements.proofs.hash.fed_mantissa.Goals as goal

pub returns : goal.returns
unfolding mantissa_bytes
returns c = c.fed.ensures ∙ ap (λ (bytes : List ℕ). fed_bytes c.args.state bytes) c.to_le_bytes.ensures
