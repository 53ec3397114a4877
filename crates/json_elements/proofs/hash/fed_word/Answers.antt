use Rattle.std.proofs.Common.{ℕ, List, ap, ◌∙◌}
use Rattle.json_elements.specs.Number.{fed as fed_bytes, word}
use Rattle.json_elements.proofs.hash.fed_word.Goals as goal

pub returns : goal.returns
unfolding word
returns c = c.fed.ensures ∙ ap (λ (bytes : List ℕ). fed_bytes c.args.state bytes) c.to_le_bytes.ensures
