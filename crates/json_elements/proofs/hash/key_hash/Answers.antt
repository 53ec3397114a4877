use Rattle.std.proofs.Common.{ℕ, List, ap, sym, ◌∙◌, ◌∷◌, []}
use Rattle.json_elements.specs.Number.{fed, fed_one}
use Rattle.json_elements.proofs.HashLaws.{fed_append}
use Rattle.json_elements.proofs.hash.key_hash.Goals as goal

pub returns : goal.returns
returns c =
    c.fed_one-2.ensures
    ∙ ap (λ (x : ℕ). fed_one x 255) (c.fed.ensures
    ∙ ap (λ (x : ℕ). fed x c.as_bytes.result.now) c.fed_one.ensures
    ∙ ap (λ (bytes : List ℕ). fed (fed_one 14695981039346656037 6) bytes) c.as_bytes.ensures.value)
    ∙ sym (fed_append 14695981039346656037 (6 ∷ c.args.key.now) (255 ∷ []))
