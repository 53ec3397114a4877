use Rattle.std.proofs.Common.{◌++◌, List, ℕ, sym, ap, subst, ◌∙◌, rules}
use Rattle.std.specs.Prelude.{IsTrue}
use Rattle.json_exact.specs.Trees.{tree}
use Rattle.jsonb_layout.specs.Stands.{Stands}
use Rattle.jsonb_encode.specs.Encoded.{encoded}
use Rattle.jsonb_encode.specs.Limits.{all_fit}
use Rattle.jsonb_encode.proofs.TreeStands.{tree_stands}
use Rattle.jsonb_encode.proofs.encoding.encode_with.Goals as goal

pub returns-in-Ok-clause-stands : goal.returns-in-Ok-clause-stands
returns-in-Ok-clause-stands c =
    let t = tree c.args.value.now in
    let f = c.args.form in
    let root = c.in-Ok.ensures.ok in
    let fit : IsTrue (all_fit f t) = search rules in
    subst (λ (b : List ℕ). Stands b t) (sym (root.bytes ∙ ap (λ (xs : List ℕ). xs ++ encoded f t) c.new-bytes.ensures.items))
    (tree_stands f t root.value fit root.within)
