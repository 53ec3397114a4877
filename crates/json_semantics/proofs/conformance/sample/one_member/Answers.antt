use Rattle.std.proofs.Common.{◌∷◌, [], ap, refl, ◌∙◌}
use Rattle.json_model.specs.Parts.{members_from}
use Rattle.json_model.specs.Tree.{object}
use Rattle.json_exact.specs.Trees.{Pairs, pairs, tree}
use Rattle.json_exact.proofs.TreeLaws.{tree-object}
use Rattle.key_map.proofs.Lookups.{one_list}
use Rattle.json_semantics.proofs.ConformanceLaws.{nothing_put, put_on}
use Rattle.json_semantics.proofs.conformance.sample.one_member.Goals as goal

pub returns : goal.returns
returns c =
    let name = c.args.name.now in
    let start = pairs c.new-members.result in
    let all = pairs c.put.new.members in
    tree-object c.put.new.members
    ∙ ap (λ (ps : Pairs). object (members_from ps)) (one_list all ((name, tree c.args.value) ∷ []) c.iter-members.ensures.rise refl
    (put_on start all [] name (tree c.args.value) (tree c.args.value) refl (nothing_put start c.new-members.ensures) c.in_ok-put.ensures))
