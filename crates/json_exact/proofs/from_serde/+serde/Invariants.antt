use Rattle.std.proofs.Common.{◌≡◌, List, ◌++◌, Some, map, take}
use Rattle.serde_json.specs.View.{view}
use Rattle.json_exact.specs.Serde.{tree_of}
use Rattle.json_exact.specs.Trees.{tree, member_pair}
use Rattle.json_exact.proofs.SerdeTreeLaws.{Entry, entry_pair}
use Rattle.json_exact.proofs.from_serde.+serde.Given as goal

abbrev pub invariant-elements_of-loop-item : goal.invariant-elements_of-loop-item
invariant-elements_of-loop-item l = map (λ v. tree_of (view v)) (take l.item-index l.items) ≡ map Some (map tree l.elements.items)

abbrev pub invariant-members_of-loop-name : goal.invariant-members_of-loop-name
invariant-members_of-loop-name l =
    (done : List Entry) × (l.members.entries ≡ done ++ l.name-iterator) × (map entry_pair done ≡ map Some (map member_pair l.list.items))
