use Rattle.std.proofs.Common.{◌≡◌, ◌+◌, ◌*◌, ◌≤◌, true, map, take}
use Rattle.json_model.specs.Keys.{rises}
use Rattle.json_model.specs.Nest.{nest, nest_elements, nest_members}
use Rattle.json_model.specs.Parts.{elements_from, members_from}
use Rattle.json_exact.specs.MapIteration.{left}
use Rattle.json_exact.specs.Trees.{tree, pairs}
use Rattle.json_exact.proofs.InsertLaws.{Shares}
use Rattle.json_exact.proofs.cloning.+cloning.Given as goal

abbrev pub decreases-clone_value : goal.decreases-clone_value
decreases-clone_value l = 2 * nest (tree l.value.now)

abbrev pub decreases-clone_elements : goal.decreases-clone_elements
decreases-clone_elements l = 2 * nest_elements (elements_from (map tree l.elements.now)) + 1

abbrev pub decreases-clone_members : goal.decreases-clone_members
decreases-clone_members l = 2 * nest_members (members_from (pairs l.members.now)) + 1

abbrev pub invariant-clone_elements-loop-i : goal.invariant-clone_elements-loop-i
invariant-clone_elements-loop-i l = map tree l.copies.items ≡ map tree (take l.i l.elements)

abbrev pub invariant-clone_members-loop-name : goal.invariant-clone_members-loop-name
invariant-clone_members-loop-name l = record {
  inside : nest_members (members_from (left l.name-iterator)) ≤ nest_members (members_from (pairs l.members));
  rise : rises (map (λ p. p.0) (left l.name-iterator)) ≡ true;
  shares : Shares (left l.name-iterator) (pairs l.copies) (pairs l.members);
}
