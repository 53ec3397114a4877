use Rattle.std.proofs.Common.{◌+◌, ◌*◌, ◌≤◌, map, drop}
use Rattle.json_model.specs.Nest.{nest, nest_elements, nest_members}
use Rattle.json_model.specs.Parts.{elements_from, members_from}
use Rattle.json_exact.specs.MapIteration.{left}
use Rattle.json_exact.specs.Trees.{tree, pairs}
use Rattle.jsonb_encode.proofs.InMemory.{AreInMemory, ValuesAreInMemory}
use Rattle.jsonb_encode.proofs.in_memory.+passing.Given as goal

abbrev pub decreases-pass_over : goal.decreases-pass_over
decreases-pass_over l = 2 * nest (tree l.value.now)

abbrev pub decreases-pass_over_elements : goal.decreases-pass_over_elements
decreases-pass_over_elements l = 2 * nest_elements (elements_from (map tree l.elements.now)) + 1

abbrev pub decreases-pass_over_members : goal.decreases-pass_over_members
decreases-pass_over_members l = 2 * nest_members (members_from (pairs l.members.now)) + 1

abbrev pub invariant-pass_over_elements-loop-i : goal.invariant-pass_over_elements-loop-i
invariant-pass_over_elements-loop-i l = AreInMemory (map tree (drop l.i l.elements)) → AreInMemory (map tree l.elements)

abbrev pub invariant-pass_over_members-loop-value : goal.invariant-pass_over_members-loop-value
invariant-pass_over_members-loop-value l = record {
  inside : nest_members (members_from (left l.value-iterator)) ≤ nest_members (members_from (pairs l.members));
  wanted : ValuesAreInMemory (left l.value-iterator) → ValuesAreInMemory (pairs l.members);
}
