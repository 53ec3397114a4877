use Rattle.std.proofs.Common.{◌≡◌, ◌+◌, ◌*◌, ◌≤◌, ◌++◌, [], length, map, take}
use Rattle.json_model.specs.Nest.{nest, nest_elements, nest_members}
use Rattle.json_model.specs.Parts.{elements_from, members_from}
use Rattle.json_exact.specs.MapIteration.{left}
use Rattle.json_exact.specs.Trees.{Pairs, tree, pairs}
use Rattle.jsonb_layout.specs.declared.form.Form.TheVariants.{Array, Object}
use Rattle.jsonb_encode.specs.inner.Writing.{AreGood, IsOpen, listed, pair_keys}
use Rattle.jsonb_encode.proofs.writer.+writing.Given as goal

abbrev pub decreases-write_value : goal.decreases-write_value
decreases-write_value l = 2 * nest (tree l.value.now)

abbrev pub decreases-write_elements : goal.decreases-write_elements
decreases-write_elements l = 2 * nest_elements (elements_from (map tree l.elements.now)) + 1

abbrev pub decreases-write_members : goal.decreases-write_members
decreases-write_members l = 2 * nest_members (members_from (pairs l.members.now)) + 1

abbrev pub invariant-write_elements-loop-i : goal.invariant-write_elements-loop-i
invariant-write_elements-loop-i l = record {
  open_is : IsOpen Array (length l.elements) (length l.elements) (listed l.form [] (map tree (take l.i l.elements))) l.fn.bytes.items l.bytes.items;
  good : AreGood l.form (elements_from (map tree (take l.i l.elements)));
}

abbrev pub invariant-write_members-loop-value : goal.invariant-write_members-loop-value
invariant-write_members-loop-value l = (done : Pairs) × record {
  parts : pairs l.members ≡ done ++ left l.value-iterator;
  index : l.index ≡ l.count + length done;
  inside : nest_members (members_from (left l.value-iterator)) ≤ nest_members (members_from (pairs l.members));
  open_is : IsOpen Object l.count (2 * l.count) (listed l.form (pair_keys (pairs l.members)) (map (λ p. p.1) done)) l.fn.bytes.items l.bytes.items;
  good : AreGood l.form (elements_from (map (λ p. p.1) done));
}
