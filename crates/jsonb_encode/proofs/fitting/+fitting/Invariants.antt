use Rattle.std.proofs.Common.{◌≡◌, ◌+◌, ◌*◌, ◌≤◌, map, drop}
use Rattle.json_model.specs.Nest.{nest, nest_elements, nest_members}
use Rattle.json_model.specs.Parts.{elements_from, members_from}
use Rattle.json_exact.specs.MapIteration.{left}
use Rattle.json_exact.specs.Trees.{tree, pairs}
use Rattle.jsonb_encode.specs.Limits.{elements_fit, members_fit}
use Rattle.jsonb_encode.proofs.fitting.+fitting.Given as goal

abbrev pub decreases-value_fits : goal.decreases-value_fits
decreases-value_fits l = 2 * nest (tree l.value.now)

abbrev pub decreases-elements_fit : goal.decreases-elements_fit
decreases-elements_fit l = 2 * nest_elements (elements_from (map tree l.elements.now)) + 1

abbrev pub decreases-members_fit : goal.decreases-members_fit
decreases-members_fit l = 2 * nest_members (members_from (pairs l.members.now)) + 1

abbrev pub invariant-elements_fit-loop-i : goal.invariant-elements_fit-loop-i
invariant-elements_fit-loop-i l =
    elements_fit l.form (elements_from (map tree (drop l.i l.elements))) ≡ elements_fit l.form (elements_from (map tree l.elements))

abbrev pub invariant-members_fit-loop-value : goal.invariant-members_fit-loop-value
invariant-members_fit-loop-value l = record {
  inside : nest_members (members_from (left l.value-iterator)) ≤ nest_members (members_from (pairs l.members));
  fit : members_fit l.form (members_from (left l.value-iterator)) ≡ members_fit l.form (members_from (pairs l.members));
}
