use Rattle.std.proofs.Common.{◌≡◌, ◌<◌, ℕ, map, take, slice_index_or}
use Rattle.json_model.specs.Rising.{KeysRise}
use Rattle.json_elements.specs.Number.{element_number as number_of}
use Rattle.json_elements.proofs.unique.numbers_of.Given as goal

abbrev pub invariant-loop-node : goal.invariant-loop-node
invariant-loop-node g l = record {
  numbers : l.numbers.items ≡ map (λ n. number_of (g.N.HasTree.tree n)) (take l.node-index l.nodes);
  rise : (k : ℕ) (d : g.row.N.Denot) → k < l.node-index → KeysRise (g.N.HasTree.tree (slice_index_or l.nodes k d));
}
