use Rattle.std.proofs.Common.{◌≡◌}
use Rattle.std.specs.Prelude.{reverse}
use Rattle.std.specs.BTreeSet.{contains_text}
use Rattle.pattern_tree.specs.Patterns.{tree_of}
use Rattle.rust_pattern_model.specs.Refusals.{shares_name}
use Rattle.pattern_translation.specs.Names.{shares, names_of, size_of, HaveNodes}
use Rattle.pattern_translation.proofs.names.shares_name.Given as goal

abbrev pub invariant-loop-id : goal.invariant-loop-id
invariant-loop-id l = record {
  same : shares (λ q. contains_text l.seen q) (names_of l.pattern (reverse l.nodes.items)) ≡ shares_name (tree_of l.pattern);
  nodes : HaveNodes l.pattern (reverse l.nodes.items);
}

abbrev pub decreases-loop-id : goal.decreases-loop-id
decreases-loop-id l = size_of l.pattern (reverse l.nodes.items)
