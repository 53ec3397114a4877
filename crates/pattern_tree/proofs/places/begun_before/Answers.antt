use Rattle.std.proofs.Common.{rules}
use Rattle.std.specs.Prelude.{nat_lt}
use Rattle.std.proofs.lemmas.List.Sorted.{IsPartitionPoint-from_clause, IsPartitionedBy-ltb}
use Rattle.pattern_tree.proofs.places.begun_before.Goals as goal

pub returns-clause-point : goal.returns-clause-point
returns-clause-point c =
    let parted = IsPartitionedBy-ltb (λ s. s.start) _ c.args.place c.requires in
    IsPartitionPoint-from_clause (λ s. nat_lt s.start c.args.place) _ _ c.partition_point.ensures.partitioned parted
    (λ a r q k. search rules)
