use Rattle.jsonb.proofs.CanonicalRoots.{root_is_slice, root_is_bytes}
use Rattle.jsonb.proofs.laws.a_canonical_root_is_a_canonical_slice.Goals as goal

pub returns-clause-slice : goal.returns-clause-slice
returns-clause-slice c = λ t h root. root_is_slice c.args.root.now c.args.node.now t h root

pub returns-clause-bytes : goal.returns-clause-bytes
returns-clause-bytes c = λ t h root can. root_is_bytes c.args.root.now c.args.node.now t h root can
