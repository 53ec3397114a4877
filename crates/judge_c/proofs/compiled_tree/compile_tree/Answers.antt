use Rattle.std.proofs.Common.{subst, sym}
use Rattle.jsonb.specs.Nodes.{node_tree}
use Rattle.flat_keywords.specs.declared.errors.Fault.{Fault}
use Rattle.judge_tree.specs.declared.tree_error.TreeError.TheVariants.{Schema}
use Rattle.judge_c.specs.inner.Read.{IsUnread}
use Rattle.judge_c.proofs.RightTreeAnswers.{IsRefusal, slice_refused, schema_refused}
use Rattle.judge_c.proofs.compiled_tree.compile_tree.Goals as goal

pub returns-in-Err : goal.returns-in-Err
returns-in-Err c =
    schema_refused c.args.schema.now (node_tree c.in-Ok.root) c.in-Ok.ensures c.in-Err.error c.refusal.result c.refusal.ensures
    c.in-Err.ensures.right

pub returns-in-Err-Faulty : goal.returns-in-Err-Faulty
returns-in-Err-Faulty c =
    subst (λ (f : Fault). IsRefusal c.args.schema.now (Schema f)) (sym c.in-Err-Faulty.fault-is)
    (slice_refused c.args.schema.now c.in-Err-Faulty.fault
    (subst (IsUnread c.args.schema.now) c.in-Err-Faulty.field-0-is c.in-Err-Faulty.ensures))
