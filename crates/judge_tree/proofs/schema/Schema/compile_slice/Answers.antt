use Rattle.jsonb.specs.Nodes.{node_tree}
use Rattle.judge_tree.proofs.Answering.{compiled, schema_refused, slice_refused}
use Rattle.judge_tree.proofs.schema.Schema.compile_slice.Goals as goal

pub returns-in-Err : goal.returns-in-Err
returns-in-Err c = slice_refused c.args.schema.now c.in-Err.error c.of_slice.result c.of_slice.ensures c.in-Err.ensures.read

pub returns-in-Err-compile : goal.returns-in-Err-compile
returns-in-Err-compile c =
    schema_refused c.args.schema.now c.in-Ok.root (node_tree c.in-Ok.root) c.in-Ok.ensures.read c.in-Err-compile.error c.of_schema.result
    c.of_schema.ensures c.in-Err-compile.ensures.right

pub returns-in-Ok-compile : goal.returns-in-Ok-compile
returns-in-Ok-compile c =
    compiled c.args.schema.now c.in-Ok.root (node_tree c.in-Ok.root) c.in-Ok.ensures.read c.in-Ok-compile.compiled c.in-Ok-compile.ensures.right
