use Rattle.jsonb.specs.Nodes.{node_tree}
use Rattle.judge_tree.proofs.Answering.{document_refused, verdict}
use Rattle.judge_tree.proofs.schema.Schema.judge_slice.Goals as goal

pub returns-in-Err : goal.returns-in-Err
returns-in-Err c = λ schema of.
    document_refused schema c.args.document.now c.args.self.now of c.in-Err.error c.of_document.result c.of_document.ensures
    c.in-Err.ensures.read

pub returns-in-Ok-check : goal.returns-in-Ok-check
returns-in-Ok-check c = λ schema of.
    verdict schema c.args.document.now c.args.self.now of c.in-Ok.node (node_tree c.in-Ok.node) c.in-Ok-check.valid c.in-Ok.ensures.read
    c.in-Ok-check.ensures.right
