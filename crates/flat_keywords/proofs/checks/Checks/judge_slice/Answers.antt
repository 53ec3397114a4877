use Rattle.jsonb.specs.Nodes.{node_tree}
use Rattle.flat_keywords.proofs.Answering.{document_refused, verdict}
use Rattle.flat_keywords.proofs.checks.Checks.judge_slice.Goals as goal

pub returns-in-Err-clause-right : goal.returns-in-Err-clause-right
returns-in-Err-clause-right c = λ draft keywords of.
    document_refused draft keywords c.args.document.now c.args.self.now of c.in-Err.error c.of_document.result c.of_document.ensures
    c.in-Err.ensures.read

pub returns-in-Ok-check-clause-right : goal.returns-in-Ok-check-clause-right
returns-in-Ok-check-clause-right c = λ draft keywords of.
    verdict draft keywords c.args.document.now c.args.self.now of c.in-Ok.node (node_tree c.in-Ok.node) c.in-Ok-check.valid
    c.in-Ok.ensures.read c.in-Ok-check.ensures.right
