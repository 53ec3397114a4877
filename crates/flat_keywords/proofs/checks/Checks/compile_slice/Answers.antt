use Rattle.jsonb.specs.Nodes.{node_tree}
use Rattle.flat_keywords.proofs.Answering.{keyword_refused, keyword_refused_with_memory, keywords_refused}
use Rattle.flat_keywords.proofs.checks.Checks.compile_slice.Goals as goal

pub returns-in-Err-clause-right : goal.returns-in-Err-clause-right
returns-in-Err-clause-right c =
    keywords_refused c.args.draft c.args.keywords.now c.in-Err.error c.of_keywords.result c.of_keywords.ensures c.in-Err.ensures.read

pub returns-in-Err-compile_draft-clause-right : goal.returns-in-Err-compile_draft-clause-right
returns-in-Err-compile_draft-clause-right c =
    keyword_refused c.args.draft c.args.keywords.now c.in-Ok.root (node_tree c.in-Ok.root) c.in-Ok.ensures.read
    c.in-Err-compile_draft.error c.of_keyword.result c.of_keyword.ensures c.in-Err-compile_draft.ensures.right

pub returns-in-Err-compile_draft-clause-free : goal.returns-in-Err-compile_draft-clause-free
returns-in-Err-compile_draft-clause-free c =
    keyword_refused_with_memory c.args.draft c.args.keywords.now c.in-Ok.root (node_tree c.in-Ok.root) c.in-Ok.ensures.read
    c.in-Err-compile_draft.error c.of_keyword.result c.of_keyword.ensures c.in-Err-compile_draft.ensures.free
