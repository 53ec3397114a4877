use Rattle.std.proofs.Common.{subst, sym}
use Rattle.jsonb.specs.Nodes.{node_tree}
use Rattle.flat_keywords.specs.declared.errors.Fault.{Fault}
use Rattle.flat_keywords.specs.declared.errors.JudgeError.TheVariants.{Keywords}
use Rattle.judge_c.specs.inner.Read.{IsUnread}
use Rattle.judge_c.proofs.RightAnswers.{IsRefusal, keywords_refused, keyword_refused}
use Rattle.judge_c.proofs.compiled.compile.Goals as goal

pub returns-in-Err : goal.returns-in-Err
returns-in-Err c =
    keyword_refused c.args.keywords.now (node_tree c.in-Ok.root) c.in-Ok.ensures c.in-Err.error c.refusal.result c.refusal.ensures
    c.in-Err.ensures.right

pub returns-in-Err-Faulty : goal.returns-in-Err-Faulty
returns-in-Err-Faulty c =
    subst (λ (f : Fault). IsRefusal c.args.keywords.now (Keywords f)) (sym c.in-Err-Faulty.fault-is)
    (keywords_refused c.args.keywords.now c.in-Err-Faulty.fault
    (subst (IsUnread c.args.keywords.now) c.in-Err-Faulty.field-0-is c.in-Err-Faulty.ensures))
