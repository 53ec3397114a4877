use Rattle.std.proofs.Common.{refl, subst, inr}
use Rattle.std.specs.Prelude.{Ok, Err}
use Rattle.jsonb.specs.Nodes.{node_tree}
use Rattle.judge_c.specs.inner.Read.{IsUnread, error_of}
use Rattle.judge_c.proofs.documents.code_number.Goals as goal

pub returns-in-Ok-check_root : goal.returns-in-Ok-check_root
returns-in-Ok-check_root g c =
    inr (Ok (node_tree c.in-Ok.root), c.in-Ok.ensures, (c.in-Ok-check_root.valid, c.verdict_number.ensures, c.in-Ok-check_root.ensures))

pub returns-in-Err-Faulty : goal.returns-in-Err-Faulty
returns-in-Err-Faulty g c =
    inr (
      Err (error_of c.in-Err-Faulty.fault),
      subst (IsUnread c.args.document.now) c.in-Err-Faulty.field-0-is c.in-Err-Faulty.ensures,
      (c.in-Err-Faulty.fault, refl, (let e = c.in-Err-Faulty.fault-is in let h = c.document_number.ensures in cc)),
    )
