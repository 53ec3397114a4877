use Rattle.std.proofs.Common.{◌≡◌, false, Some}
use Rattle.std.proofs.lemmas.Result.{IfOk-weaker}
use Rattle.serde_json.specs.View.{view}
use Rattle.serde_json.specs.Written.{has_float}
use Rattle.json_exact.specs.Serde.{tree_of}
use Rattle.json_exact.specs.Trees.{tree}
use Rattle.json_exact.proofs.SerdeTreeLaws.{no_float, some_float}
use Rattle.json_exact.proofs.value.Value.from_serde.Goals as goal

pub returns-clause-no_float : goal.returns-clause-no_float
returns-clause-no_float c =
    let d = view c.args.value.now in
    IfOk-weaker c.value_of.result (λ v. tree_of d ≡ Some (tree v)) (λ _. has_float d ≡ false) (λ v e. no_float d (tree v) e) c.value_of.ensures.tree

pub returns-clause-float : goal.returns-clause-float
returns-clause-float c = λ e. some_float (view c.args.value.now) (c.value_of.ensures.float e)
