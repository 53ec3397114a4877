-- The codes of bounds. This project's own.
use Rattle.std.specs.Prelude.{ℕ}
use Rattle.json_semantics.specs.declared.numeric_check.BoundOp.{BoundOp}
use Rattle.json_semantics.specs.declared.numeric_check.BoundOp.TheVariants.{Lt, Lte, Gt, Gte}

abbrev pub code_of : BoundOp → ℕ
code_of Lt = 0
code_of Lte = 1
code_of Gt = 2
code_of Gte = 3
