-- When a number keeps a bound: JSON Schema Validation 2020-12, sections 6.2.2 to 6.2.5.
use Rattle.std.specs.Prelude.{◌⊎◌}
use Rattle.json_model.specs.Decimal.{Decimal, IsBelow, IsSameValue}
use Rattle.json_semantics.specs.declared.numeric_check.BoundOp.{BoundOp}
use Rattle.json_semantics.specs.declared.numeric_check.BoundOp.TheVariants.{Lt, Lte, Gt, Gte}

-- less than, or exactly equal to
abbrev pub IsAtMost : Decimal → Decimal → Type 0
IsAtMost a b = IsBelow a b ⊎ IsSameValue a b

-- a value and its limit
abbrev pub Keeps : BoundOp → Decimal → Decimal → Type 0
Keeps Lt value limit = IsBelow value limit
Keeps Lte value limit = IsAtMost value limit
Keeps Gt value limit = IsBelow limit value
Keeps Gte value limit = IsAtMost limit value
