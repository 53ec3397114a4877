use Rattle.std.proofs.Common.{rules, sym, ◌∙◌, ◌≡◌, ◌<◌, ◌^◌, ◌*◌, pos}
use Rattle.json_exact.specs.Exact.{parts}
use Rattle.flat_keywords.proofs.BoundLaws.{no_count, not_whole, is_count, is_large, is_small}
use Rattle.flat_keywords.proofs.limits.Limit.of_number.Goals as goal
use Rattle.flat_keywords.proofs.limits.Limit.of_number.Goals.{then-not-is_integer-via-then-not-is_integer, then-not-is_integer-via-else-not-is_integer+then-lt}

pub returns-then-not-is_integer-clause-none : goal.returns-then-not-is_integer-clause-none
returns-then-not-is_integer-clause-none c = λ _. elim c.then-not-is_integer.branch [
  | then-not-is_integer-via-then-not-is_integer w ↦ not_whole c.decimal-limit.result c.args.number.now c.is_integer.result
      c.decimal-limit.ensures w.if-not-is_integer.true c.is_integer.ensures.whole
  | then-not-is_integer-via-else-not-is_integer+then-lt w ↦ no_count c.decimal-limit.result c.args.number.now w.from_u64.result
      c.decimal-limit.ensures w.from_u64.ensures.value (sym w.lt.ensures ∙ w.if-lt.true)
]

pub returns-in-Some-clause-some : goal.returns-in-Some-clause-some
returns-in-Some-clause-some c =
    let d = c.decimal-limit.result in
    let l = c.in-Some.small in
    let fits : l < 2 ^ 64 = search rules in
    let is : d ≡ pos (l * parts) = (c.to_u64.ensures l fits).0 c.in-Some.is in (
      is_count d c.args.number.now c.is_integer.result c.from_u64.result c.decimal-limit.ensures c.if-not-is_integer.false c.is_integer.ensures.whole
          c.from_u64.ensures.value (sym c.lt.ensures ∙ c.if-lt.false),
      is_small l d c.args.number.now is c.decimal-limit.ensures,
    )

pub returns-in-None-clause-some : goal.returns-in-None-clause-some
returns-in-None-clause-some c = (
  is_count c.decimal-limit.result c.args.number.now c.is_integer.result c.from_u64.result c.decimal-limit.ensures c.if-not-is_integer.false
      c.is_integer.ensures.whole c.from_u64.ensures.value (sym c.lt.ensures ∙ c.if-lt.false),
  is_large c.decimal-limit.result c.args.number.now c.decimal-limit.ensures,
)
