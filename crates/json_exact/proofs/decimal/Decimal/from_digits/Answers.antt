use Rattle.std.proofs.Common.{◌+◌, ◌*◌, ◌/◌, ◌%◌, ◌^◌, ◌-◌, refl, arith}
use Rattle.json_exact.specs.Digits.{joined}
use Rattle.json_exact.proofs.FieldLaws.{keeps_of}
use Rattle.json_exact.proofs.GroupLaws.{not_wide}
use Rattle.json_exact.proofs.RegroupLaws.{padded, regrouped_is, regrouped_narrow}
use Rattle.json_exact.proofs.decimal.Decimal.from_digits.Goals as goal

pub regrouped-requires-clause-digits : goal.regrouped-requires-clause-digits
regrouped-requires-clause-digits c = let (n, h) = c.requires.some in (keeps_of _ _ _ n h c.requires.kept).below

pub from_significant-requires-clause-kept : goal.from_significant-requires-clause-kept
from_significant-requires-clause-kept c =
    let (n, h) = c.requires.some in
    not_wide _ _ _ _ c.regrouped.ensures.holds (regrouped_narrow c.args.digits.digits _ n _ (keeps_of _ _ _ n h c.requires.kept))

pub from_significant-requires-clause-exact : goal.from_significant-requires-clause-exact
from_significant-requires-clause-exact c =
    let (n, h) = c.requires.some in
    let k = keeps_of _ _ _ n h c.requires.kept in
    let count = c.args.digits.len + c.args.up + 1 in (
      joined 10 c.args.digits.digits * 10 ^ (6 - (4 - count % 4) % 4),
      n * 10 ^ c.args.up,
      c.regrouped.ensures.holds,
      regrouped_narrow c.args.digits.digits _ n ((4 - count % 4) % 4) k,
      regrouped_is c.args.digits.digits _ n c.args.up ((4 - count % 4) % 4) ((count + (4 - count % 4) % 4) / 4) k (omega arith)
          (padded count ((4 - count % 4) % 4) refl),
    )

pub from_significant-requires-clause-low : goal.from_significant-requires-clause-low
from_significant-requires-clause-low c =
    let l = c.requires.low in
    let g = c.regrouped.ensures.len in
    let count = c.args.digits.len + c.args.up + 1 in
    let p = padded count ((4 - count % 4) % 4) refl in
    omega arith

pub returns-clause-value : goal.returns-clause-value
returns-clause-value c = λ n h.
    let k = keeps_of _ _ _ n h c.requires.kept in
    let count = c.args.digits.len + c.args.up + 1 in
    c.from_significant.ensures.value (joined 10 c.args.digits.digits * 10 ^ (6 - (4 - count % 4) % 4)) (n * 10 ^ c.args.up) c.regrouped.ensures.holds
    (regrouped_is c.args.digits.digits _ n c.args.up ((4 - count % 4) % 4) ((count + (4 - count % 4) % 4) / 4) k (omega arith)
    (padded count ((4 - count % 4) % 4) refl))
