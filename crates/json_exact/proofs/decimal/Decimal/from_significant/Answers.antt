use Rattle.std.proofs.Common.{ℕ, refl, subst, arith}
use Rattle.json_exact.specs.inner.LeadingDigits.{Keeps}
use Rattle.json_exact.proofs.DigitLaws.{above_none}
use Rattle.json_exact.proofs.FieldLaws.{keeps_of, under, fields_none, fields_some, parts_none, parts_some}
use Rattle.json_exact.proofs.WholeLaws.{limits}
use Rattle.json_exact.proofs.decimal.Decimal.from_significant.Goals as goal

pub overflow_sub-result : goal.overflow_sub-result
overflow_sub-result c =
    let (n, q, h, narrow, e) = c.requires.exact in
    let u = under 10000 10 (omega arith) _ _ n _ _ _ (above_none _ c.if-groups-eq0.false) (keeps_of _ _ _ n h c.requires.kept) e in
    omega arith

pub invariant_of-result : goal.invariant_of-result
invariant_of-result c =
    let (n, q, h, narrow, e) = c.requires.exact in
    fields_some _ _ _ n _ _ q (above_none _ c.if-groups-eq0.false) (keeps_of _ _ _ n h c.requires.kept) narrow e c.requires.low

pub returns-then-groups-eq0-clause-value : goal.returns-then-groups-eq0-clause-value
returns-then-groups-eq0-clause-value c =
    λ n q h e. parts_none _ _ n _ _ q
    (subst (λ (k : ℕ). Keeps 10000 10 c.args.groups.groups k n) c.if-groups-eq0.true (keeps_of _ _ _ n h c.requires.kept)) e

pub returns-else-groups-eq0-clause-value : goal.returns-else-groups-eq0-clause-value
returns-else-groups-eq0-clause-value c =
    λ n q h e. parts_some _ _ _ n _ _ q (above_none _ c.if-groups-eq0.false) (keeps_of _ _ _ n h c.requires.kept) e

pub returns-then-groups-eq0-clause-limits : goal.returns-then-groups-eq0-clause-limits
returns-then-groups-eq0-clause-limits c =
    let (n, q, h, narrow, e) = c.requires.exact in
    limits _ _
    (fields_none _ n (subst (λ (k : ℕ). Keeps 10000 10 c.args.groups.groups k n) c.if-groups-eq0.true (keeps_of _ _ _ n h c.requires.kept))) refl

pub returns-else-groups-eq0-clause-limits : goal.returns-else-groups-eq0-clause-limits
returns-else-groups-eq0-clause-limits c =
    let (n, q, h, narrow, e) = c.requires.exact in
    limits _ _ (fields_some _ _ _ n _ _ q (above_none _ c.if-groups-eq0.false) (keeps_of _ _ _ n h c.requires.kept) narrow e c.requires.low) refl
