use Rattle.std.proofs.Common.{sym, ◌∙◌}
use Rattle.std.proofs.lemmas.Bool.{eqb-true}
use Rattle.jsonb.proofs.Groups.{no_header, no_groups, rest_is, unfit, zero_rest, zero_none}
use Rattle.jsonb.proofs.numeric.narrow_number.Goals as goal

pub returns-in_err-body : goal.returns-in_err-body
returns-in_err-body c = rw c.from_residual.ensures (no_header c.args.bytes.now c.in_err-body.ensures.read)

pub returns-in_err-header : goal.returns-in_err-header
returns-in_err-header c =
    rw c.from_residual-in_err-header.ensures
    (no_groups c.args.bytes.now c.in_ok-body.body.now c.in_ok-body.ensures.read c.in_err-header.ensures.read)

pub returns-then-not-groups_fit : goal.returns-then-not-groups_fit
returns-then-not-groups_fit c =
    unfit c.in_ok-header.header c.in_ok-header.groups.now (sym c.if-not-groups_fit.ensures)
    ∙ rest_is c.args.bytes.now c.in_ok-body.body.now c.in_ok-header.header c.in_ok-header.groups.now c.in_ok-body.ensures.read
    c.in_ok-header.ensures.read

pub returns-then-is_zero : goal.returns-then-is_zero
returns-then-is_zero c =
    zero_rest c.in_ok-header.header c.in_ok-header.groups.now (eqb-true _ 0 (sym c.if-is_empty.ensures)) (sym c.if-is_zero.ensures)
    ∙ rest_is c.args.bytes.now c.in_ok-body.body.now c.in_ok-header.header c.in_ok-header.groups.now c.in_ok-body.ensures.read
    c.in_ok-header.ensures.read

pub returns-else-is_zero : goal.returns-else-is_zero
returns-else-is_zero c =
    zero_none c.in_ok-header.header c.in_ok-header.groups.now (eqb-true _ 0 (sym c.if-is_empty.ensures)) (sym c.if-is_zero.ensures)
    ∙ rest_is c.args.bytes.now c.in_ok-body.body.now c.in_ok-header.header c.in_ok-header.groups.now c.in_ok-body.ensures.read
    c.in_ok-header.ensures.read

pub returns-else-is_empty : goal.returns-else-is_empty
returns-else-is_empty c =
    c.decide.ensures
    ∙ rest_is c.args.bytes.now c.in_ok-body.body.now c.in_ok-header.header c.in_ok-header.groups.now c.in_ok-body.ensures.read
    c.in_ok-header.ensures.read
