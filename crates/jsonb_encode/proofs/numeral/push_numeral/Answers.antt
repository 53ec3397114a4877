use Rattle.std.proofs.Common.{◌≡◌, ◌++◌, arith}
use Rattle.json_model.specs.Decimal.{Decimal}
use Rattle.jsonb_encode.specs.Number.{numeric}
use Rattle.jsonb_encode.specs.inner.Wide.{IsKept}
use Rattle.jsonb_encode.proofs.NumberStands.{groups_within}
use Rattle.jsonb_encode.proofs.Numerals.{groups_length, small_kept, ok_as, kept_written}
use Rattle.jsonb_encode.proofs.Spans.{header_dscale, fits_short}
use Rattle.jsonb_encode.proofs.numeral.push_numeral.Goals as goal

pub push_lead-requires-clause-few : goal.push_lead-requires-clause-few
push_lead-requires-clause-few c =
    let (w, range, fit, kept) = c.requires in
    let e = header_dscale w c.args.numeral.now.header kept.header in
    let l = range.1 in
    omega arith

pub push_lead-requires-clause-fits : goal.push_lead-requires-clause-fits
push_lead-requires-clause-fits c = λ is.
    let (w, range, fit, kept) = c.requires in
    let e = header_dscale w c.args.numeral.now.header kept.header in
    let l = fits_short c.args.form w fit is in
    omega arith

pub push_lead-requires-clause-count : goal.push_lead-requires-clause-count
push_lead-requires-clause-count c =
    let (w, range, fit, kept) = c.requires in
    let a = groups_within w range in
    let b = groups_length c.args.numeral.now w kept in
    omega (arith, c.groups.ensures)

pub push_lead-requires-clause-small : goal.push_lead-requires-clause-small
push_lead-requires-clause-small c = λ is.
    let (w, range, fit, kept) = c.requires in
    small_kept c.args.numeral.now c.args.form w c.groups.result kept fit c.groups.ensures is

pub push_groups-requires-clause-few : goal.push_groups-requires-clause-few
push_groups-requires-clause-few c = let (w, range, fit, kept) = c.requires in kept.few

pub returns-clause-ok : goal.returns-clause-ok
returns-clause-ok c =
    let n = c.args.numeral.now in
    ok_as c.push_groups.result _ ((w : Decimal) → IsKept n w → c.push_groups.new.bytes.items ≡ c.args.bytes.now.items ++ numeric c.args.form w)
    c.push_groups.ensures.ok
    (λ e w kept. kept_written n c.args.form w c.groups.result c.args.bytes.now.items c.push_lead.new.bytes.items
    c.push_groups.new.bytes.items kept c.groups.ensures
    c.in_ok-push_lead.ensures.ok e)
