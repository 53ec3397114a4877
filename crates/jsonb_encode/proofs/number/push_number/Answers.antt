use Rattle.std.proofs.Common.{◌≡◌, ◌++◌, ◌≤◌, ℕ, List, nat_abs, subst, ap, ◌∙◌, arith, append_assoc}
use Rattle.std.specs.Prelude.{IfOk}
use Rattle.std.specs.Int.{w16, to_le_bytes}
use Rattle.std.specs.List.{flat_map}
use Rattle.jsonb_layout.specs.declared.header.Header.{Header}
use Rattle.jsonb_encode.specs.Number.{header}
use Rattle.jsonb_encode.specs.inner.Writing.{groups_down, lead}
use Rattle.jsonb_encode.proofs.Places.{run_length}
use Rattle.jsonb_encode.proofs.Spans.{header_dscale, fits_short, whole_number}
use Rattle.jsonb_encode.proofs.number.push_number.Goals as goal

pub push_lead-requires-clause-few : goal.push_lead-requires-clause-few
push_lead-requires-clause-few c =
    let e = header_dscale c.args.number.now c.header_with-header.result c.header_with-header.ensures in
    let p = c.fraction_digits-few.ensures.places in
    let l = c.fraction_digits-few.ensures.few in
    omega arith

pub push_lead-requires-clause-fits : goal.push_lead-requires-clause-fits
push_lead-requires-clause-fits c = λ is.
    let e = header_dscale c.args.number.now c.header_with-header.result c.header_with-header.ensures in
    let l = fits_short c.args.form c.args.number.now c.requires is in
    omega arith

pub returns-clause-ok : goal.returns-clause-ok
returns-clause-ok c =
    let w = c.args.number.now in
    let n = nat_abs c.decimal-decimal.result in
    let span = c.span_of-span.result in
    let few : w.places ≤ 16383 = subst (λ (k : ℕ). k ≤ 16383) c.fraction_digits-few.ensures.places c.fraction_digits-few.ensures.few in
    let groups = c.span_of-span.ensures.groups w c.decimal-decimal.ensures few in
    let halves = flat_map (to_le_bytes w16) (groups_down span.first span.count n) in
    let front : c.push_lead.new.bytes.items ≡ c.args.bytes.now.items ++ lead c.args.form (header w) span.count =
    c.in_ok-push_lead.ensures.ok ∙ ap (λ (h : Header). c.args.bytes.now.items ++ lead c.args.form h span.count) c.header_with-header.ensures in
    subst (λ (xs : List ℕ). IfOk c.push_groups.result (λ _. c.push_groups.new.bytes.items ≡ xs))
    (ap (λ (xs : List ℕ). xs ++ halves) front
    ∙ append_assoc c.args.bytes.now.items (lead c.args.form (header w) span.count) halves
    ∙ ap (λ (xs : List ℕ). c.args.bytes.now.items ++ xs)
    (whole_number c.args.form w span.count (groups_down span.first span.count n) groups (run_length span.first span.count n)))
    c.push_groups.ensures.ok
