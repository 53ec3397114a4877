use Rattle.std.proofs.Common.{◌≡◌, ◌++◌, ◌-◌, ℕ, List, length, refl, ap, ◌∙◌, append_assoc, arith, rules}
use Rattle.json_model.specs.Decimal.{Decimal}
use Rattle.json_exact.proofs.LiteralLaws.{one_literal}
use Rattle.jsonb_layout.specs.Stands.{padding}
use Rattle.jsonb_encode.specs.Number.{numeric}
use Rattle.jsonb_encode.proofs.ContentsLaws.{err_told_as}
use Rattle.jsonb_encode.proofs.Numerals.{only_memory}
use Rattle.jsonb_encode.proofs.contents.write_numeral.Goals as goal

pub returns-in_err-push_text : goal.returns-in_err-push_text
returns-in_err-push_text c = λ w h.
    err_told_as c.from_residual-in_err-push_text.result c.in_err-push_text.field-0.0 _ _ (search rules)
    (only_memory c.args.form c.args.text.now c.in_err-push_text.field-0.0 w h c.in_err-push_text.ensures)

pub returns : goal.returns
returns c = λ w h.
    let (v, k, e) = c.in_ok-push_text.ensures in
    let base = c.args.bytes.now.items in
    let n : c.len.result ≡ length base = omega (arith, c.len.ensures) in
    record {
      kind_is = refl;
      bytes = e
          ∙ ap (λ (xs : List ℕ). xs ++ numeric c.args.form v)
          (c.in_ok-push_padding.ensures.ok ∙ ap (λ (k : ℕ). base ++ padding (k - c.args.payload)) n)
          ∙ append_assoc base (padding (length base - c.args.payload)) (numeric c.args.form v)
          ∙ ap (λ (u : Decimal). base ++ (padding (length base - c.args.payload) ++ numeric c.args.form u))
          (one_literal c.args.text.now v w k.literal h.literal);
    }
