use Rattle.std.proofs.Common.{sym, ap, ◌∙◌}
use Rattle.jsonb_encode.specs.Number.{is_short, fits}
use Rattle.jsonb_encode.specs.declared.number_form.NumericForm.{NumericForm}
use Rattle.jsonb_encode.proofs.NumberStands.{narrow_fits}
use Rattle.jsonb_encode.proofs.number.number_fits.Goals as goal

pub returns-in-ShortVarlena : goal.returns-in-ShortVarlena
returns-in-ShortVarlena c =
    let w = c.args.number.now in
    narrow_fits w c.is_short.result c.numbers_are_narrow_and_in_range.ensures.narrow (
    c.is_short.ensures ∙ ap is_short c.header_of.ensures)
    ∙ sym (ap (λ (f : NumericForm). fits f w) c.in-ShortVarlena.is)
