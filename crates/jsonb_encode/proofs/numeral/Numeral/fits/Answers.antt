use Rattle.std.proofs.Common.{◌-◌, ap, sym, ◌∙◌, leb, Bool, refl}
use Rattle.std.specs.Prelude.{◌&&◌}
use Rattle.jsonb_encode.specs.Number.{fits}
use Rattle.jsonb_encode.specs.declared.number_form.NumericForm.{NumericForm}
use Rattle.jsonb_encode.proofs.Numerals.{short_kept}
use Rattle.jsonb_encode.proofs.numeral.Numeral.fits.Goals as goal

pub returns-then-is_short : goal.returns-then-is_short
returns-then-is_short c = λ w kept.
    ap (λ (b : Bool). b && leb c.groups.result 62) (sym c.if-is_short.true ∙ c.is_short.ensures)
    ∙ short_kept c.args.self.now w c.groups.result kept c.groups.ensures
    ∙ sym (ap (λ (f : NumericForm). fits f w) c.in-ShortVarlena.is)

pub returns-else-is_short : goal.returns-else-is_short
returns-else-is_short c = λ w kept.
    let n = c.args.self.now in
    let k = n.count - n.zeros in
    c.if-is_short.false
    ∙ ap (λ (b : Bool). b && leb k 62) (sym c.if-is_short.false ∙ c.is_short.ensures)
    ∙ short_kept n w k kept refl
    ∙ sym (ap (λ (f : NumericForm). fits f w) c.in-ShortVarlena.is)
