use Rattle.std.proofs.Common.{refl, sym, ◌∙◌}
use Rattle.jsonb_encode.proofs.numeral.read_numeral.Goals as goal

pub fits-requires : goal.fits-requires
fits-requires c =
    let cut = c.in-Some.ensures in
    let kept = c.in-Some-numeral_of.ensures cut.size _ cut.kept refl in
    kept.1.zeros.within

pub returns-then-not-fits : goal.returns-then-not-fits
returns-then-not-fits c =
    let cut = c.in-Some.ensures in
    let kept = c.in-Some-numeral_of.ensures cut.size _ cut.kept refl in
    (_, cut.literal, kept.0, sym (c.fits.ensures _ kept.1) ∙ c.if-not-fits.true)

pub returns : goal.returns
returns c =
    let cut = c.in-Some.ensures in
    let kept = c.in-Some-numeral_of.ensures cut.size _ cut.kept refl in
    (_, record { literal = cut.literal; in_range = kept.0; fit = sym (c.fits.ensures _ kept.1) ∙ c.if-not-fits.false }, kept.1)
