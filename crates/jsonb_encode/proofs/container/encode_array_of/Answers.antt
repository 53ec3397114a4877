use Rattle.jsonb_encode.specs.declared.error.EncodeError.TheVariants.{TooLarge}
use Rattle.jsonb_encode.specs.declared.number_form.NumericForm.TheVariants.{Short}
use Rattle.jsonb_encode.proofs.ContentsLaws.{ok_part, err_part, err_is}
use Rattle.jsonb_encode.proofs.RawKeys.{children_laid, array_stands, children_large, children_causes}
use Rattle.jsonb_encode.proofs.container.encode_array_of.Goals as goal

pub returns-clause-laid : goal.returns-clause-laid
returns-clause-laid c = ok_part c.encode.result _ _ _ c.encode.ensures (λ v h. children_laid Short c.args.children v.items h)

pub returns-clause-stands : goal.returns-clause-stands
returns-clause-stands c = ok_part c.encode.result _ _ _ c.encode.ensures (λ v h. array_stands Short c.args.children v.items h)

pub returns-clause-too_large : goal.returns-clause-too_large
returns-clause-too_large c = λ is. children_large Short c.args.children (err_is c.encode.result _ _ TooLarge c.encode.ensures is)

pub returns-clause-causes : goal.returns-clause-causes
returns-clause-causes c = err_part c.encode.result _ _ _ c.encode.ensures (λ e h. children_causes Short c.args.children e h)
