use Rattle.jsonb_encode.specs.declared.error.EncodeError.TheVariants.{TooLarge}
use Rattle.jsonb_encode.proofs.ContentsLaws.{ok_part, err_part, err_is}
use Rattle.jsonb_encode.proofs.RawKeys.{key_alone, key_large, key_causes}
use Rattle.jsonb_encode.proofs.container.encode_raw_key_object.Goals as goal

pub returns-clause-bytes : goal.returns-clause-bytes
returns-clause-bytes c = ok_part c.encode.result _ _ _ c.encode.ensures (λ v h. (key_alone c.args.key v.items h).bytes)

pub returns-clause-stands : goal.returns-clause-stands
returns-clause-stands c = ok_part c.encode.result _ _ _ c.encode.ensures (λ v h. (key_alone c.args.key v.items h).stands)

pub returns-clause-within : goal.returns-clause-within
returns-clause-within c = ok_part c.encode.result _ _ _ c.encode.ensures (λ v h. (key_alone c.args.key v.items h).few)

pub returns-clause-too_large : goal.returns-clause-too_large
returns-clause-too_large c = λ is. key_large c.args.key (err_is c.encode.result _ _ TooLarge c.encode.ensures is)

pub returns-clause-causes : goal.returns-clause-causes
returns-clause-causes c = err_part c.encode.result _ _ _ c.encode.ensures (λ e h. key_causes c.args.key e h)
