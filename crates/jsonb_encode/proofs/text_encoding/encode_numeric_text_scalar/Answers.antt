use Rattle.jsonb_encode.specs.declared.contents.Contents.TheVariants.{Numeral}
use Rattle.jsonb_encode.specs.declared.error.EncodeError.TheVariants.{NotANumber, OutOfRange, DoesNotFit}
use Rattle.jsonb_encode.proofs.ContentsLaws.{refusal, ok_part, err_part}
use Rattle.jsonb_encode.proofs.TextBytes.{scalar_bytes, scalar_causes}
use Rattle.jsonb_encode.proofs.text_encoding.encode_numeric_text_scalar.Goals as goal

pub returns-clause-bytes : goal.returns-clause-bytes
returns-clause-bytes c = ok_part c.encode.result _ _ _ c.encode.ensures (λ v h. scalar_bytes c.args.form c.args.text v.items h)

pub returns-clause-not_a_number : goal.returns-clause-not_a_number
returns-clause-not_a_number c = refusal c.encode.result (λ v. v.items) c.args.form (Numeral c.args.text) NotANumber c.encode.ensures (λ e. cc)
    (λ e. cc)

pub returns-clause-out_of_range : goal.returns-clause-out_of_range
returns-clause-out_of_range c = refusal c.encode.result (λ v. v.items) c.args.form (Numeral c.args.text) OutOfRange c.encode.ensures (λ e. cc)
    (λ e. cc)

pub returns-clause-does_not_fit : goal.returns-clause-does_not_fit
returns-clause-does_not_fit c = refusal c.encode.result (λ v. v.items) c.args.form (Numeral c.args.text) DoesNotFit c.encode.ensures (λ e. cc)
    (λ e. cc)

pub returns-clause-causes : goal.returns-clause-causes
returns-clause-causes c = err_part c.encode.result _ _ _ c.encode.ensures (λ e h. scalar_causes c.args.form c.args.text e h)
