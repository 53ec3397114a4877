use Rattle.std.proofs.Common.{refl}
use Rattle.jsonb_encode.specs.declared.contents.Contents.TheVariants.{Numerals}
use Rattle.jsonb_encode.specs.declared.error.EncodeError.TheVariants.{NotANumber, OutOfRange, DoesNotFit, TooLarge}
use Rattle.jsonb_encode.proofs.ContentsLaws.{refusal, ok_part, err_is}
use Rattle.jsonb_encode.proofs.TextBytes.{array_bytes, array_large}
use Rattle.jsonb_encode.proofs.text_encoding.encode_numeric_text_array.Goals as goal

pub returns-clause-bytes : goal.returns-clause-bytes
returns-clause-bytes c = ok_part c.encode.result _ _ _ c.encode.ensures (λ v h. array_bytes c.args.form c.args.texts v.items h)

pub returns-clause-not_a_number : goal.returns-clause-not_a_number
returns-clause-not_a_number c = refusal c.encode.result (λ v. v.items) c.args.form (Numerals c.args.texts) NotANumber c.encode.ensures (λ e. cc)
    (λ e. cc)

pub returns-clause-out_of_range : goal.returns-clause-out_of_range
returns-clause-out_of_range c = refusal c.encode.result (λ v. v.items) c.args.form (Numerals c.args.texts) OutOfRange c.encode.ensures (λ e. cc)
    (λ e. cc)

pub returns-clause-does_not_fit : goal.returns-clause-does_not_fit
returns-clause-does_not_fit c = refusal c.encode.result (λ v. v.items) c.args.form (Numerals c.args.texts) DoesNotFit c.encode.ensures (λ e. cc)
    (λ e. cc)

pub returns-clause-too_large : goal.returns-clause-too_large
returns-clause-too_large c = λ is. array_large c.args.form c.args.texts TooLarge (err_is c.encode.result _ _ TooLarge c.encode.ensures is) refl
