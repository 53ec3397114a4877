use Rattle.std.proofs.Common.{List, ℕ, refl, subst}
use Rattle.json_model.specs.Decimal.{Decimal}
use Rattle.jsonb_encode.specs.Limits.{IsWithinLimits}
use Rattle.jsonb_encode.specs.Literals.{IsNumeral, AreBytesOf, member_tree}
use Rattle.jsonb_encode.specs.declared.contents.Contents.TheVariants.{KeyAndNumeral}
use Rattle.jsonb_encode.specs.declared.error.EncodeError.TheVariants.{NotANumber, OutOfRange, DoesNotFit, TooLarge}
use Rattle.jsonb_encode.proofs.ContentsLaws.{refusal, ok_part, err_is}
use Rattle.jsonb_encode.proofs.TextBytes.{member_bytes, member_large}
use Rattle.jsonb_encode.proofs.text_encoding.encode_numeric_text_object.Goals as goal

pub returns-clause-bytes : goal.returns-clause-bytes
returns-clause-bytes c = ok_part c.encode.result _ _ _ c.encode.ensures
    (λ v h. subst (λ (k : List ℕ). (w : Decimal) × IsNumeral c.args.form c.args.text.now w × AreBytesOf c.args.form v.items
    (member_tree k w)) c.as_bytes.ensures.value
    (member_bytes c.args.form c.as_bytes.result c.args.text v.items h))

pub returns-clause-not_a_number : goal.returns-clause-not_a_number
returns-clause-not_a_number c = refusal c.encode.result (λ v. v.items) c.args.form
    (KeyAndNumeral c.as_bytes.result c.args.text) NotANumber c.encode.ensures (λ e. cc) (λ e. cc)

pub returns-clause-out_of_range : goal.returns-clause-out_of_range
returns-clause-out_of_range c = refusal c.encode.result (λ v. v.items) c.args.form
    (KeyAndNumeral c.as_bytes.result c.args.text) OutOfRange c.encode.ensures (λ e. cc) (λ e. cc)

pub returns-clause-does_not_fit : goal.returns-clause-does_not_fit
returns-clause-does_not_fit c = refusal c.encode.result (λ v. v.items) c.args.form
    (KeyAndNumeral c.as_bytes.result c.args.text) DoesNotFit c.encode.ensures (λ e. cc) (λ e. cc)

pub returns-clause-too_large : goal.returns-clause-too_large
returns-clause-too_large c = λ is.
    subst (λ (k : List ℕ). (w : Decimal) × IsNumeral c.args.form c.args.text.now w × ¬ IsWithinLimits c.args.form
    (member_tree k w)) c.as_bytes.ensures.value
    (member_large c.args.form c.as_bytes.result c.args.text TooLarge (err_is c.encode.result _ _ TooLarge c.encode.ensures is) refl)
