use Rattle.std.proofs.Common.{◌≡◌, ◌++◌, List, ℕ, ap, sym, subst, ◌∙◌}
use Rattle.jsonb_layout.specs.Numeric.{Numeric}
use Rattle.jsonb_encode.specs.Number.{numeric}
use Rattle.jsonb_encode.specs.declared.error.EncodeError.TheVariants.{NotANumber, OutOfRange, DoesNotFit}
use Rattle.jsonb_encode.proofs.NumberStands.{number_stands}
use Rattle.jsonb_encode.proofs.Numerals.{ok_told, err_told}
use Rattle.jsonb_encode.proofs.numeral.encode_numeric.Goals as goal

pub returns-in-Ok-clause-bytes : goal.returns-in-Ok-clause-bytes
returns-in-Ok-clause-bytes c =
    let (w, h, e) = c.in-Ok.ensures in
    let bytes : c.push_text.new.bytes.items ≡ numeric c.args.form w = e
    ∙ ap (λ (xs : List ℕ). xs ++ numeric c.args.form w) c.new-bytes.ensures.items in
    (w, h, bytes, subst (λ (b : List ℕ). Numeric b w) (sym bytes) (number_stands c.args.form w h.in_range h.fit))

pub returns-in-Ok-clause-not_a_number : goal.returns-in-Ok-clause-not_a_number
returns-in-Ok-clause-not_a_number c = ok_told _ c.args.form c.args.text.now NotANumber (c.in-Ok.ensures.0, c.in-Ok.ensures.1)

pub returns-in-Ok-clause-out_of_range : goal.returns-in-Ok-clause-out_of_range
returns-in-Ok-clause-out_of_range c = ok_told _ c.args.form c.args.text.now OutOfRange (c.in-Ok.ensures.0, c.in-Ok.ensures.1)

pub returns-in-Ok-clause-does_not_fit : goal.returns-in-Ok-clause-does_not_fit
returns-in-Ok-clause-does_not_fit c = ok_told _ c.args.form c.args.text.now DoesNotFit (c.in-Ok.ensures.0, c.in-Ok.ensures.1)

pub returns-in-Err-clause-not_a_number : goal.returns-in-Err-clause-not_a_number
returns-in-Err-clause-not_a_number c = err_told c.args.form c.args.text.now c.in-Err.error NotANumber (λ e. cc) c.in-Err.ensures

pub returns-in-Err-clause-out_of_range : goal.returns-in-Err-clause-out_of_range
returns-in-Err-clause-out_of_range c = err_told c.args.form c.args.text.now c.in-Err.error OutOfRange (λ e. cc) c.in-Err.ensures

pub returns-in-Err-clause-does_not_fit : goal.returns-in-Err-clause-does_not_fit
returns-in-Err-clause-does_not_fit c = err_told c.args.form c.args.text.now c.in-Err.error DoesNotFit (λ e. cc) c.in-Err.ensures
