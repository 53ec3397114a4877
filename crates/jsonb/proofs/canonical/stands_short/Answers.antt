use Rattle.std.proofs.Common.{◌-◌, length, take, drop, Err, inl, inr, sym, ap, subst, ◌∙◌}
use Rattle.std.specs.Cmp.Lexicographic.{bytes_decides}
use Rattle.jsonb_encode.specs.Encoded.{canonical}
use Rattle.jsonb_encode.specs.Limits.{IsWithinLimits}
use Rattle.jsonb_encode.specs.declared.error.EncodeError.{EncodeError}
use Rattle.jsonb_encode.specs.declared.number_form.NumericForm.TheVariants.{Short}
use Rattle.jsonb_encode.proofs.Canonical.{number_within}
use Rattle.jsonb_encode.proofs.Written.{tree-number}
use Rattle.jsonb.proofs.CanonicalLaws.{number_told, slice_rest}
use Rattle.jsonb.proofs.canonical.stands_short.Goals as goal

pub returns-in-Ok : goal.returns-in-Ok
returns-in-Ok c =
    let b = c.args.number.bytes.now in
    let all = c.in-Ok.written.items in
    let exact = c.to_number-exact.result in
    let range = c.numbers_are_narrow_and_in_range.ensures.in_range in
    let told = number_told b all exact range c.args.number.stands c.to_number-exact.ensures
    (c.in-Ok.ensures.bytes ∙ ap canonical (tree-number exact)) in
    let whole = c.deref.result.now in
    let rest = slice_rest whole all 8 c.deref.ensures.value in
    let same = bytes_decides (take (length whole - 8) (drop 8 whole)) b in
    (λ h. told.0 (sym rest ∙ same.0 (sym c.eq.ensures ∙ h)), λ h. c.eq.ensures ∙ same.1 (rest ∙ told.1 h))

pub want_of_memory-requires : goal.want_of_memory-requires
want_of_memory-requires c =
    let exact = c.to_number-exact.result in
    let within = subst (IsWithinLimits Short) (sym (tree-number exact)) (number_within exact c.numbers_are_narrow_and_in_range.ensures.in_range) in
    elim c.in-Err.ensures.causes [
      | inl large ↦ absurd (c.in-Err.ensures.too_large (ap (λ (e : EncodeError). Err e) large) within)
      | inr memory ↦ memory
    ]
