use Rattle.std.proofs.Common.{◌≡◌, ◌∙◌, ◌++◌, ◌-◌, ◌/◌, ◌^◌, ◌≤◌, ℕ, sym, subst, nat_abs, string_bytes}
use Rattle.json_exact.specs.Text.{fraction_text}
use Rattle.json_exact.proofs.TextLaws.{text_in_parts, written_in_turn}
use Rattle.json_exact.proofs.number.Number.to_text.Goals as goal

pub returns : goal.returns
returns c =
    let places = c.fraction_digits-places.ensures.places in
    written_in_turn _ _ _ _ _ _ _ c.in_ok-output.ensures.bytes c.in_ok-push_sign.ensures c.in_ok-push_whole.ensures
    (subst (λ (k : ℕ). string_bytes c.push_fraction.new.output ≡ string_bytes c.push_whole.new.output ++ fraction_text k
    (nat_abs c.decimal-decimal.result / 10 ^ (16383 - k))) places c.in_ok-push_fraction.ensures)
    ∙ sym (text_in_parts c.decimal-decimal.result c.args.self.now c.decimal-decimal.ensures
    (subst (λ (k : ℕ). k ≤ 16383) places c.fraction_digits-places.ensures.few))
