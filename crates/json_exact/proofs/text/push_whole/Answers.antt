use Rattle.std.proofs.Common.{◌≡◌, ◌∙◌, ◌++◌, List, ℕ, max, ap, subst, nat_abs, string_bytes}
use Rattle.std.specs.Prelude.{IfOk}
use Rattle.json_exact.proofs.TextLaws.{whole_digits}
use Rattle.json_exact.proofs.text.push_whole.Goals as goal

pub returns : goal.returns
returns c = subst (λ (xs : List ℕ). IfOk c.push_digits.result (λ _. string_bytes c.push_digits.new.output ≡ string_bytes c.args.output.now ++ xs))
    (whole_digits (nat_abs c.args.decimal.now) _ (c.max-high.ensures ∙ ap (λ (k : ℕ). max k 16384) c.digit_count.ensures)) c.push_digits.ensures
