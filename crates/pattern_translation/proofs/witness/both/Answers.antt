use Rattle.std.proofs.Common.{◌≡◌, ◌<◌, ◌≤◌, ◌++◌, length, Some, ap, sym, ◌∙◌, arith, length-append}
use Rattle.std.specs.Str.{chars}
use Rattle.std.specs.String.{string_bytes}
use Rattle.std.proofs.lemmas.Str.{chars-append, IsUtf8-append}
use Rattle.pattern_translation.specs.Witness.{short}
use Rattle.pattern_translation.proofs.WitnessLaws.{short_some, short_none}
use Rattle.pattern_translation.proofs.witness.both.Goals as goal
use Rattle.pattern_translation.proofs.witness.both.Goals.{then-right-gt256-via-then-right-gt256, then-right-gt256-via-else-right-gt256+then-left-right}

pub returns-then-right-gt256 : goal.returns-then-right-gt256
returns-then-right-gt256 c =
    let left = c.args.left.now in
    let right = c.args.right.now in
    let n = length-append left right in
    let long : 256 < length (left ++ right) =
    elim c.then-right-gt256.branch [
      | then-right-gt256-via-then-right-gt256 w ↦ omega arith
      | then-right-gt256-via-else-right-gt256+then-left-right w ↦ omega arith
    ] in
    sym (ap short (sym (chars-append left right c.utf8.left)) ∙ short_none (left ++ right) (IsUtf8-append left right c.utf8.left
    c.utf8.right) long)

pub returns : goal.returns
returns c =
    let left = c.args.left.now in
    let right = c.args.right.now in
    let n = length-append left right in
    let small : length (left ++ right) ≤ 256 = omega arith in
    let e : string_bytes c.push_str.new.self ≡ left ++ right =
    c.in_ok-push_str.ensures.bytes ∙ ap (λ z. z ++ right) c.in_ok-text.ensures.ok in
    ap (λ z. Some (chars z)) e ∙ (sym (short_some (left ++ right) (IsUtf8-append left right c.utf8.left c.utf8.right) small)
    ∙ ap short (chars-append left right c.utf8.left))
