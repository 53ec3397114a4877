use Rattle.std.proofs.Common.{◌<◌, ◌≤◌, ◌*◌, length, Some, ap, sym, ◌∙◌, arith}
use Rattle.std.proofs.Math.Nat.{mul-le-mul_left}
use Rattle.pattern_translation.proofs.WitnessLaws.{many_short, many_long}
use Rattle.pattern_translation.proofs.witness.repeat_text.Goals as goal
use Rattle.pattern_translation.proofs.witness.repeat_text.Goals.{then-text-gt256-via-then-text-gt256, then-text-gt256-via-else-text-gt256+then-text-count-gt256}

pub returns-then-text-gt256 : goal.returns-then-text-gt256
returns-then-text-gt256 c =
    let more = mul-le-mul_left (length c.args.text.now) c.requires.some in
    let long : 256 < c.args.count * length c.args.text.now =
    elim c.then-text-gt256.branch [
      | then-text-gt256-via-then-text-gt256 w ↦ omega (arith, more)
      | then-text-gt256-via-else-text-gt256+then-text-count-gt256 w ↦ omega arith
    ] in
    sym (many_long c.args.count c.args.text.now c.utf8.text long)

pub returns : goal.returns
returns c =
    let small : c.args.count * length c.args.text.now ≤ 256 = omega arith in
    ap Some c.in_ok-copies.ensures ∙ sym (many_short c.args.count c.args.text.now c.utf8.text small)
