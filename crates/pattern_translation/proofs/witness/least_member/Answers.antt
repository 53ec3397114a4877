use Rattle.std.proofs.Common.{◌≡◌, ◌<◌, false, Some, refl, ap, sym, ◌∙◌, arith}
use Rattle.std.specs.Prelude.{◌&&◌}
use Rattle.std.proofs.lemmas.Bool.{false_from_ne_true}
use lib.Utf8.{scalar}
use Rattle.pattern_model.specs.Members.{tree_has}
use Rattle.pattern_tree.specs.Patterns.{node_tree}
use Rattle.pattern_translation.specs.Witness.{least}
use Rattle.pattern_translation.proofs.WitnessLaws.{least_here, least_past, least_none, and_false}
use Rattle.pattern_translation.proofs.witness.least_member.Goals as goal
use Rattle.pattern_translation.proofs.witness.least_member.Goals.{in-Some+else-class_has, in-None}

pub loop-code-init : goal.loop-code-init
unfolding least
loop-code-init c = refl

pub returns-then-class_has : goal.returns-then-class_has
returns-then-class_has c =
    let code = c.loop-code.code in
    let l : code < 1114112 = omega arith in
    let passes = ap (λ b. b && tree_has (node_tree c.args.pattern.now c.args.id) code) c.in-Some.ensures.value.0
    ∙ sym c.if-class_has.ensures in
    ap Some c.in-Some.ensures.value.1 ∙ (sym (least_here (tree_has (node_tree c.args.pattern.now c.args.id)) code l passes)
    ∙ c.loop-code.invariant)

pub loop-code-preserved : goal.loop-code-preserved
loop-code-preserved c =
    let code = c.loop-code.code in
    let l : code < 1114112 = omega arith in
    let fails : scalar code && tree_has (node_tree c.args.pattern.now c.args.id) code ≡ false =
    elim c.match-from_u32.branch [
      | in-Some+else-class_has w ↦ ap (λ b. scalar code && b) (sym w.if-class_has.ensures) ∙ and_false (scalar code)
      | in-None w ↦ ap (λ b. b && tree_has (node_tree c.args.pattern.now c.args.id) code)
          (false_from_ne_true (scalar code) w.in-None.ensures.value)
    ] in
    sym (least_past (tree_has (node_tree c.args.pattern.now c.args.id)) code l fails) ∙ c.loop-code.invariant

pub returns : goal.returns
returns c =
    sym (least_none (tree_has (node_tree c.args.pattern.now c.args.id)) c.loop-code.code (omega arith)) ∙ c.loop-code.invariant
