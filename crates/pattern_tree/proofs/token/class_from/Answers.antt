use Rattle.std.proofs.Common.{◌≤◌, length, map, ap, sym, ◌∙◌, subst, arith, rules}
use Rattle.std.specs.Str.{chars}
use denote.Text.{Utf8}
use denote.Shadow.{shadow}
use Rattle.pattern_model.specs.Spans.{IsAfter}
use Rattle.pattern_model.proofs.ItemLaws.{after_bracket, after_caret}
use Rattle.pattern_tree.specs.Spans.{placed_of, inside}
use Rattle.pattern_tree.proofs.ItemLemmas.{class_places}
use Rattle.pattern_tree.proofs.token.class_from.Goals.{then-negated, else-negated}
use Rattle.pattern_tree.proofs.token.class_from.Goals as goal

pub returns-in-Some-clause-items : goal.returns-in-Some-clause-items
returns-in-Some-clause-items c = λ w start h k.
    let x = c.args.x.now in
    let inner = c.if-negated.inside.now in
    let after = c.in-Some.after.now in
    let begins : IsAfter w (inside c.is_at-negated.result start) (chars inner) = elim c.if-negated.branch [
      | then-negated v ↦
          subst (λ b. IsAfter w (inside b start) (chars inner)) (sym v.if-negated.true)
          (after_caret w (chars x) (chars inner) start (sym c.is_at-negated.ensures ∙ v.if-negated.true)
          (ap (λ b. chars b.now) v.inside-is ∙ v.rest-inside.ensures.value) h)
      | else-negated v ↦
          subst (λ b. IsAfter w (inside b start) (chars inner)) (sym v.if-negated.false)
          (after_bracket w (chars x) (chars inner) start (ap (λ b. chars b.now) v.inside-is) h)
    ] in
    let ui : shadow (Utf8 inner) = elim c.if-negated.branch [
      | then-negated v ↦ subst (λ b. shadow (Utf8 b.now)) (sym v.inside-is) v.rest-inside.utf8
      | else-negated v ↦ subst (λ b. shadow (Utf8 b.now)) (sym v.inside-is) c.utf8.x
    ] in
    let li : length inner ≤ c.args.total = elim c.if-negated.branch [
      | then-negated v ↦ subst (λ b. length b.now ≤ c.args.total) (sym v.inside-is) (omega (arith, v.rest-inside.ensures.len, c.requires))
      | else-negated v ↦ subst (λ b. length b.now ≤ c.args.total) (sym v.inside-is) c.requires
    ] in
    let la : length after ≤ length inner = rw c.in-Some.is at c.in_ok-class_items.ensures.len in
    let ua : shadow (Utf8 after) = search rules in
    class_places c.is_at-negated.result c.args.total start w inner after c.rest.result.now (map placed_of c.in-Some.items.items) ui ua
    c.rest.utf8 li (omega (arith, li, la)) (rw c.in-Some.is at c.in_ok-class_items.ensures.places)
    (rw c.in-Some.is at c.in_ok-class_items.ensures.ends) c.rest.ensures.value begins k
