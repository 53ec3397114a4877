use Rattle.std.proofs.Common.{◌≡◌, true, false, refl, sym, ◌∙◌, length}
use Rattle.std.proofs.lemmas.Option.{slice_get_read}
use Rattle.flat_keywords.proofs.KeptValues.{listed_at, not_yet}
use Rattle.flat_keywords.proofs.kept.is_one_of.Goals as goal

pub returns-then-equals_value : goal.returns-then-equals_value
returns-then-equals_value g c =
    let values = c.args.values.now in
    let value = c.index-values-place.result in
    let here = slice_get_read values (length values) c.loop-place.place value refl c.loop-place-test.true c.index-values-place.is in
    let h = listed_at (g.N.HasTree.tree c.args.node.now) values c.loop-place.place value here (c.equals_value.ensures.0 c.if-equals_value.true) in
    (λ _. h, λ _. refl)

pub loop-place-preserved : goal.loop-place-preserved
loop-place-preserved g c =
    let values = c.args.values.now in
    let value = c.index-values-place.result in
    let here = slice_get_read values (length values) c.loop-place.place value refl c.loop-place-test.true c.index-values-place.is in
    not_yet (g.N.HasTree.tree c.args.node.now) values c.loop-place.place value here c.loop-place.invariant
    (λ s. let z : true ≡ false = sym (c.equals_value.ensures.1 s) ∙ c.if-equals_value.false in cc)
