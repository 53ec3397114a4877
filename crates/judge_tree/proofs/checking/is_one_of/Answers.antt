use Rattle.std.proofs.Common.{refl, sym, ◌∙◌, ◌≡◌, true, false}
use Rattle.std.proofs.lemmas.Slice.Eq.{bytes_eq-Decides}
use Rattle.judge_tree.proofs.NameLists.{name_is, name_is_not}
use Rattle.judge_tree.proofs.checking.is_one_of.Goals as goal

pub returns-then-eq : goal.returns-then-eq
returns-then-eq c =
    let same = (bytes_eq-Decides c.as_str.result.now c.args.key.now).0 (sym c.eq.ensures ∙ c.if-eq.true) in (
      λ _. name_is c.args.names.now c.loop-i.i c.index-names-i.result c.args.key.now c.loop-i-test.true c.index-names-i.is _
          c.loop-i.invariant (sym c.as_str.ensures.value ∙ same),
      λ _. refl,
    )

pub loop-i-preserved : goal.loop-i-preserved
loop-i-preserved c =
    name_is_not c.args.names.now c.loop-i.i c.index-names-i.result c.args.key.now c.loop-i-test.true c.index-names-i.is _ c.loop-i.invariant
    (λ e. let t : true ≡ false = sym ((bytes_eq-Decides c.as_str.result.now c.args.key.now).1 (c.as_str.ensures.value ∙ e))
    ∙ sym c.eq.ensures ∙ c.if-eq.false in cc)
