use Rattle.std.proofs.Common.{subst, sym, ◌∙◌}
use Rattle.json_elements.specs.declared.step.Step.TheVariants.{Next}
use Rattle.json_elements.specs.inner.Frames.{AdvancesFrames}
use Rattle.json_elements.proofs.FrameLaws.{goes_on, goes_in, goes_out}
use Rattle.json_elements.proofs.numbering.advance.Goals as goal

pub returns-in-Numbered : goal.returns-in-Numbered
returns-in-Numbered g c =
    let trees = g.N.Element.trees in
    let pairs = g.N.Element.pairs in
    let fs = c.args.outer.now.items in
    subst (λ f. AdvancesFrames trees pairs c.args.current fs (Next f) fs) (sym c.add.ensures)
    (goes_on trees pairs c.args.current fs c.next.new.frame (g.N.HasTree.tree c.in-Some.value) c.in-Numbered.number c.in-Some.ensures
    c.in-Numbered.ensures)

pub returns-in_ok-push-in-Inside : goal.returns-in_ok-push-in-Inside
returns-in_ok-push-in-Inside g c =
    goes_in g.N.Element.trees g.N.Element.pairs c.args.current c.args.outer.now.items c.in-Inside.inside c.next.new.frame
    (g.N.HasTree.tree c.in-Some.value)
    c.push.new.values.items c.in_ok-push-in-Inside.ensures c.in-Some.ensures c.in-Inside.ensures

pub returns-in-Some-pop : goal.returns-in-Some-pop
returns-in-Some-pop g c =
    let trees = g.N.Element.trees in
    let pairs = g.N.Element.pairs in
    let fs = c.args.outer.now.items in
    let none = c.in-None.ensures in
    subst (λ f. AdvancesFrames trees pairs c.args.current fs (Next f) c.pop.new.self.items) (sym c.add-in-Some-pop.ensures)
    (goes_out trees pairs c.args.current fs c.in-Some-pop.frame c.close-number.result c.pop.new.self.items c.in-Some-pop.ensures.items
    (c.close-number.ensures ∙ none.0) none.1)
