use Rattle.std.proofs.Common.{subst, sym}
use Rattle.std.specs.Prelude.{Some}
use Rattle.json_elements.specs.declared.numbering.Frame.TheVariants.{Array, Object}
use Rattle.json_elements.specs.inner.Frames.{IsNextIn}
use Rattle.json_elements.proofs.FrameLaws.{elements_next, member_next}
use Rattle.json_elements.proofs.numbering.next.Goals as goal

pub returns-in-Array : goal.returns-in-Array
returns-in-Array g c =
    let trees = g.N.Element.trees in
    let pairs = g.N.Element.pairs in
    let tree = g.N.HasTree.tree in
    subst (λ f. IsNextIn trees pairs tree f c.next_element.result (Array c.next_element.new.elements c.in-Array.field-1)) (sym c.in-Array.is)
    (elements_next trees pairs tree _ c.next_element.new.elements c.in-Array.field-1 c.next_element.result c.next_element.ensures)

pub returns-in-Some : goal.returns-in-Some
returns-in-Some g c =
    let trees = g.N.Element.trees in
    let pairs = g.N.Element.pairs in
    let tree = g.N.HasTree.tree in
    subst (λ f. IsNextIn trees pairs tree f (Some c.in-Some.member.1) (Object c.next_member.new.members c.in-Object.field-1 c.key_hash.result))
    (sym c.in-Object.is)
    (member_next trees pairs _ c.next_member.new.members c.in-Object.field-1 0 c.key_hash.result c.in-Some.member.0.now (tree c.in-Some.member.1)
    c.in-Some.ensures c.key_hash.ensures)
