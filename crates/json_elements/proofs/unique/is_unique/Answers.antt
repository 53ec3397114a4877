use Rattle.std.proofs.Common.{◌≡◌, List, length, map, ap, sym, subst, ◌∙◌}
use Rattle.std.proofs.lemmas.List.{length-map}
use Rattle.distinct_places.specs.Apart.{AreNumbered}
use Rattle.json_elements.proofs.UniqueLaws.{apart_is_unique, are_numbered}
use Rattle.json_elements.specs.inner.SameAt.{IsSameAt}
use Rattle.json_elements.proofs.unique.is_unique.Goals as goal

pub are_apart_by_numbers-requires-clause-numbered : goal.are_apart_by_numbers-requires-clause-numbered
are_apart_by_numbers-requires-clause-numbered g c =
    let tree = g.N.HasTree.tree in
    let same = c.as_slice-2.ensures.value ∙ sym c.as_slice.ensures.value in
    subst (λ (ns : List g.row.N.Denot). AreNumbered (IsSameAt (map tree ns)) c.as_slice-3.result.now) same
    (are_numbered tree c.as_slice-2.result.now c.as_slice-3.result.now (c.as_slice-3.ensures.value ∙ c.in_ok-numbers.ensures.numbers)
    c.in_ok-numbers.ensures.rise)

pub returns : goal.returns
returns g c =
    let tree = g.N.HasTree.tree in
    let nodes = c.as_slice.result.now in
    let all : map tree nodes ≡ g.N.Element.trees c.args.elements = ap (map tree) c.as_slice.ensures.value ∙ c.in_ok-nodes.ensures in
    let count : length c.as_slice-3.result.now ≡ length (map tree nodes) =
    ap length (c.as_slice-3.ensures.value ∙ c.in_ok-numbers.ensures.numbers) ∙ length-map c.as_slice-2.result.now _
    ∙ ap length (c.as_slice-2.ensures.value ∙ sym c.as_slice.ensures.value) ∙ sym (length-map nodes tree) in
    let h = apart_is_unique (map tree nodes) (g.N.Element.trees c.args.elements) (length c.as_slice-3.result.now) all count in
    let told = c.in_ok-are_apart_by_numbers.ensures in
    (λ yes. h.0 (told.0 yes), λ unique. told.1 (h.1 unique))
