use Rattle.std.proofs.Common.{◌≡◌, List, [], ◌∷◌, ◌++◌, Some, None, map, sym, ap, ◌∙◌, arith, append_assoc, append-nil, take_all, rules}
use Rattle.std.specs.Prelude.{option_map}
use Rattle.std.proofs.lemmas.Result.{IfOk-weaker}
use Rattle.serde_json.specs.View.{view, members_view}
use Rattle.serde_json.specs.declared.value.Value.{Value as SerdeValue}
use Rattle.json_exact.specs.Serde.{tree_of, pairs_of, in_key_order}
use Rattle.key_map.specs.declared.map.Member.{Member}
use Rattle.json_exact.specs.declared.value.Value.{Value}
use Rattle.json_exact.specs.Trees.{tree, pairs, member_pair}
use Rattle.json_exact.proofs.SerdeTreeLaws.{Entry, all_elements, one_element_missing, pair_added, sorted_pairs, one_pair_missing, handed_on}
use Rattle.json_exact.proofs.from_serde.+serde.Goals as goal

pub elements_of-returns-in_err-element-clause-float : goal.elements_of-returns-in_err-element-clause-float
elements_of-returns-in_err-element-clause-float t c = λ e.
    let x = c.item-item.result in
    let was = handed_on c.from_residual.result c.in_err-element.field-0.0 c.from_residual.ensures.1 e in
    let none : tree_of (view x) ≡ None = c.value_of.ensures.float cc in
    one_element_missing c.args.items.now c.loop-item.item-index x c.loop-item-test.true
    (ap (λ (y : SerdeValue). tree_of (view y)) (sym c.item-item.is) ∙ none)

pub elements_of-returns-clause-elements : goal.elements_of-returns-clause-elements
elements_of-returns-clause-elements t c =
    let vs = c.args.items.now in
    all_elements vs (map tree c.loop-item.elements.items)
    (ap (map (λ (v : SerdeValue). tree_of (view v))) (sym (take_all c.loop-item.item-index vs (omega (arith, c.loop-item-test.false))))
    ∙ c.loop-item.invariant)

pub members_of-returns-in_err-value-clause-float : goal.members_of-returns-in_err-value-clause-float
members_of-returns-in_err-value-clause-float t c = λ e.
    let l = c.loop-name in
    let x : Entry = (c.in-Some.name.now, c.in-Some.value.now) in
    let was = handed_on c.from_residual-in_err-value.result c.in_err-value.field-0.0 c.from_residual-in_err-value.ensures.1 e in
    let none : tree_of (view x.1) ≡ None = c.value_of.ensures.float cc in
    ap (λ (es : List Entry). pairs_of (members_view es)) (l.invariant.1 ∙ ap (λ (es : List Entry). l.invariant.0 ++ es) c.in-Some.ensures.steps)
    ∙ one_pair_missing l.invariant.0 x c.next.new.self none

pub members_of-loop-name-preserved : goal.members_of-loop-name-preserved
members_of-loop-name-preserved t c =
    let l = c.loop-name in
    let done = l.invariant.0 in
    let x : Entry = (c.in-Some.name.now, c.in-Some.value.now) in
    let left = c.next.new.self in
    let m : Member Value = record { key = c.in_ok-key.key; value = c.in_ok-value.value } in
    let all : c.args.members.now.entries ≡ done ++ x ∷ left = l.invariant.1 ∙ ap (λ (es : List Entry). done ++ es) c.in-Some.ensures.steps in
    let pushed : c.push.new.self.items ≡ l.list.items ++ m ∷ [] = search rules in (
      done ++ x ∷ [],
      all ∙ sym (append_assoc done (x ∷ []) left),
      rw pushed (pair_added done l.list.items x m l.invariant.2 (c.in_ok-key.ensures.ok ∙ c.as_str.ensures.value) c.in_ok-value.ensures.tree),
    )

pub members_of-returns-clause-members : goal.members_of-returns-clause-members
members_of-returns-clause-members t c =
    let l = c.loop-name in
    let done = l.invariant.0 in
    let whole : c.args.members.now.entries ≡ done =
    l.invariant.1 ∙ ap (λ (es : List Entry). done ++ es) c.in-None.ensures.steps.0 ∙ append-nil done in
    IfOk-weaker c.sorted.result (λ m. in_key_order (map member_pair l.list.items) ≡ pairs m)
    (λ m. option_map in_key_order (pairs_of (members_view c.args.members.now.entries)) ≡ Some (pairs m))
    (λ m same. ap (λ (es : List Entry). option_map in_key_order (pairs_of (members_view es))) whole
    ∙ sorted_pairs done (map member_pair l.list.items) (pairs m) l.invariant.2 same) c.sorted.ensures.sorted
