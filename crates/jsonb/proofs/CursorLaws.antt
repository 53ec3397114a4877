-- Walking over the elements of an array.
use Rattle.std.proofs.Common.{◌≡◌, ℕ, suc, ◌-◌, ◌<◌, List, ◌∷◌, Option, Some, None, refl, sym, ap, subst, ◌∙◌}
use Rattle.json_model.specs.Parts.{elements_of}
use Rattle.json_model.specs.Tree.{Tree, array, Elements, element}
use Rattle.jsonb_layout.specs.Layout.{Item}
use Rattle.jsonb_layout.specs.Options.{◌>>=◌}
use Rattle.jsonb_layout.specs.inner.Reading.{Place, item_at}
use Rattle.jsonb_layout.specs.inner.Trees.{elements_by, read, item_tree}
use Rattle.jsonb.specs.Found.{tree_found, elements_found}
use Rattle.jsonb.specs.inner.Values.{or_null, IsJsonTree, array_at}
use Rattle.jsonb.proofs.MemberLaws.{both_clean, values_none, values_some}
use Rattle.jsonb_layout.proofs.Tools.{less_one}
use Rattle.jsonb.specs.inner.Views.{place}
use Rattle.jsonb.specs.declared.cursor.Cursor.{Cursor}

-- an array of one element more, from the item at its place
pub record NextElement (n : ℕ) (p : Place) (x : Item) (q : Place) : Type 0 where
  pub value : IsJsonTree (item_tree p.at x)
  pub more : IsJsonTree (array_at n q)
  pub left : elements_of (or_null (array_at (suc n) p)) ≡ or_null (item_tree p.at x) ∷ elements_of (or_null (array_at n q))

abbrev tree_by : Option (Elements × Place) → Option Tree
tree_by r = r >>= λ r. Some (array r.0)

abbrev left_by : Option (Elements × Place) → List Tree
left_by r = elements_of (or_null (tree_by r))

-- an array that is JSON and has one element more: the element, and the others
pub next_element : (n : ℕ) (p q : Place) (x : Item) → item_at p ≡ Some (x, q) → IsJsonTree (array_at (suc n) p) → NextElement n p x q
next_element n p q x e json =
    go (item_tree p.at x) refl (elements_by read n q) refl (subst (λ (r : Option (Elements × Place)). IsJsonTree (tree_by r)) made json)
  where
    made : elements_by read (suc n) p ≡ (item_tree p.at x >>= λ t. elements_by read n q >>= λ ts. Some (element t ts.0, ts.1))
    made = values_some n p q x e

    go : (t : Option Tree) → item_tree p.at x ≡ t → (r : Option (Elements × Place)) → elements_by read n q ≡ r
        → IsJsonTree (tree_by (t >>= λ t. r >>= λ ts. Some (element t ts.0, ts.1))) → NextElement n p x q
    go None et r er h = absurd cc
    go (Some t) et None er h = absurd cc
    go (Some t) et (Some ts) er h =
        let parts = both_clean (tree_found t) (elements_found ts.0) h in
        record {
          value = subst IsJsonTree (sym et) parts.0;
          more = subst (λ (r : Option (Elements × Place)). IsJsonTree (tree_by r)) (sym er) parts.1;
          left =
              ap left_by made
              ∙ ap (λ (o : Option Tree). left_by (o >>= λ t. elements_by read n q >>= λ ts. Some (element t ts.0, ts.1))) et
              ∙ ap (λ (r : Option (Elements × Place)). left_by (r >>= λ ts. Some (element t ts.0, ts.1))) er
              ∙ ap (λ (o : Option Tree). or_null o ∷ left_by (Some ts)) (sym et)
              ∙ ap (λ (r : Option (Elements × Place)). or_null (item_tree p.at x) ∷ left_by r) (sym er);
        }

-- where an element is left there is an item
pub element_there : (n : ℕ) (p : Place) → IsJsonTree (array_at (suc n) p) → (x : Item × Place) × (item_at p ≡ Some x)
element_there n p json = go (item_at p) refl
  where
    go : (r : Option (Item × Place)) → item_at p ≡ r → (x : Item × Place) × (item_at p ≡ Some x)
    go None e = let h : IsJsonTree None = subst IsJsonTree (ap tree_by (values_none n p e)) json in absurd cc
    go (Some x) e = (x, e)

module _ (c : Cursor) (some_left : 0 < c.left.count) where
  abbrev here : Place
  here = place c.left.start

  full : IsJsonTree (array_at (suc (c.left.count - 1)) here)
  full = subst (λ (k : ℕ). IsJsonTree (array_at k here)) (sym (less_one c.left.count some_left)) c.stands

  -- where elements are left, there is an item
  pub elements_go_on : None ≡ item_at (place c.left.start) → ⊥
  elements_go_on e = let h : IsJsonTree None = subst IsJsonTree (ap tree_by (values_none (c.left.count - 1) here (sym e))) full in cc

  -- the next element, and those that are left behind it
  pub element_is : {x : Item} {q : Place} → Some (x, q) ≡ item_at (place c.left.start) → NextElement (c.left.count - 1) (place c.left.start) x q
  element_is {x = x} {q = q} e = next_element (c.left.count - 1) here q x (sym e) full
