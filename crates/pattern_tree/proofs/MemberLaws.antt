-- Members of the items of a class in memory.
use Rattle.std.proofs.Common.{◌≡◌, ℕ, List, [], ◌∷◌, map, refl, ap}
use Rattle.std.specs.Prelude.{◌||◌}
use Rattle.std.specs.List.{list_any}
use Rattle.pattern_model.specs.Members.{item_has}
use Rattle.pattern_tree.specs.declared.class_item.ClassItem.{ClassItem}
use Rattle.pattern_tree.specs.Nodes.{item_of}

-- to look at an item is to look at what it stands for
pub any_item : (items : List ClassItem) (c : ℕ) →
    list_any (λ i. item_has i c) (map item_of items) ≡ list_any (λ i. item_has (item_of i) c) items
any_item [] c = refl
any_item (i ∷ items) c = ap (λ z. item_has (item_of i) c || z) (any_item items c)
