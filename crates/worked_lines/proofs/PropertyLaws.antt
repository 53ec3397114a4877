-- Items of a class in memory, none of which is a property escape.
use Rattle.std.proofs.Common.{◌≡◌, List, [], ◌∷◌, map, refl, ap, ◌&&◌}
use Rattle.std.specs.List.{list_all}
use Rattle.pattern_model.specs.Members.{is_no_property}
use Rattle.pattern_tree.specs.declared.class_item.ClassItem.{ClassItem}
use Rattle.pattern_tree.specs.Nodes.{item_of}

-- to look at an item is to look at what it stands for
pub all_items : (items : List ClassItem) →
    list_all is_no_property (map item_of items) ≡ list_all (λ i. is_no_property (item_of i)) items
all_items [] = refl
all_items (i ∷ items) = ap (λ z. is_no_property (item_of i) && z) (all_items items)
