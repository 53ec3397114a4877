-- In the trees that bytes stand for, keys rise.
use Rattle.std.proofs.Common.{ℕ, List, [], ◌∷◌}
use Rattle.json_model.specs.Rising.{KeysRise, KeysRiseInElements, KeysRiseInMembers}
use Rattle.json_model.specs.Tree.{Tree, scalar, array, object, Elements, no_elements, element, Members, no_members, member}
use Rattle.jsonb_layout.specs.Layout.{Item}
use Rattle.jsonb_layout.specs.Stands.{IsItem, AreElements, AreValues, Stands}

mutual
  -- keys rise in the tree of an item
  item_rises : (t : Tree) (at : ℕ) (x : Item) → IsItem t at x → KeysRise t
  item_rises (scalar s) at x h = tt
  item_rises (array ts) at x (k, (q, e, (items, l, placed))) = elements_rise ts 0 items placed
  item_rises (object ms) at x (k, (q, e, (items, l, rise, placed))) = (rise, values_rise ms _ items placed)

  -- in the trees of an array's items
  elements_rise : (ts : Elements) (at : ℕ) (xs : List Item) → AreElements ts at xs → KeysRiseInElements ts
  elements_rise no_elements at xs h = tt
  elements_rise (element t ts) at [] h = absurd h
  elements_rise (element t ts) at (x ∷ xs) h = (item_rises t at x h.0, elements_rise ts _ xs h.1)

  -- and in the trees of an object's values
  values_rise : (ms : Members) (at : ℕ) (xs : List Item) → AreValues ms at xs → KeysRiseInMembers ms
  values_rise no_members at xs h = tt
  values_rise (member k t ms) at [] h = absurd h
  values_rise (member k t ms) at (x ∷ xs) h = (item_rises t at x h.0, values_rise ms _ xs h.1)

-- In a tree that bytes stand for, the keys of every object rise.
pub stands_rises : (b : List ℕ) (t : Tree) → Stands b t → KeysRise t
stands_rises b (scalar s) h = tt
stands_rises b (array ts) (items, l, placed) = elements_rise ts 0 items placed
stands_rises b (object ms) (items, l, rise, placed) = (rise, values_rise ms _ items placed)
