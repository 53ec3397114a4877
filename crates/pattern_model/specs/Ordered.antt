-- Counts and ranges that go from low to high (ECMA-262, section 22.2.1.1: the early errors on Quantifier and ClassContents).
use Rattle.std.specs.Prelude.{◌≤◌, List, [], ◌∷◌, Option, Some, None}
use Rattle.pattern_model.specs.Tree.{Item, Leaf, Count, Bounds, Tree}

-- The first is at most the second. Of two counts of 2^32 or more no more is known than that.
abbrev pub CountsRise : Count → Count → Type 0
CountsRise (Count.number a) (Count.number b) = a ≤ b
CountsRise Count.wide (Count.number b) = ⊥
CountsRise a Count.wide = Unit {0}

-- the least count is at most the greatest, where there is one
abbrev pub MostRises : Count → Option Count → Type 0
MostRises a None = Unit {0}
MostRises a (Some b) = CountsRise a b

abbrev pub BoundsRise : Bounds → Type 0
BoundsRise b = MostRises b.least b.most

-- a range runs from low to high
abbrev pub ItemRises : Item → Type 0
ItemRises (Item.range a b) = a ≤ b
ItemRises _ = Unit {0}

abbrev pub ItemsRise : List Item → Type 0
ItemsRise [] = Unit {0}
ItemsRise (i ∷ items) = ItemRises i × ItemsRise items

abbrev pub LeafRises : Leaf → Type 0
LeafRises (Leaf.class negated items) = ItemsRise items
LeafRises _ = Unit {0}

-- the counts of each repeat and the ranges of each class of the tree
abbrev pub IsOrdered : Tree → Type 0
IsOrdered Tree.empty = Unit {0}
IsOrdered (Tree.leaf l) = LeafRises l
IsOrdered (Tree.group m t) = IsOrdered t
IsOrdered (Tree.repeat t b) = IsOrdered t × BoundsRise b
IsOrdered (Tree.sequence l r) = IsOrdered l × IsOrdered r
IsOrdered (Tree.either l r) = IsOrdered l × IsOrdered r
