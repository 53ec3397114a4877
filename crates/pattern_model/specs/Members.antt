-- Which code points are members of a class or class escape (ECMA-262, section 22.2.2.9: CharacterClassEscape, ClassContents;
-- sections 12.2 and 12.3: WhiteSpace, LineTerminator). Which have a property is not asked here.
use Rattle.std.specs.Prelude.{ℕ, Bool, true, false, not, ◌&&◌, ◌||◌, ◌==◌, nat_le, List}
use Rattle.std.specs.List.{list_any, list_all}
use Rattle.pattern_model.specs.Digits.{is_digit}
use Rattle.pattern_model.specs.Properties.{is_word}
use Rattle.pattern_model.specs.Tree.{Escape, Item, Leaf, Tree}

abbrev pub is_within : ℕ → ℕ → ℕ → Bool
is_within first last c = nat_le first c && nat_le c last

-- tabs and ends of lines, spaces, and the byte order mark
unfoldable pub is_space : ℕ → Bool
is_space c =
    is_within 9 13 c || (c == 32 || (c == 160 || (c == 5760 || (is_within 8192 8202 c || (is_within 8232 8233 c
    || (c == 8239 || (c == 8287 || (c == 12288 || c == 65279))))))))

abbrev pub escape_has : Escape → ℕ → Bool
escape_has Escape.digit c = is_digit c
escape_has Escape.not_digit c = not (is_digit c)
escape_has Escape.space c = is_space c
escape_has Escape.not_space c = not (is_space c)
escape_has Escape.word c = is_word c
escape_has Escape.not_word c = not (is_word c)

abbrev pub item_has : Item → ℕ → Bool
item_has (Item.one a) c = c == a
item_has (Item.range a b) c = is_within a b c
item_has (Item.escape e) c = escape_has e c
item_has (Item.property b) c = false

-- a negated class has what none of its items has
abbrev pub class_has : Bool → List Item → ℕ → Bool
class_has true items c = not (list_any (λ i. item_has i c) items)
class_has false items c = list_any (λ i. item_has i c) items

abbrev pub leaf_has : Leaf → ℕ → Bool
leaf_has (Leaf.class negated items) c = class_has negated items c
leaf_has (Leaf.escape e) c = escape_has e c
leaf_has _ c = false

-- the code point is a member of the class or class escape
abbrev pub tree_has : Tree → ℕ → Bool
tree_has (Tree.leaf l) c = leaf_has l c
tree_has _ c = false

abbrev pub is_no_property : Item → Bool
is_no_property (Item.property b) = false
is_no_property _ = true

abbrev pub leaf_is_set : Leaf → Bool
leaf_is_set (Leaf.class negated items) = list_all is_no_property items
leaf_is_set (Leaf.escape e) = true
leaf_is_set _ = false

-- a class without property escapes, or a class escape: its members are told by `tree_has`
abbrev pub is_set : Tree → Bool
is_set (Tree.leaf l) = leaf_is_set l
is_set _ = false
