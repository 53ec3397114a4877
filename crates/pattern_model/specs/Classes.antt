-- Character classes (ECMA-262, section 22.2.1: ClassContents, ClassAtom, ClassEscape).
use Rattle.std.specs.Prelude.{Bool, List, None, Option, Some, [], drop, false, if◌then◌else◌, nat_le, not, option_and_then, option_map, true, ℕ, ◌&&◌, ◌==◌, ◌∷◌}
use Rattle.pattern_model.specs.Text.{Text, is_at, many}
use Rattle.pattern_model.specs.Escapes.{character_escape, class_escape}
use Rattle.pattern_model.specs.Properties.{past_property}
use Rattle.pattern_model.specs.Tree.{Escape, Item}

-- ClassAtom: an item that may be the end of a range
pub data Atom : Type 0 where
  code : ℕ → Atom
  escape : Escape → Atom
  property : Bool → Atom

abbrev pub code_atom : ℕ × Text → Atom × Text
code_atom p = (Atom.code p.0, p.1)

abbrev pub property_atom : Bool → Text → Option (Atom × Text)
property_atom negated x = option_map (λ y. (Atom.property negated, y)) (past_property x)

abbrev pub escape_or_code : ℕ → Text → Option Escape → Option (Atom × Text)
escape_or_code c x (Some e) = Some (Atom.escape e, x)
escape_or_code c x None = option_map code_atom (character_escape c x)

-- ClassEscape, after its backslash
unfoldable pub escaped_atom : Text → Option (Atom × Text)
escaped_atom [] = None
escaped_atom (c ∷ x) =
    if c == 98 then Some (Atom.code 8, x)
    else if c == 112 then property_atom false x
    else if c == 80 then property_atom true x
    else escape_or_code c x (class_escape c)

unfoldable pub class_atom : Text → Option (Atom × Text)
class_atom [] = None
class_atom (c ∷ x) = if c == 92 then escaped_atom x else Some (Atom.code c, x)

abbrev pub item_of_atom : Atom → Item
item_of_atom (Atom.code c) = Item.one c
item_of_atom (Atom.escape e) = Item.escape e
item_of_atom (Atom.property b) = Item.property b

abbrev pub is_escape : Atom → Bool
is_escape (Atom.escape e) = true
is_escape _ = false

-- a hyphen that is not the last of the class makes a range
unfoldable pub makes_range : Text → Bool
makes_range x = is_at 45 x && not (is_at 93 (drop 1 x))

-- the ends of a range are code points in order
abbrev pub range_of : Atom → Atom → Option Item
range_of (Atom.code a) (Atom.code b) = if nat_le a b then Some (Item.range a b) else None
range_of _ _ = None

abbrev pub range_to : Atom → Atom × Text → Option (List Item × Text)
range_to a p = option_map (λ i. (i ∷ [], p.1)) (range_of a p.0)

-- in the widened grammar: a class escape directly followed by two hyphens
abbrev pub has_hyphens : Bool → Atom × Text → Bool
has_hyphens wide p = wide && (is_escape p.0 && (is_at 45 p.1 && is_at 45 (drop 1 p.1)))

-- an atom, a range, or an escape and the two hyphens after it
unfoldable pub part_from : Bool → Atom × Text → Option (List Item × Text)
part_from wide p =
    if has_hyphens wide p then Some (item_of_atom p.0 ∷ Item.one 45 ∷ Item.one 45 ∷ [], drop 2 p.1)
    else if makes_range p.1 then option_and_then (range_to p.0) (class_atom (drop 1 p.1))
    else Some (item_of_atom p.0 ∷ [], p.1)

unfoldable pub class_part : Bool → Text → Option (List Item × Text)
class_part wide x = option_and_then (part_from wide) (class_atom x)

-- ClassContents
unfoldable pub class_items : Bool → Text → Option (List Item × Text)
class_items wide x = many (is_at 93) (class_part wide) x
