-- What one atom of a class begins.
use Rattle.std.proofs.Common.{◌≡◌, Bool, true, false, List, [], ◌∷◌, ◌++◌, drop, Option, Some, None, option_map, option_and_then, refl, ap, sym, ◌∙◌, append_assoc}
use Rattle.std.specs.Prelude.{if◌then◌else◌}
use Rattle.pattern_model.specs.Tree.{Item}
use Rattle.pattern_model.specs.Text.{Text}
use Rattle.pattern_model.specs.Classes.{Atom, class_part, part_from, class_atom, item_of_atom, range_to, range_of, makes_range, has_hyphens}

abbrev pub chosen : Bool → Bool → Atom → Text → Option (Atom × Text) → Option (List Item × Text)
chosen hyphens range a y o =
    if hyphens then Some (item_of_atom a ∷ Item.one 45 ∷ Item.one 45 ∷ [], drop 2 y)
    else if range then option_and_then (range_to a) o
    else Some (item_of_atom a ∷ [], y)

pub no_atom : (wide : Bool) (x : Text) → class_atom x ≡ None → class_part wide x ≡ None
unfolding class_part
no_atom wide x e = ap (option_and_then (part_from wide)) e

part_is : (wide : Bool) (x : Text) (a : Atom) (y : Text) (h r : Bool) → class_atom x ≡ Some (a, y) → has_hyphens wide (a, y) ≡ h →
    makes_range y ≡ r → class_part wide x ≡ chosen h r a y (class_atom (drop 1 y))
unfolding class_part part_from
part_is wide x a y h r e f g =
    ap (option_and_then (part_from wide)) e
    ∙ (ap (λ z. chosen z (makes_range y) a y (class_atom (drop 1 y))) f
    ∙ ap (λ z. chosen h z a y (class_atom (drop 1 y))) g)

pub with_hyphens : (wide : Bool) (x : Text) (a : Atom) (y hyphen end : Text) → class_atom x ≡ Some (a, y) → has_hyphens wide (a, y) ≡ true →
    hyphen ≡ drop 1 y → end ≡ drop 1 hyphen →
    class_part wide x ≡ Some (item_of_atom a ∷ Item.one 45 ∷ Item.one 45 ∷ [], end)
with_hyphens wide x a y hyphen end e f g k =
    part_is wide x a y true (makes_range y) e f refl ∙ ap (λ z. Some (item_of_atom a ∷ Item.one 45 ∷ Item.one 45 ∷ [], z)) (two y
    ∙ (ap (drop 1) (sym g) ∙ sym k))
  where
    two : (y : Text) → drop 2 y ≡ drop 1 (drop 1 y)
    two [] = refl
    two (c ∷ []) = refl
    two (c ∷ d ∷ y) = refl

pub alone : (wide : Bool) (x : Text) (a : Atom) (y : Text) → class_atom x ≡ Some (a, y) → has_hyphens wide (a, y) ≡ false →
    makes_range y ≡ false → class_part wide x ≡ Some (item_of_atom a ∷ [], y)
alone wide x a y e f g = part_is wide x a y false false e f g

pub no_end : (wide : Bool) (x : Text) (a : Atom) (y z : Text) → class_atom x ≡ Some (a, y) → has_hyphens wide (a, y) ≡ false →
    makes_range y ≡ true → z ≡ drop 1 y → class_atom z ≡ None → class_part wide x ≡ None
no_end wide x a y z e f g k n = part_is wide x a y false true e f g ∙ (ap (λ w. option_and_then (range_to a) (class_atom w)) (sym k)
    ∙ ap (option_and_then (range_to a)) n)

to_range : (wide : Bool) (x : Text) (a b : Atom) (y z end : Text) (o : Option Item) → class_atom x ≡ Some (a, y) →
    has_hyphens wide (a, y) ≡ false → makes_range y ≡ true → z ≡ drop 1 y → class_atom z ≡ Some (b, end) → range_of a b ≡ o →
    class_part wide x ≡ option_map (λ i. (i ∷ [], end)) o
to_range wide x a b y z end o e f g k n r =
    part_is wide x a y false true e f g
    ∙ (ap (λ w. option_and_then (range_to a) (class_atom w)) (sym k)
    ∙ (ap (option_and_then (range_to a)) n ∙ ap (option_map (λ i. (i ∷ [], end))) r))

pub no_range : (wide : Bool) (x : Text) (a b : Atom) (y z end : Text) → class_atom x ≡ Some (a, y) → has_hyphens wide (a, y) ≡ false →
    makes_range y ≡ true → z ≡ drop 1 y → class_atom z ≡ Some (b, end) → range_of a b ≡ None → class_part wide x ≡ None
no_range wide x a b y z end e f g k n r = to_range wide x a b y z end None e f g k n r

pub ranged : (wide : Bool) (x : Text) (a b : Atom) (i : Item) (y z end : Text) → class_atom x ≡ Some (a, y) →
    has_hyphens wide (a, y) ≡ false → makes_range y ≡ true → z ≡ drop 1 y → class_atom z ≡ Some (b, end) → range_of a b ≡ Some i →
    class_part wide x ≡ Some (i ∷ [], end)
ranged wide x a b i y z end e f g k n r = to_range wide x a b y z end (Some i) e f g k n r

pub three : (a b c d : List Item) (i j : Item) → b ≡ a ++ (i ∷ []) → c ≡ b ++ (Item.one 45 ∷ []) → d ≡ c ++ (Item.one 45 ∷ []) → i ≡ j →
    d ≡ a ++ (j ∷ Item.one 45 ∷ Item.one 45 ∷ [])
three a b c d i j e f g h =
    g ∙ (ap (λ z. z ++ (Item.one 45 ∷ [])) (f ∙ ap (λ z. z ++ (Item.one 45 ∷ [])) (e ∙ ap (λ z. a ++ (z ∷ [])) h))
    ∙ simp append_assoc)
