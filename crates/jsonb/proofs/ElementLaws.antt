-- An array or object is made of what its iterator has to give.
use Rattle.std.proofs.Common.{◌≡◌, ℕ, List, Some, sym, ap, ◌∙◌}
use Rattle.json_model.specs.Parts.{elements_from, elements_of, if_array, if_object, members_from, pairs_of}
use Rattle.json_model.specs.Tree.{Tree, array, object}
use Rattle.json_traits.proofs.ShapeLaws.{array_shape, object_shape}

-- a tree is the array of its elements
pub array_seen : (t u : Tree) (ts : List Tree) → ts ≡ elements_of t → Some t ≡ if_array u → array (elements_from ts) ≡ u
array_seen t u ts e h = ap (λ (xs : List Tree). array (elements_from xs)) e ∙ sym (array_shape t u h)

-- a tree is the object of its members
pub object_seen : (t u : Tree) (ps : List (List ℕ × Tree)) → ps ≡ pairs_of t → Some t ≡ if_object u → object (members_from ps) ≡ u
object_seen t u ps e h = ap (λ (xs : List (List ℕ × Tree)). object (members_from xs)) e ∙ sym (object_shape t u h)
