-- An array or object is what its parts make, and what stands inside it nests less deep.
use Rattle.std.proofs.Common.{◌≡◌, ◌+◌, ◌≤◌, ℕ, zero, suc, List, [], ◌∷◌, Some, None, refl, ap, sym, arith, ◌∙◌}
use Rattle.std.specs.Prelude.{slice_get}
use Rattle.json_model.proofs.KindLaws.{if_array_is, if_object_is}
use Rattle.json_model.specs.Nest.{nest, nest_elements, nest_members}
use Rattle.json_model.specs.Parts.{elements_from, elements_of, if_array, if_object, members_from, pairs_in, pairs_of, trees_in}
use Rattle.json_model.specs.Tree.{Tree, null, boolean, number, string, scalar, array, object, Elements, no_elements, element, Members, no_members, member}

-- members are made of their pairs
pub members_from_pairs : (ms : Members) → members_from (pairs_in ms) ≡ ms
members_from_pairs no_members = refl
members_from_pairs (member k v ms) = ap (λ r. member k v r) (members_from_pairs ms)

-- elements are made of their trees
pub elements_from_trees : (ts : Elements) → elements_from (trees_in ts) ≡ ts
elements_from_trees no_elements = refl
elements_from_trees (element t ts) = ap (λ r. element t r) (elements_from_trees ts)

-- a tree that is seen as an object is made of its pairs
pub object_is_made : (t u : Tree) → Some t ≡ if_object u → u ≡ object (members_from (pairs_of u))
object_is_made t (scalar null) e = cc
object_is_made t (scalar (boolean b)) e = cc
object_is_made t (scalar (number n)) e = cc
object_is_made t (scalar (string s)) e = cc
object_is_made t (array ts) e = cc
object_is_made t (object ms) e = ap object (sym (members_from_pairs ms))

-- a tree that is seen as an array is made of its elements
pub array_is_made : (t u : Tree) → Some t ≡ if_array u → u ≡ array (elements_from (elements_of u))
array_is_made t (scalar null) e = cc
array_is_made t (scalar (boolean b)) e = cc
array_is_made t (scalar (number n)) e = cc
array_is_made t (scalar (string s)) e = cc
array_is_made t (array ts) e = ap array (sym (elements_from_trees ts))
array_is_made t (object ms) e = cc

-- a tree is the object that it is seen as
pub object_shape : (t u : Tree) → Some t ≡ if_object u → u ≡ object (members_from (pairs_of t))
object_shape t u e = object_is_made t u e ∙ ap (λ w. object (members_from (pairs_of w))) (sym (if_object_is u e))

-- a tree is the array that it is seen as
pub array_shape : (t u : Tree) → Some t ≡ if_array u → u ≡ array (elements_from (elements_of t))
array_shape t u e = array_is_made t u e ∙ ap (λ w. array (elements_from (elements_of w))) (sym (if_array_is u e))

-- a value that is neither array nor object nests nothing
pub scalar_nests : (u : Tree) → None ≡ if_array u → None ≡ if_object u → nest u ≡ 0
scalar_nests (scalar x) e f = refl
scalar_nests (array ts) e f = cc
scalar_nests (object ms) e f = cc

-- the value of a member nests no deeper than all of them
pub pair_nests : (ps : List (List ℕ × Tree)) (k : ℕ) (p : List ℕ × Tree) → slice_get ps k ≡ Some p → nest p.1 ≤ nest_members (members_from ps)
pair_nests [] k p e = cc
pair_nests (q ∷ ps) zero p e = let h : q ≡ p = cc in rw h (omega arith)
pair_nests (q ∷ ps) (suc k) p e = let h = pair_nests ps k p e in omega arith

-- an element nests no deeper than all of them
pub element_nests : (ts : List Tree) (k : ℕ) (t : Tree) → slice_get ts k ≡ Some t → nest t ≤ nest_elements (elements_from ts)
element_nests [] k t e = cc
element_nests (u ∷ ts) zero t e = let h : u ≡ t = cc in rw h (omega arith)
element_nests (u ∷ ts) (suc k) t e = let h = element_nests ts k t e in omega arith

-- an array or object nests one deeper than its parts
pub array_nests : (t u : Tree) → Some t ≡ if_array u → nest u ≡ 1 + nest_elements (elements_from (elements_of t))
array_nests t u e = ap nest (array_shape t u e)

pub object_nests : (t u : Tree) → Some t ≡ if_object u → nest u ≡ 1 + nest_members (members_from (pairs_of t))
object_nests t u e = ap nest (object_shape t u e)
