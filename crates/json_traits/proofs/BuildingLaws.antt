-- The trees of values that are built.
use Rattle.std.proofs.Common.{◌≡◌, ◌+◌, ◌++◌, ◌∷◌, [], ℕ, Bool, List, Some, None, Vec, Global, String, string_bytes, refl, ap, map, sym, take, ◌∙◌}
use Rattle.std.proofs.lemmas.List.{map-append}
use Rattle.json_model.specs.Parts.{as_boolean, as_number, as_string, elements_from, elements_of, if_array, if_object, members_from, pairs_of}
use Rattle.json_model.specs.Tree.{Tree, scalar, null, boolean, number, string, array, object}
use Rattle.json_exact.specs.Trees.{Pairs, tree as value_tree, pairs}
use Rattle.json_exact.specs.declared.map.Map.{Map}
use Rattle.json_exact.specs.declared.value.Value.{Value, Null, Array, Object}
use Rattle.json_exact.specs.declared.number.Number.{Number}
use Rattle.json_exact.proofs.TreeLaws.{tree-array, tree-object}
use Rattle.json_traits.proofs.EqualityLaws.{null_tree, boolean_tree, number_tree, string_tree}
use Rattle.json_traits.proofs.ShapeLaws.{array_shape, object_shape}

-- one more value is built
pub built_more : (vs ws : List Value) (v : Value) (ts : List Tree) (k : ℕ) (t : Tree) → ws ≡ vs ++ v ∷ [] → map value_tree vs ≡ take k ts →
    value_tree v ≡ t
    → take (k + 1) ts ≡ take k ts ++ t ∷ [] → map value_tree ws ≡ take (k + 1) ts
built_more vs ws v ts k t e f h front =
    ap (map value_tree) e
    ∙ map-append value_tree vs (v ∷ [])
    ∙ ap (λ (xs : List Tree). xs ++ value_tree v ∷ []) f
    ∙ ap (λ (x : Tree). take k ts ++ x ∷ []) h
    ∙ sym front

-- an array of values of an array's elements has its tree
pub array_built : (v : Vec Value Global) (t u : Tree) → map value_tree v.items ≡ elements_of t → Some t ≡ if_array u → value_tree (Array v) ≡ u
array_built v t u e f = tree-array v ∙ ap (λ (ts : List Tree). array (elements_from ts)) e ∙ sym (array_shape t u f)

-- a map of an object's members has its tree
pub object_built : (m : Map) (t u : Tree) → pairs m ≡ pairs_of t → Some t ≡ if_object u → value_tree (Object m) ≡ u
object_built m t u e f = tree-object m ∙ ap (λ (ps : Pairs). object (members_from ps)) e ∙ sym (object_shape t u f)

-- a value of the scalar that a tree is seen as has the tree
pub string_built : (u : Tree) (s : String Global) (x : List ℕ) → string_bytes s ≡ x → Some x ≡ as_string u → value_tree (Value.String s) ≡ u
string_built (scalar null) s x e f = absurd cc
string_built (scalar (boolean b)) s x e f = absurd cc
string_built (scalar (number n)) s x e f = absurd cc
string_built (scalar (string y)) s x e f = let g : x ≡ y = cc in string_tree (Value.String s) s y refl (sym (e ∙ g))
string_built (array ts) s x e f = absurd cc
string_built (object ms) s x e f = absurd cc

pub number_built : (u : Tree) (n : Number) → Some n ≡ as_number u → value_tree (Value.Number n) ≡ u
number_built (scalar null) n f = absurd cc
number_built (scalar (boolean b)) n f = absurd cc
number_built (scalar (number m)) n f = let g : n ≡ m = cc in number_tree (Value.Number n) n refl ∙ ap (λ k. scalar (number k)) g
number_built (scalar (string y)) n f = absurd cc
number_built (array ts) n f = absurd cc
number_built (object ms) n f = absurd cc

pub boolean_built : (u : Tree) (b : Bool) → Some b ≡ as_boolean u → value_tree (Value.Bool b) ≡ u
boolean_built (scalar null) b f = absurd cc
boolean_built (scalar (boolean d)) b f = let g : b ≡ d = cc in boolean_tree (Value.Bool b) b refl ∙ ap (λ k. scalar (boolean k)) g
boolean_built (scalar (number m)) b f = absurd cc
boolean_built (scalar (string y)) b f = absurd cc
boolean_built (array ts) b f = absurd cc
boolean_built (object ms) b f = absurd cc

pub null_built : (u : Tree) → None ≡ if_array u → None ≡ if_object u → None ≡ as_string u → None ≡ as_number u → None ≡ as_boolean u
    → value_tree Null ≡ u
null_built (scalar null) a o s n b = null_tree Null refl
null_built (scalar (boolean d)) a o s n b = absurd cc
null_built (scalar (number m)) a o s n b = absurd cc
null_built (scalar (string y)) a o s n b = absurd cc
null_built (array ts) a o s n b = absurd cc
null_built (object ms) a o s n b = absurd cc
