-- Copies of values, and how deep what stands in a value nests.
use Rattle.std.proofs.Common.{◌≡◌, ◌+◌, ◌*◌, ◌≤◌, ◌<◌, ℕ, List, [], ◌∷◌, ◌++◌, Vec, Global, suc, map, length, take, get_or, ap, sym, arith, add-one, take_all, ◌∙◌}
use Rattle.std.proofs.Math.Seq.{take-suc}
use Rattle.std.proofs.lemmas.List.{map-append}
use Rattle.json_model.specs.Nest.{nest, nest_elements, nest_members}
use Rattle.json_model.specs.Parts.{elements_from, members_from}
use Rattle.json_model.specs.Tree.{Tree, array, object}
use Rattle.json_exact.specs.Trees.{Pairs, tree, pairs}
use Rattle.json_exact.specs.declared.map.Map.{Map}
use Rattle.json_exact.specs.declared.value.Value.{Value, Array, Object}
use Rattle.json_exact.proofs.TreeLaws.{tree-array, tree-object}

-- what stands inside is measured below it, and the parts of a container together below the container
pub inside_below : (n m t : ℕ) → n ≤ m → 2 * m + 1 ≡ t → 2 * n < t
inside_below n m t le e = omega arith

pub parts_below : (n m t : ℕ) → n ≡ 1 + m → 2 * n ≡ t → 2 * m + 1 < t
parts_below n m t s e = omega arith

module _ (v : Value) where
  array_tree : (vs : Vec Value Global) (ws : List Value) → v ≡ Array vs → ws ≡ vs.items → tree v ≡ array (elements_from (map tree ws))
  array_tree vs ws e is = ap tree e ∙ tree-array vs ∙ ap (λ (us : List Value). array (elements_from (map tree us))) (sym is)

  object_tree : (m : Map) → v ≡ Object m → tree v ≡ object (members_from (pairs m))
  object_tree m e = ap tree e ∙ tree-object m

  -- an array or object nests one deeper than its parts
  pub array_nests : (vs : Vec Value Global) (ws : List Value) → v ≡ Array vs → ws ≡ vs.items
      → nest (tree v) ≡ 1 + nest_elements (elements_from (map tree ws))
  array_nests vs ws e is = ap nest (array_tree vs ws e is)

  pub object_nests : (m : Map) → v ≡ Object m → nest (tree v) ≡ 1 + nest_members (members_from (pairs m))
  object_nests m e = ap nest (object_tree m e)

  -- it is copied where its parts are
  pub array_copied : (vs us : Vec Value Global) (ws : List Value) → v ≡ Array vs → ws ≡ vs.items → map tree us.items ≡ map tree ws
      → tree (Array us) ≡ tree v
  array_copied vs us ws e is same =
      tree-array us ∙ ap (λ (ts : List Tree). array (elements_from ts)) same ∙ sym (array_tree vs ws e is)

  pub object_copied : (m n : Map) → v ≡ Object m → pairs n ≡ pairs m → tree (Object n) ≡ tree v
  object_copied m n e same = tree-object n ∙ ap (λ (ps : Pairs). object (members_from ps)) same ∙ sym (object_tree m e)

-- the rest of some pairs nests no deeper than they do
pub rest_inside : (p : List ℕ × Tree) (ps rest : Pairs) (m : ℕ) → ps ≡ p ∷ rest → nest_members (members_from ps) ≤ m
    → nest_members (members_from rest) ≤ m
rest_inside p ps rest m first le = let same = ap (λ (zs : Pairs). nest_members (members_from zs)) first in omega arith

-- and so does the value of the first
pub first_inside : (p : List ℕ × Tree) (ps rest : Pairs) (m : ℕ) → ps ≡ p ∷ rest → nest_members (members_from ps) ≤ m → nest p.1 ≤ m
first_inside p ps rest m first le = let same = ap (λ (zs : Pairs). nest_members (members_from zs)) first in omega arith

-- one element more is copied
pub one_copied : (cs ds es : List Value) (i : ℕ) (c v : Value) → i < length es → v ≡ get_or es i v → tree c ≡ tree v → ds ≡ cs ++ c ∷ []
    → map tree cs ≡ map tree (take i es) → map tree ds ≡ map tree (take (i + 1) es)
one_copied cs ds es i c v lt is same pushed so_far =
    let one : i + 1 ≡ suc i = add-one i in
    let more = take-suc es i v lt in
    let left : map tree ds ≡ map tree cs ++ tree c ∷ [] = ap (map tree) pushed ∙ map-append tree cs (c ∷ []) in
    let right : map tree (take i es ++ get_or es i v ∷ []) ≡ map tree (take i es) ++ tree (get_or es i v) ∷ [] =
    map-append tree (take i es) (get_or es i v ∷ []) in
    let here : tree c ≡ tree (get_or es i v) = same ∙ ap tree is in
    let whole = ap (map tree) more in
    let begun = ap (λ (ts : List Tree). ts ++ tree c ∷ []) so_far in
    let ended = ap (λ (t : Tree). map tree (take i es) ++ t ∷ []) here in
    rw one (left ∙ begun ∙ ended ∙ sym right ∙ sym whole)

-- all are
pub all_copied : (cs es : List Value) (i : ℕ) → length es ≤ i → map tree cs ≡ map tree (take i es) → map tree cs ≡ map tree es
all_copied cs es i le so_far = so_far ∙ ap (map tree) (take_all i es le)
