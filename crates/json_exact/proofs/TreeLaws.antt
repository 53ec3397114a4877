-- The trees of values and the pairs of maps, a level at a time.
use Rattle.std.proofs.Common.{rules, suc, ◌≡◌, ℕ, List, [], ◌∷◌, map, length, Vec, Global, refl, sym, ap, subst, ◌∙◌}
use Rattle.std.specs.Borrow.{Bor}
use Rattle.std.specs.Option.{option_copied}
use Rattle.std.specs.List.Sorted.{IsPermutation}
use Rattle.std.proofs.lemmas.List.Sorted.{IsPermutation-map}
use Rattle.std.specs.Prelude.{Option, Some, None, option_map, bytes_eq, if◌then◌else◌, Bool, true, false}
use Rattle.json_model.specs.Tree.{Tree, array, object}
use Rattle.json_model.specs.Parts.{elements_from, members_from, lookup}
use Rattle.key_map.specs.Pairs.{pair_of}
use Rattle.key_map.specs.declared.map.Member.{Member}
use Rattle.json_exact.specs.Trees.{Pairs, value_step, map_step, tree, pairs, member_pair}
use Rattle.json_exact.specs.declared.value.Value.{Value, Array, Object, the_lemmas}
use Rattle.json_exact.specs.declared.map.Map.{Map}
use Rattle.json_exact.specs.declared.value.Value.TheFolds.{fold_out-Map}

abbrev pub value_pair : List ℕ × Value → List ℕ × Tree
value_pair p = (p.0, tree p.1)

fused : (ps : List (List ℕ × Value)) → map {A = List ℕ × Tree} {B = List ℕ × Tree} (λ p. p) (map value_pair ps) ≡ map value_pair ps
fused [] = refl
fused (p ∷ ps) = ap (λ (r : Pairs). value_pair p ∷ r) (fused ps)

-- the pairs of a map are those of its members
pub pairs-of : (m : Map) → pairs m ≡ map value_pair m.members
pairs-of m = fold_out-Map Tree Pairs value_step map_step m

pub tree-array : (v : Vec Value Global) → tree (Array v) ≡ array (elements_from (map tree v.items))
tree-array v = search (rules, the_lemmas)

pub tree-object : (m : Map) → tree (Object m) ≡ object (members_from (pairs m))
tree-object m = search (rules, the_lemmas)

-- what stands under a key of a map is the tree of the value under it
pub lookup-map : (k : List ℕ) (ps : List (List ℕ × Value)) → lookup k (map value_pair ps) ≡ option_map tree (lookup k ps)
lookup-map k [] = refl
lookup-map k (p ∷ ps) = go (bytes_eq k p.0) (lookup-map k ps)
  where
    go : (t : Bool) → lookup k (map value_pair ps) ≡ option_map tree (lookup k ps)
        → (if t then Some (tree p.1) else lookup k (map value_pair ps)) ≡ option_map tree (if t then Some p.1 else lookup k ps)
    go true e = refl
    go false e = e

-- the pairs of members, as they are borrowed
pub members-pairs : (ms : List (Member Value)) → map value_pair (map pair_of ms) ≡ map member_pair ms
members-pairs [] = refl
members-pairs (m ∷ ms) = ap (λ (r : Pairs). member_pair m ∷ r) (members-pairs ms)

pub none-left : (ps : List (List ℕ × Value)) → map value_pair ps ≡ [] → ps ≡ []
none-left [] e = refl
none-left (p ∷ ps) e = absurd cc

pub keys-same : (ps : List (List ℕ × Value)) → map (λ (p : List ℕ × Tree). p.0) (map value_pair ps) ≡ map (λ (p : List ℕ × Value). p.0) ps
keys-same [] = refl
keys-same (p ∷ ps) = ap (λ (r : List (List ℕ)). p.0 ∷ r) (keys-same ps)

pub count-same : (ps : List (List ℕ × Value)) → length (map value_pair ps) ≡ length ps
count-same [] = refl
count-same (p ∷ ps) = ap (λ (n : ℕ). suc n) (count-same ps)

-- what stands under a key of a map
pub under : (k : List ℕ) (m : Map) → lookup k (pairs m) ≡ option_map tree (lookup k m.members)
under k m = ap (lookup k) (pairs-of m) ∙ lookup-map k m.members

-- the trees of a borrowed value and of the value that it is
pub seen-tree : (o : Option (Bor Value)) → option_map (λ v. tree v.now) o ≡ option_map tree (option_copied o)
seen-tree None = refl
seen-tree (Some v) = refl

-- the tree under a key, where a value was put under one
pub put-tree : (b : Bool) (v : Value) (o : Option Value) (r : Option Tree) → option_map tree o ≡ r
    → option_map tree (if b then Some v else o) ≡ (if b then Some (tree v) else r)
put-tree true v o r e = refl
put-tree false v o r e = e

-- the pairs of members in another order are theirs in another order
pub members-moved : (ms : List (Member Value)) (m : Map) → IsPermutation (map pair_of ms) m.members → IsPermutation (map member_pair ms) (pairs m)
members-moved ms m p =
    subst (λ (ps : Pairs). IsPermutation ps (pairs m)) (members-pairs ms)
    (subst (λ (ps : Pairs). IsPermutation (map value_pair (map pair_of ms)) ps) (sym (pairs-of m))
    (IsPermutation-map value_pair (map pair_of ms) m.members p))
