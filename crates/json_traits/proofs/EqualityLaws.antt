-- When a tree is the same as one of a kind.
use Rattle.std.proofs.Common.{rules, arith, Vec, Global, String, ◌≡◌, ◌+◌, ◌≤◌, ◌<◌, ℕ, ℤ, Bool, List, [], ◌∷◌, Some, drop, length, map, get_or, refl, sym, ap, subst, suc, ◌∙◌}
use Rattle.std.specs.Prelude.{IsTrue, ◌↔◌, string_bytes}
use Rattle.std.specs.Ordering.{int_eq}
use Rattle.std.proofs.lemmas.Bool.Decides.{Decides-int_eq}
use Rattle.std.proofs.lemmas.List.{drop_all, length-map}
use Rattle.std.proofs.Math.ListN.{get_or-map}
use Rattle.json_model.specs.Decimal.{Decimal as Written, IsSameValue}
use Rattle.json_model.specs.Parts.{elements_from, elements_of, if_array, if_object, members_from, pairs_of}
use Rattle.json_model.specs.Same.{Same, SameElements}
use Rattle.json_model.specs.Tree.{Tree, scalar, null, boolean, number, string, array, object, Elements}
use Rattle.json_exact.specs.Exact.{IsWorth}
use Rattle.json_exact.specs.Trees.{tree as value_tree, pairs}
use Rattle.json_exact.specs.declared.value.Value.{Value, Null, Array, Object, the_lemmas}
use Rattle.json_exact.specs.declared.number.Number.{Number}
use Rattle.json_exact.specs.declared.map.Map.{Map}
use Rattle.json_exact.proofs.TreeLaws.{tree-array, tree-object}
use Rattle.json_exact.proofs.WorthLaws.{same_as_written}
use Rattle.json_model.proofs.KindLaws.{if_object_is, pairs_in_from}
use Rattle.json_traits.proofs.ShapeLaws.{array_is_made, array_shape, object_is_made, object_shape}
use Rattle.json_traits.proofs.WalkLaws.{leads}

-- a test of two values tells whether what is written has one value
pub same_value : (d e : ℤ) (w v : Written) (r : Bool) → r ≡ int_eq d e → IsWorth d w → IsWorth e v → IsTrue r ↔ IsSameValue w v
same_value d e w v r is f g =
    let s = same_as_written d e w v f g in
    (λ h. s.0 ((Decides-int_eq d e).0 (sym is ∙ h)), λ h. is ∙ (Decides-int_eq d e).1 (s.1 h))

-- an array is the same as one of the same elements
pub same_array : (t u : Tree) (us : Elements) → Some t ≡ if_array u → SameElements (elements_from (elements_of u)) us ↔ Same u (array us)
same_array t u us e = (
  λ s. subst (λ (x : Tree). Same x (array us)) (sym (array_is_made t u e)) s,
  λ s. subst (λ (x : Tree). Same x (array us)) (array_is_made t u e) s,
)

-- an object is the same as another tree where what it is made of is
pub same_object : (t u v : Tree) → Some t ≡ if_object u → Same (object (members_from (pairs_of u))) v ↔ Same u v
same_object t u v e = (
  λ s. subst (λ (x : Tree). Same x v) (sym (object_is_made t u e)) s,
  λ s. subst (λ (x : Tree). Same x v) (object_is_made t u e) s,
)

-- objects that are the same have as many members
pub same_members : (t u : Tree) (qs : List (List ℕ × Tree)) → Some t ≡ if_object u → Same u (object (members_from qs)) → length (pairs_of t)
    ≡ length qs
same_members t u qs e h =
    let s = (same_object t u (object (members_from qs)) e).1 h in
    ap (λ (w : Tree). length (pairs_of w)) (if_object_is u e)
    ∙ sym (ap length (pairs_in_from (pairs_of u)))
    ∙ s.0
    ∙ ap length (pairs_in_from qs)

-- arrays that are the same have as many elements
pub same_count : (ts us : List Tree) → SameElements (elements_from ts) (elements_from us) → length ts ≡ length us
same_count [] [] s = refl
same_count [] (w ∷ ws) s = absurd s
same_count (v ∷ vs) [] s = absurd s
same_count (v ∷ vs) (w ∷ ws) s = ap suc (same_count vs ws s.1)

-- the trees of values, at a place
pub tree_leads : (vs : List Value) (i : ℕ) (v : Value) → i < length vs → v ≡ get_or vs i v → drop i (map value_tree vs)
    ≡ value_tree v ∷ drop (i + 1) (map value_tree vs)
tree_leads vs i v lt e =
    leads (map value_tree vs) i (value_tree v) (omega (arith, length-map vs value_tree)) (ap value_tree e ∙ sym (get_or-map value_tree vs i v))

-- what is left of two arrays decides whether they are the same
abbrev pub Decide : List Tree → List Tree → ℕ → Type 0
Decide ts us i = SameElements (elements_from (drop i ts)) (elements_from (drop i us)) ↔ SameElements (elements_from ts) (elements_from us)

module _ (ts us : List Tree) (i : ℕ) (left : Decide ts us i) where
  module _ (t u : Tree) (e : drop i ts ≡ t ∷ drop (i + 1) ts) (f : drop i us ≡ u ∷ drop (i + 1) us) where
    split : SameElements (elements_from (t ∷ drop (i + 1) ts)) (elements_from (u ∷ drop (i + 1) us)) ↔
        SameElements (elements_from ts) (elements_from us)
    split =
        subst (λ (xs : List Tree). SameElements (elements_from xs) (elements_from (u ∷ drop (i + 1) us)) ↔
        SameElements (elements_from ts) (elements_from us)) e
        (subst (λ (xs : List Tree). SameElements (elements_from (drop i ts)) (elements_from xs) ↔ SameElements (elements_from ts) (elements_from us))
        f left)

    -- the next two are the same, so what is left without them decides
    pub next_same : Same t u → Decide ts us (i + 1)
    next_same s = (λ r. split.0 (s, r), λ q. (split.1 q).1)

    -- the next two differ
    pub next_differs : (Same t u → ⊥) → SameElements (elements_from ts) (elements_from us) → ⊥
    next_differs n q = n (split.1 q).0

  -- nothing is left
  pub none_differs : length ts ≤ i → length us ≤ i → SameElements (elements_from ts) (elements_from us)
  none_differs le lf =
      left.0 (subst (λ (xs : List Tree). SameElements (elements_from xs) (elements_from (drop i us))) (sym (drop_all i ts le))
      (subst (λ (xs : List Tree). SameElements (elements_from []) (elements_from xs)) (sym (drop_all i us lf)) tt))

-- arrays are the same where their elements are
pub arrays_same : (t u v w : Tree) → Some t ≡ if_array v → Some u ≡ if_array w →
    SameElements (elements_from (elements_of t)) (elements_from (elements_of u)) ↔ Same v w
arrays_same t u v w e f =
    subst (λ (x : Tree). SameElements (elements_from (elements_of t)) (elements_from (elements_of u)) ↔ Same x w) (sym (array_shape t v e))
    (subst (λ (x : Tree). SameElements (elements_from (elements_of t)) (elements_from (elements_of u))
    ↔ Same (array (elements_from (elements_of t))) x) (sym (array_shape u w f)) (λ h. h, λ h. h))

-- objects are the same where their members are
pub objects_same : (t u v w : Tree) → Some t ≡ if_object v → Some u ≡ if_object w →
    Same (object (members_from (pairs_of t))) (object (members_from (pairs_of u))) ↔ Same v w
objects_same t u v w e f =
    subst (λ (x : Tree). Same (object (members_from (pairs_of t))) (object (members_from (pairs_of u))) ↔ Same x w) (sym (object_shape t v e))
    (subst (λ (x : Tree). Same (object (members_from (pairs_of t))) (object (members_from (pairs_of u)))
    ↔ Same (object (members_from (pairs_of t))) x) (sym (object_shape u w f)) (λ h. h, λ h. h))

-- objects that are the same have as many members
pub pairs_counted : (ps qs : List (List ℕ × Tree)) → Same (object (members_from ps)) (object (members_from qs)) → length ps ≡ length qs
pairs_counted ps qs s = sym (ap length (pairs_in_from ps)) ∙ s.0 ∙ ap length (pairs_in_from qs)

-- the tree of a value, by what the value is
module _ (v : Value) where
  pub null_tree : v ≡ Null → value_tree v ≡ scalar null
  null_tree e = let h : value_tree Null ≡ scalar null = search (rules, the_lemmas) in ap value_tree e ∙ h

  pub boolean_tree : (b : Bool) → v ≡ Value.Bool b → value_tree v ≡ scalar (boolean b)
  boolean_tree b e = let h : value_tree (Value.Bool b) ≡ scalar (boolean b) = search (rules, the_lemmas) in ap value_tree e ∙ h

  pub number_tree : (n : Number) → v ≡ Value.Number n → value_tree v ≡ scalar (number n)
  number_tree n e = let h : value_tree (Value.Number n) ≡ scalar (number n) = search (rules, the_lemmas) in ap value_tree e ∙ h

  pub string_tree : (s : String Global) (x : List ℕ) → v ≡ Value.String s → x ≡ string_bytes s → value_tree v ≡ scalar (string x)
  string_tree s x e is =
      let h : value_tree (Value.String s) ≡ scalar (string (string_bytes s)) = search (rules, the_lemmas) in
      ap value_tree e ∙ h ∙ ap (λ (y : List ℕ). scalar (string y)) (sym is)

  pub array_tree : (vs : Vec Value Global) (ws : List Value) → v ≡ Array vs → ws ≡ vs.items → value_tree v ≡ array (elements_from (map value_tree ws))
  array_tree vs ws e is =
      ap value_tree e ∙ tree-array vs ∙ ap (λ (us : List Value). array (elements_from (map value_tree us))) (sym is)

  pub object_tree : (m : Map) → v ≡ Object m → value_tree v ≡ object (members_from (pairs m))
  object_tree m e = ap value_tree e ∙ tree-object m

  -- a test of the tree is a test of the value's
  pub same_as : (t u : Tree) {b : Bool} → value_tree v ≡ u → IsTrue b ↔ Same t u → IsTrue b ↔ Same t (value_tree v)
  same_as t u {b = b} is h = subst (λ (w : Tree). IsTrue b ↔ Same t w) (sym is) h
