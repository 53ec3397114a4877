-- A container that is read, with those inside it, stands for the tree, and one that stands for a tree is read.
use Rattle.std.proofs.Common.{◌≡◌, ℕ, zero, suc, ◌+◌, ◌*◌, ◌^◌, ◌<◌, ◌≤◌, true, false, eqb, List, [], ◌∷◌, ◌++◌, length, map, Option, Some, None, refl, sym, ap, subst, ◌∙◌, arith, inl, inr}
use Rattle.std.proofs.lemmas.Bool.{eqb-true, ne_eqb, eq-eqb}
use Rattle.std.proofs.lemmas.List.{length-append, append-nil, length-map}
use Rattle.std.proofs.lemmas.List.Concat.{flat_map-append}
use Rattle.json_model.specs.Tree.{Scalar, null, boolean, number, string, Tree, scalar, array, object, Elements, no_elements, element, Members, no_members, member, keys}
use Rattle.jsonb_layout.specs.Layout.{Item, pieces, entries, words, flags, Laid, pad}
use Rattle.jsonb_layout.specs.declared.form.Form.{Form}
use Rattle.jsonb_layout.specs.declared.form.Form.TheVariants.{Array, Object, Lone}
use Rattle.jsonb_layout.specs.Stands.{key_item, padding, IsPadded, IsScalar, IsArray, IsObject, IsItem, AreElements, AreValues, Stands}
use Rattle.jsonb_layout.specs.Options.{◌>>=◌}
use Rattle.jsonb_layout.specs.inner.Reading.{Place, item_at, scalar_of, unpadded, keys_at, opened, ended, lone_item}
use Rattle.jsonb_layout.specs.inner.Trees.{item_by, elements_by, members, held_by, container_of, read, root_in, tree_of}
use Rattle.jsonb_layout.proofs.Tools.{chosen, bind_some, some_is, IsBytes, IsBytes-drop}
use Rattle.jsonb_layout.proofs.Runs.{Run, Fit, Run-nil, Run-none, Run-cons, Run-tail, Run-append, Run-split, after, item_takes, item_again}
use Rattle.jsonb_layout.proofs.Scalars.{scalar_takes, scalar_again, unpadded_takes, unpadded_again}
use Rattle.jsonb_layout.proofs.KeyRuns.{keys_take, keys_again}
use Rattle.jsonb_layout.proofs.Openings.{length-words, Opens, open_takes, open_again, opens_from, laid_from, run_over, first, last, ended_is, lone_takes, lone_again}

abbrev pub IsContainer : Tree → List ℕ → Type 0
IsContainer (scalar s) b = ⊥
IsContainer (array ts) b = IsArray (AreElements ts) b
IsContainer (object ms) b = IsObject (keys ms) (AreValues ms) b

-- what is read stands for what it is read to
abbrev pub Takes : (List ℕ → Option Tree) → Type 0
Takes inside = (b : List ℕ) (t : Tree) → IsBytes b → inside b ≡ Some t → IsContainer t b

abbrev Again : ℕ → (List ℕ → Option Tree) → Type 0
Again n inside = (b : List ℕ) (t : Tree) → length b < n → IsContainer t b → inside b ≡ Some t

held_item : (t : Tree) (at : ℕ) (x : Item) (q : List ℕ) → x.kind ≡ 5 → x.piece ≡ padding at ++ q → IsContainer t q → IsItem t at x
held_item (scalar s) at x q k e h = absurd h
held_item (array ts) at x q k e h = (k, (q, e, h))
held_item (object ms) at x q k e h = (k, (q, e, h))

pub item_takes_tree : (inside : List ℕ → Option Tree) → Takes inside → (at : ℕ) (x : Item) (t : Tree) → IsBytes x.piece
    → item_by inside at x ≡ Some t → IsItem t at x
item_takes_tree inside ok at x t fits e = elim (chosen (eqb x.kind 5) (unpadded at x.piece >>= inside)
    (scalar_of at x >>= λ s. Some (scalar s)) (Some t) e) [
      | inl g ↦
          let a = bind_some (unpadded at x.piece) inside t g.1 in
          let u = unpadded_takes at x.piece a.0 a.1 in
          held_item t at x a.0 (eqb-true x.kind 5 g.0) u.0 (ok a.0 t (rw u.1 (IsBytes-drop (pad at) x.piece fits)) a.2)
      | inr g ↦
          let a = bind_some (scalar_of at x) (λ s. Some (scalar s)) t g.1 in
          subst (λ (y : Tree). IsItem y at x) (some_is (scalar a.0) t a.2) (scalar_takes at x a.0 fits a.1)
    ]

-- a scalar has another kind than 5
pub not_five : (s : Scalar) (at : ℕ) (x : Item) → IsScalar s at x → x.kind ≡ 5 → ⊥
not_five null at x h e = omega (arith, h.0)
not_five (boolean true) at x h e = omega (arith, h.0)
not_five (boolean false) at x h e = omega (arith, h.0)
not_five (number d) at x h e = omega (arith, h.0)
not_five (string s) at x h e = omega (arith, h.0)

held_again : (inside : List ℕ → Option Tree) (n : ℕ) → Again n inside → (at : ℕ) (x : Item) (t : Tree) → length x.piece < n → x.kind ≡ 5
    → IsPadded (IsContainer t) at x.piece → item_by inside at x ≡ Some t
held_again inside n ok at x t lt k (q, e, h) =
    let len : length q ≤ length x.piece = omega (arith, ap length e, length-append (padding at) q) in
    rw (eq-eqb x.kind 5 k, unpadded_again at x.piece q e) (ok q t (omega arith) h)

item_again_tree : (inside : List ℕ → Option Tree) (n : ℕ) → Again n inside → (at : ℕ) (x : Item) (t : Tree) → length x.piece < n → IsItem t at x
    → item_by inside at x ≡ Some t
item_again_tree inside n ok at x (scalar s) lt h = rw (ne_eqb x.kind 5 (not_five s at x h), scalar_again at x s h) refl
item_again_tree inside n ok at x (array ts) lt h = held_again inside n ok at x (array ts) lt h.0 h.1
item_again_tree inside n ok at x (object ms) lt h = held_again inside n ok at x (object ms) lt h.0 h.1

-- ---- runs

-- how many elements there are
abbrev pub count : Elements → ℕ
count no_elements = 0
count (element t ts) = suc (count ts)

pub record TreeRun (p q : Place) (ts : Elements) (n : ℕ) : Type 0 where
  pub items : List Item
  pub run : Run p q items
  pub fit : Fit q
  pub trees : AreElements ts p.at items
  -- how many elements there are
  pub count : length items ≡ n

-- elements that are read are laid
pub elements_take : (inside : List ℕ → Option Tree) → Takes inside → (n : ℕ) (p : Place) (r : Elements × Place) → Fit p
    → elements_by inside n p ≡ Some r → TreeRun p r.1 r.0 n
unfolding elements_by
elements_take inside ok zero p r fit e =
    subst (λ (y : Elements × Place). TreeRun p y.1 y.0 0) (some_is (no_elements, p) r e)
    (record { items = []; run = Run-nil p; fit = fit; trees = tt; count = refl })
elements_take inside ok (suc n) p r fit e =
    let a = bind_some (item_at p) (λ x. item_by inside p.at x.0 >>= λ t. elements_by inside n x.1 >>= λ ts. Some (element t ts.0, ts.1)) r e in
    let b = bind_some (item_by inside p.at a.0.0) (λ t. elements_by inside n a.0.1 >>= λ ts. Some (element t ts.0, ts.1)) r a.2 in
    let c = bind_some (elements_by inside n a.0.1) (λ ts. Some (element b.0 ts.0, ts.1)) r b.2 in
    let one = item_takes p a.0.1 a.0.0 fit a.1 in
    let more = elements_take inside ok n a.0.1 c.0 one.1 c.1 in
    let at : a.0.1.at ≡ p.at + length a.0.0.piece = omega (arith, one.0.at, ap length (append-nil a.0.0.piece)) in
    let made : Elements × Place = (element b.0 c.0.0, c.0.1) in
    subst (λ (y : Elements × Place). TreeRun p y.1 y.0 (suc n)) (some_is made r c.2) (record {
      items = a.0.0 ∷ more.items;
      run = Run-cons p c.0.1 a.0.1 a.0.0 more.items one.0 more.run;
      fit = more.fit;
      trees = (item_takes_tree inside ok p.at a.0.0 b.0 one.2 b.1, subst (λ (k : ℕ). AreElements c.0.0 k more.items) at more.trees);
      count = ap suc more.count;
    })

elements_again : (inside : List ℕ → Option Tree) (n : ℕ) → Again n inside → (ts : Elements) (p q : Place) (xs : List Item) → Run p q xs
    → p.at + length (pieces xs) < 2 ^ 28 → length (pieces xs) < n → AreElements ts p.at xs → elements_by inside (count ts) p ≡ Some (ts, q)
unfolding elements_by
elements_again inside n ok no_elements p q [] run fits lt are = ap (λ (k : Place). Some (no_elements, k)) (Run-none p q run)
elements_again inside n ok no_elements p q (x ∷ xs) run fits lt are = absurd are
elements_again inside n ok (element t ts) p q [] run fits lt are = absurd are
elements_again inside n ok (element t ts) p q (x ∷ xs) run fits lt are =
    let len = length-append x.piece (pieces xs) in
    rw (
      item_again p q x xs run (omega (arith, len)),
      item_again_tree inside n ok p.at x t (omega (arith, len)) are.0,
      elements_again inside n ok ts (after p q x xs) q xs (Run-tail p q x xs run) (omega (arith, len)) (omega (arith, len)) are.1,
    ) refl

-- ---- objects

keys_are : (ks : List (List ℕ)) (ts : Elements) → length ks ≡ count ts → keys (members ks ts) ≡ ks
keys_are [] ts e = refl
keys_are (k ∷ ks) no_elements e = absurd cc
keys_are (k ∷ ks) (element t ts) e = ap (λ (m : List (List ℕ)). k ∷ m) (keys_are ks ts (omega arith))

values_are : (ks : List (List ℕ)) (ts : Elements) (at : ℕ) (xs : List Item) → length ks ≡ count ts → AreElements ts at xs
    → AreValues (members ks ts) at xs
values_are [] no_elements at xs e h = h
values_are [] (element t ts) at xs e h = absurd cc
values_are (k ∷ ks) no_elements at xs e h = absurd cc
values_are (k ∷ ks) (element t ts) at [] e h = h
values_are (k ∷ ks) (element t ts) at (x ∷ xs) e h = (h.0, values_are ks ts (at + length x.piece) xs (omega arith) h.1)

values_of : Members → Elements
values_of no_members = no_elements
values_of (member k t ms) = element t (values_of ms)

are_values : (ms : Members) (at : ℕ) (xs : List Item) → AreValues ms at xs → AreElements (values_of ms) at xs
unfolding values_of
are_values no_members at [] h = h
are_values no_members at (x ∷ xs) h = h
are_values (member k t ms) at [] h = h
are_values (member k t ms) at (x ∷ xs) h = (h.0, are_values ms (at + length x.piece) xs h.1)

members_back : (ms : Members) → members (keys ms) (values_of ms) ≡ ms
unfolding values_of
members_back no_members = refl
members_back (member k t ms) = ap (λ (m : Members). member k t m) (members_back ms)

keys_count : (ms : Members) → length (keys ms) ≡ count (values_of ms)
unfolding values_of
keys_count no_members = refl
keys_count (member k t ms) = ap suc (keys_count ms)

count_items : (ts : Elements) (at : ℕ) (xs : List Item) → AreElements ts at xs → count ts ≡ length xs
count_items no_elements at [] h = refl
count_items no_elements at (x ∷ xs) h = absurd h
count_items (element t ts) at [] h = absurd h
count_items (element t ts) at (x ∷ xs) h = ap suc (count_items ts (at + length x.piece) xs h.1)

-- ---- containers

held_takes : (inside : List ℕ → Option Tree) → Takes inside → (b : List ℕ) (f : Form) (c : ℕ) (p : Place) (t : Tree) → Opens b f c p → Fit p
    → held_by inside f c p ≡ Some t → IsContainer t b
held_takes inside ok b Array c p t o fit e =
    let a = bind_some (elements_by inside c p) (λ r. ended r.1 (array r.0)) t e in
    let d = ended_is a.0.1 (array a.0.0) t a.2 in
    let r = elements_take inside ok c p a.0 fit a.1 in
    subst (λ (y : Tree). IsContainer y b) d.1
    (r.items, laid_from o r.run r.count r.count d.0, subst (λ (k : ℕ). AreElements a.0.0 k r.items) o.at r.trees)
held_takes inside ok b Object c p t o fit e =
    let k = bind_some (keys_at c None p) (λ k. elements_by inside c k.1 >>= λ r. ended r.1 (object (members k.0 r.0))) t e in
    let a = bind_some (elements_by inside c k.0.1) (λ r. ended r.1 (object (members k.0.0 r.0))) t k.2 in
    let d = ended_is a.0.1 (object (members k.0.0 a.0.0)) t a.2 in
    let ks = keys_take c None p k.0 fit k.1 in
    let r = elements_take inside ok c k.0.1 a.0 ks.fit a.1 in
    let all = map key_item k.0.0 ++ r.items in
    let run = Run-append (map key_item k.0.0) r.items p k.0.1 a.0.1 ks.run r.run in
    let n : length all ≡ 2 * c = omega (arith, length-append (map key_item k.0.0) r.items, length-map k.0.0 key_item, ks.count, r.count) in
    let at : k.0.1.at ≡ length (pieces (map key_item k.0.0)) = omega (arith, ks.run.at, o.at) in
    let same : length k.0.0 ≡ count a.0.0 = omega (arith, ks.count, r.count, count_items a.0.0 k.0.1.at r.items r.trees) in
    let object_is : IsObject k.0.0 (AreValues (members k.0.0 a.0.0)) b = (
      r.items,
      laid_from o run n n d.0,
      ks.rise,
      values_are k.0.0 a.0.0 _ r.items same (subst (λ (i : ℕ). AreElements a.0.0 i r.items) at r.trees),
    ) in
    subst (λ (y : Tree). IsContainer y b) d.1
    (subst (λ (m : List (List ℕ)). IsObject m (AreValues (members k.0.0 a.0.0)) b) (sym (keys_are k.0.0 a.0.0 same)) object_is)
held_takes inside ok b Lone c p t o fit e = absurd cc

-- a container that is read stands for its tree
pub container_takes : (fuel : ℕ) → Takes (container_of fuel)
unfolding container_of
container_takes zero b t fits e = absurd cc
container_takes (suc fuel) b t fits e =
    let a = bind_some (opened b) (λ o. held_by (container_of fuel) o.0 o.1 o.2) t e in
    let o = open_takes b a.0.0 a.0.1 a.0.2 fits a.1 in
    held_takes (container_of fuel) (container_takes fuel) b a.0.0 a.0.1 a.0.2 t o.0 o.1 a.2

inside_less : (b : List ℕ) (f : Form) (xs : List Item) → Laid b f xs → length (pieces xs) < length b
inside_less b f xs l =
    let ws = (flags f * 2 ^ 28 + l.count) ∷ entries 0 0 xs in
    omega (arith, ap length l.bytes, length-append (words ws) (pieces xs), length-words ws)

pub container_again : (fuel : ℕ) → Again fuel (container_of fuel)
unfolding container_of
container_again zero b t lt h = absurd (omega arith)
container_again (suc fuel) b (scalar s) lt h = absurd h
container_again (suc fuel) b (array ts) lt (xs, l, are) =
    let o = open_again b Array l.count (first xs) (opens_from b Array xs l) in
    let less = inside_less b Array xs l in
    let n : l.count ≡ count ts = sym l.counted ∙ sym (count_items ts 0 xs are) in
    rw (
      o,
      n,
      elements_again (container_of fuel) fuel (container_again fuel) ts (first xs) (last xs) xs (run_over xs l.kinds) (omega (arith, l.pieces_fit))
          (omega arith) are,
    ) refl
container_again (suc fuel) b (object ms) lt (xs, l, rise, are) =
    let ks = keys ms in
    let ts = values_of ms in
    let all = map key_item ks ++ xs in
    let less = inside_less b Object all l in
    let o = open_again b Object l.count (first all) (opens_from b Object all l) in
    let split = Run-split (map key_item ks) xs (first all) (last all) (run_over all l.kinds) in
    let m = split.0 in
    let at : m.at ≡ length (pieces (map key_item ks)) = omega (arith, split.1.at) in
    let total : length (pieces all) ≡ length (pieces (map key_item ks)) + length (pieces xs) =
    ap length (flat_map-append (λ (x : Item). x.piece) (map key_item ks) xs) ∙ length-append (pieces (map key_item ks)) (pieces xs) in
    let trees = are_values ms (length (pieces (map key_item ks))) xs are in
    let n : l.count ≡ length ks =
    omega (
      arith,
      l.counted,
      length-append (map key_item ks) xs,
      length-map ks key_item,
      keys_count ms,
      count_items ts (length (pieces (map key_item ks))) xs trees,
    ) in
    rw (
      o,
      n,
      keys_again ks None (first all) m split.1 (omega (arith, total, l.pieces_fit)) rise,
      keys_count ms,
      elements_again (container_of fuel) fuel (container_again fuel) ts m (last all) xs split.2 (omega (arith, total, l.pieces_fit, at))
          (omega (arith, total)) (subst (λ (i : ℕ). AreElements ts i xs) (sym at) trees),
      members_back ms,
    ) refl

-- ---- a whole slice

pub stands_container : (t : Tree) (b : List ℕ) → IsContainer t b → Stands b t
stands_container (scalar s) b h = absurd h
stands_container (array ts) b h = h
stands_container (object ms) b h = h

-- the same without fuel
pub read_takes : (b : List ℕ) (t : Tree) → IsBytes b → read b ≡ Some t → Stands b t
unfolding read
read_takes b t fits e = stands_container t b (container_takes (suc (length b)) b t fits e)

-- a container that stands for a tree is read to it
pub read_again : (b : List ℕ) (t : Tree) → IsContainer t b → read b ≡ Some t
unfolding read
read_again b t h = container_again (suc (length b)) b t (omega arith) h

root_in_takes : (f : Form) (b : List ℕ) (t : Tree) → IsBytes b → root_in f b ≡ Some t → Stands b t
root_in_takes Array b t fits e = read_takes b t fits e
root_in_takes Object b t fits e = read_takes b t fits e
root_in_takes Lone b t fits e =
    let a = bind_some (lone_item b) (λ x. scalar_of 0 x >>= λ s. Some (scalar s)) t e in
    let s = bind_some (scalar_of 0 a.0) (λ s. Some (scalar s)) t a.2 in
    let l = lone_takes b a.0 fits a.1 in
    subst (Stands b) (some_is (scalar s.0) t s.2) (a.0, l.0, scalar_takes 0 a.0 s.0 l.1 s.1)

-- A slice that is read stands for the tree that is read.
pub tree_takes : (b : List ℕ) (t : Tree) → IsBytes b → tree_of b ≡ Some t → Stands b t
unfolding tree_of
tree_takes b t fits e =
    let a = bind_some (opened b) (λ o. root_in o.0 b) t e in
    root_in_takes a.0.0 b t fits a.2

-- A slice that stands for a tree is read as that tree.
pub tree_again : (b : List ℕ) (t : Tree) → Stands b t → tree_of b ≡ Some t
unfolding tree_of
tree_again b (scalar s) (x, l, h) =
    rw (open_again b Lone l.count (first (x ∷ [])) (opens_from b Lone (x ∷ []) l), lone_again b x l, scalar_again 0 x s h) refl
tree_again b (array ts) h = rw (open_again b Array h.1.count (first h.0) (opens_from b Array h.0 h.1)) (read_again b (array ts) h)
tree_again b (object ms) h = rw (open_again b Object h.1.count (first _) (opens_from b Object _ h.1)) (read_again b (object ms) h)

-- Bytes stand for one tree.
pub one_tree : (b : List ℕ) (t u : Tree) → Stands b t → Stands b u → t ≡ u
one_tree b t u h k = some_is t u (sym (tree_again b t h) ∙ tree_again b u k)
