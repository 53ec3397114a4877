-- Walking over the members of an object.
use Rattle.std.proofs.Common.{◌≡◌, ℕ, zero, suc, ◌-◌, ◌<◌, ◌≤◌, Bool, true, eqb, List, [], ◌∷◌, length, map, Option, Some, None, refl, sym, ap, subst, ◌∙◌, arith, ◌*◌}
use Rattle.std.specs.Prelude.{IsTrue, ◌↔◌, option_map, ◌&&◌, not, ◌||◌, false}
use Rattle.std.proofs.lemmas.Bool.{eqb-true}
use Rattle.std.specs.Str.{is_utf8}
use Rattle.json_model.specs.Keys.{rises}
use Rattle.json_model.specs.Parts.{pairs_in, pairs_of, trees_in, elements_of, if_object, if_array}
use Rattle.json_model.specs.Tree.{Tree, array, object, Elements, no_elements, element, Members}
use Rattle.jsonb_layout.specs.Layout.{Item}
use Rattle.jsonb_layout.specs.declared.form.Form.{Form}
use Rattle.jsonb_layout.specs.declared.form.Form.TheVariants.{Array, Object, Lone}
use Rattle.jsonb_layout.specs.Options.{◌>>=◌}
use Rattle.jsonb_layout.specs.inner.Reading.{Place, item_at, keys_at, opened, ended}
use Rattle.jsonb_layout.specs.inner.Trees.{elements_by, members, held_by, read, item_tree}
use Rattle.jsonb_layout.proofs.Containers.{count}
use Rattle.jsonb_layout.proofs.Openings.{ended_is}
use Rattle.jsonb_layout.proofs.Shapes.{elements_count, keys_count, keys_rise}
use Rattle.jsonb_layout.proofs.Tools.{bind_some, some_is, some, less_one}
use Rattle.jsonb_layout.proofs.Unrolled.{read_unroll}
use Rattle.jsonb.specs.Found.{both, text_found, tree_found, members_found}
use Rattle.jsonb.specs.inner.Values.{or_null, is_clean, IsJsonTree, array_at, object_at, names_at, members_at, AreJsonMembers, or_no_pairs, pairs_at, skip}
use Rattle.jsonb.specs.declared.found.Found.{Found}
use Rattle.jsonb.proofs.KindLaws.{text_clean}
use Rattle.jsonb.specs.inner.Views.{place}
use Rattle.jsonb.specs.declared.object.JsonbObject.{JsonbObject}
use Rattle.jsonb.specs.declared.members.JsonbMembers.{JsonbMembers}
use Rattle.jsonb.proofs.Walks.{skip_words}
use Rattle.jsonb_layout.proofs.NextKey.{next_key}

-- ---- a container's tree

module _ (b : List ℕ) (json : IsJsonTree (read b)) where
  by_opened : (o : Option (Form × ℕ × Place)) → o ≡ opened b → read b ≡ (o >>= λ o. held_by read o.0 o.1 o.2)
  by_opened o e = read_unroll b ∙ ap (λ (o : Option (Form × ℕ × Place)). o >>= λ o. held_by read o.0 o.1 o.2) (sym e)

  none_never : read b ≡ None → ⊥
  none_never e = let h : IsJsonTree None = subst IsJsonTree e json in cc

  -- a container that is read has a header
  pub opens : None ≡ opened b → ⊥
  opens e = none_never (by_opened None e)

  -- a container that is read is no root scalar
  pub not_lone : {c : ℕ} {p : Place} → Some (Lone, c, p) ≡ opened b → ⊥
  not_lone e = none_never (by_opened _ e)

  there : (r : Option Tree) → IsJsonTree r → (t : Tree) × (r ≡ Some t)
  there None h = absurd cc
  there (Some t) h = (t, refl)

  -- an array's tree is that of its elements
  pub array_read : (c : ℕ) (p : Place) → Some (Array, c, p) ≡ opened b → (ts : Elements) × (read b ≡ Some (array ts)) × (array_at c p ≡ read b)
  array_read c p e =
      let t = there (read b) json in
      let h = sym (by_opened (Some (Array, c, p)) e) ∙ t.1 in
      let a = bind_some (elements_by read c p) (λ r. ended r.1 (array r.0)) t.0 h in
      let d = ended_is a.0.1 (array a.0.0) t.0 a.2 in
      let is : read b ≡ Some (array a.0.0) = t.1 ∙ ap some (sym d.1) in
      (a.0.0, is, ap (λ (o : Option (Elements × Place)). o >>= λ r. some (array r.0)) a.1 ∙ sym is)

  -- an object's tree is that of its keys and values
  pub object_read : (c : ℕ) (p : Place) → Some (Object, c, p) ≡ opened b → (ms : Members) × (read b ≡ Some (object ms)) × (object_at c p ≡ read b)
  object_read c p e =
      let t = there (read b) json in
      let h = sym (by_opened (Some (Object, c, p)) e) ∙ t.1 in
      let k = bind_some (keys_at c None p) (λ k. elements_by read c k.1 >>= λ r. ended r.1 (object (members k.0 r.0))) t.0 h in
      let a = bind_some (elements_by read c k.0.1) (λ r. ended r.1 (object (members k.0.0 r.0))) t.0 k.2 in
      let d = ended_is a.0.1 (object (members k.0.0 a.0.0)) t.0 a.2 in
      let is : read b ≡ Some (object (members k.0.0 a.0.0)) = t.1 ∙ ap some (sym d.1) in (
        members k.0.0 a.0.0,
        is,
        ap (λ (o : Option (List (List ℕ) × Place)). o >>= λ k. elements_by read c k.1 >>= λ r. some (object (members k.0 r.0))) k.1
            ∙ ap (λ (o : Option (Elements × Place)). o >>= λ r. some (object (members k.0.0 r.0))) a.1
            ∙ sym is,
      )

-- ---- what was opened

abbrev some_list : List (List ℕ × Tree) → Option (List (List ℕ × Tree))
some_list l = Some l

module _ (b : List ℕ) (json : IsJsonTree (read b)) {c : ℕ} {p : Place} where
  -- the elements of an array that was opened are JSON
  pub array_stands : Some (Array, c, p) ≡ opened b → IsJsonTree (array_at c p)
  array_stands e = subst IsJsonTree (sym (array_read b json c p e).2) json

  -- an array that was opened is one
  pub array_is : Some (Array, c, p) ≡ opened b → Some (or_null (array_at c p)) ≡ if_array (or_null (read b))
  array_is e =
      let a = array_read b json c p e in
      ap (λ (r : Option Tree). some (or_null r)) (a.2 ∙ a.1) ∙ ap (λ (r : Option Tree). if_array (or_null r)) (sym a.1)

  -- and no object
  pub array_no_object : Some (Array, c, p) ≡ opened b → None ≡ if_object (or_null (read b))
  array_no_object e = ap (λ (r : Option Tree). if_object (or_null r)) (sym (array_read b json c p e).1)

  -- the members of an object that was opened are JSON
  pub object_stands : Some (Object, c, p) ≡ opened b → IsJsonTree (object_at c p)
  object_stands e = subst IsJsonTree (sym (object_read b json c p e).2) json

  -- an object that was opened is one
  pub object_is : Some (Object, c, p) ≡ opened b → Some (or_null (object_at c p)) ≡ if_object (or_null (read b))
  object_is e =
      let o = object_read b json c p e in
      ap (λ (r : Option Tree). some (or_null r)) (o.2 ∙ o.1) ∙ ap (λ (r : Option Tree). if_object (or_null r)) (sym o.1)

  -- and no array
  pub object_no_array : Some (Object, c, p) ≡ opened b → None ≡ if_array (or_null (read b))
  object_no_array e = ap (λ (r : Option Tree). if_array (or_null r)) (sym (object_read b json c p e).1)

-- ---- lengths

length_trees : (ts : Elements) → length (trees_in ts) ≡ count ts
length_trees no_elements = refl
length_trees (element t ts) = ap suc (length_trees ts)

-- an array has as many elements as it counts
pub array_length : (c : ℕ) (p : Place) → IsJsonTree (array_at c p) → c ≡ length (elements_of (or_null (array_at c p)))
array_length c p h = go (elements_by read c p) refl h
  where
    go : (r : Option (Elements × Place)) → elements_by read c p ≡ r → IsJsonTree (r >>= λ r. some (array r.0))
        → c ≡ length (elements_of (or_null (r >>= λ r. some (array r.0))))
    go None e h = absurd cc
    go (Some r) e h = sym (length_trees r.0 ∙ elements_count read c p r e)

-- what an object of so many members, whose keys begin at a place, is made of
pub record Holds (c : ℕ) (p : Place) : Type 0 where
  pub names : List (List ℕ)
  pub behind : Place
  pub trees : Elements
  pub end : Place
  pub keys_are : keys_at c None p ≡ Some (names, behind)
  pub values_are : elements_by read c behind ≡ Some (trees, end)
  pub tree : object_at c p ≡ Some (object (members names trees))
  pub counts : length names ≡ count trees

-- an object that is JSON, taken apart
pub holds : (c : ℕ) (p : Place) → IsJsonTree (object_at c p) → Holds c p
holds c p h = by_keys (keys_at c None p) refl h
  where
    by_values : (k : List (List ℕ) × Place) → keys_at c None p ≡ Some k → (r : Option (Elements × Place)) → elements_by read c k.1 ≡ r
        → IsJsonTree (r >>= λ r. some (object (members k.0 r.0))) → Holds c p
    by_values k e None f h = absurd cc
    by_values k e (Some r) f h = record {
      names = k.0;
      behind = k.1;
      trees = r.0;
      end = r.1;
      keys_are = e;
      values_are = f;
      tree =
          ap (λ (o : Option (List (List ℕ) × Place)). o >>= λ k. elements_by read c k.1 >>= λ r. some (object (members k.0 r.0))) e
          ∙ ap (λ (o : Option (Elements × Place)). o >>= λ r. some (object (members k.0 r.0))) f;
      counts = keys_count c p k e ∙ sym (elements_count read c k.1 r f);
    }

    by_keys : (k : Option (List (List ℕ) × Place)) → keys_at c None p ≡ k
        → IsJsonTree (k >>= λ k. elements_by read c k.1 >>= λ r. some (object (members k.0 r.0))) → Holds c p
    by_keys None e h = absurd cc
    by_keys (Some k) e h = by_values k e (elements_by read c k.1) refl h

length_pairs : (ks : List (List ℕ)) (ts : Elements) → length ks ≡ count ts → length (pairs_in (members ks ts)) ≡ length ks
length_pairs [] ts e = refl
length_pairs (k ∷ ks) no_elements e = absurd cc
length_pairs (k ∷ ks) (element t ts) e = ap suc (length_pairs ks ts (omega arith))

names_of_pairs : (ks : List (List ℕ)) (ts : Elements) → length ks ≡ count ts → map (λ (q : List ℕ × Tree). q.0) (pairs_in (members ks ts)) ≡ ks
names_of_pairs [] ts e = refl
names_of_pairs (k ∷ ks) no_elements e = absurd cc
names_of_pairs (k ∷ ks) (element t ts) e = ap (λ (l : List (List ℕ)). k ∷ l) (names_of_pairs ks ts (omega arith))

module _ (c : ℕ) (p : Place) (json : IsJsonTree (object_at c p)) where
  -- the members of an object are its names and trees
  pub pairs_are : pairs_of (or_null (object_at c p)) ≡ pairs_in (members (holds c p json).names (holds c p json).trees)
  pairs_are = ap (λ (r : Option Tree). pairs_of (or_null r)) (holds c p json).tree

  -- an object has as many members as it counts
  pub object_length : c ≡ length (pairs_of (or_null (object_at c p)))
  object_length =
      let o = holds c p json in
      sym (ap length pairs_are ∙ length_pairs o.names o.trees o.counts ∙ keys_count c p (o.names, o.behind) o.keys_are)

  -- the keys of an object rise
  pub object_rises : rises (map (λ (q : List ℕ × Tree). q.0) (pairs_of (or_null (object_at c p)))) ≡ true
  object_rises =
      let o = holds c p json in
      ap (λ (l : List (List ℕ × Tree)). rises (map (λ (q : List ℕ × Tree). q.0) l)) pairs_are
      ∙ ap rises (names_of_pairs o.names o.trees o.counts)
      ∙ keys_rise c p (o.names, o.behind) o.keys_are

-- keys that are read are names, and end where so many items end
pub keys_names : (n : ℕ) (before : Option (List ℕ)) (p : Place) (r : List (List ℕ) × Place) → keys_at n before p ≡ Some r
    → (names_at n p ≡ Some r) × (skip n p ≡ Some r.1)
unfolding keys_at names_at skip
keys_names zero before p r e = (e, ap (option_map (λ (y : List (List ℕ) × Place). y.1)) e)
keys_names (suc n) before p r e =
    let k = next_key n before p r e in
    let more = keys_names n (Some k.key.piece) k.behind k.others k.more in
    put n p r k.key k.behind k.others k.here more.0 more.1 (ap (λ (y : List (List ℕ) × Place). some y) k.whole)
  where
    put : (n : ℕ) (p : Place) (r : List (List ℕ) × Place) (x : Item) (q : Place) (ks : List (List ℕ) × Place) → item_at p ≡ Some (x, q)
        → names_at n q ≡ Some ks → skip n q ≡ Some ks.1 → ◌≡◌ {A = Option (List (List ℕ) × Place)} (Some (x.piece ∷ ks.0, ks.1)) (Some r)
        → (names_at (suc n) p ≡ Some r) × (skip (suc n) p ≡ Some r.1)
    put n p r x q ks e f g h = (rw (e, f) h, rw (e, g) (ap (option_map (λ (y : List (List ℕ) × Place). y.1)) h))

-- no members are none
pub empty_if : (c : ℕ) (p : Place) → IsJsonTree (object_at c p) → IsTrue (eqb c 0) ↔ (pairs_of (or_null (object_at c p)) ≡ [])
empty_if c p json = go c (pairs_of (or_null (object_at c p))) (object_length c p json)
  where
    go : (n : ℕ) (ps : List (List ℕ × Tree)) → n ≡ length ps → IsTrue (eqb n 0) ↔ (ps ≡ [])
    go zero [] e = (λ h. refl, λ h. refl)
    go zero (p ∷ ps) e = absurd cc
    go (suc n) [] e = absurd cc
    go (suc n) (p ∷ ps) e = (λ h. absurd (omega (arith, eqb-true (suc n) 0 h)), λ h. absurd cc)

-- the values of an object begin where its keys end
module _ (o : JsonbObject) where
  abbrev count_of : ℕ
  count_of = o.keys.count

  abbrev keys_from : Place
  keys_from = place o.keys.start

  abbrev parts : Holds count_of keys_from
  parts = holds count_of keys_from o.stands

  names_are : (names_at count_of keys_from ≡ Some (parts.names, parts.behind)) × (skip count_of keys_from ≡ Some parts.behind)
  names_are = keys_names count_of None keys_from (parts.names, parts.behind) parts.keys_are

  -- each key has a word
  pub few_members : 4 * o.keys.count ≤ length (place o.keys.start).words
  few_members = skip_words count_of keys_from parts.behind names_are.1

  -- the keys of an object end
  pub passes : None ≡ skip o.keys.count (place o.keys.start) → ⊥
  passes e = let h : ◌≡◌ {A = Option Place} None (Some parts.behind) = e ∙ names_are.1 in cc

  module _ {q : Place} (e : Some q ≡ skip o.keys.count (place o.keys.start)) where
    members_are : members_at count_of keys_from q ≡ Some (members parts.names parts.trees)
    members_are =
        let same : parts.behind ≡ q = some_is parts.behind q (sym names_are.1 ∙ sym e) in
        ap (λ (r : Option (List (List ℕ) × Place)). r >>= λ k. elements_by read count_of q >>= λ r. some (members k.0 r.0)) names_are.0
        ∙ ap (λ (r : Option (Elements × Place)). r >>= λ r. some (members parts.names r.0))
        (ap (elements_by read count_of) (sym same) ∙ parts.values_are)

    -- behind its keys the members of an object are JSON
    pub members_stand : AreJsonMembers (members_at o.keys.count (place o.keys.start) q)
    members_stand =
        let clean : is_clean (tree_found (object (members parts.names parts.trees))) ≡ true = subst IsJsonTree parts.tree o.stands in
        subst AreJsonMembers (sym members_are) clean

    -- and they are its members
    pub members_pairs : pairs_at o.keys.count (place o.keys.start) q ≡ pairs_of (or_null (object_at o.keys.count (place o.keys.start)))
    members_pairs = ap (λ (r : Option Members). or_none r) members_are ∙ sym (pairs_are count_of keys_from o.stands)
      where
        or_none : Option Members → List (List ℕ × Tree)
        or_none r = or_no_pairs (r >>= λ ms. some_list (pairs_in ms))

-- ---- the next member

-- where nothing is found in both, nothing is found in either
pub both_clean : (f g : Found) → is_clean (both f g) ≡ true → (is_clean f ≡ true) × (is_clean g ≡ true)
both_clean f g h = go f.not_text f.wide g.not_text g.wide h
  where
    go : (a b c d : Bool) → (not (a || c) && not (b || d)) ≡ true → ((not a && not b) ≡ true) × ((not c && not d) ≡ true)
    go false false false false h = (refl, refl)
    go false false false true h = absurd cc
    go false false true d h = absurd cc
    go false true false d h = absurd cc
    go false true true d h = absurd cc
    go true b c d h = absurd cc

pub record NextMember (n : ℕ) (p q : Place) (x y : Item) (p' q' : Place) : Type 0 where
  pub name : is_utf8 x.piece ≡ true
  pub value : IsJsonTree (item_tree q.at y)
  pub more : AreJsonMembers (members_at n p' q')
  pub pairs : pairs_at (suc n) p q ≡ (x.piece, or_null (item_tree q.at y)) ∷ pairs_at n p' q'

names_none : (n : ℕ) (p : Place) → item_at p ≡ None → names_at (suc n) p ≡ None
unfolding names_at
names_none n p e = rw e refl

names_some : (n : ℕ) (p p' : Place) (x : Item) → item_at p ≡ Some (x, p') → names_at (suc n) p ≡ (names_at n p' >>= λ ks. Some (x.piece ∷ ks.0, ks.1))
unfolding names_at
names_some n p p' x e = rw e refl

-- where no item is, no values can be read
pub values_none : (n : ℕ) (q : Place) → item_at q ≡ None → elements_by read (suc n) q ≡ None
unfolding elements_by
values_none n q e = rw e refl

-- the next value, and the others
pub values_some : (n : ℕ) (q q' : Place) (y : Item) → item_at q ≡ Some (y, q')
    → elements_by read (suc n) q ≡ (item_tree q.at y >>= λ t. elements_by read n q' >>= λ ts. Some (element t ts.0, ts.1))
unfolding elements_by
values_some n q q' y e = rw e refl

bind_none : {A B : Type 0} (r : Option A) → (r >>= λ _. let n : Option B = None in n) ≡ None
bind_none None = refl
bind_none (Some x) = refl

abbrev both_of : Option (List (List ℕ) × Place) → Option (Elements × Place) → Option Members
both_of a b = a >>= λ k. b >>= λ r. Some (members k.0 r.0)

both_none : (a : Option (List (List ℕ) × Place)) → both_of a None ≡ None
both_none None = refl
both_none (Some k) = refl

-- one name more, and one value
abbrev names_more : Item → Option (List (List ℕ) × Place) → Option (List (List ℕ) × Place)
names_more x a = a >>= λ ks. Some (x.piece ∷ ks.0, ks.1)

abbrev values_more : Option Tree → Option (Elements × Place) → Option (Elements × Place)
values_more t r = t >>= λ t. r >>= λ ts. Some (element t ts.0, ts.1)

-- members that are JSON, one more: the member, and the others
pub next_member : (n : ℕ) (p p' q q' : Place) (x y : Item) → item_at p ≡ Some (x, p') → item_at q ≡ Some (y, q')
    → AreJsonMembers (members_at (suc n) p q) → NextMember n p q x y p' q'
next_member n p p' q q' x y e f json = go (names_at n p') refl (item_tree q.at y) refl (elements_by read n q') refl (subst AreJsonMembers made json)
  where
    made : members_at (suc n) p q ≡ both_of (names_more x (names_at n p')) (values_more (item_tree q.at y) (elements_by read n q'))
    made =
        ap (λ (a : Option (List (List ℕ) × Place)). both_of a (elements_by read (suc n) q)) (names_some n p p' x e)
        ∙ ap (both_of (names_more x (names_at n p'))) (values_some n q q' y f)

    go : (a : Option (List (List ℕ) × Place)) → names_at n p' ≡ a → (t : Option Tree) → item_tree q.at y ≡ t → (r : Option (Elements × Place))
        → elements_by read n q' ≡ r
        → AreJsonMembers (both_of (names_more x a) (values_more t r))
        → NextMember n p q x y p' q'
    go None ea t et r er h = absurd cc
    go (Some ks) ea None et r er h = absurd cc
    go (Some ks) ea (Some t) et None er h = absurd cc
    go (Some ks) ea (Some t) et (Some ts) er h =
        let parts = both_clean (both (text_found x.piece) (tree_found t)) (members_found (members ks.0 ts.0)) h in
        let first = both_clean (text_found x.piece) (tree_found t) parts.0 in
        let rest : members_at n p' q' ≡ Some (members ks.0 ts.0) =
        ap (λ (a : Option (List (List ℕ) × Place)). both_of a (elements_by read n q')) ea ∙ ap (both_of (Some ks)) er in
        record {
          name = text_clean x.piece first.0;
          value = subst IsJsonTree (sym et) first.1;
          more = subst AreJsonMembers (sym rest) parts.1;
          pairs =
              ap or_none made
              ∙ ap
              (λ (a : Option (List (List ℕ) × Place)). or_none (both_of (names_more x a) (values_more (item_tree q.at y) (elements_by read n q'))))
              ea
              ∙ ap
              (λ (o : Option Tree). or_none (both_of (Some (x.piece ∷ ks.0, ks.1)) (values_more o (elements_by read n q'))))
              et
              ∙ ap (λ (o : Option (Elements × Place)). or_none (both_of (Some (x.piece ∷ ks.0, ks.1)) (values_more (Some t) o))) er
              ∙ ap (λ (o : Option Tree). (x.piece, or_null o) ∷ pairs_in (members ks.0 ts.0)) (sym et)
              ∙ ap (λ (o : Option Members). (x.piece, or_null (item_tree q.at y)) ∷ or_none o) (sym rest);
        }
      where
        or_none : Option Members → List (List ℕ × Tree)
        or_none r = or_no_pairs (r >>= λ ms. some_list (pairs_in ms))

-- where a member is left there are items for its key and value
pub member_there : (n : ℕ) (p q : Place) → AreJsonMembers (members_at (suc n) p q)
    → (x : Item × Place) × (item_at p ≡ Some x) × ((y : Item × Place) × (item_at q ≡ Some y))
member_there n p q json = go (item_at p) refl (item_at q) refl
  where
    go : (a : Option (Item × Place)) → item_at p ≡ a → (b : Option (Item × Place)) → item_at q ≡ b
        → (x : Item × Place) × (item_at p ≡ Some x) × ((y : Item × Place) × (item_at q ≡ Some y))
    go None e b f =
        let h : AreJsonMembers None =
        subst AreJsonMembers (ap (λ (a : Option (List (List ℕ) × Place)). both_of a (elements_by read (suc n) q)) (names_none n p e)) json in
        absurd cc
    go (Some x) e None f =
        let h : AreJsonMembers None =
        subst AreJsonMembers (ap (both_of (names_at (suc n) p)) (values_none n q f) ∙ both_none (names_at (suc n) p)) json in
        absurd cc
    go (Some x) e (Some y) f = (x, e, (y, f))

module _ (m : JsonbMembers) (some_left : 0 < m.values.count) where
  abbrev more_left : ℕ
  more_left = m.values.count - 1

  abbrev key_here : Place
  key_here = place m.keys

  abbrev value_here : Place
  value_here = place m.values.start

  full : AreJsonMembers (members_at (suc more_left) key_here value_here)
  full = subst (λ (k : ℕ). AreJsonMembers (members_at k key_here value_here)) (sym (less_one m.values.count some_left)) m.stands

  -- where members are left, there is an item for the key
  pub keys_go_on : None ≡ item_at (place m.keys) → ⊥
  keys_go_on e =
      let no_names = names_none more_left key_here (sym e) in
      let h : AreJsonMembers None =
      subst AreJsonMembers (ap (λ (a : Option (List (List ℕ) × Place)). both_of a (elements_by read (suc more_left) value_here)) no_names) full in
      cc

  -- and one for the value
  pub values_go_on : None ≡ item_at (place m.values.start) → ⊥
  values_go_on e =
      let names = names_at (suc more_left) key_here in
      let no_values = values_none more_left value_here (sym e) in
      let h : AreJsonMembers None = subst AreJsonMembers (ap (both_of names) no_values ∙ both_none names) full in
      cc

  -- the next member, and those that are left behind it
  pub member_is : {x y : Item} {p q : Place} → Some (x, p) ≡ item_at (place m.keys) → Some (y, q) ≡ item_at (place m.values.start)
      → NextMember (m.values.count - 1) (place m.keys) (place m.values.start) x y p q
  member_is {x = x} {y = y} {p = p} {q = q} e f = next_member more_left key_here p value_here q x y (sym e) (sym f) full
