-- Searching the keys of an object.
use Rattle.std.proofs.Common.{◌≡◌, ℕ, zero, suc, ◌+◌, ◌-◌, ◌*◌, ◌^◌, ◌<◌, ◌≤◌, Bool, true, false, cond, List, [], ◌∷◌, length, Option, Some, None, refl, sym, ap, subst, ◌∙◌, arith}
use Rattle.std.specs.Prelude.{bytes_eq, IsSome}
use Rattle.json_model.specs.Parts.{pairs_in, pairs_of, lookup}
use Rattle.json_model.specs.Tree.{Tree, object, Elements, element, Members, member}
use Rattle.jsonb_layout.specs.Layout.{Item}
use Rattle.jsonb_layout.specs.Options.{◌>>=◌}
use Rattle.jsonb_layout.specs.inner.Reading.{Place, item_at, keys_at}
use Rattle.jsonb_layout.specs.inner.SeatReading.{seat_at}
use Rattle.jsonb_layout.specs.Seats.{Seat}
use Rattle.jsonb_layout.specs.inner.Trees.{elements_by, members, read, item_tree}
use Rattle.jsonb_layout.proofs.Tools.{bind_some, some_is, some}
use Rattle.jsonb.specs.Found.{text_found, tree_found, members_found, both}
use Rattle.jsonb.specs.inner.Keys.{behind_key, AreFew}
use Rattle.jsonb.specs.Seated.{member_seats, object_seats}
use Rattle.jsonb.specs.inner.Values.{or_null, is_clean, IsJsonTree, object_at, names_at, skip}
use Rattle.jsonb.proofs.MemberLaws.{holds, object_length, pairs_are, keys_names, both_clean}
use Rattle.jsonb.proofs.SeatHolds.{seats_behind, seats_behind_is}
use Rattle.jsonb.proofs.SeatTrees.{members_step}
use Rattle.jsonb.specs.inner.Views.{place}
use Rattle.jsonb.specs.declared.object.JsonbObject.{JsonbObject}
use Rattle.jsonb.specs.Nodes.{object_tree}
use Rattle.jsonb.proofs.Walks.{IsBehind, behind_both, key_behind, skip_behind}

-- ---- past two runs of items

skip_plus : (a b : ℕ) (p q : Place) → skip a p ≡ Some q → skip (a + b) p ≡ skip b q
unfolding skip
skip_plus zero b p q e =
    let n : 0 + b ≡ b = omega arith in
    ap (λ (k : ℕ). skip k p) n ∙ ap (λ (r : Option Place). r >>= λ p. skip b p) e
skip_plus (suc a) b p q e =
    let x = bind_some (item_at p) (λ x. skip a x.1) q e in
    let n : suc a + b ≡ suc (a + b) = omega arith in
    ap (λ (k : ℕ). skip k p) n ∙ ap (λ (r : Option (Item × Place)). r >>= λ x. skip (a + b) x.1) x.1 ∙ skip_plus a b x.0.1 q x.2

skip_one : (p q : Place) (y : Item) → item_at p ≡ Some (y, q) → skip 1 p ≡ Some q
unfolding skip
skip_one p q y e = rw e refl

-- names end where so many items end
names_skip : (n : ℕ) (p : Place) (r : List (List ℕ) × Place) → names_at n p ≡ Some r → skip n p ≡ Some r.1
unfolding names_at skip
names_skip zero p r e = ap (λ (o : Option (List (List ℕ) × Place)). o >>= λ r. some r.1) e
names_skip (suc n) p r e =
    let x = bind_some (item_at p) (λ x. names_at n x.1 >>= λ ks. Some (x.0.piece ∷ ks.0, ks.1)) r e in
    let ks = bind_some (names_at n x.0.1) (λ ks. some (x.0.0.piece ∷ ks.0, ks.1)) r x.2 in
    ap (λ (o : Option (Item × Place)). o >>= λ x. skip n x.1) x.1
    ∙ names_skip n x.0.1 ks.0 ks.1
    ∙ ap (λ (o : Option (List (List ℕ) × Place)). o >>= λ r. some r.1) ks.2

-- ---- what is found

-- so many items behind a place there is a value, and it is what is looked for
pub record IsFound (s c : ℕ) (a : Place) (wanted : Option Tree) (seat : Option Seat) : Type 0 where
  pub value : Place
  pub item : Item
  pub after : Place
  pub tree : Tree
  pub passed : skip (c - 1) a ≡ Some value
  pub here : item_at value ≡ Some (item, after)
  pub stands : item_tree value.at item ≡ Some tree
  pub clean : is_clean (tree_found tree) ≡ true
  pub wanted_is : wanted ≡ Some tree
  pub seat_is : seat ≡ Some (seat_at s value item)

abbrev pub Outcome : ℕ → ℕ → Option Place → Option Tree → Option Seat → Type 0
Outcome s c None wanted seat = (wanted ≡ None) × (seat ≡ None)
Outcome s c (Some a) wanted seat = IsFound s c a wanted seat

-- the members of so many keys from p on and their values from q on, of c in all
record Walk (c n : ℕ) (p q : Place) : Type 0 where
  names : List (List ℕ)
  behind : Place
  trees : Elements
  end : Place
  passed : ℕ
  total : n + passed ≡ c
  keys : names_at n p ≡ Some (names, behind)
  on : skip passed behind ≡ Some q
  values : elements_by read n q ≡ Some (trees, end)
  clean : is_clean (members_found (members names trees)) ≡ true

abbrev members_of : {c n : ℕ} {p q : Place} → Walk c n p q → Members
members_of w = members w.names w.trees

-- the first of them, and the others
record First (c n : ℕ) (p q : Place) (all : Members) : Type 0 where
  key : Item
  keys : Place
  value : Item
  values : Place
  tree : Tree
  key_is : item_at p ≡ Some (key, keys)
  value_is : item_at q ≡ Some (value, values)
  stands : item_tree q.at value ≡ Some tree
  clean : is_clean (tree_found tree) ≡ true
  passes : skip (c - 1) keys ≡ Some q
  rest : Walk c n keys values
  all_is : all ≡ member key.piece tree (members_of rest)

clean_member : (k : List ℕ) (t : Tree) (ms : Members) → is_clean (members_found (member k t ms)) ≡ true
    → (is_clean (tree_found t) ≡ true) × (is_clean (members_found ms) ≡ true)
clean_member k t ms h =
    let whole = both_clean (both (text_found k) (tree_found t)) (members_found ms) h in
    ((both_clean (text_found k) (tree_found t) whole.0).1, whole.1)

same_end : (l l' : List (List ℕ)) (b b' : Place) → some {A = List (List ℕ) × Place} (l, b) ≡ some (l', b') → b ≡ b'
same_end l l' b b' e = ap (λ (o : List (List ℕ) × Place). o.1) (some_is (l, b) (l', b') e)

same_members : {l l' : List (List ℕ)} {b b' : Place} {ts ts' : Elements} {e e' : Place} → some {A = List (List ℕ) × Place} (l, b) ≡ some (l', b')
    → some {A = Elements × Place} (ts, e) ≡ some (ts', e') → members l' ts' ≡ members l ts
same_members {l = l} {l' = l'} {b = b} {b' = b'} {ts = ts} {ts' = ts'} {e = e} {e' = e'} f g =
    ap (λ (a : List (List ℕ)). members a ts') (ap (λ (o : List (List ℕ) × Place). o.0) (some_is (l', b') (l, b) (sym f)))
    ∙ ap (λ (a : Elements). members l a) (ap (λ (o : Elements × Place). o.0) (some_is (ts', e') (ts, e) (sym g)))

first : {c n : ℕ} {p q : Place} (w : Walk c (suc n) p q) → First c n p q (members_of w)
unfolding names_at elements_by
first {c = c} {n = n} {p = p} {q = q} w =
    let x = bind_some (item_at p) (λ x. names_at n x.1 >>= λ ks. Some (x.0.piece ∷ ks.0, ks.1)) (w.names, w.behind) w.keys in
    let l = bind_some (names_at n x.0.1) (λ ks. some (x.0.0.piece ∷ ks.0, ks.1)) (w.names, w.behind) x.2 in
    let all : Elements × Place = (w.trees, w.end) in
    let y = bind_some (item_at q) (λ y. item_tree q.at y.0 >>= λ t. elements_by read n y.1 >>= λ ts. Some (element t ts.0, ts.1)) all w.values in
    let t = bind_some (item_tree q.at y.0.0) (λ t. elements_by read n y.0.1 >>= λ ts. Some (element t ts.0, ts.1)) all y.2 in
    let us = bind_some (elements_by read n y.0.1) (λ ts. some (element t.0 ts.0, ts.1)) all t.2 in
    let behind : skip w.passed l.0.1 ≡ Some q = ap (skip w.passed) (same_end (x.0.0.piece ∷ l.0.0) w.names l.0.1 w.behind l.2) ∙ w.on in
    let all_is : members_of w ≡ member x.0.0.piece t.0 (members l.0.0 us.0.0) =
    same_members l.2 us.2 in
    let clean = clean_member x.0.0.piece t.0 (members l.0.0 us.0.0) (subst (λ (ms : Members). is_clean (members_found ms) ≡ true) all_is w.clean) in
    let less : c - 1 ≡ n + w.passed = omega (arith, w.total) in
    record {
      key = x.0.0;
      keys = x.0.1;
      value = y.0.0;
      values = y.0.1;
      tree = t.0;
      key_is = x.1;
      value_is = y.1;
      stands = t.1;
      clean = clean.0;
      passes = ap (λ (j : ℕ). skip j x.0.1) less ∙ skip_plus n w.passed x.0.1 l.0.1 (names_skip n x.0.1 l.0 l.1) ∙ behind;
      rest = record {
        names = l.0.0;
        behind = l.0.1;
        trees = us.0.0;
        end = us.0.1;
        passed = w.passed + 1;
        total = omega (arith, w.total);
        keys = l.1;
        on = skip_plus w.passed 1 l.0.1 q behind ∙ skip_one q y.0.1 y.0.0 y.1;
        values = us.1;
        clean = clean.1;
      };
      all_is = all_is;
    }

-- the first key is the key, or the rest of the walk decides
one_key : (k : List ℕ) (s : ℕ) {c n : ℕ} {p q : Place} {all : Members} (f : First c n p q all)
    → ((r : Option Place) → behind_key k n f.keys ≡ r
    → Outcome s c r (lookup k (pairs_in (members_of f.rest))) (lookup k (member_seats s n f.keys f.values)))
    → (r : Option Place) → behind_key k (suc n) p ≡ r → Outcome s c r (lookup k (pairs_in all)) (lookup k (member_seats s (suc n) p q))
unfolding behind_key
one_key k s {c = c} {n = n} {p = p} {q = q} f rest r er =
    let on : behind_key k (suc n) p ≡ cond (bytes_eq k f.key.piece) (Some f.keys) (behind_key k n f.keys) = rw f.key_is refl in
    subst (λ (ms : Members). Outcome s c r (lookup k (pairs_in ms)) (lookup k (member_seats s (suc n) p q))) (sym f.all_is)
    (subst (λ (ss : List (List ℕ × Seat)). Outcome s c r (lookup k (pairs_in (member f.key.piece f.tree (members_of f.rest)))) (lookup k ss))
    (sym (members_step s n p q f.key_is f.value_is))
    (go (bytes_eq k f.key.piece) r (sym on ∙ er)))
  where
    here : IsFound s c f.keys (Some f.tree) (Some (seat_at s q f.value))
    here = record {
      value = q;
      item = f.value;
      after = f.values;
      tree = f.tree;
      passed = f.passes;
      here = f.value_is;
      stands = f.stands;
      clean = f.clean;
      wanted_is = refl;
      seat_is = refl;
    }

    go : (same : Bool) (r : Option Place) → cond same (Some f.keys) (behind_key k n f.keys) ≡ r
        → Outcome s c r (cond same (Some f.tree) (lookup k (pairs_in (members_of f.rest))))
        (cond same (Some (seat_at s q f.value)) (lookup k (member_seats s n f.keys f.values)))
    go true r e = subst (λ (r : Option Place). Outcome s c r (Some f.tree) (Some (seat_at s q f.value))) e here
    go false r e = rest r e

-- the walk over the keys finds what stands under the key, or shows that nothing does
walk_finds : (k : List ℕ) (s : ℕ) {c : ℕ} (n : ℕ) {p q : Place} (w : Walk c n p q) (r : Option Place) → behind_key k n p ≡ r
    → Outcome s c r (lookup k (pairs_in (members_of w))) (lookup k (member_seats s n p q))
unfolding names_at behind_key member_seats
walk_finds k s {c = c} zero {p = p} w r er =
    let none : w.names ≡ [] = ap (λ (o : List (List ℕ) × Place). o.0) (some_is (w.names, w.behind) ([], p) (sym w.keys)) in
    subst (λ (l : List (List ℕ)). Outcome s c r (lookup k (pairs_in (members l w.trees))) None) (sym none)
    (subst (λ (r : Option Place). Outcome s c r None None) er (refl, refl))
walk_finds k s (suc n) w r er = let f = first w in one_key k s f (walk_finds k s n f.rest) r er

-- ---- the object

outcome : (k : List ℕ) (s c : ℕ) (p : Place) → IsJsonTree (object_at c p) → (r : Option Place) → r ≡ behind_key k c p
    → Outcome s c r (lookup k (pairs_of (or_null (object_at c p)))) (lookup k (seats_behind s c p))
unfolding skip
outcome k s c p json r er =
    let o = holds c p json in
    let clean : is_clean (tree_found (object (members o.names o.trees))) ≡ true = subst IsJsonTree o.tree json in
    let n = keys_names c None p (o.names, o.behind) o.keys_are in
    let all : Walk c c p o.behind = record {
      names = o.names;
      behind = o.behind;
      trees = o.trees;
      end = o.end;
      passed = 0;
      total = omega arith;
      keys = n.0;
      on = refl;
      values = o.values_are;
      clean = clean;
    } in
    let found = walk_finds k s c all r (sym er) in
    subst (λ (ss : List (List ℕ × Seat)). Outcome s c r (lookup k (pairs_of (or_null (object_at c p)))) (lookup k ss))
    (seats_behind_is s c p o.behind (sym n.1))
    (subst (λ (ps : List (List ℕ × Tree)). Outcome s c r (lookup k ps) (lookup k (member_seats s c p o.behind))) (sym (pairs_are c p json)) found)

-- the keys of an object are there, and rise
pub keys_there : (o : JsonbObject) → IsSome (keys_at o.keys.count None (place o.keys.start))
keys_there o = subst (λ (r : Option (List (List ℕ) × Place)). IsSome r) (sym (holds o.keys.count (place o.keys.start) o.stands).keys_are) refl

-- an object counts its members
pub members_counted : (o : JsonbObject) → o.keys.count ≡ length (pairs_of (object_tree o))
members_counted o = object_length o.keys.count (place o.keys.start) o.stands

-- steps that are few for the keys, and those for the value, are few for the members
pub few_in_all : (o : JsonbObject) (old found end : ℕ) → AreFew o.keys.count old found → end ≤ found + 34
    → (p : ℕ) × (2 ^ p ≤ 2 * length (pairs_of (object_tree o)) + 1) × (end ≤ old + (33 * p + 34))
few_in_all o old found end few le = (few.0, omega (arith, few.1, members_counted o), omega (arith, few.2, le))

module _ (k : List ℕ) (o : JsonbObject) where
  abbrev pairs_here : List (List ℕ × Tree)
  pairs_here = pairs_of (object_tree o)

  outcome_of : (r : Option Place) → r ≡ behind_key k o.keys.count (place o.keys.start)
      → Outcome o.keys.payload o.keys.count r (lookup k pairs_here) (lookup k (object_seats o))
  outcome_of r e = outcome k o.keys.payload o.keys.count (place o.keys.start) o.stands r e

  -- a key that is not found has no value
  pub no_value : None ≡ behind_key k o.keys.count (place o.keys.start) → None ≡ lookup k (pairs_of (object_tree o))
  no_value e = sym (outcome_of None e).0

  -- nor does a value lie anywhere
  pub no_seat : None ≡ behind_key k o.keys.count (place o.keys.start) → None ≡ lookup k (object_seats o)
  no_seat e = sym (outcome_of None e).1

  module _ {a : Place} (e : Some a ≡ behind_key k o.keys.count (place o.keys.start)) where
    found : IsFound o.keys.payload o.keys.count a (lookup k pairs_here) (lookup k (object_seats o))
    found = outcome_of (Some a) e

    -- an object in which a key is found has members
    pub some_members : 0 < o.keys.count
    unfolding behind_key
    some_members = go o.keys.count refl
      where
        go : (n : ℕ) → o.keys.count ≡ n → 0 < o.keys.count
        go zero z = let h : ◌≡◌ {A = Option Place} (Some a) None = e ∙ ap (λ (n : ℕ). behind_key k n (place o.keys.start)) z in absurd cc
        go (suc n) z = omega (arith, z)

    -- behind the key that is found come the others
    pub others_there : IsSome (skip (o.keys.count - 1) a)
    others_there = subst (λ (r : Option Place). IsSome r) (sym found.passed) refl

    module _ {v : Place} (f : Some v ≡ skip (o.keys.count - 1) a) where
      at_value : found.value ≡ v
      at_value = some_is found.value v (sym found.passed ∙ sym f)

      pub value_goes_on : None ≡ item_at v → ⊥
      value_goes_on h =
          let no : ◌≡◌ {A = Option (Item × Place)} None (Some (found.item, found.after)) = h ∙ ap item_at (sym at_value) ∙ found.here in cc

      -- the value is behind the keys, in the same container
      pub value_behind : IsBehind (place o.keys.start) v
      value_behind = behind_both (key_behind k o.keys.count (place o.keys.start) a e) (skip_behind (o.keys.count - 1) a v f)

      module _ {y : Item} {w : Place} (h : Some (y, w) ≡ item_at v) where
        value_item : found.item ≡ y
        value_item = ap (λ (o : Item × Place). o.0) (some_is (found.item, found.after) (y, w) (sym found.here ∙ ap item_at at_value ∙ sym h))

        value_tree : item_tree v.at y ≡ Some found.tree
        value_tree = ap (λ (q : Place). item_tree q.at y) (sym at_value) ∙ ap (item_tree found.value.at) (sym value_item) ∙ found.stands

        pub value_stands : IsJsonTree (item_tree v.at y)
        value_stands = subst IsJsonTree (sym value_tree) found.clean

        pub value_is : item_tree v.at y ≡ lookup k (pairs_of (object_tree o))
        value_is = value_tree ∙ sym found.wanted_is

        pub value_seat : Some (seat_at o.keys.payload v y) ≡ lookup k (object_seats o)
        value_seat =
            ap (λ (q : Place). some (seat_at o.keys.payload q y)) (sym at_value)
            ∙ ap (λ (z : Item). some (seat_at o.keys.payload found.value z)) (sym value_item)
            ∙ sym found.seat_is
