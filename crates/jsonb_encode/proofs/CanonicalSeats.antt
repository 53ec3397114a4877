-- A container is canonical exactly where the values in it are.
use Rattle.std.proofs.Common.{◌≡◌, ℕ, suc, ◌+◌, ◌^◌, ◌<◌, Bool, true, false, cond, List, [], ◌∷◌, ◌++◌, length, map, drop, Some, None, refl, sym, ap, subst, ◌∙◌, arith}
use Rattle.std.specs.Prelude.{IsTrue, ◌↔◌}
use Rattle.std.proofs.lemmas.Bool.{eq-eqb, ne_eqb}
use Rattle.std.proofs.lemmas.List.{length-append, length-replicate, length-map, drop_at, append-nil}
use Rattle.json_model.specs.Decimal.{Decimal}
use Rattle.json_exact.specs.Parsed.{IsInRange}
use Rattle.json_model.specs.Keys.{rises}
use Rattle.json_model.specs.Tree.{Scalar, null, boolean, number, string, Tree, scalar, array, object, Elements, no_elements, element, Members, no_members, member, keys}
use Rattle.jsonb_layout.specs.Layout.{Item, pieces, Laid, pad}
use Rattle.jsonb_layout.specs.declared.form.Form.{Form}
use Rattle.jsonb_layout.specs.declared.form.Form.TheVariants.{Array, Object, Lone}
use Rattle.jsonb_layout.specs.Stands.{padding, key_item, IsArray, IsObject, IsItem, AreElements, AreValues, Stands}
use Rattle.jsonb_layout.specs.Seats.{Seat, is_padded, own_bytes, item_seat, root_seat, IsRoot}
use Rattle.jsonb_layout.specs.Numeric.{Numeric}
use Rattle.jsonb_layout.specs.inner.Reading.{Place, keys_at, numeric_of, opened}
use Rattle.jsonb_layout.specs.inner.SeatReading.{seat_at, seats_at}
use Rattle.jsonb_layout.specs.inner.Trees.{item_tree, read}
use Rattle.jsonb_layout.proofs.Containers.{not_five, one_tree, read_again, read_takes}
use Rattle.jsonb_layout.proofs.Extents.{pieces-append}
use Rattle.jsonb_layout.proofs.KeyRuns.{keys_again}
use Rattle.jsonb_layout.proofs.Numbers.{numeric_again}
use Rattle.jsonb_layout.proofs.OneLayout.{one_layout}
use Rattle.jsonb_layout.proofs.Openings.{open_again, opens_from, first, last, run_over}
use Rattle.jsonb_layout.proofs.Runs.{Run, Run-split, Run-tail, after, item_again}
use Rattle.jsonb_layout.proofs.Scalars.{scalar_again, unpadded_again}
use Rattle.jsonb_layout.proofs.SeatRuns.{seats_step}
use Rattle.jsonb_layout.proofs.Tools.{IsBytes, some_is}
use Rattle.jsonb_encode.specs.Canonical.{IsCanonicalItem, AreCanonicalElements, AreCanonicalValues, IsCanonical, SeatIsCanonical, HasCanonicalBytes, AllHaveCanonicalBytes}
use Rattle.jsonb_encode.specs.Encoded.{encoded, canonical}
use Rattle.jsonb_encode.specs.Number.{numeric}
use Rattle.jsonb_encode.specs.declared.number_form.NumericForm.TheVariants.{Short}
use Rattle.jsonb_encode.proofs.Canonical.{short_stands, number_small, item_stands, values_stand, canonical_stands, canonical_one}

-- ---- an item and its own bytes

-- no padding
own_plain : (at : ℕ) (x : Item) (kind : ℕ) → x.kind ≡ kind → is_padded kind ≡ false → own_bytes at x ≡ x.piece
own_plain at x kind e f =
    ap (λ (k : ℕ). cond (is_padded k) (drop (pad at) x.piece) x.piece) e ∙ ap (λ (b : Bool). cond b (drop (pad at) x.piece) x.piece) f

-- padding, and then the own bytes
own_padded : (at : ℕ) (x : Item) (kind : ℕ) (q : List ℕ) → x.kind ≡ kind → is_padded kind ≡ true → x.piece ≡ padding at ++ q → own_bytes at x ≡ q
own_padded at x kind q e f g =
    ap (λ (k : ℕ). cond (is_padded k) (drop (pad at) x.piece) x.piece) e
    ∙ ap (λ (b : Bool). cond b (drop (pad at) x.piece) x.piece) f
    ∙ ap (drop (pad at)) g
    ∙ drop_at (padding at) q (pad at) (length-replicate (pad at) 0)

-- an item that stands for a tree has its padding
has_padding : (t : Tree) (at : ℕ) (x : Item) (kind : ℕ) → IsItem t at x → x.kind ≡ kind → is_padded kind ≡ true → x.piece ≡ padding at ++
    own_bytes at x
has_padding (scalar null) at x kind h e f = absurd (let g : false ≡ true = ap is_padded (sym h.0 ∙ e) ∙ f in cc)
has_padding (scalar (boolean true)) at x kind h e f = absurd (let g : false ≡ true = ap is_padded (sym h.0 ∙ e) ∙ f in cc)
has_padding (scalar (boolean false)) at x kind h e f = absurd (let g : false ≡ true = ap is_padded (sym h.0 ∙ e) ∙ f in cc)
has_padding (scalar (string s)) at x kind h e f = absurd (let g : false ≡ true = ap is_padded (sym h.0 ∙ e) ∙ f in cc)
has_padding (scalar (number d)) at x kind h e f =
    h.1.1 ∙ ap (λ (q : List ℕ). padding at ++ q) (sym (own_padded at x 1 h.1.0 h.0 refl h.1.1))
has_padding (array ts) at x kind h e f =
    h.1.1 ∙ ap (λ (q : List ℕ). padding at ++ q) (sym (own_padded at x 5 h.1.0 h.0 refl h.1.1))
has_padding (object ms) at x kind h e f =
    h.1.1 ∙ ap (λ (q : List ℕ). padding at ++ q) (sym (own_padded at x 5 h.1.0 h.0 refl h.1.1))

abbrev own_item : ℕ → Item → Item
own_item at x = record { kind = x.kind; piece = own_bytes at x }

-- what is canonical in its place is so by itself
own_canonical : (t : Tree) (at : ℕ) (x : Item) → IsCanonicalItem t at x → IsCanonicalItem t 0 (own_item at x)
own_canonical (scalar null) at x h = (h.0, own_plain at x 4 h.0 refl ∙ h.1)
own_canonical (scalar (boolean true)) at x h = (h.0, own_plain at x 3 h.0 refl ∙ h.1)
own_canonical (scalar (boolean false)) at x h = (h.0, own_plain at x 2 h.0 refl ∙ h.1)
own_canonical (scalar (string s)) at x h = (h.0, own_plain at x 0 h.0 refl ∙ h.1)
own_canonical (scalar (number d)) at x h = (h.0, (h.1.0, own_padded at x 1 h.1.0 h.0 refl h.1.1, h.1.2))
own_canonical (array ts) at x h = (h.0, (h.1.0, own_padded at x 5 h.1.0 h.0 refl h.1.1, h.1.2))
own_canonical (object ms) at x h = (h.0, (h.1.0, own_padded at x 5 h.1.0 h.0 refl h.1.1, h.1.2))

-- and back, where it stands for a tree
in_place : (t u : Tree) (at : ℕ) (x : Item) → IsItem u at x → IsCanonicalItem t 0 (own_item at x) → IsCanonicalItem t at x
in_place (scalar null) u at x s h = (h.0, sym (own_plain at x 4 h.0 refl) ∙ h.1)
in_place (scalar (boolean true)) u at x s h = (h.0, sym (own_plain at x 3 h.0 refl) ∙ h.1)
in_place (scalar (boolean false)) u at x s h = (h.0, sym (own_plain at x 2 h.0 refl) ∙ h.1)
in_place (scalar (string c)) u at x s h = (h.0, sym (own_plain at x 0 h.0 refl) ∙ h.1)
in_place (scalar (number d)) u at x s h =
    (h.0, (h.1.0, has_padding u at x 1 s h.0 refl ∙ ap (λ (q : List ℕ). padding at ++ q) h.1.1, h.1.2))
in_place (array ts) u at x s h =
    (h.0, (h.1.0, has_padding u at x 5 s h.0 refl ∙ ap (λ (q : List ℕ). padding at ++ q) h.1.1, h.1.2))
in_place (object ms) u at x s h =
    (h.0, (h.1.0, has_padding u at x 5 s h.0 refl ∙ ap (λ (q : List ℕ). padding at ++ q) h.1.1, h.1.2))

-- ---- one tree

-- an item that stands for a tree is read to it
pub item_read : (t : Tree) (at : ℕ) (x : Item) → IsItem t at x → item_tree at x ≡ Some t
item_read (scalar s) at x h = rw (ne_eqb x.kind 5 (not_five s at x h), scalar_again at x s h) refl
item_read (array ts) at x h = rw (eq-eqb x.kind 5 h.0, unpadded_again at x.piece h.1.0 h.1.1) (read_again h.1.0 (array ts) h.1.2)
item_read (object ms) at x h = rw (eq-eqb x.kind 5 h.0, unpadded_again at x.piece h.1.0 h.1.1) (read_again h.1.0 (object ms) h.1.2)

-- an item that stands for a tree is canonical for no other
in_place_one : (u : Tree) (at : ℕ) (x : Item) → IsItem u at x → (t : Tree) → IsCanonicalItem t 0 (own_item at x) → IsCanonicalItem u at x
in_place_one u at x s t h =
    let c = in_place t u at x s h in
    let same : t ≡ u = some_is t u (sym (item_read t at x (item_stands t at x c)) ∙ item_read u at x s) in
    subst (λ (v : Tree). IsCanonicalItem v at x) same c

-- ---- the values of a run

no_seats : (s : ℕ) (p : Place) → seats_at s 0 p ≡ []
unfolding seats_at
no_seats s p = refl

module _ (s : ℕ) (q : Place) where
  next_seats : (p : Place) (x : Item) (xs : List Item) → Run p q (x ∷ xs) → p.at + length (pieces (x ∷ xs)) < 2 ^ 28
      → seats_at s (suc (length xs)) p ≡ seat_at s p x ∷ seats_at s (length xs) (after p q x xs)
  next_seats p x xs run fits =
      seats_step s (length xs) p (after p q x xs) x (item_again p q x xs run (omega (arith, length-append x.piece (pieces xs))))

  -- where the items of a run are canonical, what lies there is
  run_canonical : (ts : Elements) (p : Place) (xs : List Item) → Run p q xs → p.at + length (pieces xs) < 2 ^ 28 → AreCanonicalElements ts p.at xs
      → AllHaveCanonicalBytes (seats_at s (length xs) p)
  run_canonical no_elements p [] run fits h = subst AllHaveCanonicalBytes (sym (no_seats s p)) tt
  run_canonical no_elements p (x ∷ xs) run fits h = absurd h
  run_canonical (element t ts) p [] run fits h = absurd h
  run_canonical (element t ts) p (x ∷ xs) run fits h =
      let more = run_canonical ts (after p q x xs) xs (Run-tail p q x xs run) (omega (arith, length-append x.piece (pieces xs))) h.1 in
      subst AllHaveCanonicalBytes (sym (next_seats p x xs run fits)) ((t, own_canonical t p.at x h.0), more)

  -- and back, where they stand for trees
  run_back : (ts : Elements) (p : Place) (xs : List Item) → Run p q xs → p.at + length (pieces xs) < 2 ^ 28 → AreElements ts p.at xs
      → AllHaveCanonicalBytes (seats_at s (length xs) p) → AreCanonicalElements ts p.at xs
  run_back no_elements p [] run fits stand h = tt
  run_back no_elements p (x ∷ xs) run fits stand h = absurd stand
  run_back (element t ts) p [] run fits stand h = absurd stand
  run_back (element t ts) p (x ∷ xs) run fits stand h =
      let all = subst AllHaveCanonicalBytes (next_seats p x xs run fits) h in (
        in_place_one t p.at x stand.0 all.0.0 all.0.1,
        run_back ts (after p q x xs) xs (Run-tail p q x xs run) (omega (arith, length-append x.piece (pieces xs))) stand.1 all.1,
      )

  -- the same of the values of members
  members_canonical : (ms : Members) (p : Place) (xs : List Item) → Run p q xs → p.at + length (pieces xs) < 2 ^ 28 → AreCanonicalValues ms p.at xs
      → AllHaveCanonicalBytes (seats_at s (length xs) p)
  members_canonical no_members p [] run fits h = subst AllHaveCanonicalBytes (sym (no_seats s p)) tt
  members_canonical no_members p (x ∷ xs) run fits h = absurd h
  members_canonical (member k t ms) p [] run fits h = absurd h
  members_canonical (member k t ms) p (x ∷ xs) run fits h =
      let more = members_canonical ms (after p q x xs) xs (Run-tail p q x xs run) (omega (arith, length-append x.piece (pieces xs))) h.1 in
      subst AllHaveCanonicalBytes (sym (next_seats p x xs run fits)) ((t, own_canonical t p.at x h.0), more)

  members_back : (ms : Members) (p : Place) (xs : List Item) → Run p q xs → p.at + length (pieces xs) < 2 ^ 28 → AreValues ms p.at xs
      → AllHaveCanonicalBytes (seats_at s (length xs) p) → AreCanonicalValues ms p.at xs
  members_back no_members p [] run fits stand h = tt
  members_back no_members p (x ∷ xs) run fits stand h = absurd stand
  members_back (member k t ms) p [] run fits stand h = absurd stand
  members_back (member k t ms) p (x ∷ xs) run fits stand h =
      let all = subst AllHaveCanonicalBytes (next_seats p x xs run fits) h in (
        in_place_one t p.at x stand.0 all.0.0 all.0.1,
        members_back ms (after p q x xs) xs (Run-tail p q x xs run) (omega (arith, length-append x.piece (pieces xs))) stand.1 all.1,
      )

-- ---- containers

-- bytes that are laid out are opened so
laid_opens : (b : List ℕ) (f g : Form) (c : ℕ) (p : Place) (xs : List Item) → (laid : Laid b g xs) → opened b ≡ Some (f, c, p)
    → (f ≡ g) × (c ≡ laid.count) × (p ≡ first xs)
laid_opens b f g c p xs laid e =
    let left : Form × ℕ × Place = (f, c, p) in
    let right : Form × ℕ × Place = (g, laid.count, first xs) in
    let same : left ≡ right = some_is left right (sym e ∙ open_again b g laid.count (first xs) (opens_from b g xs laid)) in (
      ap (λ (o : Form × ℕ × Place). o.0) same,
      ap (λ (o : Form × ℕ × Place). o.1) same,
      ap (λ (o : Form × ℕ × Place). o.2) same,
    )

-- the seats of a run, by how many there are
seats_same : (s : ℕ) {m n : ℕ} {p q : Place} → m ≡ n → p ≡ q → seats_at s m p ≡ seats_at s n q
seats_same s {n = n} {p = p} e f = ap (λ (k : ℕ). seats_at s k p) e ∙ ap (seats_at s n) f

module _ (s c : ℕ) (b : List ℕ) (p : Place) (ts : Elements) (e : opened b ≡ Some (Array, c, p)) where
  elements_there : (xs : List Item) → Laid b Array xs → seats_at s (length xs) (first xs) ≡ seats_at s c p
  elements_there xs laid =
      let o = laid_opens b Array Array c p xs laid e in
      seats_same s (laid.counted ∙ sym o.1) (sym o.2)

  array_canonical : IsArray (AreCanonicalElements ts) b → AllHaveCanonicalBytes (seats_at s c p)
  array_canonical (xs, laid, h) =
      subst AllHaveCanonicalBytes (elements_there xs laid)
      (run_canonical s (last xs) ts (first xs) xs (run_over xs laid.kinds) (omega (arith, laid.pieces_fit)) h)

  array_back : IsArray (AreElements ts) b → AllHaveCanonicalBytes (seats_at s c p) → IsArray (AreCanonicalElements ts) b
  array_back (xs, laid, stand) h = (
    xs,
    laid,
    run_back s (last xs) ts (first xs) xs (run_over xs laid.kinds) (omega (arith, laid.pieces_fit)) stand
        (subst AllHaveCanonicalBytes (sym (elements_there xs laid)) h),
  )

value_count : (ms : Members) (at : ℕ) (xs : List Item) → AreValues ms at xs → length xs ≡ length (keys ms)
value_count no_members at [] h = refl
value_count no_members at (x ∷ xs) h = absurd h
value_count (member k t ms) at [] h = absurd h
value_count (member k t ms) at (x ∷ xs) h = ap (λ (n : ℕ). suc n) (value_count ms (at + length x.piece) xs h.1)

-- The values of an object are these items, from behind its keys on.
record Behind (b : List ℕ) (c : ℕ) (q : Place) (ms : Members) (xs : List Item) : Type 0 where
  end : Place
  run : Run q end xs
  at : q.at ≡ length (pieces (map key_item (keys ms)))
  fits : q.at + length (pieces xs) < 2 ^ 28
  count : length xs ≡ c

module _ (s c : ℕ) (b : List ℕ) {p q : Place} {ks : List (List ℕ)} (ms : Members) (e : opened b ≡ Some (Object, c, p))
    (k : keys_at c None p ≡ Some (ks, q)) where
  values_there : (xs : List Item) → Laid b Object (map key_item (keys ms) ++ xs) → IsTrue (rises (keys ms)) → length xs ≡ length (keys ms)
      → Behind b c q ms xs
  values_there xs laid rise many =
      let front = map key_item (keys ms) in
      let all = front ++ xs in
      let o = laid_opens b Object Object c p all laid e in
      let split = Run-split front xs (first all) (last all) (run_over all laid.kinds) in
      let long = length-append front xs in
      let number : length (keys ms) ≡ c = omega (arith, laid.counted, o.1, long, length-map (keys ms) key_item, many) in
      let size = pieces-append front xs in
      let room : length (pieces front) < 2 ^ 28 = omega (arith, size, laid.pieces_fit) in
      let again : keys_at (length (keys ms)) None (first all) ≡ Some (keys ms, split.0) =
      keys_again (keys ms) None (first all) split.0 split.1 (omega (arith, room)) rise in
      let left : List (List ℕ) × Place = (ks, q) in
      let right : List (List ℕ) × Place = (keys ms, split.0) in
      let same : left ≡ right =
      some_is left right
      (sym k
      ∙ ap (λ (n : ℕ). keys_at n None p) (sym number)
      ∙ ap (keys_at (length (keys ms)) None) o.2
      ∙ again) in
      let here : q ≡ split.0 = ap (λ (r : List (List ℕ) × Place). r.1) same in
      let moved : q.at ≡ split.0.at = ap (λ (r : Place). r.at) here in
      let place : q.at ≡ length (pieces front) = omega (arith, moved, split.1.at) in
      record {
        end = last all;
        run = subst (λ (r : Place). Run r (last all) xs) (sym here) split.2;
        at = place;
        fits = omega (arith, place, size, laid.pieces_fit);
        count = many ∙ number;
      }

  object_canonical : IsObject (keys ms) (AreCanonicalValues ms) b → AllHaveCanonicalBytes (seats_at s c q)
  object_canonical (xs, laid, rise, h) =
      let stand = values_stand ms (length (pieces (map key_item (keys ms)))) xs h in
      let v = values_there xs laid rise (value_count ms (length (pieces (map key_item (keys ms)))) xs stand) in
      subst (λ (n : ℕ). AllHaveCanonicalBytes (seats_at s n q)) v.count
      (members_canonical s v.end ms q xs v.run v.fits (subst (λ (n : ℕ). AreCanonicalValues ms n xs) (sym v.at) h))

  object_back : IsObject (keys ms) (AreValues ms) b → AllHaveCanonicalBytes (seats_at s c q) → IsObject (keys ms) (AreCanonicalValues ms) b
  object_back (xs, laid, rise, stand) h =
      let v = values_there xs laid rise (value_count ms (length (pieces (map key_item (keys ms)))) xs stand) in
      let all = subst (λ (n : ℕ). AllHaveCanonicalBytes (seats_at s n q)) (sym v.count) h in
      let values = members_back s v.end ms q xs v.run v.fits (subst (λ (n : ℕ). AreValues ms n xs) (sym v.at) stand) all in
      (xs, laid, rise, subst (λ (n : ℕ). AreCanonicalValues ms n xs) v.at values)

-- ---- the seat of a container

abbrev pub container_seat : ℕ → List ℕ → Seat
container_seat at b = record { at = at; kind = 5; bytes = b }

not_scalar : (t : Scalar) (at : ℕ) (b : List ℕ) → SeatIsCanonical (container_seat at b) (scalar t) → ⊥
not_scalar null at b h = absurd cc
not_scalar (boolean true) at b h = absurd cc
not_scalar (boolean false) at b h = absurd cc
not_scalar (number d) at b h = absurd cc
not_scalar (string s) at b h = absurd cc

not_other : (b : List ℕ) (f g : Form) (c : ℕ) (p : Place) (xs : List Item) → Laid b g xs → opened b ≡ Some (f, c, p) → f ≡ g
not_other b f g c p xs laid e = (laid_opens b f g c p xs laid e).0

-- an array is canonical exactly where its elements are
pub elements_are_all : (at s c : ℕ) (b : List ℕ) (p : Place) → IsBytes b → opened b ≡ Some (Array, c, p) → (ts : Elements) → read b ≡ Some (array ts)
    → HasCanonicalBytes (container_seat at b) ↔ AllHaveCanonicalBytes (seats_at s c p)
elements_are_all at s c b p fits e ts is = (λ h. there h.0 h.1, back)
  where
    there : (t : Tree) → SeatIsCanonical (container_seat at b) t → AllHaveCanonicalBytes (seats_at s c p)
    there (scalar t) h = absurd (not_scalar t at b h)
    there (array us) h = array_canonical s c b p us e (subst (IsArray (AreCanonicalElements us)) (sym h.1.1) h.1.2)
    there (object ms) h =
        let o = subst (IsObject (keys ms) (AreCanonicalValues ms)) (sym h.1.1) h.1.2 in
        absurd (let f : Array ≡ Object = not_other b Array Object c p (map key_item (keys ms) ++ o.0) o.1 e in cc)

    back : AllHaveCanonicalBytes (seats_at s c p) → HasCanonicalBytes (container_seat at b)
    back h = (array ts, (refl, (b, refl, array_back s c b p ts e (read_takes b (array ts) fits is) h)))

-- an object is canonical exactly where its values are
pub values_are_all : (at s c : ℕ) (b : List ℕ) {p q : Place} {ks : List (List ℕ)} → IsBytes b → opened b ≡ Some (Object, c, p)
    → keys_at c None p ≡ Some (ks, q) → (ms : Members) → read b ≡ Some (object ms)
    → HasCanonicalBytes (container_seat at b) ↔ AllHaveCanonicalBytes (seats_at s c q)
values_are_all at s c b {p = p} {q = q} {ks = ks} fits e k ms is = (λ h. there h.0 h.1, back)
  where
    there : (t : Tree) → SeatIsCanonical (container_seat at b) t → AllHaveCanonicalBytes (seats_at s c q)
    there (scalar t) h = absurd (not_scalar t at b h)
    there (array us) h =
        let o = subst (IsArray (AreCanonicalElements us)) (sym h.1.1) h.1.2 in
        absurd (let f : Object ≡ Array = not_other b Object Array c p o.0 o.1 e in cc)
    there (object ns) h = object_canonical s c b ns e k (subst (IsObject (keys ns) (AreCanonicalValues ns)) (sym h.1.1) h.1.2)

    back : AllHaveCanonicalBytes (seats_at s c q) → HasCanonicalBytes (container_seat at b)
    back h = (object ms, (refl, (b, refl, object_back s c b ms e k (read_takes b (object ms) fits is) h)))

-- ---- the root

roots_same : (b : List ℕ) (f g : Form) (xs ys : List Item) → Laid b f xs → Laid b g ys → root_seat b f xs ≡ root_seat b g ys
roots_same b f g xs ys l m = let o = one_layout b f g xs ys l m in ap (λ (u : Form). root_seat b u xs) o.0 ∙ ap (root_seat b g) o.1

-- the root is canonical for the tree: so is the slice
pub root_takes : (t : Tree) (b : List ℕ) (s : Seat) → Stands b t → IsRoot b s → SeatIsCanonical s t → IsCanonical b t
root_takes (scalar c) b s (x, l, h) (f, xs, laid, e) can =
    let same : s ≡ item_seat 0 1 [] x = e ∙ roots_same b f Lone xs (x ∷ []) laid l in
    (x, l, in_place (scalar c) (scalar c) 0 x h (subst (λ (r : Seat). SeatIsCanonical r (scalar c)) same can))
root_takes (array ts) b s (ys, l, h) (f, xs, laid, e) can =
    let same : s ≡ container_seat 0 b = e ∙ roots_same b f Array xs ys laid l in
    let c = subst (λ (r : Seat). SeatIsCanonical r (array ts)) same can in
    subst (IsArray (AreCanonicalElements ts)) (sym c.1.1) c.1.2
root_takes (object ms) b s (ys, l, rise, h) (f, xs, laid, e) can =
    let same : s ≡ container_seat 0 b = e ∙ roots_same b f Object xs (map key_item (keys ms) ++ ys) laid l in
    let c = subst (λ (r : Seat). SeatIsCanonical r (object ms)) same can in
    subst (IsObject (keys ms) (AreCanonicalValues ms)) (sym c.1.1) c.1.2

-- and back
pub root_again : (t : Tree) (b : List ℕ) (s : Seat) → IsRoot b s → IsCanonical b t → SeatIsCanonical s t
root_again (scalar c) b s (f, xs, laid, e) (x, l, h) =
    let same : s ≡ item_seat 0 1 [] x = e ∙ roots_same b f Lone xs (x ∷ []) laid l in
    subst (λ (r : Seat). SeatIsCanonical r (scalar c)) (sym same) (own_canonical (scalar c) 0 x h)
root_again (array ts) b s (f, xs, laid, e) (ys, l, h) =
    let same : s ≡ container_seat 0 b = e ∙ roots_same b f Array xs ys laid l in
    subst (λ (r : Seat). SeatIsCanonical r (array ts)) (sym same) (refl, (b, refl, (ys, l, h)))
root_again (object ms) b s (f, xs, laid, e) (ys, l, rise, h) =
    let same : s ≡ container_seat 0 b = e ∙ roots_same b f Object xs (map key_item (keys ms) ++ ys) laid l in
    subst (λ (r : Seat). SeatIsCanonical r (object ms)) (sym same) (refl, (b, refl, (ys, l, rise, h)))

-- ---- two slices

-- canonical bytes are equal exactly where their trees are
pub equal_by_trees : (t u : Tree) (a b : List ℕ) → IsCanonical a t → IsCanonical b u → (a ≡ b) ↔ (t ≡ u)
equal_by_trees t u a b h k = (
  λ e. one_tree b t u (subst (λ (x : List ℕ). Stands x t) e (canonical_stands t a h)) (canonical_stands u b k),
  λ e. canonical_one u a b (subst (IsCanonical a) e h) k,
)

-- ---- a number by itself

abbrev pub number_seat : ℕ → List ℕ → Seat
number_seat at b = record { at = at; kind = 1; bytes = b }

-- behind the words of a root scalar there are the bytes of the number
pub number_bytes : (d : Decimal) → drop 8 (canonical (scalar (number d))) ≡ numeric Short d
unfolding encoded
number_bytes d = append-nil (numeric Short d)

-- a number in range is within the limits
pub number_within : (d : Decimal) → IsInRange d → length (numeric Short d) < 2 ^ 28
number_within d range = omega (arith, number_small d range)

-- what is canonical of a number
pub number_is_canonical : (at : ℕ) (b : List ℕ) (d : Decimal) → IsInRange d → numeric_of b ≡ Some d
    → (b ≡ numeric Short d) ↔ HasCanonicalBytes (number_seat at b)
number_is_canonical at b d range is = (λ e. (scalar (number d), (refl, (b, refl, (range, e)))), λ h. back h.0 h.1)
  where
    back : (t : Tree) → SeatIsCanonical (number_seat at b) t → b ≡ numeric Short d
    back (scalar null) h = absurd cc
    back (scalar (boolean true)) h = absurd cc
    back (scalar (boolean false)) h = absurd cc
    back (scalar (string s)) h = absurd cc
    back (scalar (number c)) (kind, (q, piece, (low, e))) =
        let n : Numeric b c = subst (λ (x : List ℕ). Numeric x c) (sym (piece ∙ e)) (short_stands c low) in
        let same : c ≡ d = some_is c d (sym (numeric_again b c n) ∙ is) in
        piece ∙ e ∙ ap (numeric Short) same
    back (array ts) h = absurd cc
    back (object ms) h = absurd cc
