-- Looking at the canonical form, value by value.
use Rattle.std.proofs.Common.{◌≡◌, ℕ, zero, suc, ◌+◌, ◌-◌, ◌<◌, ◌≤◌, Bool, true, false, cond, eqb, List, [], ◌∷◌, ◌++◌, length, take, drop, Option, Some, None, refl, sym, ap, subst, ◌∙◌, arith}
use Rattle.std.specs.Prelude.{IsTrue, ◌↔◌, ◌&&◌, ◌||◌, not, Result, Ok, Err, IfOk}
use Rattle.std.proofs.lemmas.Bool.{eqb-true}
use Rattle.std.proofs.lemmas.List.{length-drop, append-nil, take_at}
use Rattle.json_exact.specs.declared.out_of_memory.OutOfMemory.{OutOfMemory}
use Rattle.json_exact.specs.Parsed.{IsInRange}
use Rattle.json_model.specs.Decimal.{Decimal}
use Rattle.json_model.specs.Tree.{Scalar, null, boolean, number, string, Tree, scalar, array, object, Elements}
use Rattle.jsonb_layout.specs.Layout.{Item, pad}
use Rattle.jsonb_layout.specs.Options.{◌>>=◌}
use Rattle.jsonb_layout.specs.declared.form.Form.TheVariants.{Array, Object}
use Rattle.jsonb_layout.specs.Seats.{Seat, is_padded, own_bytes}
use Rattle.jsonb_layout.specs.inner.Reading.{Place, size, item_at, numeric_of, opened}
use Rattle.jsonb_layout.specs.inner.SeatReading.{seat_at, or_no_seats, seats_at}
use Rattle.jsonb_layout.specs.inner.Trees.{read, members}
use Rattle.jsonb_layout.proofs.Sizes.{item_size, keys_size, opened_size}
use Rattle.jsonb_layout.proofs.Tools.{IsBytes, some_is, some}
use Rattle.jsonb_encode.specs.Canonical.{SeatIsCanonical, HasCanonicalBytes, AllHaveCanonicalBytes}
use Rattle.jsonb_encode.specs.Encoded.{canonical}
use Rattle.jsonb_encode.specs.Number.{numeric}
use Rattle.jsonb_encode.specs.declared.number_form.NumericForm.TheVariants.{Short}
use Rattle.jsonb_encode.proofs.Canonical.{item_stands}
use Rattle.jsonb_encode.proofs.CanonicalSeats.{container_seat, elements_are_all, values_are_all, number_bytes, number_is_canonical}
use Rattle.jsonb.specs.Found.{both, keys_found, elements_found, members_found}
use Rattle.jsonb.specs.Nodes.{node_tree}
use Rattle.jsonb.specs.Seated.{node_seat, seats_left}
use Rattle.jsonb.specs.inner.Canonical.{IsLeftCanonical, AreLeftCanonical, seats_weight, cursor_weight, pending_weight, Looked, Advanced}
use Rattle.jsonb.specs.inner.Values.{kind_number, value_of, or_null, is_clean, IsJsonTree, array_at, object_at, skip}
use Rattle.jsonb.specs.declared.cursor.Cursor.{Cursor}
use Rattle.jsonb.specs.declared.found.Found.{Found}
use Rattle.jsonb.specs.declared.kind.Kind.{Kind}
use Rattle.jsonb.specs.declared.kind.Kind.TheVariants as kinds
use Rattle.jsonb.specs.declared.node.JsonbNode.{JsonbNode}
use Rattle.jsonb.proofs.FoundLaws.{members_found_is}
use Rattle.jsonb.proofs.MemberLaws.{holds, keys_names, object_stands, array_read, object_read}
use Rattle.jsonb.proofs.PlaceLaws.{stands_value}

-- ---- a node

-- a node is canonical for its tree exactly where it is for some tree
pub node_canonical : (n : JsonbNode) → HasCanonicalBytes (node_seat n) ↔ SeatIsCanonical (node_seat n) (node_tree n)
node_canonical n = (λ h. there h.0 h.1, λ h. (node_tree n, h))
  where
    there : (t : Tree) → SeatIsCanonical (node_seat n) t → SeatIsCanonical (node_seat n) (node_tree n)
    there t h =
        let is = stands_value n.kind n.bytes.now t (item_stands t 0 (record { kind = kind_number n.kind; piece = n.bytes.now }) h) in
        let same : t ≡ node_tree n = sym (ap or_null is) in
        subst (SeatIsCanonical (node_seat n)) same h

-- bytes of a kind, wherever they are
abbrev pub kind_seat : ℕ → Kind → List ℕ → Seat
kind_seat at k b = record { at = at; kind = kind_number k; bytes = b }

-- what has no bytes
empty_of : (t : Tree) (s : Seat) → SeatIsCanonical s t → 2 ≤ s.kind → s.kind ≤ 4 → s.bytes ≡ []
empty_of (scalar null) s h lo hi = h.1
empty_of (scalar (boolean true)) s h lo hi = h.1
empty_of (scalar (boolean false)) s h lo hi = h.1
empty_of (scalar (string c)) s h lo hi = absurd (omega (arith, h.0))
empty_of (scalar (number d)) s h lo hi = absurd (omega (arith, h.0))
empty_of (array ts) s h lo hi = absurd (omega (arith, h.0))
empty_of (object ms) s h lo hi = absurd (omega (arith, h.0))

-- ---- what is left

all_more : (cs : List Cursor) (c : Cursor) → AreLeftCanonical cs → IsLeftCanonical c → AreLeftCanonical (cs ++ c ∷ [])
all_more [] c h k = (k, tt)
all_more (d ∷ cs) c h k = (h.0, all_more cs c h.1 k)

all_less : (cs : List Cursor) (c : Cursor) → AreLeftCanonical (cs ++ c ∷ []) → AreLeftCanonical cs × IsLeftCanonical c
all_less [] c h = (tt, h.0)
all_less (d ∷ cs) c h = let m = all_less cs c h.1 in ((h.0, m.0), m.1)

weight_more : (cs : List Cursor) (c : Cursor) → pending_weight (cs ++ c ∷ []) ≡ pending_weight cs + cursor_weight c
weight_more [] c = omega arith
weight_more (d ∷ cs) c = omega (arith, weight_more cs c)

own_short : (at : ℕ) (x : Item) → length (own_bytes at x) ≤ length x.piece
own_short at x = go (is_padded x.kind)
  where
    go : (b : Bool) → length (cond b (drop (pad at) x.piece) x.piece) ≤ length x.piece
    go true = omega (arith, length-drop (pad at) x.piece)
    go false = omega arith

-- values from a place on are within what is left there
pub weight_fits : (s n : ℕ) (p : Place) → seats_weight (seats_at s n p) ≤ size p
unfolding seats_at
weight_fits s zero p = omega arith
weight_fits s (suc n) p = go (item_at p) refl (λ q. weight_fits s n q)
  where
    go : (r : Option (Item × Place)) → item_at p ≡ r → ((q : Place) → seats_weight (seats_at s n q) ≤ size q)
        → seats_weight (or_no_seats (r >>= λ x. Some (seat_at s p x.0 ∷ seats_at s n x.1))) ≤ size p
    go None e more = omega arith
    go (Some x) e more = omega (arith, item_size p x.1 x.0 e, own_short p.at x.0, more x.1)

-- ---- the values in a container

clean_right : (f g : Found) → is_clean (both f g) ≡ true → is_clean g ≡ true
clean_right f g e = go f.not_text g.not_text f.wide g.wide e
  where
    go : (a b c d : Bool) → (not (a || b) && not (c || d)) ≡ true → (not b && not d) ≡ true
    go true b c d e = absurd cc
    go false true c d e = absurd cc
    go false false true d e = absurd cc
    go false false false true e = absurd cc
    go false false false false e = refl

-- the values of an object are JSON
pub values_json : (c : ℕ) (p q : Place) → IsJsonTree (object_at c p) → Some q ≡ skip c p → IsJsonTree (array_at c q)
values_json c p q json e =
    let o = holds c p json in
    let n = keys_names c None p (o.names, o.behind) o.keys_are in
    let here : o.behind ≡ q = some_is o.behind q (sym n.1 ∙ sym e) in
    let clean : is_clean (members_found (members o.names o.trees)) ≡ true = subst IsJsonTree o.tree json in
    let values : is_clean (elements_found o.trees) ≡ true =
    clean_right (keys_found o.names) (elements_found o.trees) (sym (ap is_clean (members_found_is o.names o.trees o.counts)) ∙ clean) in
    let is : array_at c o.behind ≡ Some (array o.trees) =
    ap (λ (r : Option (Elements × Place)). r >>= λ r. some (array r.0)) o.values_are in
    subst (λ (r : Place). IsJsonTree (array_at c r)) here (subst IsJsonTree (sym is) values)

module _ (begin s c : ℕ) (b : List ℕ) {p : Place} (fits : IsBytes b) (json : IsJsonTree (read b)) where
  pub array_values : Some (Array, c, p) ≡ opened b → HasCanonicalBytes (container_seat begin b) ↔ AllHaveCanonicalBytes (seats_at s c p)
  array_values e = let a = array_read b json c p e in elements_are_all begin s c b p fits (sym e) a.0 a.1

  pub array_weight : Some (Array, c, p) ≡ opened b → seats_weight (seats_at s c p) + 1 ≤ length b
  array_weight e = omega (arith, weight_fits s c p, opened_size b (Array, c, p) (sym e))

  module _ (cs : List Seat) (e : Some (Object, c, p) ≡ opened b) (are : (q : Place) → Some q ≡ skip c p → cs ≡ seats_at s c q) where
    pub object_values : HasCanonicalBytes (container_seat begin b) ↔ AllHaveCanonicalBytes cs
    object_values =
        let o = holds c p (object_stands b json e) in
        let m = object_read b json c p e in
        let n = keys_names c None p (o.names, o.behind) o.keys_are in
        subst (λ (l : List Seat). HasCanonicalBytes (container_seat begin b) ↔ AllHaveCanonicalBytes l) (sym (are o.behind (sym n.1)))
        (values_are_all begin s c b fits (sym e) o.keys_are m.0 m.1)

    pub object_weight : seats_weight cs + 1 ≤ length b
    object_weight =
        let o = holds c p (object_stands b json e) in
        let n = keys_names c None p (o.names, o.behind) o.keys_are in
        let keys = keys_size c None p (o.names, o.behind) o.keys_are in
        let same : seats_weight cs ≡ seats_weight (seats_at s c o.behind) = ap seats_weight (are o.behind (sym n.1)) in
        omega (arith, same, weight_fits s c o.behind, keys, opened_size b (Object, c, p) (sym e))

-- ---- a number

take_whole : (xs : List ℕ) (n : ℕ) → length xs ≡ n → take n xs ≡ xs
take_whole xs n e = ap (take n) (sym (append-nil xs)) ∙ take_at xs [] n e

-- what a slice has from a place on
pub slice_rest : (xs all : List ℕ) (n : ℕ) → xs ≡ all → take (length xs - n) (drop n xs) ≡ drop n all
slice_rest xs all n e = take_whole (drop n xs) (length xs - n) (length-drop n xs) ∙ ap (drop n) e

-- the bytes that are written of a number tell whether it is canonical
pub number_told : (b all : List ℕ) (d : Decimal) → IsInRange d → IsJsonTree (value_of kinds.Number b)
    → or_null (value_of kinds.Number b) ≡ scalar (number d) → all ≡ canonical (scalar (number d))
    → (drop 8 all ≡ b) ↔ HasCanonicalBytes (record { at = 0; kind = 1; bytes = b })
number_told b all d range json is e =
    let reads : numeric_of b ≡ Some d = go (numeric_of b) json is in
    let tells = number_is_canonical 0 b d range reads in
    let rest : drop 8 all ≡ numeric Short d = ap (drop 8) e ∙ number_bytes d in
    (λ h. tells.0 (sym h ∙ rest), λ h. rest ∙ sym (tells.1 h))
  where
    go : (r : Option Decimal) → IsJsonTree (r >>= λ d. Some (scalar (number d))) → or_null (r >>= λ d. Some (scalar (number d))) ≡ scalar (number d)
        → r ≡ Some d
    go None h e = absurd cc
    go (Some c) h e = let same : c ≡ d = cc in ap some same

-- ---- one value

-- nothing is put off
looked_same : (s : Seat) (old : List Cursor) (yes : Bool) → IsTrue yes ↔ HasCanonicalBytes s → Looked s old old yes
looked_same s old true h = ((λ k. k.1, λ k. (h.0 refl, k)), omega arith)
looked_same s old false h = λ k. absurd (let e : IsTrue false = h.1 k in cc)

-- a string is canonical
pub looked_string : (n : JsonbNode) (old : List Cursor) → n.kind ≡ kinds.String → Looked (node_seat n) old old true
looked_string n old e =
    let can : HasCanonicalBytes (node_seat n) =
    subst (λ (k : Kind). HasCanonicalBytes (kind_seat n.offset k n.bytes.now)) (sym e) (scalar (string n.bytes.now), (refl, refl)) in
    looked_same (node_seat n) old true (λ h. can, λ h. refl)

-- a number is what it is told to be
pub looked_number : (n : JsonbNode) (old : List Cursor) (r : Result Bool OutOfMemory) → n.kind ≡ kinds.Number
    → IfOk r (λ yes. IsTrue yes ↔ HasCanonicalBytes (record { at = 0; kind = 1; bytes = n.bytes.now })) → IfOk r (Looked (node_seat n) old old)
looked_number n old (Ok can) e h =
    looked_same (node_seat n) old can (subst (λ (k : Kind). IsTrue can ↔ HasCanonicalBytes (kind_seat n.offset k n.bytes.now)) (sym e) h)
looked_number n old (Err x) e h = tt

-- a truth value or null is canonical without bytes
pub looked_empty : (n : JsonbNode) (old : List Cursor) (none : Bool) (k : Kind) (t : Scalar) → n.kind ≡ k → 2 ≤ kind_number k → kind_number k ≤ 4
    → SeatIsCanonical (kind_seat 0 k []) (scalar t) → none ≡ eqb (length n.bytes.now) 0 → Looked (node_seat n) old old none
looked_empty n old none k t e lo hi can is =
    let at : HasCanonicalBytes (node_seat n) → n.bytes.now ≡ [] =
    λ h. empty_of h.0 (kind_seat 0 k n.bytes.now) (subst (λ (j : Kind). SeatIsCanonical (kind_seat 0 j n.bytes.now) h.0) e h.1) lo hi in
    looked_same (node_seat n) old none (
      λ h. subst (λ (j : Kind). HasCanonicalBytes (kind_seat n.offset j n.bytes.now)) (sym e)
          (subst (λ (b : List ℕ). HasCanonicalBytes (kind_seat 0 k b)) (sym (no_bytes n.bytes.now (sym is ∙ h))) (scalar t, can)),
      λ h. is ∙ ap (λ (b : List ℕ). eqb (length b) 0) (at h),
    )
  where
    no_bytes : (b : List ℕ) → eqb (length b) 0 ≡ true → b ≡ []
    no_bytes [] e = refl
    no_bytes (x ∷ b) e = absurd (let z : suc (length b) ≡ 0 = eqb-true (suc (length b)) 0 e in omega arith)

-- the values of a container are put off
pub looked_inside : (n : JsonbNode) (old new : List Cursor) (c : Cursor) → n.kind ≡ kinds.Container → new ≡ old ++ c ∷ []
    → HasCanonicalBytes (record { at = n.offset; kind = 5; bytes = n.bytes.now }) ↔ AllHaveCanonicalBytes (seats_left c)
    → seats_weight (seats_left c) + 1 ≤ length n.bytes.now → Looked (node_seat n) old new true
looked_inside n old new c e put h light =
    let at : HasCanonicalBytes (node_seat n) ↔ IsLeftCanonical c =
    subst (λ (k : Kind). HasCanonicalBytes (kind_seat n.offset k n.bytes.now) ↔ IsLeftCanonical c) (sym e) h in
    subst (λ (l : List Cursor). Looked (node_seat n) old l true) (sym put) (
      (λ k. all_more old c k.1 (at.0 k.0), λ k. let m = all_less old c k in (at.1 m.1, m.0)),
      omega (arith, weight_more old c, light),
    )

-- ---- the next of some values

-- where none is left
pub advanced_none : (c : Cursor) (old : List Cursor) → seats_left c ≡ [] → Advanced c old old true
advanced_none c old e = ((λ k. k.1, λ k. (subst AllHaveCanonicalBytes (sym e) tt, k)), omega (arith, ap seats_weight e))

-- the next was looked at, and the others are put off
pub advanced : (c rest : Cursor) (s : Seat) (old mid new : List Cursor) (yes : Bool) → seats_left c ≡ s ∷ seats_left rest → mid ≡ old ++ rest ∷ []
    → Looked s mid new yes → Advanced c old new yes
advanced c rest s old mid new true e put h =
    let h1 = subst (λ (l : List Cursor). Looked s l new true) put h in (
      (
        λ k. let all = subst AllHaveCanonicalBytes e k.0 in h1.0.0 (all.0, all_more old rest k.1 all.1),
        λ k. let both = h1.0.1 k in let m = all_less old rest both.1 in (subst AllHaveCanonicalBytes (sym e) (both.0, m.1), m.0),
      ),
      omega (arith, h1.1, weight_more old rest, ap seats_weight e),
    )
advanced c rest s old mid new false e put h = λ k. h (subst AllHaveCanonicalBytes e k).0

-- the same of an answer that may want memory
pub advanced_by : (c rest : Cursor) (s : Seat) (old mid new : List Cursor) (r : Result Bool OutOfMemory) → seats_left c ≡ s ∷ seats_left rest
    → mid ≡ old ++ rest ∷ [] → IfOk r (Looked s mid new) → IfOk r (Advanced c old new)
advanced_by c rest s old mid new (Ok can) e put h = advanced c rest s old mid new can e put h
advanced_by c rest s old mid new (Err x) e put h = tt

-- ---- all values

-- the node is canonical exactly where all is that is left
abbrev pub IsLeft : JsonbNode → List Cursor → Type 0
IsLeft n cs = HasCanonicalBytes (node_seat n) ↔ AreLeftCanonical cs

-- before the first step
pub begins : (n : JsonbNode) (none new : List Cursor) → none ≡ [] → Looked (node_seat n) none new true → IsLeft n new
begins n none new e h = (λ k. h.0.0 (k, subst AreLeftCanonical (sym e) tt), λ k. (h.0.1 k).0)

module _ (n : JsonbNode) (all old : List Cursor) (c : Cursor) (split : all ≡ old ++ c ∷ []) (left : IsLeft n all) where
  -- a step more
  pub goes_on : (new : List Cursor) → Advanced c old new true → IsLeft n new
  goes_on new h = (
    λ k. let m = all_less old c (subst AreLeftCanonical split (left.0 k)) in h.0.0 (m.1, m.0),
    λ k. let both = h.0.1 k in left.1 (subst AreLeftCanonical (sym split) (all_more old c both.1 both.0)),
  )

  -- each step leaves less
  pub goes_down : (new : List Cursor) → Advanced c old new true → pending_weight new < pending_weight all
  goes_down new h = omega (arith, h.1, weight_more old c, ap pending_weight split)

  -- a value that is not canonical
  pub stops : (new : List Cursor) → Advanced c old new false → SeatIsCanonical (node_seat n) (node_tree n) → ⊥
  stops new h k = h (all_less old c (subst AreLeftCanonical split (left.0 ((node_canonical n).1 k)))).1

module _ (n : JsonbNode) (all old : List Cursor) (c : Cursor) (split : all ≡ old ++ c ∷ []) (left : IsLeft n all) (new : List Cursor)
    (can : Bool) where
  -- the same, by the answer
  pub goes_on_by : can ≡ true → Advanced c old new can → IsLeft n new
  goes_on_by e h = goes_on n all old c split left new (subst (Advanced c old new) e h)

  pub goes_down_by : can ≡ true → Advanced c old new can → pending_weight new < pending_weight all
  goes_down_by e h = goes_down n all old c split left new (subst (Advanced c old new) e h)

  pub stops_by : can ≡ false → Advanced c old new can → SeatIsCanonical (node_seat n) (node_tree n) → ⊥
  stops_by e h = stops n all old c split left new (subst (Advanced c old new) e h)

-- where nothing is left
pub ends : (n : JsonbNode) (cs : List Cursor) → cs ≡ [] → IsLeft n cs → SeatIsCanonical (node_seat n) (node_tree n)
ends n cs e left = (node_canonical n).0 (left.1 (subst AreLeftCanonical (sym e) tt))

-- where nothing was taken off, nothing is left
pub none_left : (cs rest : List Cursor) (len : ℕ) → cs ≡ rest ++ [] → rest ≡ take (len - 1) cs → len ≡ 0 → cs ≡ []
none_left cs rest len e r z = e ∙ append-nil rest ∙ r ∙ ap (λ (k : ℕ). take (k - 1) cs) z
