-- The seats that are computed, from where the reading of a container stands, are those of the layout.
use Rattle.std.proofs.Common.{◌≡◌, ℕ, zero, suc, ◌+◌, ◌-◌, ◌*◌, ◌^◌, ◌<◌, List, [], ◌∷◌, ◌++◌, length, map, Option, Some, None, refl, sym, ap, subst, ◌∙◌, append_assoc, arith}
use Rattle.std.specs.Prelude.{slice_get}
use Rattle.std.proofs.lemmas.List.{length-append, append-nil, length-map}
use Rattle.std.proofs.lemmas.List.Concat.{flat_map-append}
use Rattle.std.specs.Int.{w32, to_le_bytes}
use Rattle.json_model.specs.Tree.{Tree, scalar, array, object}
use Rattle.jsonb_layout.specs.Layout.{Item, pieces, entry, entries, words, Laid}
use Rattle.jsonb_layout.specs.declared.form.Form.{Form}
use Rattle.jsonb_layout.specs.declared.form.Form.TheVariants.{Array, Object, Lone}
use Rattle.jsonb_layout.specs.Stands.{key_item}
use Rattle.jsonb_layout.specs.Options.{◌>>=◌}
use Rattle.jsonb_layout.specs.inner.Reading.{Place, item_at, keys_at, opened, ended, lone_item}
use Rattle.jsonb_layout.specs.inner.Trees.{elements_by, members, held_by, read}
use Rattle.jsonb_layout.specs.Seats.{Seat, own_bytes, where_it_is, item_seat, AreHeld, IsRoot}
use Rattle.jsonb_layout.specs.inner.SeatReading.{seat_at, or_no_seats, seats_at}
use Rattle.jsonb_layout.proofs.Tools.{bind_some, some_is, IsBytes}
use Rattle.jsonb_layout.proofs.Runs.{Run, Run-append, Run-tail, after, item_again}
use Rattle.jsonb_layout.proofs.KeyRuns.{keys_take}
use Rattle.jsonb_layout.proofs.Openings.{length-words, length-entries, open_takes, laid_from, ended_is, lone_takes}
use Rattle.jsonb_layout.proofs.Containers.{Takes, elements_take, container_takes, read_takes}
use Rattle.jsonb_layout.proofs.Shapes.{read_no_scalar}
use Rattle.jsonb_layout.proofs.Unrolled.{read_unroll}

-- ---- one seat

-- the seat of an item at a place of a payload, from where its entry word and the payload are in the slice
abbrev seat_from : ℕ → ℕ → ℕ → Item → Seat
seat_from word payload at x =
    let own = own_bytes at x in
    record { at = where_it_is own word (payload + at + (length x.piece - length own)); kind = x.kind; bytes = own }

seat_from_same : {v w s r a b : ℕ} (x : Item) → v ≡ w → s ≡ r → a ≡ b → seat_from v s a x ≡ seat_from w r b x
seat_from_same {w = w} {s = s} {r = r} {a = a} x e f g =
    ap (λ (k : ℕ). seat_from k s a x) e ∙ ap (λ (k : ℕ). seat_from w k a x) f ∙ ap (λ (k : ℕ). seat_from w r k x) g

-- The seat that is computed is the item's, where the place is behind the pieces before it, and as many entry words are
-- left as there are items from it on.
seat_same : (start n s : ℕ) (p : Place) (before : List Item) (x : Item) → s ≡ start + 4 + 4 * n → p.at ≡ length (pieces before)
    → s - length p.words ≡ start + 4 + 4 * length before → seat_at s p x ≡ item_seat start n before x
seat_same start n s p before x payload at word =
    seat_from_same x word payload at

-- ---- the seats of a run

-- The seat is that of the i-th of these items, which have `front` before them.
record Found (start n : ℕ) (front xs : List Item) (i : ℕ) (c : Seat) : Type 0 where
  mid : List Item
  item : Item
  back : List Item
  parts : xs ≡ mid ++ item ∷ back
  number : length mid ≡ i
  seat : c ≡ item_seat start n (front ++ mid) item

found_first : (start n : ℕ) (front : List Item) (x : Item) (xs : List Item) (c : Seat) → c ≡ item_seat start n front x
    → Found start n front (x ∷ xs) 0 c
found_first start n front x xs c e =
    record {
      mid = [];
      item = x;
      back = xs;
      parts = refl;
      number = refl;
      seat = e ∙ ap (λ (l : List Item). item_seat start n l x) (sym (append-nil front));
    }

found_next : (start n : ℕ) (front : List Item) (x : Item) (xs : List Item) (i : ℕ) (c : Seat) → Found start n (front ++ (x ∷ [])) xs i c
    → Found start n front (x ∷ xs) (suc i) c
found_next start n front x xs i c f = record {
  mid = x ∷ f.mid;
  item = f.item;
  back = f.back;
  parts = ap (λ (l : List Item). x ∷ l) f.parts;
  number = ap suc f.number;
  seat = f.seat ∙ ap (λ (l : List Item). item_seat start n l f.item) (append_assoc front (x ∷ []) f.mid);
}

-- An item and the seats behind it.
pub seats_step : (s n : ℕ) (p q : Place) (x : Item) → item_at p ≡ Some (x, q) → seats_at s (suc n) p ≡ seat_at s p x ∷ seats_at s n q
unfolding seats_at
seats_step s n p q x e = ap (λ (r : Option (Item × Place)). or_no_seats (r >>= λ y. Some (seat_at s p y.0 ∷ seats_at s n y.1))) e

no_seat : (s : ℕ) (p : Place) (i : ℕ) (c : Seat) → slice_get (seats_at s 0 p) i ≡ Some c → ⊥
unfolding seats_at
no_seat s p i c e = absurd cc

-- One item longer, the pieces are its piece longer.
pieces_more : (front : List Item) (x : Item) → length (pieces (front ++ (x ∷ []))) ≡ length (pieces front) + length x.piece
pieces_more front x =
    ap length (flat_map-append (λ (y : Item). y.piece) front (x ∷ []))
    ∙ length-append (pieces front) (x.piece ++ [])
    ∙ ap (λ (k : List ℕ). length (pieces front) + length k) (append-nil x.piece)

-- What a seat is of, where a run begins behind the items of `front`, and its words are the last.
record Stage (start n s : ℕ) (front xs : List Item) (p : Place) : Type 0 where
  payload : s ≡ start + 4 + 4 * n
  all : length front + length xs ≡ n
  at : p.at ≡ length (pieces front)
  words : length p.words ≡ 4 * length xs
  fits : p.at + length (pieces xs) < 2 ^ 28

stage_next : (start n s : ℕ) (front : List Item) (x : Item) (xs : List Item) (p q : Place) → Run p q (x ∷ xs) → Stage start n s front (x ∷ xs) p
    → Stage start n s (front ++ (x ∷ [])) xs (after p q x xs)
stage_next start n s front x xs p q r g =
    let four = to_le_bytes w32 (entry p.index (p.at + length x.piece) x) in
    let left = words (entries (p.index + 1) (p.at + length x.piece) xs) ++ q.words in
    record {
      payload = g.payload;
      all = omega (arith, g.all, length-append front (x ∷ []));
      at = omega (arith, g.at, pieces_more front x);
      words = omega (arith, g.words, ap length r.words, length-append four left);
      fits = omega (arith, g.fits, length-append x.piece (pieces xs));
    }

run_found : (start n s : ℕ) (front xs : List Item) (p q : Place) → Run p q xs → Stage start n s front xs p → (i : ℕ) (c : Seat)
    → slice_get (seats_at s (length xs) p) i ≡ Some c → Found start n front xs i c
run_found start n s front [] p q r g i c e = absurd (no_seat s p i c e)
run_found start n s front (x ∷ xs) p q r g zero c e =
    let step = seats_step s (length xs) p (after p q x xs) x (item_again p q x xs r (omega (arith, g.fits, length-append x.piece (pieces xs)))) in
    let same : seat_at s p x ≡ c = some_is (seat_at s p x) c (sym (ap (λ (cs : List Seat). slice_get cs 0) step) ∙ e) in
    found_first start n front x xs c (sym same ∙ seat_same start n s p front x g.payload g.at (omega (arith, g.payload, g.all, g.words)))
run_found start n s front (x ∷ xs) p q r g (suc i) c e =
    let step = seats_step s (length xs) p (after p q x xs) x (item_again p q x xs r (omega (arith, g.fits, length-append x.piece (pieces xs)))) in
    found_next start n front x xs i c
    (run_found start n s (front ++ (x ∷ [])) xs (after p q x xs) q (Run-tail p q x xs r) (stage_next start n s front x xs p q r g) i c
    (sym (ap (λ (cs : List Seat). slice_get cs (suc i)) step) ∙ e))

-- ---- containers

-- What is read of a container that is opened.
read_held : (b : List ℕ) (f : Form) (c : ℕ) (p : Place) (t : Tree) → opened b ≡ Some (f, c, p) → read b ≡ Some t → held_by read f c p ≡ Some t
read_held b f c p t e h = sym (ap (λ (r : Option (Form × ℕ × Place)). r >>= λ o. held_by read o.0 o.1 o.2) e) ∙ sym (read_unroll b) ∙ h

takes_read : Takes read
unfolding read
takes_read b t fits e = container_takes (suc (length b)) b t fits e

-- The seats that are computed of an array's items are those that the array holds.
pub array_held : (at c : ℕ) (b : List ℕ) (p : Place) (t : Tree) → IsBytes b → opened b ≡ Some (Array, c, p) → read b ≡ Some t
    → AreHeld (record { at = at; kind = 5; bytes = b }) (seats_at (at + 4 + length p.words) c p)
array_held at c b p t fits e h i seat get =
    let o = open_takes b Array c p fits e in
    let a = bind_some (elements_by read c p) (λ r. ended r.1 (array r.0)) t (read_held b Array c p t e h) in
    let d = ended_is a.0.1 (array a.0.0) t a.2 in
    let r = elements_take read takes_read c p a.0 o.1 a.1 in
    let laid = laid_from o.0 r.run r.count r.count d.0 in
    let n = length r.items in
    let s = at + 4 + length p.words in
    let stage : Stage at n s [] r.items p = record {
      payload = omega (arith, o.0.words, r.count);
      all = omega arith;
      at = o.0.at;
      words = omega (arith, o.0.words, r.count);
      fits = omega (arith, o.0.at, laid.pieces_fit);
    } in
    let f = run_found at n s [] r.items p a.0.1 r.run stage i seat (subst (λ (k : ℕ). slice_get (seats_at s k p) i ≡ Some seat) (sym r.count) get) in
    record {
      form = Array;
      keys = [];
      before = f.mid;
      item = f.item;
      after = f.back;
      container = refl;
      laid = subst (λ (xs : List Item). Laid b Array xs) f.parts laid;
      values = refl;
      number = f.number;
      seat = f.seat ∙ ap (λ (xs : List Item). item_seat at (length xs) f.mid f.item) f.parts;
    }

-- The same of an object's values, which come behind its keys.
pub object_held : (at : ℕ) {c : ℕ} (b : List ℕ) {p q : Place} {ks : List (List ℕ)} (t : Tree) → IsBytes b → opened b ≡ Some (Object, c, p)
    → keys_at c None p ≡ Some (ks, q) → read b ≡ Some t → AreHeld (record { at = at; kind = 5; bytes = b }) (seats_at (at + 4 + length p.words) c q)
object_held at {c = c} b {p = p} {q = q} {ks = ks} t fits e ek h i seat get =
    let o = open_takes b Object c p fits e in
    let keys = map key_item ks in
    let k = keys_take c None p (ks, q) o.1 ek in
    let held : (elements_by read c q >>= λ r. ended r.1 (object (members ks r.0))) ≡ Some t =
    sym (ap (λ (r : Option (List (List ℕ) × Place)). r >>= λ k. elements_by read c k.1 >>= λ r. ended r.1 (object (members k.0 r.0))) ek)
    ∙ read_held b Object c p t e h in
    let a = bind_some (elements_by read c q) (λ r. ended r.1 (object (members ks r.0))) t held in
    let d = ended_is a.0.1 (object (members ks a.0.0)) t a.2 in
    let r = elements_take read takes_read c q a.0 k.fit a.1 in
    let all = keys ++ r.items in
    let n : length all ≡ 2 * c = omega (arith, length-append keys r.items, length-map ks key_item, k.count, r.count) in
    let laid = laid_from o.0 (Run-append keys r.items p q a.0.1 k.run r.run) n n d.0 in
    let s = at + 4 + length p.words in
    let total : length (pieces all) ≡ length (pieces keys) + length (pieces r.items) =
    ap length (flat_map-append (λ (x : Item). x.piece) keys r.items) ∙ length-append (pieces keys) (pieces r.items) in
    let es = entries p.index p.at keys in
    let stage : Stage at (length all) s keys r.items q = record {
      payload = omega (arith, o.0.words, n);
      all = sym (length-append keys r.items);
      at = omega (arith, k.run.at, o.0.at);
      words =
          omega (
            arith,
            o.0.words,
            ap length k.run.words,
            length-append (words es) q.words,
            length-words es,
            length-entries p.index p.at keys,
            length-map ks key_item,
            k.count,
            r.count,
          );
      fits = omega (arith, k.run.at, o.0.at, total, laid.pieces_fit);
    } in
    let f =
    run_found at (length all) s keys r.items q a.0.1 r.run stage i seat
    (subst (λ (m : ℕ). slice_get (seats_at s m q) i ≡ Some seat) (sym r.count) get) in
    record {
      form = Object;
      keys = keys;
      before = f.mid;
      item = f.item;
      after = f.back;
      container = refl;
      laid = subst (λ (xs : List Item). Laid b Object (keys ++ xs)) f.parts laid;
      values = subst (λ (xs : List Item). length keys ≡ length xs) f.parts (length-map ks key_item ∙ k.count ∙ sym r.count);
      number = f.number;
      seat = f.seat ∙ ap (λ (xs : List Item). item_seat at (length (keys ++ xs)) (keys ++ f.mid) f.item) f.parts;
    }

-- ---- the root

-- The seat of a root scalar is the root's.
pub lone_is_root : (b : List ℕ) (x : Item) → IsBytes b → lone_item b ≡ Some x → IsRoot b (item_seat 0 1 [] x)
lone_is_root b x fits e = (Lone, x ∷ [], (lone_takes b x fits e).0, refl)

-- The seat of a container that is the whole slice is the root's.
pub container_is_root : (b : List ℕ) (t : Tree) → IsBytes b → read b ≡ Some t → IsRoot b (record { at = 0; kind = 5; bytes = b })
container_is_root b (scalar s) fits e = absurd (read_no_scalar b s e)
container_is_root b (array ts) fits e = let h = read_takes b (array ts) fits e in (Array, h.0, h.1, refl)
container_is_root b (object ms) fits e = let h = read_takes b (object ms) fits e in (Object, _, h.1, refl)
