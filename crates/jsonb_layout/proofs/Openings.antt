-- A header that is read was laid, and the one that was laid is read. So is the item of a root scalar.
use Rattle.std.proofs.Common.{◌≡◌, ℕ, suc, ◌+◌, ◌-◌, ◌*◌, ◌/◌, ◌%◌, ◌^◌, ◌<◌, ◌≤◌, Bool, cond, eqb, ltb, leb, List, [], ◌∷◌, ◌++◌, length, take, drop, Option, Some, refl, sym, ap, subst, ◌∙◌, arith, inl, inr}
use Rattle.std.specs.Prelude.{◌&&◌}
use Rattle.std.specs.Int.{w32, to_le_bytes, from_le_bytes}
use Rattle.std.specs.List.{AllByRecursion}
use Rattle.std.proofs.lemmas.Bool.{le-leb, leb-true, lt-ltb, ltb-true, eqb-true, eq-eqb, and_parts}
use Rattle.std.proofs.lemmas.List.{take_at, drop_at, take-append-drop, length-append, length-take-le, length-drop, append-nil, nil_from_length}
use Rattle.std.proofs.lemmas.Nat.{le_bytes_4, from_le_bytes-to_le_bytes_4}
use Rattle.jsonb_layout.specs.Layout.{Item, pieces, entries, words, flags, HasCount, Laid}
use Rattle.jsonb_layout.specs.declared.form.Form.{Form}
use Rattle.jsonb_layout.specs.declared.form.Form.TheVariants.{Array, Object, Lone}
use Rattle.jsonb_layout.specs.Options.{◌>>=◌, only_if}
use Rattle.jsonb_layout.specs.inner.Reading.{Place, item_at, items_in, form_of, form_at, begun, opened, ended, lone_in, lone_item}
use Rattle.jsonb_layout.proofs.Tools.{chosen, guard, bind_some, some_is, IsBytes, IsBytes-take, IsBytes-drop}
use Rattle.jsonb_layout.proofs.Runs.{Run, Fit, place_same, item_takes, item_again}

abbrev pub IsLone : Form → ℕ → Type 0
IsLone Array c = Unit {0}
IsLone Object c = Unit {0}
IsLone Lone c = c ≡ 1

-- ---- the header

-- what a header word says of the bytes behind it
pub record Opens (b : List ℕ) (f : Form) (c : ℕ) (p : Place) : Type 0 where
  pub count : c < 2 ^ 28
  pub alone : IsLone f c
  pub index : p.index ≡ 0
  pub at : p.at ≡ 0
  pub bytes : b ≡ to_le_bytes w32 (flags f * 2 ^ 28 + c) ++ (p.words ++ p.rest)
  pub words : length p.words ≡ 4 * items_in f c
  pub rest : length p.rest < 2 ^ 28

form_takes : (w : ℕ) (f : Form) (c : ℕ) → form_of w ≡ Some (f, c) → (w ≡ flags f * 2 ^ 28 + c) × (c < 2 ^ 28) × IsLone f c
unfolding form_of
form_takes w f c e = elim (chosen (eqb (w / 2 ^ 28) 4) (Some (Array, w % 2 ^ 28)) _ (Some (f, c)) e) [
  | inl g ↦
      let k = eqb-true (w / 2 ^ 28) 4 g.0 in
      subst (λ (y : Form × ℕ). (w ≡ flags y.0 * 2 ^ 28 + y.1) × (y.1 < 2 ^ 28) × IsLone y.0 y.1) (some_is (Array, w % 2 ^ 28) (f, c) g.1)
      (omega arith, omega arith, tt)
  | inr g0 ↦ elim (chosen (eqb (w / 2 ^ 28) 2) (Some (Object, w % 2 ^ 28)) _ (Some (f, c)) g0.1) [
    | inl g ↦
        let k = eqb-true (w / 2 ^ 28) 2 g.0 in
        subst (λ (y : Form × ℕ). (w ≡ flags y.0 * 2 ^ 28 + y.1) × (y.1 < 2 ^ 28) × IsLone y.0 y.1) (some_is (Object, w % 2 ^ 28) (f, c) g.1)
        (omega arith, omega arith, tt)
    | inr g1 ↦
        let g = guard (eqb (w / 2 ^ 28) 5 && eqb (w % 2 ^ 28) 1) (Some (Lone, w % 2 ^ 28)) (f, c) g1.1 in
        let t = and_parts (eqb (w / 2 ^ 28) 5) (eqb (w % 2 ^ 28) 1) g.0 in
        let k = eqb-true (w / 2 ^ 28) 5 t.0 in
        let n = eqb-true (w % 2 ^ 28) 1 t.1 in
        subst (λ (y : Form × ℕ). (w ≡ flags y.0 * 2 ^ 28 + y.1) × (y.1 < 2 ^ 28) × IsLone y.0 y.1) (some_is (Lone, w % 2 ^ 28) (f, c) g.1)
        (omega arith, omega arith, n)
  ]
]

form_by : ℕ → ℕ → Option (Form × ℕ)
form_by fl c = cond (eqb fl 4) (Some (Array, c)) (cond (eqb fl 2) (Some (Object, c)) (only_if (eqb fl 5 && eqb c 1) (Some (Lone, c))))

form_is : (w fl c : ℕ) → w / 2 ^ 28 ≡ fl → w % 2 ^ 28 ≡ c → form_of w ≡ form_by fl c
unfolding form_of form_by
form_is w fl c e h = rw (e, h) refl

form_again : (f : Form) (c : ℕ) → c < 2 ^ 28 → IsLone f c → form_of (flags f * 2 ^ 28 + c) ≡ Some (f, c)
unfolding form_by
form_again Array c h l = form_is (4 * 2 ^ 28 + c) 4 c (omega arith) (omega arith)
form_again Object c h l = form_is (2 * 2 ^ 28 + c) 2 c (omega arith) (omega arith)
form_again Lone c h l = form_is (5 * 2 ^ 28 + c) 5 c (omega arith) (omega arith) ∙ rw (eq-eqb c 1 l) refl

begun_takes : (body : List ℕ) (g : Form × ℕ) (f : Form) (c : ℕ) (p : Place) → begun body g ≡ Some (f, c, p)
    → (g ≡ (f, c)) × (p.index ≡ 0) × (p.at ≡ 0) × (p.words ≡ take (4 * items_in g.0 g.1) body) × (p.rest ≡ drop (4 * items_in g.0 g.1) body)
    × (4 * items_in g.0 g.1 ≤ length body) × (length body - 4 * items_in g.0 g.1 < 2 ^ 28)
begun_takes body g f c p e =
    let size = 4 * items_in g.0 g.1 in
    let made : Form × ℕ × Place = (g.0, g.1, record { index = 0; at = 0; words = take size body; rest = drop size body }) in
    let h = guard (leb size (length body) && ltb (length body - size) (2 ^ 28)) (Some made) (f, c, p) e in
    let t = and_parts (leb size (length body)) (ltb (length body - size) (2 ^ 28)) h.0 in
    let same : made ≡ (f, c, p) = some_is made (f, c, p) h.1 in (
      ap (λ (y : Form × ℕ × Place). let z : Form × ℕ = (y.0, y.1) in z) same,
      ap (λ (y : Form × ℕ × Place). y.2.index) (sym same),
      ap (λ (y : Form × ℕ × Place). y.2.at) (sym same),
      ap (λ (y : Form × ℕ × Place). y.2.words) (sym same),
      ap (λ (y : Form × ℕ × Place). y.2.rest) (sym same),
      leb-true size (length body) t.0,
      ltb-true (length body - size) (2 ^ 28) t.1,
    )

-- what is opened begins as its header word says
pub open_takes : (b : List ℕ) (f : Form) (c : ℕ) (p : Place) → IsBytes b → opened b ≡ Some (f, c, p) → Opens b f c p × Fit p
unfolding opened form_at
open_takes b f c p fits e =
    let w = from_le_bytes w32 (take 4 b) in
    let body = drop 4 b in
    let a = bind_some (form_at b) (begun body) (f, c, p) e in
    let g = guard (leb 4 (length b)) (form_of w) a.0 a.1 in
    let long : 4 ≤ length b = leb-true 4 (length b) g.0 in
    let h = begun_takes body a.0 f c p a.2 in
    let n = 4 * items_in f c in
    let n-is : 4 * items_in a.0.0 a.0.1 ≡ n = ap (λ (y : Form × ℕ). 4 * items_in y.0 y.1) h.0 in
    let k = form_takes w f c (g.1 ∙ ap (λ (y : Form × ℕ). Some y) h.0) in
    let fits4 = IsBytes-take 4 b fits in
    let four : take 4 b ≡ to_le_bytes w32 (flags f * 2 ^ 28 + c) =
    sym (le_bytes_4 (take 4 b) w (length-take-le 4 b long) fits4 refl) ∙ ap (to_le_bytes w32) k.0 in
    let ws : p.words ≡ take n body = h.3 ∙ ap (λ (m : ℕ). take m body) n-is in
    let rs : p.rest ≡ drop n body = h.4 ∙ ap (λ (m : ℕ). drop m body) n-is in
    let room : n ≤ length body = subst (λ (m : ℕ). m ≤ length body) n-is h.5 in
    let small : length body - n < 2 ^ 28 = subst (λ (m : ℕ). length body - m < 2 ^ 28) n-is h.6 in (
      record {
        count = k.1;
        alone = k.2;
        index = h.1;
        at = h.2;
        bytes =
            sym (take-append-drop 4 b)
            ∙ ap (λ (x : List ℕ). x ++ body) four
            ∙ ap (λ (x : List ℕ). to_le_bytes w32 (flags f * 2 ^ 28 + c) ++ x) (sym (take-append-drop n body) ∙ rw (ws, rs) refl);
        words = ap length ws ∙ length-take-le n body room;
        rest = rw (rs, length-drop n body) small;
      },
      record { words = rw ws (IsBytes-take n body (IsBytes-drop 4 b fits)); rest = rw rs (IsBytes-drop n body (IsBytes-drop 4 b fits)) },
    )

-- the header word of what was opened says its form and its count
pub opened_form : (b : List ℕ) (f : Form) (c : ℕ) (p : Place) → opened b ≡ Some (f, c, p) → form_at b ≡ Some (f, c)
unfolding opened
opened_form b f c p e =
    let a = bind_some (form_at b) (begun (drop 4 b)) (f, c, p) e in
    a.1 ∙ ap (λ (g : Form × ℕ). Some g) (begun_takes (drop 4 b) a.0 f c p a.2).0

flags_small : (f : Form) → flags f ≤ 5
flags_small Array = omega arith
flags_small Object = omega arith
flags_small Lone = omega arith

-- what begins as a header word says is opened
pub open_again : (b : List ℕ) (f : Form) (c : ℕ) (p : Place) → Opens b f c p → opened b ≡ Some (f, c, p)
unfolding opened form_at
open_again b f c p o =
    let head = to_le_bytes w32 (flags f * 2 ^ 28 + c) in
    let body = p.words ++ p.rest in
    let n = 4 * items_in f c in
    let t : take 4 b ≡ head = ap (take 4) o.bytes ∙ take_at head body 4 refl in
    let d : drop 4 b ≡ body = ap (drop 4) o.bytes ∙ drop_at head body 4 refl in
    let long : 4 ≤ length b = omega (arith, ap length o.bytes, length-append head body) in
    let word : from_le_bytes w32 (take 4 b) ≡ flags f * 2 ^ 28 + c =
    ap (from_le_bytes w32) t ∙ from_le_bytes-to_le_bytes_4 (flags f * 2 ^ 28 + c) (omega (arith, flags_small f, o.count)) in
    let len : length body ≡ length p.words + length p.rest = length-append p.words p.rest in
    let room : n ≤ length body = omega (arith, len, o.words) in
    let small : length body - n < 2 ^ 28 = omega (arith, len, o.words, o.rest) in
    let place =
    place_same (sym o.index) (sym o.at) (take_at p.words p.rest n o.words) (drop_at p.words p.rest n o.words) in
    ap (λ (k : Bool). only_if k (form_of (from_le_bytes w32 (take 4 b))) >>= begun (drop 4 b)) (le-leb 4 (length b) long)
    ∙ ap (λ (x : List ℕ). form_of (from_le_bytes w32 (take 4 b)) >>= begun x) d
    ∙ ap (λ (x : ℕ). form_of x >>= begun body) word
    ∙ ap (λ (x : Option (Form × ℕ)). x >>= begun body) (form_again f c o.count o.alone)
    ∙ rw (le-leb n (length body) room, lt-ltb (length body - n) (2 ^ 28) small) (ap (λ (y : Place). Some (f, c, y)) place)

-- ---- the layout

-- each word has four bytes
pub length-words : (ns : List ℕ) → length (words ns) ≡ 4 * length ns
length-words [] = refl
length-words (n ∷ ns) = omega (arith, length-words ns, length-append (to_le_bytes w32 n) (words ns))

-- each item has a word
pub length-entries : (i at : ℕ) (xs : List Item) → length (entries i at xs) ≡ length xs
length-entries i at [] = refl
length-entries i at (x ∷ xs) = ap suc (length-entries (i + 1) (at + length x.piece) xs)

-- what is opened and run over to its end is laid
pub laid_from : {b : List ℕ} {f : Form} {c : ℕ} {p q : Place} {xs : List Item} → Opens b f c p → Run p q xs → length xs ≡ items_in f c
    → HasCount f c (length xs) → length q.rest ≡ 0 → Laid b f xs
laid_from {b = b} {f = f} {c = c} {p = p} {q = q} {xs = xs} o r n has e =
    let es = entries 0 0 xs in
    let ws : p.words ≡ words es ++ q.words =
    subst (λ (i : ℕ). p.words ≡ words (entries i 0 xs) ++ q.words) o.index
    (subst (λ (a : ℕ). p.words ≡ words (entries p.index a xs) ++ q.words) o.at r.words) in
    let none : q.words ≡ [] =
    nil_from_length q.words (omega (arith, o.words, ap length ws, length-append (words es) q.words, length-words es, length-entries 0 0 xs, n)) in
    let over : q.rest ≡ [] = nil_from_length q.rest e in
    let all_words : p.words ≡ words es = ws ∙ ap (λ (l : List ℕ). words es ++ l) none ∙ append-nil (words es) in
    let all_rest : p.rest ≡ pieces xs = r.rest ∙ ap (λ (l : List ℕ). pieces xs ++ l) over ∙ append-nil (pieces xs) in
    record {
      count = c;
      counted = has;
      count_fits = o.count;
      kinds = r.kinds;
      pieces_fit = rw (← all_rest) o.rest;
      bytes =
          o.bytes
          ∙ ap (λ (l : List ℕ). to_le_bytes w32 (flags f * 2 ^ 28 + c) ++ (l ++ p.rest)) all_words
          ∙ ap (λ (l : List ℕ). to_le_bytes w32 (flags f * 2 ^ 28 + c) ++ (words es ++ l)) all_rest;
    }

-- where a container that was laid begins and ends
abbrev pub first : List Item → Place
first xs = record { index = 0; at = 0; words = words (entries 0 0 xs); rest = pieces xs }

-- the place at the end of a run
abbrev pub last : List Item → Place
last xs = record { index = length xs; at = length (pieces xs); words = []; rest = [] }

-- a run over all items from the front
pub run_over : (xs : List Item) → AllByRecursion (λ x. x.kind < 8) xs → Run (first xs) (last xs) xs
run_over xs kinds =
    record {
      words = sym (append-nil (words (entries 0 0 xs)));
      rest = sym (append-nil (pieces xs));
      index = omega arith;
      at = omega arith;
      kinds = kinds;
    }

-- a count, by the form
pub count_is : (f : Form) (c n : ℕ) → HasCount f c n → (n ≡ items_in f c) × IsLone f c
count_is Array c n h = (h, tt)
count_is Object c n h = (h, tt)
count_is Lone c n h = (h.0, h.1)

-- what is laid begins as its header word says
pub opens_from : (b : List ℕ) (f : Form) (xs : List Item) (l : Laid b f xs) → Opens b f l.count (first xs)
opens_from b f xs l =
    let k = count_is f l.count (length xs) l.counted in
    record {
      count = l.count_fits;
      alone = k.1;
      index = refl;
      at = refl;
      bytes = l.bytes;
      words = omega (arith, length-words (entries 0 0 xs), length-entries 0 0 xs, k.0);
      rest = l.pieces_fit;
    }

-- ---- root scalars

-- what is answered at the end is at the end
pub ended_is : {A : Type 0} (p : Place) (x y : A) → ended p x ≡ Some y → (length p.rest ≡ 0) × (x ≡ y)
ended_is p x y e = let g = guard (eqb (length p.rest) 0) (Some x) y e in (eqb-true (length p.rest) 0 g.0, some_is x y g.1)

lone_in_takes : (b : List ℕ) (f : Form) (c : ℕ) (p : Place) (x : Item) → Opens b f c p → Fit p → lone_in f p ≡ Some x
    → Laid b Lone (x ∷ []) × IsBytes x.piece
lone_in_takes b Array c p x o fit e = absurd cc
lone_in_takes b Object c p x o fit e = absurd cc
lone_in_takes b Lone c p x o fit e =
    let a = bind_some (item_at p) (λ y. ended y.1 y.0) x e in
    let d = ended_is a.0.1 a.0.0 x a.2 in
    let one = item_takes p a.0.1 a.0.0 fit a.1 in
    subst (λ (y : Item). Laid b Lone (y ∷ []) × IsBytes y.piece) d.1
    (laid_from o one.0 (sym o.alone) (sym o.alone, o.alone) d.0, one.2)

-- The item of a root scalar that is read was laid.
pub lone_takes : (b : List ℕ) (x : Item) → IsBytes b → lone_item b ≡ Some x → Laid b Lone (x ∷ []) × IsBytes x.piece
unfolding lone_item
lone_takes b x fits e =
    let a = bind_some (opened b) (λ o. lone_in o.0 o.2) x e in
    let o = open_takes b a.0.0 a.0.1 a.0.2 fits a.1 in
    lone_in_takes b a.0.0 a.0.1 a.0.2 x o.0 o.1 a.2

-- The item of a root scalar that was laid is read.
pub lone_again : (b : List ℕ) (x : Item) → Laid b Lone (x ∷ []) → lone_item b ≡ Some x
unfolding lone_item
lone_again b x l =
    let o = open_again b Lone l.count (first (x ∷ [])) (opens_from b Lone (x ∷ []) l) in
    let fits : 0 + length x.piece < 2 ^ 28 = omega (arith, l.pieces_fit, ap length (append-nil x.piece)) in
    rw (o, item_again (first (x ∷ [])) (last (x ∷ [])) x [] (run_over (x ∷ []) l.kinds) fits) refl
