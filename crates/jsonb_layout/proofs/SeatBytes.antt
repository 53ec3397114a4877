-- The own bytes of a value lie in the slice where the value is, and the entry word of a value without bytes lies there.
use Rattle.std.proofs.Common.{◌≡◌, ℕ, ◌+◌, ◌-◌, ◌*◌, ◌/◌, ◌%◌, ◌^◌, ◌<◌, ◌≤◌, Bool, true, false, List, [], ◌∷◌, ◌++◌, length, take, drop, refl, sym, ap, subst, ◌∙◌, append_assoc, arith}
use Rattle.std.specs.Prelude.{if◌then◌else◌}
use Rattle.std.specs.Int.{w32, to_le_bytes, from_le_bytes}
use Rattle.std.proofs.lemmas.Bool.{ne_eqb}
use Rattle.std.proofs.lemmas.List.{take_at, drop_at, take-append-drop, length-append, length-take, length-drop, append-nil}
use Rattle.std.proofs.lemmas.Nat.{from_le_bytes-to_le_bytes_4}
use Rattle.jsonb_layout.specs.Layout.{Item, pieces, entry, entries, words, flags, Laid, pad}
use Rattle.jsonb_layout.specs.declared.form.Form.{Form}
use Rattle.jsonb_layout.specs.declared.form.Form.TheVariants.{Array, Object, Lone}
use Rattle.jsonb_layout.specs.Seats.{Seat, is_padded, own_bytes, where_it_is, item_seat, Holds, Leads, root_seat, IsSeat}
use Rattle.jsonb_layout.proofs.Runs.{Run-split}
use Rattle.jsonb_layout.proofs.Words.{entry_says}
use Rattle.jsonb_layout.proofs.Openings.{length-words, length-entries, first, last, run_over}
use Rattle.jsonb_layout.proofs.Extents.{child, laid_length}

-- ---- bytes in bytes

-- In b the bytes q lie at a place.
record Lies (q : List ℕ) (at : ℕ) (b : List ℕ) : Type 0 where
  front : List ℕ
  back : List ℕ
  parts : b ≡ front ++ (q ++ back)
  place : length front ≡ at

lies_whole : (b : List ℕ) → Lies b 0 b
lies_whole b = record { front = []; back = []; parts = sym (append-nil b); place = refl }

-- What lies in q, which lies in b, lies in b.
lies_deeper : (q p b : List ℕ) (k at : ℕ) → Lies q k p → Lies p at b → Lies q (at + k) b
lies_deeper q p b k at x y = record {
  front = y.front ++ x.front;
  back = x.back ++ y.back;
  parts =
      y.parts
      ∙ ap (λ (l : List ℕ). y.front ++ (l ++ y.back)) x.parts
      ∙ ap (λ (l : List ℕ). y.front ++ l)
      (append_assoc x.front (q ++ x.back) y.back ∙ ap (λ (l : List ℕ). x.front ++ l) (append_assoc q x.back y.back))
      ∙ sym (append_assoc y.front x.front (q ++ (x.back ++ y.back)));
  place = length-append y.front x.front ∙ ap (λ (n : ℕ). n + length x.front) y.place ∙ ap (λ (n : ℕ). at + n) x.place;
}

-- No bytes lie where any bytes lie.
lies_none : (q b : List ℕ) (at : ℕ) → Lies q at b → Lies [] at b
lies_none q b at x = record { front = x.front; back = q ++ x.back; parts = x.parts; place = x.place }

lies_drop : (n : ℕ) (p : List ℕ) → Lies (drop n p) (length p - length (drop n p)) p
lies_drop n p = record {
  front = take n p;
  back = [];
  parts = sym (take-append-drop n p) ∙ ap (λ (l : List ℕ). take n p ++ l) (sym (append-nil (drop n p)));
  place = omega (arith, length-take n p, length-drop n p);
}

lies_taken : (q b : List ℕ) (at n : ℕ) → Lies q at b → length q ≡ n → take n (drop at b) ≡ q
lies_taken q b at n x e =
    ap (λ (l : List ℕ). take n (drop at l)) x.parts ∙ ap (take n) (drop_at x.front (q ++ x.back) at x.place) ∙ take_at q x.back n e

-- ---- the piece and the entry word of an item

-- In b at a place lies an entry word, which says the kind.
record HasWord (b : List ℕ) (at kind : ℕ) : Type 0 where
  word : ℕ
  there : Lies (to_le_bytes w32 word) at b
  fits : word < 2 ^ 32
  says : word / 2 ^ 28 % 8 ≡ kind

-- Where an item of a container lies in it.
record Parts (b : List ℕ) (n : ℕ) (before : List Item) (x : Item) : Type 0 where
  piece : Lies x.piece (4 + 4 * n + length (pieces before)) b
  word : HasWord b (4 + 4 * length before) x.kind

parts : (b : List ℕ) (f : Form) (before after : List Item) (x : Item) → Laid b f (before ++ (x ∷ after))
    → Parts b (length (before ++ (x ∷ after))) before x
parts b f before after x l =
    let xs = before ++ (x ∷ after) in
    let head = flags f * 2 ^ 28 + l.count in
    let split = Run-split before (x ∷ after) (first xs) (last xs) (run_over xs l.kinds) in
    let m = split.0 in
    let w = entry m.index (m.at + length x.piece) x in
    let ws = words (entries 0 0 before) in
    let more = words (entries (m.index + 1) (m.at + length x.piece) after) in
    let whole : words (entries 0 0 xs) ≡ ws ++ (to_le_bytes w32 w ++ more) =
    split.1.words ∙ ap (λ (k : List ℕ). ws ++ k) (split.2.words ∙ append-nil (to_le_bytes w32 w ++ more)) in
    let rest : pieces xs ≡ pieces before ++ (x.piece ++ pieces after) =
    split.1.rest ∙ ap (λ (k : List ℕ). pieces before ++ k) (split.2.rest ∙ append-nil (x.piece ++ pieces after)) in
    let fits : m.at + length x.piece < 2 ^ 28 =
    omega (
      arith,
      split.1.at,
      l.pieces_fit,
      ap length rest,
      length-append (pieces before) (x.piece ++ pieces after),
      length-append x.piece (pieces after),
    ) in
    let says = entry_says m.index m.at x split.2.kinds.0 fits in
    let all = head ∷ entries 0 0 xs in
    record {
      piece = record {
        front = words all ++ pieces before;
        back = pieces after;
        parts = l.bytes ∙ ap (λ (k : List ℕ). words all ++ k) rest ∙ sym (append_assoc (words all) (pieces before) (x.piece ++ pieces after));
        place = omega (arith, length-append (words all) (pieces before), length-words all, length-entries 0 0 xs);
      };
      word = record {
        word = w;
        there = record {
          front = to_le_bytes w32 head ++ ws;
          back = more ++ pieces xs;
          parts =
              l.bytes
              ∙ ap (λ (k : List ℕ). to_le_bytes w32 head ++ (k ++ pieces xs)) whole
              ∙ ap (λ (k : List ℕ). to_le_bytes w32 head ++ k) (append_assoc ws (to_le_bytes w32 w ++ more) (pieces xs));
          place = omega (arith, length-words (entries 0 0 before), length-entries 0 0 before, length-append (to_le_bytes w32 head) ws);
        };
        fits = says.fits;
        says = says.kind;
      };
    }

lies_within : (q b : List ℕ) (at : ℕ) → Lies q at b → at + length q ≤ length b
lies_within q b at l = omega (arith, l.place, ap length l.parts, length-append l.front (q ++ l.back), length-append q l.back)

-- ---- the seat of an item

-- In b lies what a seat says.
record Seated (b : List ℕ) (s : Seat) : Type 0 where
  own : Lies s.bytes s.at b
  word : s.bytes ≡ [] → HasWord b s.at s.kind

seated_by : (b own : List ℕ) (word begin kind : ℕ) → Lies own begin b → HasWord b word kind
    → Seated b (record { at = where_it_is own word begin; kind = kind; bytes = own })
seated_by b [] word begin kind x w = record { own = lies_none (to_le_bytes w32 w.word) b word w.there; word = λ _. w }
seated_by b (y ∷ ys) word begin kind x w =
    let e : where_it_is (y ∷ ys) word begin ≡ begin =
    ap (λ (k : Bool). if k then word else begin) (ne_eqb (length (y ∷ ys)) 0 (λ (e : length (y ∷ ys) ≡ 0). omega arith)) in
    record { own = subst (λ (k : ℕ). Lies (y ∷ ys) k b) (sym e) x; word = λ none. absurd cc }

lies_own : (padded : Bool) (n : ℕ) (p : List ℕ) → let own = if padded then drop n p else p in Lies own (length p - length own) p
lies_own true n p = lies_drop n p
lies_own false n p = subst (λ (k : ℕ). Lies p k p) (omega arith) (lies_whole p)

-- What the seat of an item says lies there, where its container does.
item_seated : (b q : List ℕ) (start n : ℕ) (before : List Item) (x : Item) → Lies q start b → Parts q n before x
    → Seated b (item_seat start n before x)
item_seated b q start n before x l p =
    let at = length (pieces before) in
    let own = own_bytes at x in
    let word = start + 4 + 4 * length before in
    let begin = start + 4 + 4 * n + at + (length x.piece - length own) in
    let there : Lies own begin b =
    subst (λ (k : ℕ). Lies own k b) (omega arith)
    (lies_deeper own q b (4 + 4 * n + at + (length x.piece - length own)) start
    (lies_deeper own x.piece q (length x.piece - length own) (4 + 4 * n + at) (lies_own (is_padded x.kind) (pad at) x.piece) p.piece) l) in
    let w = p.word in
    let says : HasWord b word x.kind =
    record {
      word = w.word;
      there =
          subst (λ (k : ℕ). Lies (to_le_bytes w32 w.word) k b) (omega arith)
          (lies_deeper (to_le_bytes w32 w.word) q b (4 + 4 * length before) start w.there l);
      fits = w.fits;
      says = w.says;
    } in
    seated_by b own word begin x.kind there says

held_seated : (b : List ℕ) (s : Seat) (i : ℕ) (c : Seat) → Seated b s → Holds s i c → Seated b c
held_seated b s i c l h =
    let k = child s i c h in
    let front = h.keys ++ h.before in
    let n = length (front ++ (h.item ∷ h.after)) in
    subst (Seated b) (sym k.seat) (item_seated b s.bytes s.at n front h.item l.own (parts s.bytes h.form front h.after h.item k.laid))

led_seated : (b way : List ℕ) (s c : Seat) → Seated b s → Leads way s c → Seated b c
led_seated b [] s c l e = subst (Seated b) e l
led_seated b (i ∷ is) s c l (m, h, more) = led_seated b is m c (held_seated b s i m l h) more

-- ---- the whole

whole_seated : (b : List ℕ) (f : Form) (xs : List Item) → Laid b f xs → Seated b (record { at = 0; kind = 5; bytes = b })
whole_seated b f xs l = record { own = lies_whole b; word = λ none. absurd (omega (arith, ap length none, laid_length b f xs l)) }

root_seated : (b : List ℕ) (f : Form) (xs : List Item) → Laid b f xs → Seated b (root_seat b f xs)
root_seated b Array xs l = whole_seated b Array xs l
root_seated b Object xs l = whole_seated b Object xs l
root_seated b Lone [] l = whole_seated b Lone [] l
root_seated b Lone (x ∷ xs) l =
    let one : length (x ∷ xs) ≡ 1 = l.counted.0 ∙ l.counted.1 in
    item_seated b b 0 1 [] x (lies_whole b) (subst (λ (n : ℕ). Parts b n [] x) one (parts b Lone [] xs x l))

seated : (b way : List ℕ) (s : Seat) → IsSeat b way s → Seated b s
seated b way s (r, (f, xs, l, e), more) = led_seated b way r s (subst (Seated b) (sym e) (root_seated b f xs l)) more

-- The own bytes of a value lie in the slice where the value is.
pub bytes_are_there : (b way : List ℕ) (s : Seat) → IsSeat b way s → take (length s.bytes) (drop s.at b) ≡ s.bytes
bytes_are_there b way s h = lies_taken s.bytes b s.at (length s.bytes) (seated b way s h).own refl

-- Where a value has no bytes, a whole word lies there that has its kind.
pub word_is_there : (b way : List ℕ) (s : Seat) → IsSeat b way s → s.bytes ≡ []
    → (s.at + 4 ≤ length b) × (from_le_bytes w32 (take 4 (drop s.at b)) / 2 ^ 28 % 8 ≡ s.kind)
word_is_there b way s h none =
    let w = (seated b way s h).word none in
    let read : from_le_bytes w32 (take 4 (drop s.at b)) ≡ w.word =
    ap (from_le_bytes w32) (lies_taken (to_le_bytes w32 w.word) b s.at 4 w.there refl) ∙ from_le_bytes-to_le_bytes_4 w.word w.fits in
    (lies_within (to_le_bytes w32 w.word) b s.at w.there, ap (λ (n : ℕ). n / 2 ^ 28 % 8) read ∙ w.says)
