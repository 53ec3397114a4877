-- A value in a value lies inside it, and two values in a value share no byte. What each seat takes is its extent.
use Rattle.std.proofs.Common.{◌≡◌, ℕ, suc, ◌+◌, ◌-◌, ◌*◌, ◌^◌, ◌<◌, ◌≤◌, ◌⊎◌, Bool, true, false, List, [], ◌∷◌, ◌++◌, length, drop, refl, sym, ap, subst, ◌∙◌, append_assoc, arith, inl, inr}
use Rattle.std.specs.Prelude.{if◌then◌else◌}
use Rattle.std.proofs.lemmas.Bool.{ne_eqb}
use Rattle.std.proofs.lemmas.List.{length-append, length-drop}
use Rattle.std.proofs.lemmas.List.Concat.{flat_map-append}
use Rattle.jsonb_layout.specs.Layout.{Item, pieces, entries, words, flags, Laid, pad}
use Rattle.jsonb_layout.specs.declared.form.Form.{Form}
use Rattle.jsonb_layout.specs.declared.form.Form.TheVariants.{Array, Object, Lone}
use Rattle.jsonb_layout.specs.Seats.{Seat, is_padded, own_bytes, where_it_is, item_seat, AreKeys, Holds}
use Rattle.jsonb_layout.proofs.OneLayout.{one_layout}
use Rattle.jsonb_layout.proofs.Openings.{length-words, length-entries}

-- ---- lists of items

-- the pieces of two runs of items
pub pieces-append : (xs ys : List Item) → length (pieces (xs ++ ys)) ≡ length (pieces xs) + length (pieces ys)
pieces-append xs ys = ap length (flat_map-append (λ (x : Item). x.piece) xs ys) ∙ length-append (pieces xs) (pieces ys)

-- The piece of an earlier item ends before the piece of a later one begins.
ends_before : (xs us ys vs : List Item) (x y : Item) → xs ++ (x ∷ us) ≡ ys ++ (y ∷ vs) → length xs < length ys
    → length (pieces xs) + length x.piece ≤ length (pieces ys)
ends_before xs us [] vs x y e lt = absurd (omega arith)
ends_before [] us (z ∷ ys) vs x y e lt =
    let same : x ≡ z = cc in
    let long : length x.piece ≡ length z.piece = ap (λ (w : Item). length w.piece) same in
    omega (arith, length-append z.piece (pieces ys))
ends_before (w ∷ xs) us (z ∷ ys) vs x y e lt =
    let same : w ≡ z = cc in
    let more : xs ++ (x ∷ us) ≡ ys ++ (y ∷ vs) = cc in
    let long : length w.piece ≡ length z.piece = ap (λ (w : Item). length w.piece) same in
    let less : length xs < length ys = omega arith in
    omega (arith, length-append w.piece (pieces xs), length-append z.piece (pieces ys), ends_before xs us ys vs x y more less)

-- Items of one number in one list are one, with one front.
one_item : (xs us ys vs : List Item) (x y : Item) → xs ++ (x ∷ us) ≡ ys ++ (y ∷ vs) → length xs ≡ length ys → (xs ≡ ys) × (x ≡ y)
one_item [] us [] vs x y e n = let same : x ≡ y = cc in (refl, same)
one_item [] us (z ∷ ys) vs x y e n = absurd (omega arith)
one_item (w ∷ xs) us [] vs x y e n = absurd (omega arith)
one_item (w ∷ xs) us (z ∷ ys) vs x y e n =
    let same : w ≡ z = cc in
    let more : xs ++ (x ∷ us) ≡ ys ++ (y ∷ vs) = cc in
    let front = one_item xs us ys vs x y more (omega arith) in
    let tail : xs ≡ ys = front.0 in
    let list : w ∷ xs ≡ z ∷ ys = cc in
    (list, front.1)

-- ---- where an item lies

-- how many bytes a value takes: its own, or those of its entry word
extent_of : List ℕ → ℕ
extent_of [] = 4
extent_of (b ∷ bs) = length (b ∷ bs)

-- how many bytes a value takes, at the least one
pub extent : Seat → ℕ
extent s = extent_of s.bytes

some_long : (own : List ℕ) → 0 < extent_of own
unfolding extent_of
some_long [] = omega arith
some_long (b ∷ bs) = omega arith

-- no value takes none
pub extent_some : (s : Seat) → 0 < extent s
unfolding extent
extent_some s = some_long s.bytes

extent_long : (own : List ℕ) → 4 ≤ length own → extent_of own ≡ length own
unfolding extent_of
extent_long [] long = absurd (omega arith)
extent_long (b ∷ bs) long = refl

-- of a value with these own bytes: in the entry word, or where its own bytes are
abbrev Spot : List ℕ → ℕ → ℕ → Type 0
Spot own word begin =
    ((where_it_is own word begin ≡ word) × (extent_of own ≡ 4)) ⊎ ((where_it_is own word begin ≡ begin) × (extent_of own ≡ length own))

spot : (own : List ℕ) (word begin : ℕ) → Spot own word begin
unfolding extent_of
spot [] word begin = inl (refl, refl)
spot (b ∷ bs) word begin =
    inr (ap (λ (k : Bool). if k then word else begin) (ne_eqb (length (b ∷ bs)) 0 (λ (e : length (b ∷ bs) ≡ 0). omega arith)), refl)

shorter : (b : Bool) (n : ℕ) (piece : List ℕ) → length (if b then drop n piece else piece) ≤ length piece
shorter true n piece = omega (arith, length-drop n piece)
shorter false n piece = omega arith

-- The value of item number w of n, whose piece is so many bytes of the payload from a place on, lies in the entry word
-- or in the piece.
abbrev Lies : ℕ → ℕ → ℕ → ℕ → ℕ → Seat → Type 0
Lies start n w at size c =
    ((c.at ≡ start + 4 + 4 * w) × (extent c ≡ 4))
    ⊎ ((start + 4 + 4 * n + at ≤ c.at) × (c.at + extent c ≤ start + 4 + 4 * n + at + size))

lies : (start n : ℕ) (before : List Item) (x : Item)
    → Lies start n (length before) (length (pieces before)) (length x.piece) (item_seat start n before x)
unfolding extent
lies start n before x =
    let at = length (pieces before) in
    let own = own_bytes at x in
    let less : length own ≤ length x.piece = shorter (is_padded x.kind) (pad at) x.piece in
    elim (spot own (start + 4 + 4 * length before) (start + 4 + 4 * n + at + (length x.piece - length own))) [
      | inl h ↦ inl h
      | inr h ↦ inr (omega (arith, h.0, h.1, less), omega (arith, h.0, h.1, less))
    ]

-- ---- the values in a value

-- An array or object at s has these items, and the one behind the front has its value at c.
pub record Child (s : Seat) (form : Form) (front back : List Item) (x : Item) (c : Seat) : Type 0 where
  pub laid : Laid s.bytes form (front ++ (x ∷ back))
  pub seat : c ≡ item_seat s.at (length (front ++ (x ∷ back))) front x

-- a value that is held, as one item among the others
pub child : (s : Seat) (i : ℕ) (c : Seat) (h : Holds s i c) → Child s h.form (h.keys ++ h.before) h.after h.item c
child s i c h =
    let all : h.keys ++ (h.before ++ (h.item ∷ h.after)) ≡ (h.keys ++ h.before) ++ (h.item ∷ h.after) =
    sym (append_assoc h.keys h.before (h.item ∷ h.after)) in
    record {
      laid = subst (λ (l : List Item). Laid s.bytes h.form l) all h.laid;
      seat = h.seat ∙ ap (λ (l : List Item). item_seat s.at (length l) (h.keys ++ h.before) h.item) all;
    }

child_lies : (s : Seat) (f : Form) (front back : List Item) (x : Item) (c : Seat) → Child s f front back x c
    → Lies s.at (length (front ++ (x ∷ back))) (length front) (length (pieces front)) (length x.piece) c
child_lies s f front back x c h =
    let n = length (front ++ (x ∷ back)) in
    subst (λ (d : Seat). Lies s.at n (length front) (length (pieces front)) (length x.piece) d) (sym h.seat) (lies s.at n front x)

-- how long a container is
pub laid_length : (b : List ℕ) (f : Form) (xs : List Item) → Laid b f xs → length b ≡ 4 + 4 * length xs + length (pieces xs)
laid_length b f xs l =
    let ws = (flags f * 2 ^ 28 + l.count) ∷ entries 0 0 xs in
    omega (arith, ap length l.bytes, length-append (words ws) (pieces xs), length-words ws, length-entries 0 0 xs)

-- A value in a value lies behind its header and before its end.
inside : (s : Seat) (f : Form) (front back : List Item) (x : Item) (c : Seat) → Child s f front back x c
    → (s.at + 4 ≤ c.at) × (c.at + extent c ≤ s.at + extent s)
unfolding extent
inside s f front back x c h =
    let long = laid_length s.bytes f (front ++ (x ∷ back)) h.laid in
    let n : length (front ++ (x ∷ back)) ≡ length front + suc (length back) = length-append front (x ∷ back) in
    let size : length (pieces (front ++ (x ∷ back))) ≡ length (pieces front) + (length x.piece + length (pieces back)) =
    pieces-append front (x ∷ back) ∙ ap (λ (k : ℕ). length (pieces front) + k) (length-append x.piece (pieces back)) in
    let whole : extent_of s.bytes ≡ length s.bytes = extent_long s.bytes (omega (arith, long)) in
    elim (child_lies s f front back x c h) [
      | inl k ↦ (omega (arith, k.0), omega (arith, k.0, k.1, long, n, whole))
      | inr k ↦ (omega (arith, k.0), omega (arith, k.1, long, size, whole))
    ]

-- two values share no byte
abbrev pub Apart : Seat → Seat → Type 0
Apart c d = (c.at + extent c ≤ d.at) ⊎ (d.at + extent d ≤ c.at)

-- Two values in a value share no byte.
apart : {s : Seat} {f g : Form} {xs us ys vs : List Item} {x y : Item} {c d : Seat} → Child s f xs us x c → Child s g ys vs y d
    → length xs < length ys → Apart c d
apart {s = s} {f = f} {g = g} {xs = xs} {us = us} {ys = ys} {vs = vs} {x = x} {y = y} {c = c} {d = d} h k lt =
    let same : xs ++ (x ∷ us) ≡ ys ++ (y ∷ vs) = (one_layout s.bytes f g (xs ++ (x ∷ us)) (ys ++ (y ∷ vs)) h.laid k.laid).1 in
    let n : length (xs ++ (x ∷ us)) ≡ length (ys ++ (y ∷ vs)) = ap length same in
    let few : length (ys ++ (y ∷ vs)) ≡ length ys + suc (length vs) = length-append ys (y ∷ vs) in
    let ends : length (pieces xs) + length x.piece ≤ length (pieces ys) = ends_before xs us ys vs x y same lt in
    elim (child_lies s f xs us x c h) [
      | inl a ↦ elim (child_lies s g ys vs y d k) [
        | inl b ↦ inl (omega (arith, a.0, a.1, b.0))
        | inr b ↦ inl (omega (arith, a.0, a.1, b.0, few))
      ]
      | inr a ↦ elim (child_lies s g ys vs y d k) [
        | inl b ↦ inr (omega (arith, a.0, b.0, b.1, n, few))
        | inr b ↦ inl (omega (arith, a.1, b.0, n, ends))
      ]
    ]

seat_same : (start : ℕ) {n m : ℕ} {xs ys : List Item} {x y : Item} → n ≡ m → xs ≡ ys → x ≡ y → item_seat start n xs x ≡ item_seat start m ys y
seat_same start {m = m} {xs = xs} {ys = ys} {x = x} e f g =
    ap (λ (k : ℕ). item_seat start k xs x) e ∙ ap (λ (l : List Item). item_seat start m l x) f ∙ ap (λ (z : Item). item_seat start m ys z) g

one_child : {s : Seat} {f g : Form} {xs us ys vs : List Item} {x y : Item} {c d : Seat} → Child s f xs us x c → Child s g ys vs y d
    → length xs ≡ length ys → c ≡ d
one_child {s = s} {f = f} {g = g} {xs = xs} {us = us} {ys = ys} {vs = vs} {x = x} {y = y} h k n =
    let same : xs ++ (x ∷ us) ≡ ys ++ (y ∷ vs) = (one_layout s.bytes f g (xs ++ (x ∷ us)) (ys ++ (y ∷ vs)) h.laid k.laid).1 in
    let one = one_item xs us ys vs x y same n in
    h.seat ∙ seat_same s.at (ap length same) one.0 one.1 ∙ sym k.seat

-- ---- by number

keys_alike : (f : Form) (ks xs js ys : List Item) → AreKeys f ks xs → AreKeys f js ys → ks ++ xs ≡ js ++ ys → length ks ≡ length js
keys_alike Array ks xs js ys a b e = ap length a ∙ sym (ap length b)
keys_alike Object ks xs js ys a b e = omega (arith, a, b, ap length e, length-append ks xs, length-append js ys)
keys_alike Lone ks xs js ys a b e = absurd a

-- before two values there are as many keys
same_keys : (s : Seat) (i j : ℕ) (c d : Seat) (h : Holds s i c) (k : Holds s j d) → length h.keys ≡ length k.keys
same_keys s i j c d h k =
    let xs = h.before ++ (h.item ∷ h.after) in
    let ys = k.before ++ (k.item ∷ k.after) in
    let same = one_layout s.bytes h.form k.form (h.keys ++ xs) (k.keys ++ ys) h.laid k.laid in
    keys_alike k.form h.keys xs k.keys ys (subst (λ (f : Form). AreKeys f h.keys xs) same.0 h.values) k.values same.1

front_length : (s : Seat) (i : ℕ) (c : Seat) (h : Holds s i c) → length (h.keys ++ h.before) ≡ length h.keys + i
front_length s i c h = length-append h.keys h.before ∙ ap (λ (n : ℕ). length h.keys + n) h.number

-- two values in a value share no byte
pub held_apart : (s : Seat) (i j : ℕ) (c d : Seat) → Holds s i c → Holds s j d → i < j → Apart c d
held_apart s i j c d h k lt =
    apart (child s i c h) (child s j d k)
    (omega (arith, same_keys s i j c d h k, front_length s i c h, front_length s j d k))

-- there is one value of a number
pub one_held : (s : Seat) (i : ℕ) (c d : Seat) → Holds s i c → Holds s i d → c ≡ d
one_held s i c d h k =
    one_child (child s i c h) (child s i d k)
    (omega (arith, same_keys s i i c d h k, front_length s i c h, front_length s i d k))

-- a value in a value is inside it
pub held_inside : (s : Seat) (i : ℕ) (c : Seat) → Holds s i c → (s.at + 4 ≤ c.at) × (c.at + extent c ≤ s.at + extent s)
held_inside s i c h = inside s h.form (h.keys ++ h.before) h.after h.item c (child s i c h)
