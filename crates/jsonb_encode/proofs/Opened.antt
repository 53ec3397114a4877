-- A container whose items are written one after another.
use Rattle.std.proofs.Common.{◌≡◌, ℕ, suc, ◌+◌, ◌-◌, ◌*◌, ◌^◌, ◌<◌, ◌≤◌, List, [], ◌∷◌, ◌++◌, length, take, drop, replicate, refl, sym, ap, ◌∙◌, append_assoc, arith}
use Rattle.std.specs.Int.{w32, to_le_bytes}
use Rattle.std.proofs.lemmas.Grind.{flat_map-append}
use Rattle.std.proofs.lemmas.List.{append-nil, length-append, length-replicate, replicate-append-replicate, take_at, drop_at}
use Rattle.jsonb_layout.specs.Layout.{Item, pieces, entry, entries, words, flags}
use Rattle.jsonb_layout.specs.declared.form.Form.{Form}
use Rattle.jsonb_encode.specs.Encoded.{container}
use Rattle.jsonb_encode.specs.inner.Writing.{opened, item_of, IsOpen}

-- ---- one item more

pub pieces_more : (xs ys : List Item) → pieces (xs ++ ys) ≡ pieces xs ++ pieces ys
pieces_more xs ys = flat_map-append (λ (x : Item). x.piece) xs ys

pub pieces_last : (xs : List Item) (x : Item) → pieces (xs ++ x ∷ []) ≡ pieces xs ++ x.piece
pieces_last xs x = pieces_more xs (x ∷ []) ∙ ap (λ (ys : List ℕ). pieces xs ++ ys) (append-nil x.piece)

pub entries_last : (i at : ℕ) (xs : List Item) (x : Item)
    → entries i at (xs ++ x ∷ []) ≡ entries i at xs ++ entry (i + length xs) (at + length (pieces xs) + length x.piece) x ∷ []
entries_last i at [] x =
    let a : i ≡ i + 0 = omega arith in
    let b : at + length x.piece ≡ at + 0 + length x.piece = omega arith in
    ap (λ (k : ℕ). entry k (at + length x.piece) x ∷ []) a ∙ ap (λ (k : ℕ). entry (i + 0) k x ∷ []) b
entries_last i at (y ∷ xs) x =
    let w = entry i (at + length y.piece) y in
    let a : i + 1 + length xs ≡ i + suc (length xs) = omega arith in
    let b : at + length y.piece + length (pieces xs) + length x.piece ≡ at + length (y.piece ++ pieces xs) + length x.piece =
    omega (arith, length-append y.piece (pieces xs)) in
    ap (λ (ws : List ℕ). w ∷ ws)
    (entries_last (i + 1) (at + length y.piece) xs x
    ∙ ap (λ (k : ℕ). entries (i + 1) (at + length y.piece) xs ++ entry k (at + length y.piece + length (pieces xs) + length x.piece) x ∷ []) a
    ∙ ap (λ (k : ℕ). entries (i + 1) (at + length y.piece) xs ++ entry (i + suc (length xs)) k x ∷ []) b)

pub entries_length : (i at : ℕ) (xs : List Item) → length (entries i at xs) ≡ length xs
entries_length i at [] = refl
entries_length i at (x ∷ xs) = ap (λ (n : ℕ). suc n) (entries_length (i + 1) (at + length x.piece) xs)

pub words_length : (ns : List ℕ) → length (words ns) ≡ 4 * length ns
words_length [] = refl
words_length (n ∷ ns) = omega (arith, words_length ns)

-- ---- what is written

-- the header, and the words of the items
abbrev front : Form → ℕ → List Item → List ℕ
front f count xs = words ((flags f * 2 ^ 28 + count) ∷ entries 0 0 xs)

front_length : (f : Form) (count : ℕ) (xs : List Item) → length (front f count xs) ≡ 4 * length xs + 4
front_length f count xs = omega (arith, words_length ((flags f * 2 ^ 28 + count) ∷ entries 0 0 xs), entries_length 0 0 xs)

front_last : (f : Form) (count : ℕ) (xs : List Item) (x : Item)
    → front f count (xs ++ x ∷ []) ≡ front f count xs ++ to_le_bytes w32 (entry (length xs) (length (pieces xs) + length x.piece) x)
front_last f count xs x =
    let h = flags f * 2 ^ 28 + count in
    let w = entry (0 + length xs) (0 + length (pieces xs) + length x.piece) x in
    let a : 0 + length xs ≡ length xs = omega arith in
    let b : 0 + length (pieces xs) + length x.piece ≡ length (pieces xs) + length x.piece = omega arith in
    ap (λ (ws : List ℕ). words (h ∷ ws)) (entries_last 0 0 xs x)
    ∙ flat_map-append (to_le_bytes w32) (h ∷ entries 0 0 xs) (w ∷ [])
    ∙ ap (λ (k : ℕ). front f count xs ++ to_le_bytes w32 (entry k (0 + length (pieces xs) + length x.piece) x)) a
    ∙ ap (λ (k : ℕ). front f count xs ++ to_le_bytes w32 (entry (length xs) k x)) b

-- so many bytes are written
pub opened_length : (f : Form) (count n : ℕ) (xs : List Item) → length xs ≤ n → length (opened f count n xs) ≡ 4 + 4 * n + length (pieces xs)
unfolding opened
opened_length f count n xs le =
    let z : List ℕ = replicate (4 * (n - length xs)) 0 in
    omega (
      arith,
      length-append (front f count xs) (z ++ pieces xs),
      length-append z (pieces xs),
      front_length f count xs,
      length-replicate {A = ℕ} (4 * (n - length xs)) 0,
    )

-- where all items are written, it is the container
pub opened_whole : (f : Form) (count n : ℕ) (xs : List Item) → length xs ≡ n → opened f count n xs ≡ container f count xs
unfolding opened
opened_whole f count n xs e =
    let z : 4 * (n - length xs) ≡ 0 = omega arith in
    ap (λ (k : ℕ). front f count xs ++ (replicate k 0 ++ pieces xs)) z

regroup : (b fr u v p q : List ℕ) → (b ++ (fr ++ ((u ++ v) ++ p))) ++ q ≡ (b ++ fr) ++ (u ++ (v ++ (p ++ q)))
regroup b fr u v p q = simp append_assoc

regroup_last : (b fr w v p q : List ℕ) → (b ++ fr) ++ (w ++ (v ++ (p ++ q))) ≡ b ++ ((fr ++ w) ++ (v ++ (p ++ q)))
regroup_last b fr w v p q = simp append_assoc

-- a word is put in place of four bytes
put : (fr u r w : List ℕ) (place : ℕ) → length fr ≡ place → length u ≡ 4
    → take place (fr ++ (u ++ r)) ++ (w ++ drop (place + 4) (fr ++ (u ++ r))) ≡ fr ++ (w ++ r)
put fr u r w place e g =
    let n : length (fr ++ u) ≡ place + 4 = omega (arith, length-append fr u) in
    let back : drop (place + 4) (fr ++ (u ++ r)) ≡ r = ap (drop (place + 4)) (sym (append_assoc fr u r)) ∙ drop_at (fr ++ u) r (place + 4) n in
    ap (λ (ys : List ℕ). ys ++ (w ++ drop (place + 4) (fr ++ (u ++ r)))) (take_at fr (u ++ r) place e)
    ∙ ap (λ (ys : List ℕ). fr ++ (w ++ ys)) back

apart : (f : Form) (count n : ℕ) (xs : List Item) (base piece : List ℕ) → length xs < n
    → (base ++ opened f count n xs) ++ piece
    ≡ (base ++ front f count xs) ++ (replicate 4 0 ++ (replicate (4 * (n - (length xs + 1))) 0 ++ (pieces xs ++ piece)))
unfolding opened
apart f count n xs base piece lt =
    let k : 4 * (n - length xs) ≡ 4 + 4 * (n - (length xs + 1)) = omega arith in
    let z : replicate (4 * (n - length xs)) 0 ≡ replicate 4 0 ++ replicate (4 * (n - (length xs + 1))) 0 =
    ap (λ (m : ℕ). replicate m 0) k ∙ sym {a = replicate 4 0 ++ replicate (4 * (n - (length xs + 1))) 0}
    (replicate-append-replicate 4 (4 * (n - (length xs + 1))) 0) in
    ap (λ (zs : List ℕ). (base ++ (front f count xs ++ (zs ++ pieces xs))) ++ piece) z
    ∙ regroup base (front f count xs) (replicate 4 0) (replicate (4 * (n - (length xs + 1))) 0) (pieces xs) piece

together : (f : Form) (count n : ℕ) (xs : List Item) (x : Item) (base : List ℕ)
    → (base ++ front f count xs)
    ++ (to_le_bytes w32 (entry (length xs) (length (pieces xs) + length x.piece) x) ++
    (replicate (4 * (n - (length xs + 1))) 0 ++ (pieces xs ++ x.piece)))
    ≡ base ++ opened f count n (xs ++ x ∷ [])
unfolding opened
together f count n xs x base =
    let w = to_le_bytes w32 (entry (length xs) (length (pieces xs) + length x.piece) x) in
    let z = replicate (4 * (n - (length xs + 1))) 0 in
    let k : length xs + 1 ≡ length (xs ++ x ∷ []) = sym (length-append xs (x ∷ [])) in
    regroup_last base (front f count xs) w z (pieces xs) x.piece
    ∙ ap (λ (ws : List ℕ). base ++ (ws ++ (z ++ (pieces xs ++ x.piece)))) (sym (front_last f count xs x))
    ∙ ap (λ (ps : List ℕ). base ++ (front f count (xs ++ x ∷ []) ++ (z ++ ps))) (sym (pieces_last xs x))
    ∙ ap (λ (m : ℕ). base ++ (front f count (xs ++ x ∷ []) ++ (replicate (4 * (n - m)) 0 ++ pieces (xs ++ x ∷ [])))) k

-- an item's word is set behind its piece
pub closes : (f : Form) (count n : ℕ) (xs : List Item) (kind : ℕ) (base piece old new : List ℕ) (start place word : ℕ)
    → length base ≡ start → place ≡ start + 4 * length xs + 4 → length xs < n → old ≡ (base ++ opened f count n xs) ++ piece
    → word ≡ entry (length xs) (length (pieces xs) + length piece) (item_of kind piece)
    → new ≡ take place old ++ (to_le_bytes w32 word ++ drop (place + 4) old)
    → new ≡ base ++ opened f count n (xs ++ item_of kind piece ∷ [])
closes f count n xs kind base piece old new start place word e p lt h w k =
    let whole = h ∙ apart f count n xs base piece lt in
    let rest = replicate (4 * (n - (length xs + 1))) 0 ++ (pieces xs ++ piece) in
    let l : length (base ++ front f count xs) ≡ place = omega (arith, length-append base (front f count xs), front_length f count xs) in
    k
    ∙ ap (λ (ys : List ℕ). take place ys ++ (to_le_bytes w32 word ++ drop (place + 4) ys)) whole
    ∙ put (base ++ front f count xs) (replicate 4 0) rest (to_le_bytes w32 word) place l refl
    ∙ ap (λ (v : ℕ). (base ++ front f count xs) ++ (to_le_bytes w32 v ++ rest)) w
    ∙ together f count n xs (item_of kind piece) base

-- the bytes from the payload's start on, and from the last piece on
pub payload_length : (f : Form) (count n : ℕ) (xs : List Item) (base mid piece old : List ℕ) (start begin : ℕ) → length base ≡ start → length xs < n
    → IsOpen f count n xs base mid → length mid ≡ begin → old ≡ mid ++ piece
    → (length old - start - 4 * n - 4 ≡ length (pieces xs) + length piece) × (length old - begin ≡ length piece)
payload_length f count n xs base mid piece old start begin e lt open_is b h =
    let o = opened_length f count n xs (omega arith) in
    let l = ap length h in
    let k = ap length open_is.bytes in
    let a = length-append mid piece in
    let d = length-append base (opened f count n xs) in
    (omega arith, omega arith)

-- how many bytes stand so far
pub open_length : (f : Form) (count n : ℕ) (xs : List Item) (base mid : List ℕ) → length xs ≤ n → IsOpen f count n xs base mid
    → length mid ≡ length base + 4 * n + 4 + length (pieces xs)
open_length f count n xs base mid le open_is =
    omega (arith, opened_length f count n xs le, ap length open_is.bytes, length-append base (opened f count n xs))

-- one item more stands, whose word is set
pub closed : (f : Form) (count n : ℕ) (xs : List Item) (kind : ℕ) (base mid piece old new : List ℕ) (start place word : ℕ)
    → length base ≡ start → place ≡ start + 4 * length xs + 4 → length xs < n → IsOpen f count n xs base mid → old ≡ mid ++ piece
    → word ≡ entry (length xs) (length (pieces xs) + length piece) (item_of kind piece)
    → length (pieces xs) + length piece < 2 ^ 28
    → new ≡ take place old ++ (to_le_bytes w32 word ++ drop (place + 4) old)
    → IsOpen f count n (xs ++ item_of kind piece ∷ []) base new
closed f count n xs kind base mid piece old new start place word e p lt open_is h w small k = record {
  bytes = closes f count n xs kind base piece old new start place word e p lt (h ∙ ap (λ (ys : List ℕ). ys ++ piece) open_is.bytes) w k;
  small = omega (arith, ap length (pieces_last xs (item_of kind piece)), length-append (pieces xs) piece);
}

-- at first no item is written
pub opened_none : (f : Form) (count n : ℕ) (base old : List ℕ) (flag : ℕ) → flag ≡ flags f * 2 ^ 28
    → old ≡ base ++ to_le_bytes w32 (flag + count)
    → old ++ replicate (4 * n) 0 ≡ base ++ opened f count n []
unfolding opened
opened_none f count n base old flag e h =
    let w = to_le_bytes w32 (flags f * 2 ^ 28 + count) in
    let z : List ℕ = replicate (4 * n) 0 in
    let m : n ≡ n - 0 = omega arith in
    ap (λ (xs : List ℕ). xs ++ z) (h ∙ ap (λ (k : ℕ). base ++ to_le_bytes w32 (k + count)) e)
    ∙ append_assoc base w z
    ∙ ap (λ (xs : List ℕ). base ++ (w ++ xs)) (sym (append-nil z))
    ∙ ap (λ (k : ℕ). base ++ (w ++ (replicate (4 * k) 0 ++ []))) m
