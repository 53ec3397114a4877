-- A run of items that is read is the run that was laid.
use Rattle.std.proofs.Common.{◌≡◌, ℕ, ◌+◌, ◌/◌, ◌%◌, ◌^◌, ◌<◌, ◌≤◌, Bool, leb, List, [], ◌∷◌, ◌++◌, length, take, drop, Option, Some, refl, sym, ap, subst, ◌∙◌, append_assoc, arith}
use Rattle.std.specs.Int.{w32, to_le_bytes, from_le_bytes}
use Rattle.std.specs.List.{AllByRecursion}
use Rattle.std.proofs.lemmas.Bool.{le-leb, leb-true}
use Rattle.std.proofs.lemmas.List.{take_at, drop_at, take-append-drop, length-append, length-take-le, append-nil}
use Rattle.std.proofs.lemmas.Nat.{le_bytes_4, from_le_bytes-to_le_bytes_4}
use Rattle.jsonb_layout.specs.Layout.{Item, pieces, entry, entries, words}
use Rattle.jsonb_layout.specs.Options.{only_if}
use Rattle.jsonb_layout.specs.inner.Reading.{Place, length_of, item_with, item_at}
use Rattle.jsonb_layout.proofs.Tools.{guard, bind_some, some_is, IsBytes, IsBytes-take, IsBytes-drop}
use Rattle.jsonb_layout.proofs.Words.{entry_says, entry_said, says_length}

-- From p to q lie these items.
pub record Run (p q : Place) (xs : List Item) : Type 0 where
  pub words : p.words ≡ words (entries p.index p.at xs) ++ q.words
  pub rest : p.rest ≡ pieces xs ++ q.rest
  pub index : q.index ≡ p.index + length xs
  pub at : q.at ≡ p.at + length (pieces xs)
  pub kinds : AllByRecursion (λ x. x.kind < 8) xs

-- no items
pub Run-nil : (p : Place) → Run p p []
Run-nil p = record { words = refl; rest = refl; index = omega arith; at = omega arith; kinds = tt }

-- what is left when the first item was read
abbrev pub after : Place → Place → Item → List Item → Place
after p q x xs =
    record {
      index = p.index + 1;
      at = p.at + length x.piece;
      words = words (entries (p.index + 1) (p.at + length x.piece) xs) ++ q.words;
      rest = pieces xs ++ q.rest;
    }

-- the items behind the first
pub Run-tail : (p q : Place) (x : Item) (xs : List Item) → Run p q (x ∷ xs) → Run (after p q x xs) q xs
Run-tail p q x xs r =
    record {
      words = refl;
      rest = refl;
      index = omega (arith, r.index);
      at = omega (arith, r.at, length-append x.piece (pieces xs));
      kinds = r.kinds.1;
    }

-- one item more in front
pub Run-cons : (p q m : Place) (x : Item) (xs : List Item) → Run p m (x ∷ []) → Run m q xs → Run p q (x ∷ xs)
Run-cons p q m x xs a b =
    let i : m.index ≡ p.index + 1 = omega (arith, a.index) in
    let nil : length (x.piece ++ []) ≡ length x.piece = ap length (append-nil x.piece) in
    let t : m.at ≡ p.at + length x.piece = omega (arith, a.at, nil) in
    record {
      words =
          a.words
          ∙ ap (λ (w : List ℕ). to_le_bytes w32 (entry p.index (p.at + length x.piece) x) ++ w)
          (subst (λ (k : ℕ). m.words ≡ words (entries k (p.at + length x.piece) xs) ++ q.words) i
          (subst (λ (k : ℕ). m.words ≡ words (entries m.index k xs) ++ q.words) t b.words));
      rest =
          a.rest
          ∙ ap (λ (l : List ℕ). l ++ m.rest) (append-nil x.piece)
          ∙ ap (λ (l : List ℕ). x.piece ++ l) b.rest
          ∙ sym (append_assoc x.piece (pieces xs) q.rest);
      index = omega (arith, b.index, i);
      at = omega (arith, b.at, t, length-append x.piece (pieces xs));
      kinds = (a.kinds.0, b.kinds);
    }

pub Run-head : (p q : Place) (x : Item) (xs : List Item) → Run p q (x ∷ xs) → Run p (after p q x xs) (x ∷ [])
Run-head p q x xs r = record {
  words = r.words;
  rest = r.rest ∙ append_assoc x.piece (pieces xs) q.rest ∙ ap (λ (l : List ℕ). l ++ (pieces xs ++ q.rest)) (sym (append-nil x.piece));
  index = refl;
  at = ap (λ (k : ℕ). p.at + k) (ap length (sym (append-nil x.piece)));
  kinds = (r.kinds.0, tt);
}

-- places with the same numbers and bytes are one
pub place_same : {i j a b : ℕ} {v w r s : List ℕ} → i ≡ j → a ≡ b → v ≡ w → r ≡ s
    → ◌≡◌ {A = Place} (record { index = i; at = a; words = v; rest = r }) (record { index = j; at = b; words = w; rest = s })
place_same e f g h = rw (e, f, g, h) refl

-- a run of no items ends where it begins
pub Run-none : (p q : Place) → Run p q [] → p ≡ q
Run-none p q r =
    let index : p.index ≡ q.index = omega (arith, r.index) in
    let at : p.at ≡ q.at = omega (arith, r.at) in
    place_same index at r.words r.rest

-- two runs, one behind the other
pub Run-append : (xs ys : List Item) (p m q : Place) → Run p m xs → Run m q ys → Run p q (xs ++ ys)
Run-append [] ys p m q a b = subst (λ (k : Place). Run k q ys) (sym (Run-none p m a)) b
Run-append (x ∷ xs) ys p m q a b =
    Run-cons p q (after p m x xs) x (xs ++ ys) (Run-head p m x xs a) (Run-append xs ys (after p m x xs) m q (Run-tail p m x xs a) b)

-- a run of two parts
pub Run-split : (xs ys : List Item) (p q : Place) → Run p q (xs ++ ys) → (m : Place) × Run p m xs × Run m q ys
Run-split [] ys p q r = (p, Run-nil p, r)
Run-split (x ∷ xs) ys p q r =
    let more = Run-split xs ys (after p q x (xs ++ ys)) q (Run-tail p q x (xs ++ ys) r) in
    (more.0, Run-cons p more.0 (after p q x (xs ++ ys)) x xs (Run-head p q x (xs ++ ys) r) more.1, more.2)

-- what item_at answers
abbrev found_at : ℕ → List ℕ → ℕ → ℕ → List ℕ → List ℕ → Option (Item × Place)
found_at kind piece index at ws rest = Some (record { kind = kind; piece = piece }, record { index = index; at = at; words = ws; rest = rest })

found_same : {k k' : ℕ} {c c' : List ℕ} (i a : ℕ) {w w' r r' : List ℕ} → k ≡ k' → c ≡ c' → w ≡ w' → r ≡ r'
    → found_at k c i a w r ≡ found_at k' c' i a w' r'
found_same i a e f g h = rw (e, f, g, h) refl

item_from : (p : Place) (w n : ℕ) → 4 ≤ length p.words → from_le_bytes w32 (take 4 p.words) ≡ w → length_of p.index p.at w ≡ Some n
    → n ≤ length p.rest
    → item_at p ≡ found_at (w / 2 ^ 28 % 8) (take n p.rest) (p.index + 1) (p.at + n) (drop 4 p.words) (drop n p.rest)
unfolding item_at
item_from p w n long e len room =
    ap (λ (b : Bool). only_if b (item_with (from_le_bytes w32 (take 4 p.words)) p)) (le-leb 4 (length p.words) long)
    ∙ ap (λ (v : ℕ). item_with v p) e
    ∙ rw (len, le-leb n (length p.rest) room) refl

-- A laid item is read.
pub item_again : (p q : Place) (x : Item) (xs : List Item) → Run p q (x ∷ xs) → p.at + length x.piece < 2 ^ 28 → item_at p ≡ Some (x, after p q x xs)
item_again p q x xs r l =
    let w = entry p.index (p.at + length x.piece) x in
    let s = entry_says p.index p.at x r.kinds.0 l in
    let four = to_le_bytes w32 w in
    let left = words (entries (p.index + 1) (p.at + length x.piece) xs) ++ q.words in
    let parts : p.words ≡ four ++ left = r.words in
    let t : take 4 p.words ≡ four = ap (take 4) parts ∙ take_at four left 4 refl in
    let d : drop 4 p.words ≡ left = ap (drop 4) parts ∙ drop_at four left 4 refl in
    let long : 4 ≤ length p.words = omega (arith, ap length parts, length-append four left) in
    let whole : p.rest ≡ x.piece ++ (pieces xs ++ q.rest) = r.rest ∙ append_assoc x.piece (pieces xs) q.rest in
    let room : length x.piece ≤ length p.rest = omega (arith, ap length whole, length-append x.piece (pieces xs ++ q.rest)) in
    item_from p w (length x.piece) long (ap (from_le_bytes w32) t ∙ from_le_bytes-to_le_bytes_4 w s.fits)
    (says_length p.index p.at (length x.piece) w s.len) room
    ∙ found_same (p.index + 1) (p.at + length x.piece) s.kind
    (ap (take (length x.piece)) whole ∙ take_at x.piece (pieces xs ++ q.rest) (length x.piece) refl) d
    (ap (drop (length x.piece)) whole ∙ drop_at x.piece (pieces xs ++ q.rest) (length x.piece) refl)

-- the bytes at a place are bytes
pub record Fit (p : Place) : Type 0 where
  pub words : IsBytes p.words
  pub rest : IsBytes p.rest

-- An item that is read was laid.
pub item_takes : (p q : Place) (x : Item) → Fit p → item_at p ≡ Some (x, q) → Run p q (x ∷ []) × Fit q × IsBytes x.piece
unfolding item_at
item_takes p q x fits e =
    let g = guard (leb 4 (length p.words)) (item_with (from_le_bytes w32 (take 4 p.words)) p) (x, q) e in
    let w = from_le_bytes w32 (take 4 p.words) in
    let long : 4 ≤ length p.words = leb-true 4 (length p.words) g.0 in
    let b =
    bind_some (length_of p.index p.at w)
    (λ n. only_if (leb n (length p.rest)) (found_at (w / 2 ^ 28 % 8) (take n p.rest) (p.index + 1) (p.at + n) (drop 4 p.words) (drop n p.rest)))
    (x, q) g.1 in
    let n = b.0 in
    let h =
    guard (leb n (length p.rest)) (found_at (w / 2 ^ 28 % 8) (take n p.rest) (p.index + 1) (p.at + n) (drop 4 p.words) (drop n p.rest)) (x, q)
    b.2 in
    let room : n ≤ length p.rest = leb-true n (length p.rest) h.0 in
    let four : length (take 4 p.words) ≡ 4 = length-take-le 4 p.words long in
    let fits4 = IsBytes-take 4 p.words fits.words in
    let small : w < 2 ^ 32 = omega (arith, fits4 0, fits4 1, fits4 2, fits4 3) in
    let len : length (take n p.rest) ≡ n = length-take-le n p.rest room in
    let said : w ≡ entry p.index (p.at + n) (record { kind = w / 2 ^ 28 % 8; piece = take n p.rest }) =
    entry_said p.index p.at n w (take n p.rest) small b.1 len in
    let made : Item × Place = (
      record { kind = w / 2 ^ 28 % 8; piece = take n p.rest },
      record { index = p.index + 1; at = p.at + n; words = drop 4 p.words; rest = drop n p.rest },
    ) in
    let run : Run p made.1 (made.0 ∷ []) = record {
      words =
          sym (take-append-drop 4 p.words)
          ∙ ap (λ (f : List ℕ). f ++ drop 4 p.words)
          (sym (le_bytes_4 (take 4 p.words) w four fits4 refl)
          ∙ ap (to_le_bytes w32) said
          ∙ ap (λ (k : ℕ). to_le_bytes w32 (entry p.index (p.at + k) made.0)) (sym len));
      rest = sym (take-append-drop n p.rest) ∙ ap (λ (f : List ℕ). f ++ drop n p.rest) (sym (append-nil (take n p.rest)));
      index = refl;
      at = ap (λ (k : ℕ). p.at + k) (sym len ∙ ap length (sym (append-nil (take n p.rest))));
      kinds = (omega arith, tt);
    } in
    subst (λ (y : Item × Place). Run p y.1 (y.0 ∷ []) × Fit y.1 × IsBytes y.0.piece) (some_is made (x, q) h.1)
    (run, record { words = IsBytes-drop 4 p.words fits.words; rest = IsBytes-drop n p.rest fits.rest }, IsBytes-take n p.rest fits.rest)
