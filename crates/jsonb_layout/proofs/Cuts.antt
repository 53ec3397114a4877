-- What follows a slice that stands for a tree makes it stand for none.
use Rattle.std.proofs.Common.{◌≡◌, ℕ, ◌+◌, ◌-◌, ◌*◌, ◌<◌, ◌≤◌, ◌^◌, leb, ltb, List, [], ◌∷◌, ◌++◌, length, take, drop, Some, refl, sym, ap, ◌∙◌, arith}
use Rattle.std.specs.Prelude.{◌&&◌}
use Rattle.std.specs.Int.{w32, to_le_bytes, from_le_bytes}
use Rattle.std.specs.List.{AllByRecursion}
use Rattle.std.proofs.lemmas.Bool.{leb-true, and_parts}
use Rattle.std.proofs.lemmas.List.{length-append, take-append-le, take_at, drop_at}
use Rattle.std.proofs.Math.Seq.{drop-append-le}
use Rattle.std.proofs.lemmas.Nat.{from_le_bytes-to_le_bytes_4}
use Rattle.json_model.specs.Tree.{Tree, scalar, array, object}
use Rattle.jsonb_layout.specs.Layout.{Item, pieces, entry, entries, words, flags, Laid}
use Rattle.jsonb_layout.specs.declared.form.Form.{Form}
use Rattle.jsonb_layout.specs.declared.form.Form.TheVariants.{Array, Object, Lone}
use Rattle.jsonb_layout.specs.Stands.{Stands}
use Rattle.jsonb_layout.specs.inner.Reading.{Place, length_of, items_in, form_of, form_at, begun, opened}
use Rattle.jsonb_layout.proofs.Tools.{bind_some, guard, some_is}
use Rattle.jsonb_layout.proofs.Words.{entry_says, says_length}
use Rattle.jsonb_layout.proofs.Openings.{open_again, opens_from, first}

abbrev four : ℕ → List ℕ
four w = to_le_bytes w32 w

-- ---- entry words tell how long the pieces are

one_length : (i at : ℕ) (x y : Item) → x.kind < 8 → y.kind < 8 → at + length x.piece < 2 ^ 28 → at + length y.piece < 2 ^ 28
    → four (entry i (at + length x.piece) x) ≡ four (entry i (at + length y.piece) y) → length x.piece ≡ length y.piece
one_length i at x y kx ky lx ly e =
    let v = entry i (at + length x.piece) x in
    let w = entry i (at + length y.piece) y in
    let sx = entry_says i at x kx lx in
    let sy = entry_says i at y ky ly in
    let same : v ≡ w = sym (from_le_bytes-to_le_bytes_4 v sx.fits) ∙ ap (from_le_bytes w32) e ∙ from_le_bytes-to_le_bytes_4 w sy.fits in
    some_is (length x.piece) (length y.piece)
    (sym (says_length i at (length x.piece) v sx.len) ∙ ap (length_of i at) same ∙ says_length i at (length y.piece) w sy.len)

pub same_length : (i at : ℕ) (xs ys : List Item) → AllByRecursion (λ x. x.kind < 8) xs → AllByRecursion (λ x. x.kind < 8) ys
    → at + length (pieces xs) < 2 ^ 28 → at + length (pieces ys) < 2 ^ 28 → words (entries i at xs) ≡ words (entries i at ys)
    → length (pieces xs) ≡ length (pieces ys)
same_length i at [] [] kx ky lx ly e = refl
same_length i at [] (y ∷ ys) kx ky lx ly e =
    absurd (omega (arith, ap length e, length-append (four (entry i (at + length y.piece) y)) (words (entries (i + 1) (at + length y.piece) ys))))
same_length i at (x ∷ xs) [] kx ky lx ly e =
    absurd (omega (arith, ap length e, length-append (four (entry i (at + length x.piece) x)) (words (entries (i + 1) (at + length x.piece) xs))))
same_length i at (x ∷ xs) (y ∷ ys) kx ky lx ly e =
    let px = length-append x.piece (pieces xs) in
    let py = length-append y.piece (pieces ys) in
    let vx = four (entry i (at + length x.piece) x) in
    let vy = four (entry i (at + length y.piece) y) in
    let rx = words (entries (i + 1) (at + length x.piece) xs) in
    let ry = words (entries (i + 1) (at + length y.piece) ys) in
    let head : vx ≡ vy = sym (take_at vx rx 4 refl) ∙ ap (take 4) e ∙ take_at vy ry 4 refl in
    let rest : rx ≡ ry = sym (drop_at vx rx 4 refl) ∙ ap (drop 4) e ∙ drop_at vy ry 4 refl in
    let n : length x.piece ≡ length y.piece = one_length i at x y kx.0 ky.0 (omega (arith, px)) (omega (arith, py)) head in
    let rest2 : words (entries (i + 1) (at + length x.piece) xs) ≡ words (entries (i + 1) (at + length x.piece) ys) =
    rest ∙ ap (λ (k : ℕ). words (entries (i + 1) (at + k) ys)) (sym n) in
    let more = same_length (i + 1) (at + length x.piece) xs ys kx.1 ky.1 (omega (arith, px)) (omega (arith, py, n)) rest2 in
    omega (arith, px, py, n, more)

-- ---- more bytes change neither form nor words

opened_words : (b c : List ℕ) (o v : Form × ℕ × Place) → opened b ≡ Some o → opened (b ++ c) ≡ Some v → o.2.words ≡ v.2.words
unfolding opened form_at
opened_words b c o v e h =
    let a = bind_some (form_at b) (begun (drop 4 b)) o e in
    let d = bind_some (form_at (b ++ c)) (begun (drop 4 (b ++ c))) v h in
    let g = guard (leb 4 (length b)) (form_of (from_le_bytes w32 (take 4 b))) a.0 a.1 in
    let k = guard (leb 4 (length (b ++ c))) (form_of (from_le_bytes w32 (take 4 (b ++ c)))) d.0 d.1 in
    let long : 4 ≤ length b = leb-true 4 (length b) g.0 in
    let head : take 4 (b ++ c) ≡ take 4 b = take-append-le 4 b c long in
    let tail : drop 4 (b ++ c) ≡ drop 4 b ++ c = drop-append-le 4 b c long in
    let same : a.0 ≡ d.0 = some_is a.0 d.0 (sym g.1 ∙ ap (λ (t : List ℕ). form_of (from_le_bytes w32 t)) (sym head) ∙ k.1) in
    let n = 4 * items_in a.0.0 a.0.1 in
    let m = 4 * items_in d.0.0 d.0.1 in
    let nm : n ≡ m = ap (λ (f : Form × ℕ). 4 * items_in f.0 f.1) same in
    let body = drop 4 b in
    let big = drop 4 (b ++ c) in
    let made : Form × ℕ × Place = (a.0.0, a.0.1, record { index = 0; at = 0; words = take n body; rest = drop n body }) in
    let gone : Form × ℕ × Place = (d.0.0, d.0.1, record { index = 0; at = 0; words = take m big; rest = drop m big }) in
    let p = guard (leb n (length body) && ltb (length body - n) (2 ^ 28)) (Some made) o a.2 in
    let q = guard (leb m (length big) && ltb (length big - m) (2 ^ 28)) (Some gone) v d.2 in
    let room : n ≤ length body = leb-true n (length body) (and_parts _ _ p.0).0 in
    ap (λ (y : Form × ℕ × Place). y.2.words) (sym (some_is made o p.1))
    ∙ sym (take-append-le n body c room)
    ∙ ap (take n) (sym tail)
    ∙ ap (λ (j : ℕ). take j big) nm
    ∙ ap (λ (y : Form × ℕ × Place). y.2.words) (some_is gone v q.1)

laid_of : (b : List ℕ) (t : Tree) → Stands b t → (f : Form) × (xs : List Item) × Laid b f xs
laid_of b (scalar s) h = (Lone, h.0 ∷ [], h.1)
laid_of b (array ts) h = (Array, h.0, h.1)
laid_of b (object ms) h = (Object, _, h.1)

laid_size : (b : List ℕ) (f : Form) (xs : List Item) (l : Laid b f xs) → length b ≡ 4 + length (first xs).words + length (pieces xs)
laid_size b f xs l =
    let head = flags f * 2 ^ 28 + l.count in
    let es = entries 0 0 xs in
    omega (arith, ap length l.bytes, length-append (words (head ∷ es)) (pieces xs), length-append (four head) (words es))

-- No proper prefix of what stands for a tree stands for one.
pub no_more : (b c : List ℕ) (t u : Tree) → Stands b t → Stands (b ++ c) u → length c ≡ 0
no_more b c t u h k =
    let x = laid_of b t h in
    let y = laid_of (b ++ c) u k in
    let ox = open_again b x.0 x.2.count (first x.1) (opens_from b x.0 x.1 x.2) in
    let oy = open_again (b ++ c) y.0 y.2.count (first y.1) (opens_from (b ++ c) y.0 y.1 y.2) in
    let same : (first x.1).words ≡ (first y.1).words = opened_words b c (x.0, x.2.count, first x.1) (y.0, y.2.count, first y.1) ox oy in
    let n : length (pieces x.1) ≡ length (pieces y.1) =
    same_length 0 0 x.1 y.1 x.2.kinds y.2.kinds (omega (arith, x.2.pieces_fit)) (omega (arith, y.2.pieces_fit)) same in
    omega (arith, laid_size b x.0 x.1 x.2, laid_size (b ++ c) y.0 y.1 y.2, n, ap length same, length-append b c)
