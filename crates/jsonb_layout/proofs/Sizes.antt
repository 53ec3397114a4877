-- How many bytes each step of the reading leaves.
use Rattle.std.proofs.Common.{◌≡◌, ℕ, zero, suc, ◌+◌, ◌-◌, ◌*◌, ◌/◌, ◌%◌, ◌^◌, ◌<◌, ◌≤◌, eqb, leb, ltb, List, [], length, take, drop, Option, Some, refl, ap, subst, arith}
use Rattle.std.specs.Prelude.{◌&&◌}
use Rattle.std.specs.Int.{w32, from_le_bytes}
use Rattle.std.proofs.lemmas.Bool.{leb-true, ltb-true, and_parts}
use Rattle.std.proofs.lemmas.List.{length-take-le, length-drop}
use Rattle.jsonb_layout.specs.Layout.{Item, pad}
use Rattle.jsonb_layout.specs.declared.form.Form.{Form}
use Rattle.jsonb_layout.specs.Options.{only_if}
use Rattle.jsonb_layout.specs.inner.Reading.{Place, length_of, item_with, item_at, unpadded, size, keys_at, form_of, form_at, begun, items_in, opened}
use Rattle.jsonb_layout.proofs.Tools.{bind_some, guard, some_is}
use Rattle.std.specs.List.{list_all}
use Rattle.jsonb_layout.proofs.NextKey.{next_key}

-- what an item takes of a container: its place, and the one behind it
pub record Takes (p : Place) (x : Item) (q : Place) : Type 0 where
  pub words : length q.words + 4 ≡ length p.words
  pub piece : length x.piece + length q.rest ≡ length p.rest
  pub at : q.at ≡ p.at + length x.piece

-- an item that is read takes its word and its piece
pub item_takes : (p q : Place) (x : Item) → item_at p ≡ Some (x, q) → Takes p x q
unfolding item_at
item_takes p q x e =
    let g = guard (leb 4 (length p.words)) (item_with (from_le_bytes w32 (take 4 p.words)) p) (x, q) e in
    let w = from_le_bytes w32 (take 4 p.words) in
    let b = bind_some (length_of p.index p.at w) (λ n. only_if (leb n (length p.rest)) (Some (found w n))) (x, q) g.1 in
    let h = guard (leb b.0 (length p.rest)) (Some (found w b.0)) (x, q) b.2 in
    let room = leb-true b.0 (length p.rest) h.0 in
    let long = leb-true 4 (length p.words) g.0 in
    subst (λ (y : Item × Place). Takes p y.0 y.1) (some_is (found w b.0) (x, q) h.1) (record {
      words = omega (arith, length-drop 4 p.words, long);
      piece = omega (arith, length-take-le b.0 p.rest room, length-drop b.0 p.rest, room);
      at = omega (arith, length-take-le b.0 p.rest room);
    })
  where
    found : ℕ → ℕ → Item × Place
    found w n = (
      record { kind = w / 2 ^ 28 % 8; piece = take n p.rest },
      record { index = p.index + 1; at = p.at + n; words = drop 4 p.words; rest = drop n p.rest },
    )

-- an item and its entry word are no more than what is there
pub item_size : (p q : Place) (x : Item) → item_at p ≡ Some (x, q) → size q + length x.piece + 4 ≤ size p
item_size p q x e = let t = item_takes p q x e in omega (arith, t.words, t.piece)

-- without padding a piece is no longer
pub unpadded_size : (at : ℕ) (piece k : List ℕ) → unpadded at piece ≡ Some k → length k ≤ length piece
unfolding unpadded
unpadded_size at piece k e =
    let g = guard (leb (pad at) (length piece) && list_all (λ b. eqb b 0) (take (pad at) piece)) (Some (drop (pad at) piece)) k e in
    omega (arith, ap length (some_is (drop (pad at) piece) k g.1), length-drop (pad at) piece)

-- behind keys there is no more
pub keys_size : (n : ℕ) (before : Option (List ℕ)) (p : Place) (r : List (List ℕ) × Place) → keys_at n before p ≡ Some r → size r.1 ≤ size p
unfolding keys_at
keys_size zero before p r e = subst (λ (y : List (List ℕ) × Place). size y.1 ≤ size p) (some_is ([], p) r e) (omega arith)
keys_size (suc n) before p r e =
    let k = next_key n before p r e in
    let i = item_size p k.behind k.key k.here in
    let m = keys_size n (Some k.key.piece) k.behind k.others k.more in
    subst (λ (y : List (List ℕ) × Place). size y.1 ≤ size p) k.whole (omega (arith, i, m))

-- how a container's bytes are shared out
pub record Shares (b : List ℕ) (p : Place) : Type 0 where
  pub whole : 4 + length p.words + length p.rest ≡ length b
  pub index : p.index ≡ 0
  pub at : p.at ≡ 0
  pub short : length p.rest < 2 ^ 28

-- what is opened shares out its bytes
pub opened_shares : (b : List ℕ) (f : Form) (c : ℕ) (p : Place) → opened b ≡ Some (f, c, p) → Shares b p
unfolding opened form_at
opened_shares b f c p e =
    let w = from_le_bytes w32 (take 4 b) in
    let body = drop 4 b in
    let a = bind_some (form_at b) (begun body) (f, c, p) e in
    let g = guard (leb 4 (length b)) (form_of w) a.0 a.1 in
    let n = 4 * items_in a.0.0 a.0.1 in
    let made : Form × ℕ × Place = (a.0.0, a.0.1, record { index = 0; at = 0; words = take n body; rest = drop n body }) in
    let h = guard (leb n (length body) && ltb (length body - n) (2 ^ 28)) (Some made) (f, c, p) a.2 in
    let fits = and_parts _ _ h.0 in
    let room = leb-true n (length body) fits.0 in
    let short = ltb-true (length body - n) (2 ^ 28) fits.1 in
    let long = leb-true 4 (length b) g.0 in
    subst (λ (y : Form × ℕ × Place). Shares b y.2) (some_is made (f, c, p) h.1) (record {
      whole = omega (arith, length-take-le n body room, length-drop n body, length-drop 4 b, long, room);
      index = refl;
      at = refl;
      short = omega (arith, length-drop n body, short);
    })

-- the items of a container are fewer bytes than it
pub opened_size : (b : List ℕ) (o : Form × ℕ × Place) → opened b ≡ Some o → size o.2 + 4 ≤ length b
opened_size b o e = let s = opened_shares b o.0 o.1 o.2 e in omega (arith, s.whole)
