-- What the next item is, and where the reading stands behind it.
use Rattle.std.proofs.Common.{◌≡◌, ℕ, ◌+◌, ◌/◌, ◌%◌, ◌^◌, leb, length, take, drop, Some, refl, sym, ap, ◌∙◌}
use Rattle.std.specs.Int.{w32, from_le_bytes}
use Rattle.std.proofs.lemmas.Bool.{leb-true}
use Rattle.std.proofs.lemmas.List.{length-take-le}
use Rattle.jsonb_layout.specs.Layout.{Item}
use Rattle.jsonb_layout.specs.Options.{only_if}
use Rattle.jsonb_layout.specs.inner.Reading.{Place, length_of, item_with, item_at}
use Rattle.jsonb_layout.proofs.Tools.{bind_some, guard, some_is}
use Rattle.jsonb_layout.proofs.Runs.{place_same}

-- the place behind an item
abbrev pub beyond : Place → Item → Place
beyond p x = record { index = p.index + 1; at = p.at + length x.piece; words = drop 4 p.words; rest = drop (length x.piece) p.rest }

-- behind an item the reading stands behind its word and its piece
pub beyond_is : (p q : Place) (x : Item) → item_at p ≡ Some (x, q) → q ≡ beyond p x
unfolding item_at
beyond_is p q x e =
    let w = from_le_bytes w32 (take 4 p.words) in
    let g = guard (leb 4 (length p.words)) (item_with w p) (x, q) e in
    let b = bind_some (length_of p.index p.at w) (λ n. only_if (leb n (length p.rest)) (Some (found w n))) (x, q) g.1 in
    let h = guard (leb b.0 (length p.rest)) (Some (found w b.0)) (x, q) b.2 in
    let n : length x.piece ≡ b.0 =
    ap (λ (y : Item × Place). length y.0.piece) (sym (some_is (found w b.0) (x, q) h.1))
    ∙ length-take-le b.0 p.rest (leb-true b.0 (length p.rest) h.0) in
    ap (λ (y : Item × Place). y.1) (sym (some_is (found w b.0) (x, q) h.1))
    ∙ place_same refl (ap (λ (k : ℕ). p.at + k) (sym n)) refl (ap (λ (k : ℕ). drop k p.rest) (sym n))
  where
    found : ℕ → ℕ → Item × Place
    found w n = (
      record { kind = w / 2 ^ 28 % 8; piece = take n p.rest },
      record { index = p.index + 1; at = p.at + n; words = drop 4 p.words; rest = drop n p.rest },
    )

-- the piece of an item is the front of what is left of the payload
pub piece_is : (p q : Place) (x : Item) → item_at p ≡ Some (x, q) → x.piece ≡ take (length x.piece) p.rest
unfolding item_at
piece_is p q x e =
    let w = from_le_bytes w32 (take 4 p.words) in
    let g = guard (leb 4 (length p.words)) (item_with w p) (x, q) e in
    let b = bind_some (length_of p.index p.at w) (λ n. only_if (leb n (length p.rest)) (Some (found w n))) (x, q) g.1 in
    let h = guard (leb b.0 (length p.rest)) (Some (found w b.0)) (x, q) b.2 in
    let is : x.piece ≡ take b.0 p.rest = ap (λ (y : Item × Place). y.0.piece) (sym (some_is (found w b.0) (x, q) h.1)) in
    let n : length x.piece ≡ b.0 = ap length is ∙ length-take-le b.0 p.rest (leb-true b.0 (length p.rest) h.0) in
    is ∙ ap (λ (k : ℕ). take k p.rest) (sym n)
  where
    found : ℕ → ℕ → Item × Place
    found w n = (
      record { kind = w / 2 ^ 28 % 8; piece = take n p.rest },
      record { index = p.index + 1; at = p.at + n; words = drop 4 p.words; rest = drop n p.rest },
    )
