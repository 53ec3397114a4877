-- An item by the piece at its place.
use Rattle.std.proofs.Common.{◌≡◌, ℕ, ◌+◌, ◌-◌, ◌*◌, ◌/◌, ◌%◌, ◌^◌, ◌<◌, ◌≤◌, Bool, true, false, ◌&&◌, leb, ltb, eqb, List, length, take, drop, Option, Some, None, refl, sym, ap, ◌∙◌, arith, inl, inr}
use Rattle.std.specs.Prelude.{option_map, if◌then◌else◌}
use Rattle.std.specs.Int.{w32, from_le_bytes}
use Rattle.std.proofs.lemmas.Bool.{cases_lt, cases_eq, lt-leb, le-leb, lt-ltb, le-ltb, eq-eqb, ne_eqb}
use Rattle.jsonb_layout.specs.Layout.{Item}
use Rattle.jsonb_layout.specs.Options.{◌>>=◌, only_if}
use Rattle.jsonb_layout.specs.inner.Reading.{Place, length_of, item_with, item_at}
use Rattle.jsonb_layout.proofs.Tools.{some}
use Rattle.jsonb.specs.inner.Keys.{key_at}
use Rattle.jsonb.specs.inner.Pieces.{length_in, piece_with}

-- a length of at most n
abbrev fits : ℕ → Option ℕ → Option ℕ
fits n o = o >>= λ len. only_if (leb len n) (Some len)

-- what is made of a length that fits
made : {A : Type 0} (n : ℕ) (f : ℕ → A) (o : Option ℕ) → (o >>= λ len. only_if (leb len n) (Some (f len))) ≡ option_map f (fits n o)
made n f None = refl
made n f (Some len) = go (leb len n)
  where
    go : (b : Bool) → only_if b (Some (f len)) ≡ option_map f (only_if b (Some len))
    go true = refl
    go false = refl

-- a word without the bits of its kind
abbrev pub bare : ℕ → ℕ
bare w = w % 2 ^ 28 + w / 2 ^ 31 * 2 ^ 31

module _ (at n w : ℕ) (short : at + n < 2 ^ 28) (word : w < 2 ^ 32) where
  -- a word that gives a sum
  sum_same : fits n (only_if (leb (2 ^ 31) w && leb at (w % 2 ^ 28)) (Some (w % 2 ^ 28 - at)))
      ≡ fits n (only_if (leb (2 ^ 31 + at) (bare w)) (Some (bare w - (2 ^ 31 + at))))
  sum_same = elim (cases_lt w (2 ^ 31)) [
    | inl lt ↦ rw (lt-leb (2 ^ 31) w lt, lt-leb (2 ^ 31 + at) (bare w) (omega arith)) refl
    | inr ge ↦ elim (cases_lt (w % 2 ^ 28) at) [
      | inl lt ↦ rw (le-leb (2 ^ 31) w ge, lt-leb at (w % 2 ^ 28) lt, lt-leb (2 ^ 31 + at) (bare w) (omega arith)) refl
      | inr le ↦ rw (le-leb (2 ^ 31) w ge, le-leb at (w % 2 ^ 28) le, le-leb (2 ^ 31 + at) (bare w) (omega arith))
          (ap (λ (k : ℕ). fits n (Some k)) (omega arith))
    ]
  ]

  -- a word that gives a length
  length_same : fits n (only_if (ltb w (2 ^ 31)) (Some (w % 2 ^ 28))) ≡ fits n (Some (bare w))
  length_same = elim (cases_lt w (2 ^ 31)) [
    | inl lt ↦ rw (lt-ltb w (2 ^ 31) lt) (ap (λ (k : ℕ). fits n (Some k)) (omega arith))
    | inr ge ↦ rw (le-ltb w (2 ^ 31) ge, lt-leb (bare w) n (omega arith)) refl
  ]

  both_same : (index : ℕ) → fits n (length_of index at w) ≡ fits n (length_in index at (bare w))
  unfolding length_of length_in
  both_same index = go (eqb (index % 32) 0)
    where
      go : (b : Bool)
          → fits n
          (if b then only_if (leb (2 ^ 31) w && leb at (w % 2 ^ 28)) (Some (w % 2 ^ 28 - at)) else only_if (ltb w (2 ^ 31)) (Some (w % 2 ^ 28)))
          ≡ fits n (if b then only_if (leb (2 ^ 31 + at) (bare w)) (Some (bare w - (2 ^ 31 + at))) else Some (bare w))
      go true = sum_same
      go false = length_same

  -- the bits of a kind make each length too long
  too_long : (index : ℕ) → (w / 2 ^ 28 % 8 ≡ 0 → ⊥) → fits n (length_in index at w) ≡ None
  unfolding length_in
  too_long index kind = go (eqb (index % 32) 0)
    where
      long : 2 ^ 28 ≤ w
      long = elim (cases_lt w (2 ^ 28)) [
        | inl lt ↦ absurd (kind (omega arith))
        | inr ge ↦ ge
      ]

      above : 2 ^ 31 ≤ w → 2 ^ 31 + 2 ^ 28 ≤ w
      above high = elim (cases_lt w (2 ^ 31 + 2 ^ 28)) [
        | inl lt ↦ absurd (kind (omega arith))
        | inr ge ↦ ge
      ]

      go : (b : Bool) → fits n (if b then only_if (leb (2 ^ 31 + at) w) (Some (w - (2 ^ 31 + at))) else Some w) ≡ None
      go true = elim (cases_lt w (2 ^ 31 + at)) [
        | inl lt ↦ rw (lt-leb (2 ^ 31 + at) w lt) refl
        | inr ge ↦ rw (le-leb (2 ^ 31 + at) w ge, lt-leb (w - (2 ^ 31 + at)) n (omega (arith, above (omega arith)))) refl
      ]
      go false = rw (lt-leb w n (omega (arith, long))) refl

-- the piece, and the place behind it, by the length
abbrev piece_of : Place → ℕ → List ℕ × Place
piece_of p len = (take len p.rest, record { index = p.index + 1; at = p.at + len; words = drop 4 p.words; rest = drop len p.rest })

abbrev of_kind : ℕ → List ℕ × Place → Item × Place
of_kind k r = (record { kind = k; piece = r.0 }, r.1)

kind_last : (p : Place) (k : ℕ) (o : Option ℕ)
    → option_map (λ (len : ℕ). of_kind k (piece_of p len)) o ≡ option_map (of_kind k) (option_map (piece_of p) o)
kind_last p k None = refl
kind_last p k (Some len) = refl

module _ (p : Place) (w : ℕ) (short : p.at + length p.rest < 2 ^ 28) (word : w < 2 ^ 32) where
  -- an item is the piece that its word gives without the bits of its kind, and its kind
  item_by_piece : item_with w p ≡ option_map (of_kind (w / 2 ^ 28 % 8)) (piece_with (bare w) p)
  item_by_piece =
      let n = length p.rest in
      let k = w / 2 ^ 28 % 8 in
      made n (λ (len : ℕ). of_kind k (piece_of p len)) (length_of p.index p.at w)
      ∙ ap (option_map (λ (len : ℕ). of_kind k (piece_of p len))) (both_same p.at n w short word p.index)
      ∙ kind_last p k (fits n (length_in p.index p.at (bare w)))
      ∙ ap (option_map (of_kind k)) (sym (made n (piece_of p) (length_in p.index p.at (bare w))))

  -- without a piece there is no item
  pub item_none : None ≡ piece_with (bare w) p → None ≡ item_with w p
  item_none e = sym (item_by_piece ∙ ap (option_map (of_kind (w / 2 ^ 28 % 8))) (sym e))

  pub item_some : (piece : List ℕ) (q : Place) → some (piece, q) ≡ piece_with (bare w) p
      → Some (record { kind = w / 2 ^ 28 % 8; piece = piece }, q) ≡ item_with w p
  item_some piece q e = sym (item_by_piece ∙ ap (option_map (of_kind (w / 2 ^ 28 % 8))) (sym e))

  kind_first : (k : ℕ) (o : Option ℕ)
      → (option_map (λ (len : ℕ). of_kind k (piece_of p len)) o >>= λ x. only_if (eqb x.0.kind 0) (Some (x.0.piece, x.1)))
      ≡ (if eqb k 0 then option_map (piece_of p) o else None)
  kind_first k None = go (eqb k 0)
    where
      go : (b : Bool) → None ≡ (if b then option_map (piece_of p) None else None)
      go true = refl
      go false = refl
  kind_first k (Some len) = refl

  key_of_word : (item_with w p >>= λ x. only_if (eqb x.0.kind 0) (Some (x.0.piece, x.1))) ≡ piece_with w p
  key_of_word =
      let n = length p.rest in
      let k = w / 2 ^ 28 % 8 in
      let right = made n (piece_of p) (length_in p.index p.at w) in
      ap (λ (r : Option (Item × Place)). r >>= λ x. only_if (eqb x.0.kind 0) (Some (x.0.piece, x.1)))
      (made n (λ (len : ℕ). of_kind k (piece_of p len)) (length_of p.index p.at w))
      ∙ kind_first k (fits n (length_of p.index p.at w))
      ∙ elim (cases_eq k 0) [
        | inl e ↦
            let plain : bare w ≡ w = omega (arith, e) in
            rw (eq-eqb k 0 e)
            (ap (option_map (piece_of p)) (both_same p.at n w short word p.index ∙ ap (λ (v : ℕ). fits n (length_in p.index p.at v)) plain)
            ∙ sym right)
        | inr ne ↦ rw (ne_eqb k 0 ne) (sym (right ∙ ap (option_map (piece_of p)) (too_long p.at n w short word p.index ne)))
      ]

-- a key is the piece that its word gives
pub key_by_piece : (p : Place) → p.at + length p.rest < 2 ^ 28 → from_le_bytes w32 (take 4 p.words) < 2 ^ 32 → 4 ≤ length p.words
    → piece_with (from_le_bytes w32 (take 4 p.words)) p ≡ key_at p
unfolding item_at
key_by_piece p short word four = rw (le-leb 4 (length p.words) four) (sym (key_of_word p (from_le_bytes w32 (take 4 p.words)) short word))
