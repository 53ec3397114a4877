-- An entry word says the kind and the length of its item, and nothing else.
use Rattle.std.proofs.Common.{◌≡◌, ℕ, ◌+◌, ◌-◌, ◌*◌, ◌/◌, ◌%◌, ◌^◌, ◌<◌, Bool, true, false, cond, eqb, ltb, leb, List, length, Option, Some, refl, ap, arith}
use Rattle.std.specs.Prelude.{◌&&◌}
use Rattle.std.proofs.lemmas.Bool.{lt-ltb, le-leb, ltb-true, leb-true, and_parts}
use Rattle.jsonb_layout.specs.Layout.{Item, entry}
use Rattle.jsonb_layout.specs.Options.{only_if}
use Rattle.jsonb_layout.specs.inner.Reading.{length_of}
use Rattle.jsonb_layout.proofs.Tools.{guard, some_is}

-- the word, and the length that it gives, by whether it stores a sum
abbrev word_by : Bool → ℕ → ℕ → ℕ → ℕ
word_by b k upto n = cond b (2 ^ 31 + k * 2 ^ 28 + upto) (k * 2 ^ 28 + n)

abbrev pub length_by : Bool → ℕ → ℕ → Option ℕ
length_by b at w = cond b (only_if (leb (2 ^ 31) w && leb at (w % 2 ^ 28)) (Some (w % 2 ^ 28 - at))) (only_if (ltb w (2 ^ 31)) (Some (w % 2 ^ 28)))

pub record Says (b : Bool) (k at n w : ℕ) : Type 0 where
  pub fits : w < 2 ^ 32
  pub kind : w / 2 ^ 28 % 8 ≡ k
  pub len : length_by b at w ≡ Some n

says : (b : Bool) (k at n : ℕ) → k < 8 → at + n < 2 ^ 28 → Says b k at n (word_by b k (at + n) n)
says true k at n h l =
    let m : (2 ^ 31 + k * 2 ^ 28 + (at + n)) % 2 ^ 28 ≡ at + n = omega arith in
    record {
      fits = omega arith;
      kind = omega arith;
      len = rw (le-leb (2 ^ 31) (2 ^ 31 + k * 2 ^ 28 + (at + n)) (omega arith), m, le-leb at (at + n) (omega arith)) (ap Some (omega arith));
    }
says false k at n h l =
    let m : (k * 2 ^ 28 + n) % 2 ^ 28 ≡ n = omega arith in
    record { fits = omega arith; kind = omega arith; len = rw (lt-ltb (k * 2 ^ 28 + n) (2 ^ 31) (omega arith), m) refl }

said : (b : Bool) (at n w : ℕ) → w < 2 ^ 32 → length_by b at w ≡ Some n → w ≡ word_by b (w / 2 ^ 28 % 8) (at + n) n
said true at n w h e =
    let g = guard (leb (2 ^ 31) w && leb at (w % 2 ^ 28)) (Some (w % 2 ^ 28 - at)) n e in
    let t = and_parts (leb (2 ^ 31) w) (leb at (w % 2 ^ 28)) g.0 in
    let high = leb-true (2 ^ 31) w t.0 in
    let low = leb-true at (w % 2 ^ 28) t.1 in
    let n-is : w % 2 ^ 28 - at ≡ n = some_is _ _ g.1 in
    omega arith
said false at n w h e =
    let g = guard (ltb w (2 ^ 31)) (Some (w % 2 ^ 28)) n e in
    let low = ltb-true w (2 ^ 31) g.0 in
    let n-is : w % 2 ^ 28 ≡ n = some_is _ _ g.1 in
    omega arith

-- an entry word says the kind and the length of its item
pub entry_says : (i at : ℕ) (x : Item) → x.kind < 8 → at + length x.piece < 2 ^ 28
    → Says (eqb (i % 32) 0) x.kind at (length x.piece) (entry i (at + length x.piece) x)
entry_says i at x h l = says (eqb (i % 32) 0) x.kind at (length x.piece) h l

-- what says them is the entry word
pub entry_said : (i at n w : ℕ) (piece : List ℕ) → w < 2 ^ 32 → length_of i at w ≡ Some n → length piece ≡ n
    → w ≡ entry i (at + n) (record { kind = w / 2 ^ 28 % 8; piece = piece })
unfolding length_of
entry_said i at n w piece h e len = rw len (said (eqb (i % 32) 0) at n w h e)

-- the length that an entry word says
pub says_length : (i at n w : ℕ) → length_by (eqb (i % 32) 0) at w ≡ Some n → length_of i at w ≡ Some n
unfolding length_of
says_length i at n w e = e
