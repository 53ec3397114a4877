-- Words whose bytes add up to how many bytes pass a test.
use Rattle.std.proofs.Common.{◌≡◌, ℕ, zero, suc, ◌+◌, ◌-◌, ◌*◌, ◌/◌, ◌^◌, ◌<◌, ◌≤◌, List, [], ◌∷◌, ◌++◌, Bool, length, map, drop, replicate, get_or, refl, sym, ap, subst, ◌∙◌, arith, w64}
use Rattle.std.specs.List.{range_with_len}
use Rattle.std.specs.Int.{to_le_bytes, from_le_bytes}
use Rattle.std.specs.Simd.Lanes.{zip2, sum_l, number_l, pick_l, Each1}
use Rattle.std.proofs.lemmas.Simd.{Each1-weaker, pick_l_whole}
use Rattle.std.proofs.lemmas.Nat.{le_bytes_8}
use Rattle.bytecount.specs.Tallies.{mark, IsWord, WordTallies}
use Rattle.bytecount.proofs.TallyLaws.{Tallies-none, Tallies-both, Tallies-marks, Tallies-moved}
use Rattle.bytecount.proofs.BytewiseLaws.{add_words, word_lt, shift-bytes, append-zeros}

-- no byte was looked at
pub WordTallies-none : (p : ℕ → Bool) → WordTallies p 0 [] 0
WordTallies-none p = record { lanes = replicate 8 0; tallies = Tallies-none p 8; value = refl }

-- the marks of eight bytes
pub WordTallies-marks : (p : ℕ → Bool) (bytes : List ℕ) (word : ℕ) → length bytes ≡ 8 → word ≡ number_l 256 (map (mark p) bytes)
    → WordTallies p 1 bytes word
WordTallies-marks p bytes word long e = record { lanes = map (mark p) bytes; tallies = Tallies-marks p bytes long; value = e }

module _ {p : ℕ → Bool} {k m : ℕ} {bs cs : List ℕ} {v w : ℕ} where
  -- the lanes of two parts, added
  pub WordTallies-both : WordTallies p k bs v → WordTallies p m cs w → WordTallies p (k + m) (bs ++ cs) (v + w)
  WordTallies-both s t = record {
    lanes = zip2 (λ a b. a + b) s.lanes t.lanes;
    tallies = Tallies-both s.tallies t.tallies;
    value = ap (λ n. n + w) s.value ∙ ap (λ n. number_l 256 s.lanes + n) t.value
        ∙ sym (add_words s.lanes t.lanes (s.tallies.long ∙ sym t.tallies.long));
  }

module _ {p : ℕ → Bool} {k : ℕ} {bs : List ℕ} {word : ℕ} where
  -- where no lane passes 255, the lanes are the bytes of the word
  pub WordTallies-word : (t : WordTallies p k bs word) → k ≤ 255 → IsWord t.lanes word
  WordTallies-word t le = record {
    long = t.tallies.long;
    each = Each1-weaker (λ a. a ≤ k) (λ a. a < 256) (λ a h. omega arith) t.lanes t.tallies.each;
    value = t.value;
  }

  pub WordTallies-lt : WordTallies p k bs word → k ≤ 255 → word < 2 ^ 64
  WordTallies-lt t le =
      let is = WordTallies-word t le in
      let below : number_l 256 t.lanes + 1 ≤ 256 ^ 8 = subst (λ n. number_l 256 t.lanes + 1 ≤ 256 ^ n) is.long (word_lt t.lanes is.each) in
      omega (arith, below, is.value)

-- the marks of the last `size` of eight bytes: the others are shifted out
pub WordTallies-shifted : (p : ℕ → Bool) (size : ℕ) (bytes : List ℕ) (word : ℕ) → length bytes ≡ 8 → size ≤ 8
    → word ≡ number_l 256 (map (mark p) bytes) → WordTallies p 1 (drop (8 - size) bytes) (word / 2 ^ (64 - 8 * size))
WordTallies-shifted p size bytes word long le e =
    let m = 8 - size in
    let marks = map (mark p) bytes in
    let each = Each1-weaker (λ a. a ≤ 1) (λ a. a < 256) (λ a h. omega arith) marks (Tallies-marks p bytes long).each in
    let shift : 64 - 8 * size ≡ 8 * m = omega arith in
    record {
      lanes = drop m marks ++ replicate m 0;
      tallies = Tallies-moved p 8 m bytes long (omega arith);
      value =
          ap (λ n. n / 2 ^ (64 - 8 * size)) e ∙ ap (λ j. number_l 256 marks / 2 ^ j) shift
          ∙ shift-bytes m marks each ∙ sym (append-zeros m (drop m marks));
    }

-- ---- the sum of a word's bytes
byte_lt : (bytes : List ℕ) → Each1 (λ byte. byte < 256) bytes → (i : ℕ) → get_or bytes i 0 < 256
byte_lt [] each i = omega arith
byte_lt (b ∷ bytes) (lt, each) zero = lt
byte_lt (b ∷ bytes) (lt, each) (suc i) = byte_lt bytes each i

from_le_bytes-value : (bytes : List ℕ) → length bytes ≡ 8 → from_le_bytes w64 bytes ≡ number_l 256 bytes
from_le_bytes-value bytes long =
    let spelt : number_l 256 (pick_l 0 bytes (range_with_len 0 8)) ≡ from_le_bytes w64 bytes = omega arith in
    sym spelt ∙ ap (number_l 256) (pick_l_whole 0 bytes 8 long)

-- the word that eight bytes make
pub IsWord-from_le_bytes : (bytes : List ℕ) → length bytes ≡ 8 → Each1 (λ byte. byte < 256) bytes → IsWord bytes (from_le_bytes w64 bytes)
IsWord-from_le_bytes bytes long each = record { long = long; each = each; value = from_le_bytes-value bytes long }

-- its own bytes are those
pub word-bytes : (bytes : List ℕ) (word : ℕ) → IsWord bytes word → to_le_bytes w64 word ≡ bytes
word-bytes bytes word is =
    le_bytes_8 bytes word is.long (byte_lt bytes is.each) (is.value ∙ sym (from_le_bytes-value bytes is.long))

pub sum-eight : (bs : List ℕ) → length bs ≡ 8
    → get_or bs 0 0 + get_or bs 1 0 + get_or bs 2 0 + get_or bs 3 0 + get_or bs 4 0 + get_or bs 5 0 + get_or bs 6 0 + get_or bs 7 0 ≡ sum_l bs
sum-eight bs e =
    let added : get_or bs 0 0 + get_or bs 1 0 + get_or bs 2 0 + get_or bs 3 0 + get_or bs 4 0 + get_or bs 5 0 + get_or bs 6 0 + get_or bs 7 0
    ≡ sum_l (pick_l 0 bs (range_with_len 0 8)) = omega arith in
    added ∙ ap sum_l (pick_l_whole 0 bs 8 e)
