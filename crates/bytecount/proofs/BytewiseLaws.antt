-- Words of eight bytes, and what an operation on words does to each byte.
use Rattle.std.proofs.Common.{◌≡◌, ℕ, zero, suc, ◌+◌, ◌*◌, ◌/◌, ◌^◌, ◌<◌, ◌≤◌, List, [], ◌∷◌, ◌++◌, length, map, drop, replicate, bit_and, bit_or, bit_xor, refl, sym, ap, ◌∙◌, arith, pow-suc, div-one}
use Rattle.std.specs.Simd.Lanes.{zip2, number_l, Each1}
use Rattle.std.proofs.lemmas.Simd.{splat_is_map}
use Rattle.std.proofs.lemmas.List.{map-id}
use Rattle.std.proofs.lemmas.Nat.{shr-shr, and_block, or_block, xor_block, and_le_r, or_lt, xor_lt}
use Rattle.std.proofs.Math.Nat.{zero-div}
use Rattle.bytecount.specs.Tallies.{IsWord}

-- the word whose bytes are f of these bytes
pub record IsBytewise (f : ℕ → ℕ) (bytes : List ℕ) (word : ℕ) : Type 0 where
  pub each : Each1 (λ byte. byte < 256) bytes
  pub below : (byte : ℕ) → byte < 256 → f byte < 256
  pub value : word ≡ number_l 256 (map f bytes)

-- the word itself
pub itself : {bytes : List ℕ} {word : ℕ} → IsWord bytes word → IsBytewise (λ byte. byte) bytes word
itself {bytes = bytes} is = record {
  each = is.each;
  below = λ byte lt. lt;
  value = is.value ∙ ap (number_l 256) (sym (map-id bytes));
}

eight : (c : ℕ) → number_l 256 (replicate 8 c) ≡ c * 72340172838076673
eight c = omega arith

-- one byte, eight times
pub constant : {bytes : List ℕ} {word : ℕ} (c : ℕ) → c < 256 → IsWord bytes word → IsBytewise (λ _. c) bytes (c * 72340172838076673)
constant {bytes = bytes} c lt is = record {
  each = is.each;
  below = λ byte _. lt;
  value = sym (ap (number_l 256) (sym (splat_is_map bytes 8 c is.long)) ∙ eight c);
}

-- ---- operations on bits
module _ (op : ℕ → ℕ → ℕ) (none : op 0 0 ≡ 0) (below : (a b : ℕ) → a < 256 → b < 256 → op a b < 256)
    (block : (k a b r s : ℕ) → r < 2 ^ k → s < 2 ^ k → op (a * 2 ^ k + r) (b * 2 ^ k + s) ≡ op a b * 2 ^ k + op r s) where
  first_byte : (x y X Y : ℕ) → x < 256 → y < 256 → op (x + 256 * X) (y + 256 * Y) ≡ op x y + 256 * op X Y
  first_byte x y X Y hx hy =
      let ex : x + 256 * X ≡ X * 2 ^ 8 + x = omega arith in
      let ey : y + 256 * Y ≡ Y * 2 ^ 8 + y = omega arith in
      let all : op X Y * 2 ^ 8 + op x y ≡ op x y + 256 * op X Y = omega arith in
      ap (λ n. op n (y + 256 * Y)) ex ∙ ap (op (X * 2 ^ 8 + x)) ey ∙ block 8 X Y x y hx hy ∙ all

  every_byte : (f g : ℕ → ℕ) → ((d : ℕ) → d < 256 → f d < 256) → ((d : ℕ) → d < 256 → g d < 256) → (bytes : List ℕ) → Each1 (λ d. d < 256) bytes
      → op (number_l 256 (map f bytes)) (number_l 256 (map g bytes)) ≡ number_l 256 (map (λ d. op (f d) (g d)) bytes)
  every_byte f g bf bg [] each = none
  every_byte f g bf bg (d ∷ ds) (lt, each) =
      first_byte (f d) (g d) (number_l 256 (map f ds)) (number_l 256 (map g ds)) (bf d lt) (bg d lt)
      ∙ ap (λ n. op (f d) (g d) + 256 * n) (every_byte f g bf bg ds each)

  bytewise : {f g : ℕ → ℕ} {bytes : List ℕ} {a b : ℕ} → IsBytewise f bytes a → IsBytewise g bytes b → IsBytewise (λ d. op (f d) (g d)) bytes (op a b)
  bytewise {f = f} {g = g} {bytes = bytes} {a = a} {b = b} l r = record {
    each = l.each;
    below = λ d lt. below (f d) (g d) (l.below d lt) (r.below d lt);
    value = ap (λ n. op n b) l.value ∙ ap (op (number_l 256 (map f bytes))) r.value ∙ every_byte f g l.below r.below bytes l.each;
  }

module _ {f g : ℕ → ℕ} {bytes : List ℕ} {a b : ℕ} where
  pub and-bytewise : IsBytewise f bytes a → IsBytewise g bytes b → IsBytewise (λ d. bit_and (f d) (g d)) bytes (bit_and a b)
  and-bytewise l r = bytewise bit_and refl (λ x y hx hy. omega (arith, and_le_r x y)) and_block l r

  pub or-bytewise : IsBytewise f bytes a → IsBytewise g bytes b → IsBytewise (λ d. bit_or (f d) (g d)) bytes (bit_or a b)
  or-bytewise l r = bytewise bit_or refl (λ x y hx hy. or_lt 8 x y hx hy) or_block l r

  pub xor-bytewise : IsBytewise f bytes a → IsBytewise g bytes b → IsBytewise (λ d. bit_xor (f d) (g d)) bytes (bit_xor a b)
  xor-bytewise l r = bytewise bit_xor refl (λ x y hx hy. xor_lt 8 x y hx hy) xor_block l r

-- ---- sums
add_bytes : (f g : ℕ → ℕ) (bytes : List ℕ) → number_l 256 (map f bytes) + number_l 256 (map g bytes) ≡ number_l 256 (map (λ d. f d + g d) bytes)
add_bytes f g [] = refl
add_bytes f g (d ∷ ds) = omega (arith, add_bytes f g ds)

-- a sum in which no byte passes 255
pub add-bytewise : {f g : ℕ → ℕ} {bytes : List ℕ} {a b : ℕ} → ((d : ℕ) → d < 256 → f d + g d < 256)
    → IsBytewise f bytes a → IsBytewise g bytes b → IsBytewise (λ d. f d + g d) bytes (a + b)
add-bytewise {f = f} {g = g} {bytes = bytes} {a = a} {b = b} below l r = record {
  each = l.each;
  below = below;
  value = ap (λ n. n + b) l.value ∙ ap (λ n. number_l 256 (map f bytes) + n) r.value ∙ add_bytes f g bytes;
}

-- two words added, as lists of their bytes
pub add_words : (vs ws : List ℕ) → length vs ≡ length ws → number_l 256 (zip2 (λ a b. a + b) vs ws) ≡ number_l 256 vs + number_l 256 ws
add_words [] [] e = refl
add_words [] (w ∷ ws) e = absurd (omega arith)
add_words (v ∷ vs) [] e = absurd (omega arith)
add_words (v ∷ vs) (w ∷ ws) e = omega (arith, add_words vs ws (omega arith))

-- ---- size and shifts
pub word_lt : (bytes : List ℕ) → Each1 (λ byte. byte < 256) bytes → number_l 256 bytes + 1 ≤ 256 ^ length bytes
word_lt [] each = omega arith
word_lt (b ∷ bytes) (lt, each) = omega (arith, word_lt bytes each, pow-suc 256 (length bytes))

-- a shift by whole bytes drops the lowest
pub shift-bytes : (m : ℕ) (bytes : List ℕ) → Each1 (λ byte. byte < 256) bytes → number_l 256 bytes / 2 ^ (8 * m) ≡ number_l 256 (drop m bytes)
shift-bytes zero bytes each = div-one (number_l 256 bytes)
shift-bytes (suc m) [] each = zero-div (2 ^ (8 * suc m))
shift-bytes (suc m) (x ∷ xs) (lt, each) =
    let n = x + 256 * number_l 256 xs in
    let k : 8 * suc m ≡ 8 + 8 * m = omega arith in
    let rest : n / 2 ^ 8 ≡ number_l 256 xs = omega arith in
    ap (λ j. n / 2 ^ j) k ∙ sym (shr-shr n 8 (8 * m)) ∙ ap (λ q. q / 2 ^ (8 * m)) rest ∙ shift-bytes m xs each

-- zeros above a word
pub append-zeros : (m : ℕ) (bytes : List ℕ) → number_l 256 (bytes ++ replicate m 0) ≡ number_l 256 bytes
append-zeros zero [] = refl
append-zeros (suc m) [] = omega (arith, append-zeros m [])
append-zeros m (x ∷ xs) = omega (arith, append-zeros m xs)
