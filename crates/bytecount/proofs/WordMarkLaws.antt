-- How a word's bytes are marked: 1 where the byte passes a test, else 0.
use Rattle.std.proofs.Common.{◌≡◌, ◌≢◌, ℕ, zero, suc, ◌+◌, ◌*◌, ◌/◌, ◌%◌, ◌<◌, List, [], ◌∷◌, Bool, true, false, not, cond, eqb, max, map, bit_and, bit_or, bit_xor, refl, sym, ap, ◌∙◌, arith}
use Rattle.std.specs.Simd.Lanes.{number_l, Each1}
use Rattle.std.specs.Int.Bits.{xor_self, xor_add_and}
use Rattle.std.proofs.lemmas.Nat.{and_mask, and_le_r, and_le_l, xor_lt}
use Rattle.std.proofs.lemmas.Nat.Bits.{and_pow, bit_at_or}
use Rattle.std.proofs.lemmas.Bool.{eqb-true, eqb-false}
use Rattle.bytecount.specs.Bytes.{begins_char}
use Rattle.bytecount.specs.Tallies.{mark, IsWord}
use Rattle.bytecount.proofs.BytewiseLaws.{IsBytewise, itself, constant, and-bytewise, or-bytewise, xor-bytewise, add-bytewise}

-- ---- from the top bits of bytes to marks
scaled : (m : ℕ → ℕ) (bytes : List ℕ) → number_l 256 (map (λ d. 128 * m d) bytes) ≡ 128 * number_l 256 (map m bytes)
scaled m [] = refl
scaled m (d ∷ ds) = omega (arith, scaled m ds)

same_bytes : (f g : ℕ → ℕ) → ((d : ℕ) → d < 256 → f d ≡ g d) → (bytes : List ℕ) → Each1 (λ d. d < 256) bytes → map f bytes ≡ map g bytes
same_bytes f g e [] each = refl
same_bytes f g e (d ∷ ds) (lt, each) = λ i. e d lt i ∷ same_bytes f g e ds each i

halved : (n m : ℕ) → n ≡ 128 * m → n / 128 ≡ m
halved n m e = omega arith

-- where the top bit of each byte tells whether it is marked, and its other bits are 0, the shift by 7 gives the marks
shifted : (m : ℕ → ℕ) {f : ℕ → ℕ} {bytes : List ℕ} {word : ℕ} → ((d : ℕ) → d < 256 → f d ≡ 128 * m d) → IsBytewise f bytes word
    → word / 128 ≡ number_l 256 (map m bytes)
shifted m {f = f} {bytes = bytes} {word = word} e is =
    halved word (number_l 256 (map m bytes))
    (is.value ∙ ap (number_l 256) (same_bytes f (λ d. 128 * m d) e bytes is.each) ∙ scaled m bytes)

-- ---- single bits of a byte
top_bit : (a : ℕ) → bit_and a 128 ≡ a / 128 % 2 * 128
top_bit a = and_pow a 7

second_bit : (a : ℕ) → bit_and a 64 ≡ a / 64 % 2 * 64
second_bit a = and_pow a 6

or-top : (a b : ℕ) → bit_and (bit_or a b) 128 ≡ max (a / 128 % 2) (b / 128 % 2) * 128
or-top a b = top_bit (bit_or a b) ∙ ap (λ n. n * 128) (bit_at_or a b 7)

-- ---- a byte that is the needle
differs_some : (a : ℕ) → 0 < a → a < 256 → max ((a % 128 + 127) / 128 % 2) (a / 128 % 2) * 128 ≡ 128
differs_some a some lt = omega arith

differs_by : (x : Bool) (a : ℕ) → eqb a 0 ≡ x → a < 256 → max ((a % 128 + 127) / 128 % 2) (a / 128 % 2) * 128 ≡ cond x 0 128
differs_by true a e lt = omega (arith, eqb-true a 0 e)
differs_by false zero e lt = absurd (eqb-false 0 0 e refl)
differs_by false (suc a) e lt = differs_some (suc a) (omega arith) lt

-- a byte is not 0 where its low bits and 127 more reach the top bit, or its top bit is set
differs : (a : ℕ) → a < 256 → bit_and (bit_or (bit_and a 127 + 127) a) 128 ≡ cond (eqb a 0) 0 128
differs a lt =
    or-top (bit_and a 127 + 127) a
    ∙ ap (λ n. max ((n + 127) / 128 % 2) (a / 128 % 2) * 128) (and_mask a 7)
    ∙ differs_by (eqb a 0) a refl lt

xor_is_zero : (a b : ℕ) → bit_xor a b ≡ 0 → a ≡ b
xor_is_zero a b e = omega (arith, xor_add_and a b, and_le_l a b, and_le_r a b)

same_test : (x y : Bool) → (x ≡ true → y ≡ true) → (y ≡ true → x ≡ true) → x ≡ y
same_test true true f g = refl
same_test false false f g = refl
same_test true false f g = sym (f refl)
same_test false true f g = g refl

by_eqb : (x : Bool) (a b : ℕ) → eqb a b ≡ x → a ≡ b → x ≡ true
by_eqb true a b e same = refl
by_eqb false a b e same = absurd (eqb-false a b e same)

eqb_same : (a b : ℕ) → a ≡ b → eqb a b ≡ true
eqb_same a b e = by_eqb (eqb a b) a b refl e

xor_test : (a b : ℕ) → eqb (bit_xor a b) 0 ≡ eqb a b
xor_test a b = same_test (eqb (bit_xor a b) 0) (eqb a b)
    (λ h. eqb_same a b (xor_is_zero a b (eqb-true (bit_xor a b) 0 h)))
    (λ h. eqb_same (bit_xor a b) 0 (ap (λ n. bit_xor n b) (eqb-true a b h) ∙ xor_self b))

turn : (x : Bool) → bit_xor (cond x 0 128) 128 ≡ 128 * cond x 1 0
turn true = refl
turn false = refl

equal_byte : (n : ℕ) → n < 256 → (d : ℕ) → d < 256
    → bit_xor (bit_and (bit_or (bit_and (bit_xor d n) 127 + 127) (bit_xor d n)) 128) 128 ≡ 128 * mark (λ b. eqb b n) d
equal_byte n ln d ld =
    ap (λ m. bit_xor m 128) (differs (bit_xor d n) (xor_lt 8 d n ld ln) ∙ ap (λ x. cond x 0 128) (xor_test d n)) ∙ turn (eqb d n)

-- the bytes that equal n, from the word and n eight times
pub equal_word : (n : ℕ) (bytes : List ℕ) (word : ℕ) → n < 256 → IsWord bytes word
    → (let apart = bit_xor word (n * 72340172838076673) in
    let sums = bit_and apart 9187201950435737471 + 9187201950435737471 in
    bit_xor (bit_and (bit_or sums apart) 9259542123273814144) 9259542123273814144 / 128)
    ≡ number_l 256 (map (mark (λ b. eqb b n)) bytes)
equal_word n bytes word lt is =
    let lows = constant 127 (omega arith) is in
    let tops = constant 128 (omega arith) is in
    let apart = xor-bytewise (itself is) (constant n lt is) in
    let below : (d : ℕ) → d < 256 → bit_and (bit_xor d n) 127 + 127 < 256 = λ d h. omega (arith, and_le_r (bit_xor d n) 127) in
    let sums = add-bytewise below (and-bytewise apart lows) lows in
    shifted (mark (λ b. eqb b n)) (equal_byte n lt) (xor-bytewise (and-bytewise (or-bytewise sums apart) tops) tops)

-- ---- a byte that begins a code point
turned_byte : (d : ℕ) → d < 256 → bit_xor d 128 + 256 * (d / 128 % 2) ≡ d + 128
turned_byte d lt = omega (arith, xor_add_and d 128, top_bit d)

begins_two : (q d t : ℕ) → q ≡ d / 64 → q ≢ 2 → d < 256 → t + 256 * (d / 128 % 2) ≡ d + 128
    → max ((t / 64 % 2 * 64 + t / 64 % 2 * 64) / 128 % 2) (t / 128 % 2) * 128 ≡ 128
begins_two q d t e apart lt h = omega arith

begins_by : (x : Bool) (d t : ℕ) → eqb (d / 64) 2 ≡ x → d < 256 → t + 256 * (d / 128 % 2) ≡ d + 128
    → max ((t / 64 % 2 * 64 + t / 64 % 2 * 64) / 128 % 2) (t / 128 % 2) * 128 ≡ 128 * cond (not x) 1 0
begins_by true d t e lt h = omega (arith, eqb-true (d / 64) 2 e)
begins_by false d t e lt h = begins_two (d / 64) d t refl (eqb-false (d / 64) 2 e) lt h

begins_byte : (d : ℕ) → d < 256
    → bit_and (bit_or (bit_and (bit_xor d 128) 64 + bit_and (bit_xor d 128) 64) (bit_xor d 128)) 128 ≡ 128 * mark begins_char d
begins_byte d lt =
    let t = bit_xor d 128 in
    or-top (bit_and t 64 + bit_and t 64) t
    ∙ ap (λ n. max ((n + n) / 128 % 2) (t / 128 % 2) * 128) (second_bit t)
    ∙ begins_by (eqb (d / 64) 2) d t refl lt (turned_byte d lt)

-- the bytes that begin a code point, from the word with its top bits turned
pub begins_word : (bytes : List ℕ) (word : ℕ) → IsWord bytes word
    → (let turned = bit_xor word 9259542123273814144 in
    let seconds = bit_and turned 4629771061636907072 in
    bit_and (bit_or (seconds + seconds) turned) 9259542123273814144 / 128)
    ≡ number_l 256 (map (mark begins_char) bytes)
begins_word bytes word is =
    let tops = constant 128 (omega arith) is in
    let turned = xor-bytewise (itself is) tops in
    let seconds = and-bytewise turned (constant 64 (omega arith) is) in
    let below : (d : ℕ) → d < 256 → bit_and (bit_xor d 128) 64 + bit_and (bit_xor d 128) 64 < 256 =
    λ d h. omega (arith, and_le_r (bit_xor d 128) 64) in
    shifted (mark begins_char) begins_byte (and-bytewise (or-bytewise (add-bytewise below seconds seconds) turned) tops)
