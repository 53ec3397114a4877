-- A text's code points have one byte each that begins them.
use Rattle.std.proofs.Common.{◌≡◌, ℕ, ◌+◌, ◌/◌, ◌%◌, ◌<◌, ◌≤◌, true, false, cond, List, [], ◌∷◌, length, count_by, arith, refl, subst}
use Rattle.std.specs.Str.{chars, IsUtf8}
use Rattle.std.proofs.lemmas.Bool.{ne_eqb, and_parts, cond_both, ltb-true}
use Rattle.std.proofs.lemmas.List.Sums.{sum_by-append}
use Rattle.std.proofs.lemmas.Str.{encodes-chars, scalars-chars}
use lib.Dec.{ltb}
use lib.Utf8.{scalar, scalars, encode, encodes, next, scalar_cases}
use mathlib.Core.Logic.{⊎_elim}
use Rattle.bytecount.specs.Bytes.{begins_char}

-- the byte of an ASCII code point begins it
low_begins : (b : ℕ) → b < 128 → begins_char b ≡ true
low_begins b h = rw (ne_eqb (b / 64) 2 (λ e. omega arith)) refl

-- so does a byte from c0 on
high_begins : (b : ℕ) → 192 ≤ b → begins_char b ≡ true
high_begins b h = rw (ne_eqb (b / 64) 2 (λ e. omega arith)) refl

-- a later byte of a code point does not
next_continues : (c : ℕ) → begins_char (next c) ≡ false
next_continues c =
    let two : (128 + c % 64) / 64 ≡ 2 = omega arith in
    rw two refl

-- the last code point is 10FFFF
one_below : (c : ℕ) → scalar c ≡ true → c < 1114112
one_below c s = ⊎_elim (λ h. omega arith) (λ h. h.1) (scalar_cases c s)

-- of a code point's bytes the first begins it, and the others continue it
encode_begins_once : (c : ℕ) → c < 1114112 → count_by begins_char (encode c) ≡ 1
unfolding encode
encode_begins_once c h =
    let once = λ (bytes : List ℕ). count_by begins_char bytes ≡ 1 in
    cond_both (ltb c 128) _ _ once
    (λ e. rw (low_begins c (ltb-true c 128 e)) refl)
    (λ _. cond_both (ltb c 2048) _ _ once
    (λ _. rw (high_begins (192 + c / 64) (omega arith), next_continues c) refl)
    (λ _. cond_both (ltb c 65536) _ _ once
    (λ _. rw (high_begins (224 + c / 4096) (omega arith), next_continues (c / 64), next_continues c) refl)
    (λ _. rw (high_begins (240 + c / 262144) (omega arith), next_continues (c / 4096), next_continues (c / 64), next_continues c) refl)))

-- of many code points in a row each has one byte that begins it
encodes_begin : (cs : List ℕ) → scalars cs ≡ true → count_by begins_char (encodes cs) ≡ length cs
encodes_begin [] s = refl
encodes_begin (c ∷ cs) s =
    let parts = and_parts (scalar c) (scalars cs) s in
    let one = encode_begins_once c (one_below c parts.0) in
    let rest = encodes_begin cs parts.1 in
    let joined = sum_by-append (λ b. cond (begins_char b) 1 0) (encode c) (encodes cs) in
    omega (arith, one, rest, joined)

-- a text has as many code points as bytes that begin one
pub text_begins : (bytes : List ℕ) → IsUtf8 bytes → count_by begins_char bytes ≡ length (chars bytes)
text_begins bytes u =
    subst (λ (b : List ℕ). count_by begins_char b ≡ length (chars bytes)) (encodes-chars bytes u)
    (encodes_begin (chars bytes) (scalars-chars bytes u))
