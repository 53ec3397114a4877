use Rattle.std.proofs.Common.{◌≡◌, ℕ, ◌%◌, ◌^◌, ◌<◌, ◌≤◌, leb, eqb, true≢false, sym, ap, subst, ◌∙◌, List, length, take, drop, ◌+◌, ◌-◌, map, replicate, get_or, Bool, true, false, not, cond, refl, arith, inl, inr}
use Rattle.std.specs.Int.{w8}
use Rattle.std.specs.Int.Count.{count_trailing_zeros}
use Rattle.std.specs.List.{prefix_len}
use Rattle.std.specs.Simd.Lanes.{mask_l, top, zip2}
use Rattle.std.proofs.lemmas.Bool.{cases_lt, eq-eqb, ne_eqb, le-leb}
use Rattle.std.proofs.lemmas.List.{get_or_past, get_or-take, get_or-drop, drop-drop, length-take, length-map}
use Rattle.std.proofs.lemmas.List.Sums.{prefix_len_passes, prefix_len-le-length}
use Rattle.std.proofs.lemmas.Simd.{mask_l-mod, tops_compared, zip2_splat_left, first_set_mask_l}
use Rattle.std.specs.Str.{IsUtf8, IsAscii, is_utf8}
use Rattle.std.proofs.lemmas.Str.{is_utf8-from_IsUtf8, IsUtf8-from_is_utf8, IsUtf8-from_ascii}

-- what is checked to be text is UTF-8
pub text_true : (bs : List ℕ) → IsUtf8 bs → is_utf8 bs ≡ true
text_true bs h = is_utf8-from_IsUtf8 bs h

-- what is not, is not
pub text_false : (bs : List ℕ) → (IsUtf8 bs → ⊥) → is_utf8 bs ≡ false
text_false bs never = go (is_utf8 bs) (λ e. never (IsUtf8-from_is_utf8 bs e))
  where
    go : (b : Bool) → (b ≡ true → ⊥) → b ≡ false
    go true h = absurd (h refl)
    go false h = refl

-- and needs no check again
pub text_proved : (bs : List ℕ) → is_utf8 bs ≡ true → IsUtf8 bs
text_proved bs e = IsUtf8-from_is_utf8 bs e

-- what is ASCII is text
pub ascii_text : (bs : List ℕ) → IsAscii bs → is_utf8 bs ≡ true
ascii_text bs h = is_utf8-from_IsUtf8 bs (IsUtf8-from_ascii bs h)

-- what is left of bytes, of which those in front are ASCII
pub record AsciiSoFar (bytes rest : List ℕ) : Type 0 where
  pub within : length rest ≤ length bytes
  pub left : rest ≡ drop (length bytes - length rest) bytes
  pub low : (i : ℕ) → i < length bytes - length rest → get_or bytes i 0 < 128

-- so many in front of a list are ASCII, where a block of it tells
low_block : (xs block : List ℕ) (n m : ℕ) → block ≡ take m xs → m ≤ n → IsAscii (take n block) → (j : ℕ) → j < m → get_or xs j 0 < 128
low_block xs block n m is le low j lt =
    subst (λ (b : ℕ). b < 128)
    (get_or-take n block j 0 (omega arith) ∙ ap (λ (ys : List ℕ). get_or ys j 0) is ∙ get_or-take m xs j 0 lt)
    (low j)

module _ {bytes rest : List ℕ} (so_far : AsciiSoFar bytes rest) where
  k : ℕ
  k = length bytes - length rest

  -- 32 bytes more are ASCII
  pub ascii_more : (block behind : List ℕ) (n : ℕ) → block ≡ take 32 rest → behind ≡ drop 32 rest → length behind + 32 ≡ length rest → 32 ≤ n
      → IsAscii (take n block) → AsciiSoFar bytes behind
  unfolding k
  ascii_more block behind n is after long le low = record {
    within = omega (arith, so_far.within, long);
    left =
        after
        ∙ ap (drop 32) so_far.left
        ∙ drop-drop 32 k bytes
        ∙ ap (λ (j : ℕ). drop j bytes) (omega (arith, so_far.within, long));
    low = λ i lt. elim (cases_lt i k) [
      | inl front ↦ so_far.low i front
      | inr ge ↦
          let j : k + (i - k) ≡ i = omega (arith, ge) in
          subst (λ (b : ℕ). b < 128)
          (ap (λ (ys : List ℕ). get_or ys (i - k) 0) so_far.left ∙ get_or-drop k bytes (i - k) 0 ∙ ap (λ (m : ℕ). get_or bytes m 0) j)
          (low_block rest block n 32 is le low (i - k) (omega (arith, lt, ge, so_far.within, long)))
    ];
  }

  -- and the last 32 are
  pub ascii_ends : (last : List ℕ) (n : ℕ) → length rest < 32 → 32 ≤ length bytes → last ≡ drop (length bytes - 32) bytes → n ≡ 32
      → IsAscii (take n last) → IsAscii bytes
  unfolding k
  ascii_ends last n few long is all low i = elim (cases_lt i k) [
    | inl front ↦ so_far.low i front
    | inr ge ↦ elim (cases_lt i (length bytes)) [
      | inl lt ↦
          let m : ℕ = length bytes - 32 in
          let j : m + (i - m) ≡ i = omega (arith, ge, few, long, so_far.within) in
          subst (λ (b : ℕ). b < 128)
          (get_or-take n last (i - m) 0 (omega (arith, lt, all, long))
          ∙ ap (λ (ys : List ℕ). get_or ys (i - m) 0) is
          ∙ get_or-drop m bytes (i - m) 0
          ∙ ap (λ (h : ℕ). get_or bytes h 0) j)
          (low (i - m))
      | inr past ↦ rw (get_or_past bytes i 0 past) (omega arith)
    ]
  ]

-- bytes in front of the first that is 128 or more are ASCII
pub ascii_before : (bs : List ℕ) (n : ℕ) → n ≡ prefix_len (λ b. not (leb 128 b)) bs → IsAscii (take n bs)
ascii_before bs n e i = elim (cases_lt i n) [
  | inl lt ↦ rw (get_or-take n bs i 0 lt) (below (get_or bs i 0) (prefix_len_passes (λ b. not (leb 128 b)) bs i 0 (omega (arith, lt, e))))
  | inr ge ↦ rw (get_or_past (take n bs) i 0 (omega (arith, ge, length-take n bs))) (omega arith)
]
  where
    below : (b : ℕ) → not (leb 128 b) ≡ true → b < 128
    below b h = elim (cases_lt b 128) [
      | inl lt ↦ lt
      | inr ge ↦ absurd (true≢false (sym h ∙ ap not (le-leb 128 b ge)))
    ]

-- the bits of 32 lanes that are 128 or more
abbrev pub high_bits : List ℕ → ℕ
high_bits xs = mask_l (map (top 7) (zip2 (λ a b. cond (leb a b) 255 0) (replicate 32 128) xs)) % 2 ^ 64

high_bits_are : (xs : List ℕ) → length xs ≡ 32 → high_bits xs ≡ mask_l (map (leb 128) xs)
high_bits_are xs long =
    ap (λ (bs : List Bool). mask_l bs % 2 ^ 64) (tops_compared w8 leb (replicate 32 128) xs ∙ zip2_splat_left leb 128 32 xs long)
    ∙ mask_l-mod (map (leb 128) xs) 64 (omega (arith, long, length-map xs (leb 128)))

module _ (xs : List ℕ) (long : length xs ≡ 32) where
  low_lanes : cond (eqb (high_bits xs) 0) 32 (count_trailing_zeros 64 (high_bits xs)) ≡ prefix_len (λ b. not (leb 128 b)) xs
  low_lanes =
      ap (λ (m : ℕ). cond (eqb m 0) 32 (count_trailing_zeros 64 m)) (high_bits_are xs long)
      ∙ first_set_mask_l (leb 128) xs 32 long (omega arith)

  -- where no bit is set, all lanes are ASCII
  pub all_low : high_bits xs ≡ 0 → IsAscii (take 32 xs)
  all_low e = ascii_before xs 32 (ap (λ (b : Bool). cond b 32 (count_trailing_zeros 64 (high_bits xs))) (sym (eq-eqb (high_bits xs) 0 e)) ∙ low_lanes)

  -- where one is, the lanes before the lowest are
  pub some_high : (high_bits xs ≡ 0 → ⊥) → IsAscii (take (count_trailing_zeros 64 (high_bits xs)) xs)
  some_high h =
      ascii_before xs (count_trailing_zeros 64 (high_bits xs))
      (ap (λ (b : Bool). cond b 32 (count_trailing_zeros 64 (high_bits xs))) (sym (ne_eqb (high_bits xs) 0 h)) ∙ low_lanes)

  -- and they are 32 at most
  pub few_low : (high_bits xs ≡ 0 → ⊥) → count_trailing_zeros 64 (high_bits xs) ≤ 32
  few_low h =
      let e : count_trailing_zeros 64 (high_bits xs) ≡ prefix_len (λ b. not (leb 128 b)) xs =
      ap (λ (b : Bool). cond b 32 (count_trailing_zeros 64 (high_bits xs))) (sym (ne_eqb (high_bits xs) 0 h)) ∙ low_lanes in
      omega (arith, e, long, prefix_len-le-length (λ b. not (leb 128 b)) xs)

-- a piece lies in front of others, of which the first n of 32 are ASCII
pub in_front : (piece rest block : List ℕ) (n : ℕ) → piece ≡ take (length piece) rest → block ≡ take 32 rest → n ≤ 32 → IsAscii (take n block)
    → length piece ≤ n → IsAscii piece
in_front piece rest block n front is few low fits i = elim (cases_lt i (length piece)) [
  | inl lt ↦ subst (λ (b : ℕ). b < 128) (same lt) (low i)
  | inr ge ↦ rw (get_or_past piece i 0 ge) (omega arith)
]
  where
    same : i < length piece → get_or (take n block) i 0 ≡ get_or piece i 0
    same lt =
        get_or-take n block i 0 (omega (arith, lt, fits))
        ∙ ap (λ (bs : List ℕ). get_or bs i 0) is
        ∙ get_or-take 32 rest i 0 (omega (arith, lt, fits, few))
        ∙ sym (get_or-take (length piece) rest i 0 lt)
        ∙ ap (λ (bs : List ℕ). get_or bs i 0) (sym front)
