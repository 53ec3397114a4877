-- How many bytes of a list pass a test, from what its parts have.
use Rattle.std.proofs.Common.{◌≡◌, ℕ, ◌+◌, ◌-◌, ◌*◌, ◌≤◌, List, ◌++◌, Bool, length, take, drop, sym, ap, ◌∙◌, arith, count_by}
use Rattle.std.specs.Simd.Lanes.{chunk}
use Rattle.std.proofs.lemmas.Simd.{chunk-drop}
use Rattle.std.proofs.lemmas.List.{drop-drop, take_all, length-drop}
use Rattle.std.proofs.lemmas.List.Sums.{sum_by-append, sum_by-take-drop, sum_by-take-le, count_by-le-length}
use Rattle.std.proofs.Math.Seq.{take-add}
use Rattle.bytecount.specs.Tallies.{mark}

-- ---- parts of a list

-- what a loop over pieces of n bytes has read after one more
pub chunk-next : (i n k : ℕ) (bytes : List ℕ)
    → chunk i (n * (k + 1)) bytes ≡ chunk i (n * k) bytes ++ chunk (i + n * k) n bytes
chunk-next i n k bytes =
    let more : n * (k + 1) ≡ n * k + n = grind arith in
    ap (λ m. chunk i m bytes) more
    ∙ take-add (n * k) n (drop i bytes)
    ∙ ap (λ rest. chunk i (n * k) bytes ++ take n rest) (drop-drop (n * k) i bytes)

-- a piece that reaches the end is all that is left
pub chunk-whole : (i n : ℕ) (bytes : List ℕ) → length bytes ≤ i + n → chunk i n bytes ≡ drop i bytes
chunk-whole i n bytes le = take_all n (drop i bytes) (omega (arith, length-drop i bytes))

-- a piece and the last bytes behind it are all that is left
pub chunk-rest : (i n size : ℕ) (bytes : List ℕ) → i + n + size ≡ length bytes
    → chunk i n bytes ++ drop (length bytes - size) bytes ≡ drop i bytes
chunk-rest i n size bytes e =
    ap (λ k. chunk i n bytes ++ drop k bytes) (omega arith) ∙ sym (chunk-drop i n bytes)

-- the last bytes of the last piece are the last bytes of the list
pub drop-last_chunk : (n size : ℕ) (bytes : List ℕ) → n ≤ length bytes → size ≤ n
    → drop (n - size) (chunk (length bytes - n) n bytes) ≡ drop (length bytes - size) bytes
drop-last_chunk n size bytes le small =
    ap (drop (n - size)) (chunk-whole (length bytes - n) n bytes (omega arith))
    ∙ drop-drop (n - size) (length bytes - n) bytes
    ∙ ap (λ k. drop k bytes) (omega arith)

-- ---- counts of parts
module _ (p : ℕ → Bool) where
  -- what a loop over pieces has counted after one more
  pub count-more : (i n : ℕ) (bytes : List ℕ) → count_by p (take i bytes) + count_by p (chunk i n bytes) ≡ count_by p (take (i + n) bytes)
  count-more i n bytes =
      sym (sum_by-append (mark p) (take i bytes) (chunk i n bytes)) ∙ ap (count_by p) (sym (take-add i n bytes))

  -- it is no more than all bytes
  pub count-more-le : (i n : ℕ) (bytes : List ℕ) → count_by p (take i bytes) + count_by p (chunk i n bytes) ≤ length bytes
  count-more-le i n bytes =
      omega (arith, count-more i n bytes, sum_by-take-le (mark p) bytes (i + n), count_by-le-length p bytes)

  pub count-split : (i : ℕ) (bytes : List ℕ) → count_by p (take i bytes) + count_by p (drop i bytes) ≡ count_by p bytes
  count-split i bytes = sum_by-take-drop (mark p) bytes i

  pub count-le : (bytes : List ℕ) → count_by p bytes ≤ length bytes
  count-le bytes = count_by-le-length p bytes
