use Rattle.std.proofs.Common.{◌≡◌, ℕ, List, ◌+◌, get_or, sym, subst, ◌∙◌}
use Rattle.std.specs.Simd.Lanes.{sum_l}
use Rattle.bytecount.proofs.WordTallyLaws.{word-bytes, sum-eight}
use Rattle.bytecount.proofs.integer_simd.byte_sum.Goals as goal

pub returns : goal.returns
returns c bytes is =
    let spelt = c.to_le_bytes.ensures ∙ word-bytes bytes c.args.word is in
    let at = λ (bs : List ℕ) (i : ℕ). get_or bs i 0 in
    subst (λ bs. at bs 0 + at bs 1 + at bs 2 + at bs 3 + at bs 4 + at bs 5 + at bs 6 + at bs 7 ≡ sum_l bytes) (sym spelt) (sum-eight bytes is.long)
