use Rattle.std.proofs.Common.{◌≡◌, ℕ, ◌+◌, sym, subst, arith, Fits, w64}
use Rattle.std.specs.Simd.Lanes.{Steps, fold_l, sum_l}
use Rattle.std.proofs.lemmas.List.{map-id}
use Rattle.std.proofs.lemmas.Simd.{sum_fits, fold-sum, sum_bound, bytes_below}
use Rattle.bytecount.proofs.simd.generic.sum.Goals as goal

pub overflow_add-result : goal.overflow_add-result
overflow_add-result c =
    let lanes = c.args.counts in
    subst (λ ys. Steps (λ (s x : ℕ). Fits w64 (s + x)) (λ s x. s + x) 0 ys) (sym (map-id lanes))
    (sum_fits w64 0 lanes (omega (arith, sum_bound 255 lanes (bytes_below lanes c.fits-counts.1), c.requires)))

pub returns : goal.returns
returns c =
    let lanes = c.args.counts in
    subst (λ ys. fold_l (λ s x. s + x) 0 ys ≡ sum_l lanes) (sym (map-id lanes)) (omega (arith, fold-sum 0 lanes))
