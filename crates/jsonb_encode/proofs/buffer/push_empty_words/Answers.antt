use Rattle.std.proofs.Common.{◌≡◌, ◌*◌, ◌+◌, ◌++◌, List, ℕ, ap, ◌∙◌, replicate, append_assoc, arith}
use Rattle.std.proofs.lemmas.List.{replicate-append-replicate}
use Rattle.jsonb_encode.proofs.buffer.push_empty_words.Goals as goal

pub loop-preserved : goal.loop-preserved
loop-preserved c =
    let k = c.loop.counter in
    let n : 4 * k + 4 ≡ 4 * (k + 1) = omega arith in
    c.in_ok-push_word.ensures.ok
    ∙ ap (λ (xs : List ℕ). xs ++ replicate 4 0) c.loop.invariant
    ∙ append_assoc c.args.bytes.now.items (replicate (4 * k) 0) (replicate 4 0)
    ∙ ap (λ (xs : List ℕ). c.args.bytes.now.items ++ xs) (replicate-append-replicate (4 * k) 4 0)
    ∙ ap (λ (m : ℕ). c.args.bytes.now.items ++ replicate m 0) n
