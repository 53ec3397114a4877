use Rattle.std.proofs.Common.{◌≡◌, ◌%◌, ◌^◌, ℕ, ap, ◌∙◌, arith}
use Rattle.json_elements.specs.Number.{fed, fed_one, word}
use Rattle.json_elements.proofs.hash.object_hash.Goals as goal

pub returns : goal.returns
returns c =
    let small : c.args.sum ≡ c.args.sum % 2 ^ 64 = omega (arith, c.ranges.sum.fits) in
    c.fed_word.ensures
    ∙ ap (λ (x : ℕ). fed x (word c.args.sum)) c.fed_one.ensures
    ∙ ap (λ (x : ℕ). fed (fed_one 14695981039346656037 7) (word x)) small
