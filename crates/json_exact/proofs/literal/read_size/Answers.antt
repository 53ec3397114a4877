use Rattle.std.proofs.Common.{rules, ◌≡◌, ℕ, ◌<◌, Bool, ltb, List, [], ◌∷◌, length, sym, ap, ◌∙◌, arith}
use Rattle.std.specs.Prelude.{Some, None, option_map, if◌then◌else◌}
use Rattle.std.proofs.lemmas.Bool.{and_from, lt-ltb}
use Rattle.json_exact.specs.Literal.{number}
use Rattle.json_exact.specs.inner.Reading.{all_digits, capped, size_of}
use Rattle.json_exact.proofs.GroupLaws.{after, after_zero}
use Rattle.json_exact.proofs.DigitTextLaws.{values}
use Rattle.json_exact.proofs.literal.read_size.Goals as goal

-- the sum of digits is their number where none is left
all_summed : (size n : ℕ) (rest bytes : List ℕ) → length rest < 1 → 0 < length bytes → all_digits bytes ≡ all_digits rest → size ≡ capped n
    → after 10 n (values rest) ≡ after 10 0 (values bytes) → Some size ≡ option_map capped (size_of bytes)
unfolding size_of
all_summed size n [] bytes none some all e f =
    ap (λ (k : ℕ). Some k) e
    ∙ ap (λ (k : ℕ). Some (capped k)) (f ∙ after_zero 10 (values bytes))
    ∙ sym (ap (λ (t : Bool). option_map capped (if t then Some (number bytes) else None))
    (and_from (ltb 0 (length bytes)) (all_digits bytes) (lt-ltb 0 (length bytes) some) all))
all_summed size n (c ∷ cs) bytes none some all e f = absurd (omega arith)

pub returns : goal.returns
returns c =
    let (n, e, f) = c.loop-rest.invariant.so_far in
    all_summed c.loop-rest.size n c.loop-rest.rest.now c.args.bytes.now (search rules) (search rules) c.loop-rest.invariant.all e f
