use Rattle.std.proofs.Common.{◌≡◌, ◌++◌, ◌+◌, List, ℕ, take, drop, ap, ◌∙◌}
use Rattle.std.specs.Int.{w32, to_le_bytes}
use Rattle.std.proofs.lemmas.List.{drop-drop}
use Rattle.jsonb_encode.proofs.buffer.set_word.Goals as goal

pub returns : goal.returns
returns c =
    let word = to_le_bytes w32 c.args.word in
    let front = c.split_at_mut-rest.ensures.front in
    let rest : c.split_at_mut-front.result.1.now ≡ drop (c.args.place + 4) c.args.bytes.now =
    c.split_at_mut-front.ensures.back ∙ ap (drop 4) c.split_at_mut-rest.ensures.back ∙ drop-drop 4 c.args.place c.args.bytes.now in
    ap (λ (xs : List ℕ). xs ++ (c.copy_from_slice.new.self ++ c.split_at_mut-front.result.1.now)) front
    ∙ ap (λ (xs : List ℕ). take c.args.place c.args.bytes.now ++ (xs ++ c.split_at_mut-front.result.1.now))
    (c.copy_from_slice.ensures.after ∙ c.to_le_bytes.ensures)
    ∙ ap (λ (xs : List ℕ). take c.args.place c.args.bytes.now ++ (word ++ xs)) rest
