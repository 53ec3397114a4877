use Rattle.std.proofs.Common.{◌≡◌, ◌+◌, ◌-◌, ◌*◌, ◌++◌, ◌∷◌, [], ◌<◌, ℕ, List, length, take, drop, refl, sym, ap, subst, ◌∙◌, arith}
use Rattle.std.specs.Int.{w32, to_le_bytes}
use Rattle.std.proofs.lemmas.List.{take_at}
use Rattle.jsonb_layout.specs.Layout.{pieces}
use Rattle.jsonb_encode.specs.inner.Writing.{kind_number, entry_word, item_of, IsOpen}
use Rattle.jsonb_encode.proofs.Opened.{closed, payload_length}
use Rattle.jsonb_encode.proofs.entries.close_item.Goals as goal

pub returns-then-upto-ge-LIMIT : goal.returns-then-upto-ge-LIMIT
returns-then-upto-ge-LIMIT c = λ base mid piece f count xs start index open_is begin old.
    let lt = c.requires.index in
    let e = payload_length f count c.args.items xs base mid piece c.args.bytes.now.items c.args.start c.args.begin start (omega arith)
    open_is begin old in
    let l = c.len.ensures in
    let u = c.if-upto-ge-LIMIT.true in
    (refl, omega (arith, e.0))

pub returns : goal.returns
returns c = λ base mid piece f count xs start index open_is begin old.
    let lt = c.requires.index in
    let e = payload_length f count c.args.items xs base mid piece c.args.bytes.now.items c.args.start c.args.begin start (omega arith)
    open_is begin old in
    let k = kind_number c.args.kind in
    let upto : c.len.result - c.args.start - 4 * c.args.items - 4 ≡ length (pieces xs) + length piece = omega (arith, e.0, c.len.ensures) in
    let own : c.len-2.result - c.args.begin ≡ length piece = omega (arith, e.1, c.len-2.ensures) in
    let word : c.entry_word-word.result ≡ entry_word (length xs) k (length (pieces xs) + length piece) (length piece) =
    c.entry_word-word.ensures
    ∙ ap (λ (i : ℕ). entry_word i k (c.len.result - c.args.start - 4 * c.args.items - 4) (c.len-2.result - c.args.begin)) (sym index)
    ∙ ap (λ (u : ℕ). entry_word (length xs) k u (c.len-2.result - c.args.begin)) upto
    ∙ ap (λ (n : ℕ). entry_word (length xs) k (length (pieces xs) + length piece) n) own in
    let place = c.args.start + 4 * c.args.index + 4 in
    let same = c.set_word.auto.bytes in
    let whole = c.as_mut_slice.ensures.len in
    let under = c.if-upto-ge-LIMIT.false in
    let small : length (pieces xs) + length piece < 268435456 = omega (arith, upto) in
    let all = take_at c.set_word.new.bytes (drop (length c.set_word.new.bytes) c.args.bytes.now.items) c.args.bytes.now.len (omega arith) in
    subst (λ (ys : List ℕ). IsOpen f count c.args.items (xs ++ item_of k piece ∷ []) base ys) (sym all)
    (closed f count c.args.items xs k base mid piece c.args.bytes.now.items c.set_word.new.bytes c.args.start place c.entry_word-word.result start
    (omega arith) (omega arith) open_is old word small
    (c.set_word.ensures
    ∙ ap (λ (ys : List ℕ). take place ys ++ (to_le_bytes w32 c.entry_word-word.result ++ drop (place + 4) ys)) c.as_mut_slice.ensures.value))
