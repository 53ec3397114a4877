use Rattle.std.proofs.Common.{◌∷◌, ◌++◌, [], List, ℕ, ap, ◌∙◌}
use Rattle.std.specs.Int.{w32, to_le_bytes}
use Rattle.std.specs.Prelude.{slice_index_or}
use Rattle.jsonb_layout.specs.Layout.{words}
use Rattle.jsonb.proofs.Nestings.{all_words, one_more}
use Rattle.jsonb.proofs.encode.container.assemble.Goals as goal

pub loop-entry-init : goal.loop-entry-init
loop-entry-init c = c.in_ok-push_word.ensures ∙ ap (λ (xs : List ℕ). xs ++ words (c.args.flags ∷ [])) c.new-bytes.ensures.items

pub loop-entry-preserved : goal.loop-entry-preserved
loop-entry-preserved c =
    let word = to_le_bytes w32 (slice_index_or c.args.entries.now c.loop-entry.entry-index 0) in
    c.in_ok-push_word-2.ensures
    ∙ ap (λ (xs : List ℕ). xs ++ word) c.loop-entry.invariant
    ∙ one_more c.args.flags c.args.entries.now c.loop-entry.entry-index c.loop-entry-test.true

pub returns : goal.returns
returns c =
    all_words c.args.flags c.args.entries.now c.args.payload.now c.loop-entry.bytes.items c.push_all.new.bytes.items c.loop-entry.entry-index
    c.loop-entry-test.false c.loop-entry.invariant c.in_ok-push_all.ensures
