use Rattle.std.proofs.Common.{◌≡◌, ◌-◌, ◌<◌, length, take, drop, sym, subst, ap, ◌∙◌, arith, w8, w64}
use Rattle.std.specs.Array.{IsFirstChunk}
use Rattle.std.specs.Int.{from_le_bytes}
use Rattle.std.specs.Prelude.{MatchOption}
use Rattle.std.specs.Simd.Lanes.{chunk}
use Rattle.std.proofs.lemmas.List.{length-drop, take_all}
use Rattle.std.proofs.lemmas.Simd.{length-chunk, chunk-fits, below_from_Fits}
use Rattle.bytecount.specs.Tallies.{IsWord}
use Rattle.bytecount.proofs.WordTallyLaws.{IsWord-from_le_bytes}
use Rattle.bytecount.proofs.integer_simd.word_at.Goals as goal

pub returns : goal.returns
returns c =
    let bytes = c.args.bytes.now in
    let at = c.args.at in
    let rest = take (length bytes - at) (drop at bytes) in
    let whole : rest ≡ drop at bytes = take_all (length bytes - at) (drop at bytes) (omega (arith, length-drop at bytes)) in
    let first = subst (λ o. MatchOption o (length rest < 8) (λ y. IsFirstChunk rest y.now 8)) c.unwrap.ensures c.first_chunk.ensures.cases in
    let eight = below_from_Fits w8 (chunk at 8 bytes) (chunk-fits w8 at 8 bytes c.type_inv.bytes) in
    subst (IsWord (chunk at 8 bytes))
    (ap (from_le_bytes w64) (sym (first.same ∙ ap (take 8) whole)) ∙ sym c.from_le_bytes.ensures)
    (IsWord-from_le_bytes (chunk at 8 bytes) (length-chunk at 8 bytes c.requires) eight)
