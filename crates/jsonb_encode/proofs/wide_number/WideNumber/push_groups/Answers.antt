use Rattle.std.proofs.Common.{◌++◌, ◌-◌, ◌/◌, ◌^◌, ◌∷◌, [], ℕ, List, sym, ap, ◌∙◌, arith, append_assoc}
use Rattle.std.specs.Int.{w16, to_le_bytes}
use Rattle.std.specs.List.{flat_map}
use Rattle.std.proofs.lemmas.Grind.{flat_map-append}
use Rattle.json_exact.specs.Digits.{spread}
use Rattle.jsonb_encode.specs.inner.Wide.{size}
use Rattle.jsonb_encode.proofs.WideDigits.{next_group}
use Rattle.jsonb_encode.proofs.wide_number.WideNumber.push_groups.Goals as goal

pub loop-index-preserved : goal.loop-index-preserved
loop-index-preserved c =
    let x = size c.args.self.now in
    let n = c.args.count in
    let i = c.loop-index.index in
    let base = c.args.bytes.now.items in
    let gs = spread 10000 i (x / 10000 ^ (n - i)) in
    let g = c.group.result in
    c.in_ok-push_half.ensures.ok
    ∙ ap (λ (xs : List ℕ). xs ++ to_le_bytes w16 g) c.loop-index.invariant
    ∙ append_assoc base (flat_map (to_le_bytes w16) gs) (to_le_bytes w16 g)
    ∙ ap (λ (xs : List ℕ). base ++ xs) (sym (flat_map-append (to_le_bytes w16) gs (g ∷ [])))
    ∙ ap (λ (hs : List ℕ). base ++ flat_map (to_le_bytes w16) hs)
    (next_group x n i g c.requires.below (omega (arith, c.loop-index-test.true, c.requires.order)) c.group.ensures)
