use Rattle.std.proofs.Common.{◌≡◌, ◌++◌, ◌+◌, ◌∷◌, [], ℕ, suc, List, ℤ, pos, nat_abs, sym, ap, ◌∙◌, w32, to_z, of_z, rules, arith, append_assoc, ◌-ℤ◌}
use mir.Val.{SFits}
use Rattle.std.specs.Int.{w16, to_le_bytes}
use Rattle.std.specs.List.{flat_map}
use Rattle.std.proofs.lemmas.Grind.{flat_map-append}
use Rattle.std.proofs.lemmas.Int.{to_z-of_z}
use Rattle.json_exact.specs.DecimalGroups.{group}
use Rattle.jsonb_encode.specs.inner.Writing.{groups_down}
use Rattle.jsonb_encode.proofs.number.push_groups.Goals as goal

-- one group more is written
one_more : (first p : ℤ) (k n g : ℕ) (base old new : List ℕ) → SFits w32 p → p ≡ first -ℤ pos k → g ≡ group (to_z w32 (of_z w32 p)) n
    → old ≡ base ++ flat_map (to_le_bytes w16) (groups_down first k n) → new ≡ old ++ to_le_bytes w16 g
    → new ≡ base ++ flat_map (to_le_bytes w16) (groups_down first (k + 1) n)
one_more first p k n g base old new f at e h w =
    let gs = groups_down first k n in
    let here : g ≡ group (first -ℤ pos k) n = e ∙ ap (λ (q : ℤ). group q n) (to_z-of_z w32 p f ∙ at) in
    let next : suc k ≡ k + 1 = omega arith in
    w
    ∙ ap (λ (xs : List ℕ). xs ++ to_le_bytes w16 g) h
    ∙ append_assoc base (flat_map (to_le_bytes w16) gs) (to_le_bytes w16 g)
    ∙ ap (λ (x : ℕ). base ++ (flat_map (to_le_bytes w16) gs ++ to_le_bytes w16 x)) here
    ∙ ap (λ (xs : List ℕ). base ++ xs) (sym (flat_map-append (to_le_bytes w16) gs (group (first -ℤ pos k) n ∷ [])))
    ∙ ap (λ (m : ℕ). base ++ flat_map (to_le_bytes w16) (groups_down first m n)) next

pub loop-index-preserved : goal.loop-index-preserved
loop-index-preserved c =
    let f : SFits w32 c.below.result = search rules in
    let g : SFits w32 c.args.span.first = search rules in
    let at = c.below.ensures ∙ ap (λ (p : ℤ). p -ℤ pos c.loop-index.index) (to_z-of_z w32 c.args.span.first g) in
    one_more c.args.span.first c.below.result c.loop-index.index (nat_abs c.args.decimal.now) c.group.result c.args.bytes.now.items
    c.loop-index.bytes.items
    c.push_half.new.bytes.items f at c.group.ensures c.loop-index.invariant c.in_ok-push_half.ensures.ok
