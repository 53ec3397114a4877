use Rattle.std.proofs.Common.{rules, ◌≡◌, ◌-◌, ◌++◌, length, sym, arith, subst, length-append, ap, [], ◌∷◌}
use Rattle.std.proofs.lemmas.Str.{IsCharBoundary-at_seam}
use Rattle.std.specs.Str.{IsCharBoundary}
use Rattle.literal_patterns.proofs.RunLaws.{bare_more}
use Rattle.literal_patterns.proofs.literal.split_bare.Goals as goal

pub loop-c-preserved : goal.loop-c-preserved
loop-c-preserved c =
    let (w, h, e) = c.loop-c.invariant.1 in
    let more = bare_more w c.args.text.now c.loop-c.rest.now c.in-Some.after.now c.in-Some.c h (sym c.if-not-is_bare.ensures) e
    c.in-Some.ensures.0 in
    (search rules, (w ++ c.in-Some.c ∷ [], more.0, more.1))

pub split_at-requires : goal.split_at-requires
split_at-requires c =
    let (w, h, e) = c.loop-c.invariant.1 in
    let front : length w ≡ length c.args.text.now - length c.loop-c.rest.now = omega (arith, ap length e, length-append w c.loop-c.rest.now) in
    subst (λ n. IsCharBoundary c.args.text.now n) front
    (IsCharBoundary-at_seam c.args.text.now w c.loop-c.rest.now e c.loop-c.invariant.0)
