use Rattle.std.proofs.Common.{refl, ◌∙◌, arith}
use Rattle.jsonb.proofs.KeyBytes.{tell, eights_go_on, eights_rest}
use Rattle.jsonb.proofs.keys.long_bytes_come_before.Goals as goal

pub loop-v-init : goal.loop-v-init
loop-v-init c = record { left_bytes = λ i. omega (arith, c.type_inv.a i); right_bytes = λ i. omega (arith, c.type_inv.b i); same = refl }

pub returns-then-v-w : goal.returns-then-v-w
returns-then-v-w c =
    let s = c.loop-v.invariant in
    tell c.loop-v.x.now c.loop-v.y.now _ _ s.left_bytes s.right_bytes (omega (arith, c.loop-v-test.true)) (omega (arith, c.loop-v-test.true))
    c.first_eight-v.ensures c.first_eight-w.ensures c.if-v-w.true
    ∙ s.same

pub loop-v-preserved : goal.loop-v-preserved
loop-v-preserved c =
    eights_rest c.args.a.now c.args.b.now c.loop-v.x.now c.loop-v.y.now
    (eights_go_on c.args.a.now c.args.b.now c.loop-v.x.now c.loop-v.y.now _ _ c.loop-v.invariant (omega (arith, c.loop-v-test.true))
    (omega (arith, c.loop-v-test.true)) c.first_eight-v.ensures c.first_eight-w.ensures c.if-v-w.false)

pub returns : goal.returns
returns c = c.last_bytes_come_before.ensures ∙ c.loop-v.invariant.same
