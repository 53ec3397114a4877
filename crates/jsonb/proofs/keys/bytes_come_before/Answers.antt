use Rattle.std.proofs.Common.{arith, sym, ◌∙◌}
use Rattle.jsonb.proofs.KeyBytes.{tell, last_tell}
use Rattle.jsonb.proofs.keys.bytes_come_before.Goals as goal

pub returns-then-v-w : goal.returns-then-v-w
returns-then-v-w c =
    tell c.args.a.now c.args.b.now _ _ (λ i. omega (arith, c.type_inv.a i)) (λ i. omega (arith, c.type_inv.b i))
    (omega (arith, c.if-min-ge8.true)) (omega (arith, c.if-min-ge8.true)) c.first_eight-v.ensures c.first_eight-w.ensures c.if-v-w.true

pub returns-then-a-le16 : goal.returns-then-a-le16
returns-then-a-le16 c =
    last_tell c.args.a.now c.args.b.now _ _ (λ i. omega (arith, c.type_inv.a i)) (λ i. omega (arith, c.type_inv.b i))
    (omega (arith, c.if-min-ge8.true))
    c.if-a-b.true c.if-a-le16.true (sym c.first_eight-v.ensures ∙ c.if-v-w.false ∙ c.first_eight-w.ensures) c.last_eight.ensures
    c.last_eight-then-a-le16.ensures
