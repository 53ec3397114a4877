use Rattle.std.proofs.Common.{arith, inl}
use Rattle.jsonb.proofs.HexTexts.{even_hex}
use Rattle.jsonb.proofs.encode.hex_text.decode_over.Goals as goal

pub returns-then-text-eq1-clause-accepts : goal.returns-then-text-eq1-clause-accepts
returns-then-text-eq1-clause-accepts c = λ bytes hex.
    let odd = c.if-text-eq1.true in
    let even = even_hex _ bytes hex in
    absurd (omega (arith, odd, even))

pub returns-clause-accepts : goal.returns-clause-accepts
returns-clause-accepts c = λ bytes hex. inl (c.decode_even.ensures.accepts bytes hex)

pub returns-clause-refuses : goal.returns-clause-refuses
returns-clause-refuses c = λ place first. inl (c.decode_even.ensures.refuses place first)
