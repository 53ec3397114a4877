use Rattle.std.proofs.Common.{ℕ, subst, sym, ◌∙◌, arith}
use Rattle.jsonb.specs.inner.Widths.{IsPlain}
use Rattle.jsonb.proofs.SmallNumbers.{number_scalar}
use Rattle.jsonb.proofs.PlainLaws.{plain_string, plain_text, plain_literal}
use Rattle.jsonb.proofs.scalar.is_plain.Goals as goal
use Rattle.jsonb.proofs.scalar.is_plain.Goals.{then-number-eq0, else-number-eq0}

pub returns-then-number-eq1 : goal.returns-then-number-eq1
returns-then-number-eq1 c told =
    number_scalar c.args.at (record { kind = c.args.number; piece = c.args.piece.now }) c.if-number-eq1.true ∙ c.is_small_number.ensures told

pub returns-then-piece-fitting : goal.returns-then-piece-fitting
returns-then-piece-fitting c _ = elim c.if-number-eq0.branch [
  | then-number-eq0 w ↦ subst
      (λ (n : ℕ). IsPlain c.args.at (record { kind = n; piece = c.args.piece.now }))
      (sym w.if-number-eq0.true)
      (plain_string c.args.at c.args.piece.now (c.ascii_room-room.ensures (omega (arith, c.if-piece-fitting.true, w.fitting-is))))
  | else-number-eq0 w ↦ plain_literal c.args.at c.args.number c.args.piece.now w.if-number-eq0.false c.if-number-eq1.false c.if-number-gt4.false
      (omega (arith, c.if-piece-fitting.true, w.fitting-is))
]

pub returns-then-is_ascii : goal.returns-then-is_ascii
returns-then-is_ascii c _ =
    subst (λ (n : ℕ). IsPlain c.args.at (record { kind = n; piece = c.args.piece.now })) (sym c.if-number-ne0.false)
    (plain_string c.args.at c.args.piece.now (c.is_ascii.ensures c.if-is_ascii.true))

pub returns : goal.returns
returns c told =
    subst (λ (n : ℕ). IsPlain c.args.at (record { kind = n; piece = c.args.piece.now })) (sym c.if-number-ne0.false)
    (plain_text c.args.at c.args.piece.now (sym told ∙ c.is_text.ensures))
