use Rattle.std.proofs.Common.{ℕ, ap, ◌∙◌, arith}
use Rattle.jsonb.specs.inner.Pieces.{piece_with}
use Rattle.jsonb.specs.inner.Views.{place}
use Rattle.jsonb.proofs.PieceLaws.{key_by_piece}
use Rattle.jsonb.proofs.keys.next_key.Goals as goal

pub returns : goal.returns
returns c =
    c.piece_at.ensures.read
    ∙ ap (λ (w : ℕ). piece_with w (place c.args.start)) c.entry_word.ensures
    ∙ key_by_piece (place c.args.start) (omega arith) (omega (arith, c.entry_word.ensures)) c.requires
