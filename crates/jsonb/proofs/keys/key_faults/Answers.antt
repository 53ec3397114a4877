use Rattle.std.proofs.Common.{ℕ, Bool, Some, take, sym, ap, subst, ◌∙◌}
use Rattle.std.specs.Str.{IsAscii}
use Rattle.jsonb_layout.specs.Options.{only_if}
use Rattle.jsonb.specs.Found.{nothing}
use Rattle.jsonb.specs.inner.Views.{place}
use Rattle.jsonb.proofs.FoundLaws.{both_nothing}
use Rattle.jsonb.proofs.KeyEnds.{ascii_keys}
use Rattle.jsonb.proofs.keys.key_faults.Goals as goal

pub returns-then-is_ascii : goal.returns-then-is_ascii
returns-then-is_ascii c =
    let end = place c.pass_keys.new.here in (
      nothing,
      sym (both_nothing c.args.found.now),
      sym
          (ascii_keys c.args.count (place c.args.here.now) end
          (sym (c.pass_keys.ensures ∙ ap (λ (b : Bool). only_if b (Some end)) c.if-not-pass_keys.false))
          (subst IsAscii (c.split_at.ensures.front ∙ ap (λ (k : ℕ). take k c.args.here.now.rest.now) c.saturating_sub-length.ensures)
          (c.is_ascii.ensures c.if-is_ascii.true))),
    )
