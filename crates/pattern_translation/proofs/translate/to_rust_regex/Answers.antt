use Rattle.std.proofs.Common.{sym, ◌∙◌}
use Rattle.std.specs.Str.{chars}
use Rattle.std.proofs.lemmas.Slice.Eq.{bytes_eq-Decides}
use Rattle.pattern_translation.proofs.TokenWriting.{translated}
use Rattle.pattern_translation.proofs.AlikeText.{alike_text}
use Rattle.pattern_translation.proofs.translate.to_rust_regex.Goals as goal

pub returns-clause-translated : goal.returns-clause-translated
returns-clause-translated c =
    let (t, read, kept) = c.in_ok-check_translated.ensures.kept in
    translated (chars c.args.pattern.now) t _ read kept c.in_ok-text.ensures

pub returns-then-eq-clause-translated : goal.returns-then-eq-clause-translated
returns-then-eq-clause-translated c =
    let (t, read, kept) = c.in_ok-check_translated.ensures.kept in
    let (w, r, e) = translated (chars c.args.pattern.now) t _ read kept c.in_ok-text.ensures in
    let same = (bytes_eq-Decides c.as_str.result.now c.args.pattern.now).0 (sym c.if-eq.ensures) in
    (w, r, sym same ∙ (c.as_str.ensures.value ∙ e))

pub returns-then-eq-clause-alike : goal.returns-then-eq-clause-alike
returns-then-eq-clause-alike c = let (w, t, e) = returns-then-eq-clause-translated c in (w, alike_text (chars c.args.pattern.now) w t, e)

pub returns-clause-alike : goal.returns-clause-alike
returns-clause-alike c = let (w, t, e) = returns-clause-translated c in (w, alike_text (chars c.args.pattern.now) w t, e)
