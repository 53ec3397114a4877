use Rattle.std.proofs.Common.{refl, ◌≡◌, false, true, [], ◌∷◌}
use Rattle.std.specs.Str.{chars}
use Rattle.std.specs.Cow.{cow_str_bytes}
use Rattle.literal_patterns.proofs.RunLaws.{text_some, text_none}
use Rattle.literal_patterns.proofs.analysis.analyze_text.Goals as goal

pub returns-then-is-clause-some : goal.returns-then-is-clause-some
unfolding chars
returns-then-is-clause-some c = (
  chars c.args.body.now,
  refl,
  text_some (chars c.args.body.now) (cow_str_bytes c.in_ok-text.text) (chars c.in_ok-text.rest.now) [] c.in_ok-text.ensures.0
      (c.if-is.ensures.0 refl),
)

pub returns-then-is-2-clause-some : goal.returns-then-is-2-clause-some
unfolding chars
returns-then-is-2-clause-some c = (
  chars c.args.body.now,
  refl,
  text_some (chars c.args.body.now) (cow_str_bytes c.in_ok-text.text) (chars c.in_ok-text.rest.now) (36 ∷ []) c.in_ok-text.ensures.0
      (c.if-is-2.ensures.0 refl),
)

pub returns-clause-none : goal.returns-clause-none
unfolding chars
returns-clause-none c =
    text_none (chars c.args.body.now) (cow_str_bytes c.in_ok-text.text) (chars c.in_ok-text.rest.now) c.in_ok-text.ensures.0
    (λ e. let no : false ≡ true = c.if-is.ensures.1 e in cc) (λ e. let no : false ≡ true = c.if-is-2.ensures.1 e in cc)
