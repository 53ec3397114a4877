use Rattle.std.proofs.Common.{◌≡◌, ◌++◌, ◌∷◌, [], length, ap, sym, ◌∙◌, subst, arith, length-append, append_assoc}
use Rattle.std.specs.Str.{chars}
use Rattle.std.specs.String.{string_bytes}
use Rattle.pattern_model.specs.Literals.{Literals}
use Rattle.literal_patterns.proofs.RunLaws.{bare_chars, literals_append, bytes_more}
use Rattle.literal_patterns.proofs.literal.split_literals.Goals as goal

pub returns-in-None : goal.returns-in-None
returns-in-None c =
    let bare = c.split_bare.result.0.now in
    let rest = c.split_bare.result.1.now in
    let whole = c.split_bare.ensures.whole in (
      (bare_chars c.args.text.now bare rest c.split_bare.ensures.bare whole, c.in-None.ensures),
      omega (arith, ap length whole, length-append bare rest),
    )

pub returns-in_ok-rest-in-Some : goal.returns-in_ok-rest-in-Some
returns-in_ok-rest-in-Some c =
    let text = c.args.text.now in
    let bare = c.split_bare.result.0.now in
    let escape = c.split_bare.result.1.now in
    let whole = c.split_bare.ensures.whole in
    let first = c.in-Some.c in
    let after = chars c.in-Some.after.now in
    let rest = chars c.in_ok-rest-in-Some.rest.now in
    let (w, run, e, long) = c.in_ok-rest-in-Some.ensures in
    let begun = bytes_more [] bare (string_bytes c.in_ok-literals-in-Some.literals) (string_bytes c.push.new.self) (chars escape) first after
    c.in-Some.ensures.0 c.in_ok-literals-in-Some.ensures.ok c.in_ok-push-in-Some.ensures.bytes in
    let bytes : string_bytes c.append_literals.new.into ≡ bare ++ (first ∷ w) =
    e ∙ ap (λ z. z ++ w) begun ∙ append_assoc bare (first ∷ []) w in (
      (
        subst (λ z. Literals (chars text) z rest) (sym bytes)
            (literals_append (chars text) bare (chars escape) (first ∷ w) rest
            (bare_chars text bare escape c.split_bare.ensures.bare whole) (after, c.in-Some.ensures.0, run.0)),
        run.1,
      ),
      omega (arith, ap length whole, length-append bare escape, c.in-Some.ensures.1, long),
    )
