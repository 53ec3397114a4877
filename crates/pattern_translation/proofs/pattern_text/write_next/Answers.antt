use Rattle.std.proofs.Common.{◌≡◌, Some, false, subst, arith, IfSome, true}
use Rattle.std.specs.Prelude.{◌==◌}
use Rattle.std.specs.Str.{chars}
use Rattle.std.proofs.lemmas.Bool.Decides.{nat_tests}
use Rattle.pattern_model.specs.Tokens.{token_from}
use Rattle.pattern_tree.specs.Nodes.{token_of}
use Rattle.pattern_translation.proofs.TokenWriting.{bracket_added, other_added}
use Rattle.pattern_translation.proofs.pattern_text.write_next.Goals as goal

pub returns-then-c-eq91-clause-token : goal.returns-then-c-eq91-clause-token
returns-then-c-eq91-clause-token c =
    bracket_added c.args.c (chars c.args.after.now) (chars c.in_ok-end.end.now) _ _ c.if-c-eq91.true c.in_ok-end.ensures.class

pub returns-clause-token : goal.returns-clause-token
returns-clause-token c =
    let other : c.args.c == 91 ≡ false = grind (arith, nat_tests) in
    let read = subst (λ o. IfSome o (λ p. token_from true c.args.c (chars c.args.after.now) ≡ Some (token_of p.0, chars p.1.now))) c.in-Some.is
    c.in_ok-token.ensures.some in
    other_added c.args.c (chars c.args.after.now) (chars c.in-Some.end.now) (chars c.args.text.now) (token_of c.in-Some.token) _ _ other
    c.requires read c.in_ok-write_token.ensures
