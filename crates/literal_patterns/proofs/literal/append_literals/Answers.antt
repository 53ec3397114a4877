use Rattle.std.proofs.Common.{rules, ◌++◌, [], ◌∷◌, arith}
use Rattle.std.specs.Str.{chars}
use Rattle.std.specs.String.{string_bytes}
use Rattle.literal_patterns.proofs.RunLaws.{literals_more, bytes_more}
use Rattle.literal_patterns.proofs.literal.append_literals.Goals as goal

pub loop-c-preserved : goal.loop-c-preserved
loop-c-preserved c =
    let (w, l, e) = c.loop-c.invariant.1 in
    let rest = chars c.loop-c.rest.now in
    let after = chars c.in-Some.after.now in (
      search rules,
      (
        w ++ c.in-Some.c ∷ [],
        literals_more (chars c.args.text.now) w rest c.in-Some.c after l c.in-Some.ensures.0,
        bytes_more (string_bytes c.args.into.now) w (string_bytes c.loop-c.into) (string_bytes c.push.new.self) rest c.in-Some.c after
            c.in-Some.ensures.0 e c.in_ok-push.ensures.bytes,
      ),
      omega (arith, c.in-Some.ensures.1, c.loop-c.invariant.2),
    )
