use Rattle.std.proofs.Common.{arith}
use Rattle.judge.proofs.Counts.{bare, parsed_err, parsed_ok}
use Rattle.judge.proofs.words.read_count.Goals as goal

pub returns-in-Ok : goal.returns-in-Ok
returns-in-Ok c =
    let is = parsed_ok _ (c.is_bare.ensures.0 c.if-is_bare.true) c.parse.result _ c.in-Ok.is c.parse.ensures.value.0 in
    record { is = is.0; some = is.1; most = c.if-count-le-MOST_PAIRS.true }

pub returns-in_default : goal.returns-in_default
returns-in_default c = λ n pairs.
    let is = parsed_ok _ (c.is_bare.ensures.0 c.if-is_bare.true) c.parse.result _ c.in-Ok.is c.parse.ensures.value.0 in
    let most = pairs.most in
    let same = is.2 n pairs in
    let over = c.if-count-le-MOST_PAIRS.false in
    absurd (omega arith)

pub returns-in_default-2 : goal.returns-in_default-2
returns-in_default-2 c = parsed_err _ (c.is_bare.ensures.0 c.if-is_bare.true) c.parse.result _ c.in_default.is c.parse.ensures.value.0

pub returns-else-is_bare : goal.returns-else-is_bare
returns-else-is_bare c = λ n pairs.
    let is = c.is_bare.ensures.1 (bare c.args.word.now n pairs) in
    cc
