use Rattle.std.proofs.Common.{refl, subst}
use Rattle.judge.specs.Made.{Made}
use Rattle.judge.proofs.Counts.{asked_make}
use Rattle.judge.proofs.program.run.Goals as goal

pub returns-in-Some-Make-clause-make : goal.returns-in-Some-Make-clause-make
returns-in-Some-Make-clause-make g c = λ count make.
    let same = asked_make _ c.read_words.result _ _ count c.read_words.ensures c.in-Some-Make.is c.in-Some-Make.field-0-is make in
    (refl, subst (λ n. Made n (g.K.Sink.written c.args.sink.now) (g.K.Sink.written c.make.new.sink) c.make.result) same c.make.ensures.made)
