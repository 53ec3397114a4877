use Rattle.std.proofs.Common.{sym, ◌∙◌, arith, refl, ◌++◌, [], take}
use Rattle.std.proofs.lemmas.Result.{err_from_is_err_and}
use Rattle.line_program.proofs.KnownBytes.{Appends-both, Appends-none, Appends-then_kept, cut_on, empty_from_test, some_from_test}
use Rattle.line_program.proofs.Steps.{counts_on}
use Rattle.line_program.proofs.put.put_all.Goals as goal

pub loop-rest-init : goal.loop-rest-init
loop-rest-init g c = record { put = ([], refl, Appends-none _); later = omega arith; kept = λ each. refl }

pub returns-in_err-count-clause-puts : goal.returns-in_err-count-clause-puts
returns-in_err-count-clause-puts g c =
    let put = c.loop-rest.invariant.put in
    let p = err_from_is_err_and c.from_residual.result c.from_residual.ensures.1 in
    record {
      front = put.0;
      back = c.loop-rest.rest.now;
      parts = put.1;
      appends = Appends-then_kept _ _ _ put.0 put.2 c.in_err-count.ensures.bytes;
      all = rw p.1 tt;
      missing = rw p.1 (some_from_test _ (sym c.loop-rest-test.ensures));
    }

pub loop-rest-preserved : goal.loop-rest-preserved
loop-rest-preserved g c =
    let put = c.loop-rest.invariant.put in
    record {
      put = (
        put.0 ++ take c.in_ok-count.count c.loop-rest.rest.now,
        cut_on _ _ _ _ c.in_ok-count.ensures.bound put.1,
        Appends-both _ _ _ put.0 _ put.2 c.in_ok-count.ensures.bytes,
      );
      later = omega arith;
      kept = λ each. (c.in_ok-count.ensures.each each).kept ∙ c.loop-rest.invariant.kept each;
    }

pub returns-clause-puts : goal.returns-clause-puts
returns-clause-puts g c =
    let put = c.loop-rest.invariant.put in
    record {
      front = put.0;
      back = c.loop-rest.rest.now;
      parts = put.1;
      appends = put.2;
      all = empty_from_test _ (sym c.loop-rest-test.ensures);
      missing = tt;
    }

pub returns-in_err-count-clause-each : goal.returns-in_err-count-clause-each
returns-in_err-count-clause-each g c = λ each.
    let p = err_from_is_err_and c.from_residual.result c.from_residual.ensures.1 in
    counts_on _ _ _ c.write.result c.from_residual.result _ _ c.in_err-count.was p.1 p.2
    (c.loop-rest.invariant.kept each) (c.write.ensures.each each)

pub returns-clause-each : goal.returns-clause-each
returns-clause-each g c = λ each. record { kept = c.loop-rest.invariant.kept each; memory = λ is. cc; one = λ is. cc }
