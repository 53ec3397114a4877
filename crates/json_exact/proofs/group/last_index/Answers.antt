use Rattle.std.proofs.Common.{◌-◌, suc, arith}
use Rattle.json_exact.proofs.GroupPlaceLaws.{zeros_end, zeros_more, zeros_from}
use Rattle.json_exact.proofs.group.last_index.Goals as goal

pub loop-index-init : goal.loop-index-init
loop-index-init c =
    record { within = omega arith; most = omega arith; passed = zeros_end c.args.groups.now 11 (let t = c.told-groups in omega arith) }

pub returns-then-groups-index-ne0-clause-last : goal.returns-then-groups-index-ne0-clause-last
returns-then-groups-index-ne0-clause-last c = zeros_from c.args.groups.now c.loop-index.index (suc (c.loop-index.index - 1))
    (let t = c.loop-index-test.true in omega arith) c.loop-index.invariant.passed

pub loop-index-preserved : goal.loop-index-preserved
loop-index-preserved c =
    let t = c.loop-index-test.true in
    record {
      within = omega arith;
      most = omega arith;
      passed = zeros_more c.args.groups.now (c.loop-index.index - 1)
          (let l = c.told-groups in let m = c.loop-index.invariant.most in omega arith) c.if-groups-index-ne0.false
          (zeros_from c.args.groups.now c.loop-index.index (suc (c.loop-index.index - 1)) (omega arith) c.loop-index.invariant.passed);
    }
