use Rattle.std.proofs.Common.{suc, ◌+◌, ◌≡◌, refl, sym, arith}
use Rattle.json_exact.proofs.GroupPlaceLaws.{take_joined}
use Rattle.json_exact.proofs.PartsLaws.{take_mono}
use Rattle.json_exact.proofs.group.number_of.Goals as goal

pub overflow_mul-number : goal.overflow_mul-number
overflow_mul-number c =
    let m = take_mono 10000 c.args.groups.now (suc c.loop-index.index) c.args.count (omega arith) c.loop-index-test.true (omega arith) in
    let s = take_joined 10000 c.loop-index.index c.args.groups.now (omega arith) in
    let i = c.loop-index.invariant in
    let f = c.requires.few in
    omega arith

pub overflow_add-number : goal.overflow_add-number
overflow_add-number c =
    let m = take_mono 10000 c.args.groups.now (suc c.loop-index.index) c.args.count (omega arith) c.loop-index-test.true (omega arith) in
    let s = take_joined 10000 c.loop-index.index c.args.groups.now (omega arith) in
    let i = c.loop-index.invariant in
    let f = c.requires.few in
    omega arith

pub loop-index-preserved : goal.loop-index-preserved
loop-index-preserved c =
    let s = take_joined 10000 c.loop-index.index c.args.groups.now (omega arith) in
    let e : c.loop-index.index + 1 ≡ suc c.loop-index.index = omega arith in
    let i = c.loop-index.invariant in
    rw (e, s, sym i) refl
