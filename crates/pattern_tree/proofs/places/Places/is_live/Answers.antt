use Rattle.std.proofs.Common.{arith}
use Rattle.pattern_tree.proofs.ScopeLaws.{live_inside, live_end}
use Rattle.pattern_tree.proofs.places.Places.is_live.Goals as goal

pub returns-then-around-len : goal.returns-then-around-len
returns-then-around-len c =
    let point = rw c.deref.ensures.value at c.begun_before-around.ensures.point in
    live_inside c.args.self.now.outer.items c.args.place c.begun_before-around.result c.args.self.now.alternative c.index.result.now
    (omega arith) c.index.ensures point.0 point.1

pub returns-else-around-len : goal.returns-else-around-len
returns-else-around-len c =
    let point = rw c.deref.ensures.value at c.begun_before-around.ensures.point in
    live_end c.args.self.now.outer.items c.args.place c.begun_before-around.result c.args.self.now.alternative
    (record { start = 0; alternative = 0 }) (omega (arith, c.deref.ensures.len)) point.0
