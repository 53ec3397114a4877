use Rattle.std.proofs.Common.{arith}
use Rattle.jsonb.specs.inner.Views.{place}
use Rattle.jsonb.proofs.LeapLaws.{leap_rises, leap_room, leap_long, leap_is}
use Rattle.jsonb.proofs.leap.leap.Goals as goal

pub overflow_mul-count : goal.overflow_mul-count
overflow_mul-count g c =
    omega (arith, c.args.start.words_fit, leap_long c.args.count c.end_of-at.result (place c.args.start) c.end_of-at.ensures.end)

pub split_at-requires : goal.split_at-requires
split_at-requires g c = leap_long c.args.count c.end_of-at.result (place c.args.start) c.end_of-at.ensures.end

pub overflow_sub-at : goal.overflow_sub-at
overflow_sub-at g c = leap_rises c.args.count c.end_of-at.result (place c.args.start) c.end_of-at.ensures.end

pub split_at-requires-2 : goal.split_at-requires-2
split_at-requires-2 g c = omega (arith, leap_room c.args.count c.end_of-at.result (place c.args.start) c.end_of-at.ensures.end)

pub returns-clause-read : goal.returns-clause-read
returns-clause-read g c =
    rw (c.split_at.ensures.back, c.split_at-2.ensures.back)
    (leap_is c.args.count c.end_of-at.result (place c.args.start) c.end_of-at.ensures.end)
