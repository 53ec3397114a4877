use Rattle.std.proofs.Common.{◌<◌, Err, ap, length, take, refl, ◌∙◌, arith}
use Rattle.line_program.proofs.Runs.{completes_stopped, completes_unfinished, going_none, going_on, ran_read_fault, ran_too_much, ran_stopped, ran_done, ran_unfinished}
use Rattle.line_program.proofs.run.answer_lines.Goals as goal

pub loop-turn-init : goal.loop-turn-init
loop-turn-init g c = record {
  serves = c.start-kept.ensures;
  going = going_none _ _ _ c.new-line.ensures.items;
  later_source = omega arith;
  later_sink = omega arith;
  kept_source = λ each. refl;
  kept_sink = λ each. refl;
}

pub feed-requires : goal.feed-requires
feed-requires g c = record { serves = c.loop-turn.invariant.serves; «open» = c.loop-turn.invariant.going.is_open }

pub loop-turn-preserved : goal.loop-turn-preserved
loop-turn-preserved g c =
    let bound = c.in-Ok.ensures.bound in
    let some : 0 < length (take c.in-Ok.count c.read.new.buffer) = omega arith in
    let going = going_on _ _ _ _ _ _ _ _ _ _ c.loop-turn.invariant.going c.in-Ok.ensures.bytes.0 some
    c.in_default-feed.ensures.feeds c.in_default-feed.ensures.«open» in
    record {
      serves = c.in_default-feed.ensures.serves;
      going = going;
      later_source = omega arith;
      later_sink = omega arith;
      kept_source = λ each. (c.in-Ok.ensures.each each).kept ∙ c.loop-turn.invariant.kept_source each;
      kept_sink = λ each. (c.in_default-feed.ensures.once each).ok ∙ c.loop-turn.invariant.kept_sink each;
    }

pub returns-in_default-clause-ran : goal.returns-in_default-clause-ran
returns-in_default-clause-ran g c = ran_read_fault _ _ _ _ _ _ _ c.loop-turn.invariant.going c.in_default.ensures.bytes

pub returns-in-Err-feed-clause-ran : goal.returns-in-Err-feed-clause-ran
returns-in-Err-feed-clause-ran g c = ran_stopped _ _ _ _ _ _ _ _ _ _ c.loop-turn.invariant.going c.in-Ok.ensures.bytes.0 c.in-Err-feed.ensures.stops

pub returns-clause-ran : goal.returns-clause-ran
returns-clause-ran g c = ran_too_much _ _ _ _ _ _ c.loop-turn.invariant.going c.loop-turn-test.false

pub returns-in-Err-clause-ran : goal.returns-in-Err-clause-ran
returns-in-Err-clause-ran g c =
    let taken = rw c.if-count-eq0.true at c.in-Ok.ensures.bytes.0 in
    let stopped = rw c.deref.ensures.value at c.in-Err.ensures.stops in
    ran_unfinished _ _ _ _ _ _ _ _ _ c.loop-turn.invariant.going taken stopped

pub returns-then-count-eq0-clause-ran : goal.returns-then-count-eq0-clause-ran
returns-then-count-eq0-clause-ran g c =
    let taken = rw c.if-count-eq0.true at c.in-Ok.ensures.bytes.0 in
    let rest = rw c.deref.ensures.value at c.in_default-finish.ensures.rest in
    let room : 0 < length c.read.new.buffer = omega arith in
    ran_done _ _ _ _ _ _ _ _ c.loop-turn.invariant.going taken (c.in-Ok.ensures.bytes.1 c.if-count-eq0.true room) rest

pub finish-requires : goal.finish-requires
finish-requires g c = record {
  serves = c.loop-turn.invariant.serves;
  «open» = rw c.deref.ensures.value c.loop-turn.invariant.going.is_open;
}

pub returns-in-Err-feed-clause-complete : goal.returns-in-Err-feed-clause-complete
returns-in-Err-feed-clause-complete g c = λ input left short below no_read no_write.
    let whole = completes_stopped _ input _ _ _ _ _ _ _ _ _ left c.loop-turn.invariant.going c.in-Ok.ensures.bytes.0
    c.in-Err-feed.ensures.stops short below in
    whole (λ is. let rose = c.in-Err-feed.ensures.cause.failed (ap Err is) in no_write (omega arith))

pub returns-in-Err-clause-complete : goal.returns-in-Err-clause-complete
returns-in-Err-clause-complete g c = λ input left short below no_read no_write.
    let taken = rw c.if-count-eq0.true at c.in-Ok.ensures.bytes.0 in
    let stopped = rw c.deref.ensures.value at c.in-Err.ensures.stops in
    let whole = completes_unfinished _ input _ _ _ _ _ _ _ _ left c.loop-turn.invariant.going taken stopped short below in
    whole (λ is. let rose = c.in-Err.ensures.cause.failed (ap Err is) in no_write (omega arith))
