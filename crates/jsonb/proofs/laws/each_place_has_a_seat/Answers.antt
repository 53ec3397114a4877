use Rattle.jsonb_layout.proofs.SeatBytes.{bytes_are_there, word_is_there}
use Rattle.jsonb_layout.proofs.SeatLaws.{seat_deeper}
use Rattle.jsonb_layout.proofs.SeatPlaces.{seat_has_place}
use Rattle.jsonb_layout.proofs.SeatTrees.{place_has_seat}
use Rattle.jsonb.proofs.laws.each_place_has_a_seat.Goals as goal

pub returns : goal.returns
returns c = record {
  some = λ t u way h e. place_has_seat c.args.bytes.now way t u h e;
  only = λ t way s h k. seat_has_place c.args.bytes.now way t s h k;
  deeper = seat_deeper c.args.bytes.now;
  there = bytes_are_there c.args.bytes.now;
  word = word_is_there c.args.bytes.now;
}
