use Rattle.jsonb_layout.proofs.SeatLaws.{one_seat, one_place, one_pair}
use Rattle.jsonb.proofs.laws.places_differ.Goals as goal

pub returns : goal.returns
returns c = record { one = one_seat c.args.bytes.now; bytes = one_place c.args.bytes.now; apart = one_pair c.args.bytes.now }
