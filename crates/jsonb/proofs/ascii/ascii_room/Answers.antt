use Rattle.jsonb.proofs.Texts.{in_front}
use Rattle.jsonb.proofs.ascii.ascii_room.Goals as goal

pub returns-in-Some : goal.returns-in-Some
returns-in-Some c =
    in_front c.args.piece.now c.args.rest.now c.in-Some.block.now c.ascii_of_block.result c.requires c.in-Some.ensures.cases.same
    c.ascii_of_block.ensures.few
    c.ascii_of_block.ensures.ascii
