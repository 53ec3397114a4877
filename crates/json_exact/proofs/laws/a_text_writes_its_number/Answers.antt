use Rattle.json_exact.proofs.TextLiteralLaws.{text_writes}
use Rattle.json_exact.proofs.laws.a_text_writes_its_number.Goals as goal

pub returns : goal.returns
returns c = text_writes c.args.number.now
