use Rattle.bytecount.proofs.CharLaws.{text_begins}
use Rattle.bytecount.proofs.laws.chars_are_counted.Goals as goal

pub returns : goal.returns
returns c = text_begins c.args.text.now c.utf8.text
