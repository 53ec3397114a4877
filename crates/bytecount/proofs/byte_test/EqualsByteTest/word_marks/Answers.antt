use Rattle.std.proofs.Common.{arith}
use Rattle.bytecount.proofs.WordMarkLaws.{equal_word}
use Rattle.bytecount.proofs.byte_test.EqualsByteTest.word_marks.Goals as goal

pub returns : goal.returns
returns c bytes is = equal_word c.args.self.now.needle bytes c.args.word (omega arith) is
