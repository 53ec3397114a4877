use Rattle.bytecount.proofs.WordMarkLaws.{begins_word}
use Rattle.bytecount.proofs.byte_test.BeginsCharByteTest.word_marks.Goals as goal

pub returns : goal.returns
returns c bytes is = begins_word bytes c.args.word is
