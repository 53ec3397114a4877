use Rattle.pattern_translation.proofs.CopyLaws.{adds_ascii, words_ascii, other_words_ascii}
use Rattle.pattern_translation.proofs.written.write_escape.Goals as goal

pub returns-in_ok-push_str-in-Word : goal.returns-in_ok-push_str-in-Word
returns-in_ok-push_str-in-Word c = rw c.in-Word.is (adds_ascii _ _ _ words_ascii c.in_ok-push_str-in-Word.ensures.bytes)

pub returns-in_ok-push_str-in-NotWord : goal.returns-in_ok-push_str-in-NotWord
returns-in_ok-push_str-in-NotWord c = rw c.in-NotWord.is (adds_ascii _ _ _ other_words_ascii c.in_ok-push_str-in-NotWord.ensures.bytes)
