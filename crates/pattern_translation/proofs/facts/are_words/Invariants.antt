use Rattle.std.proofs.Common.{◌≡◌, true, take}
use Rattle.std.specs.List.{list_all}
use Rattle.pattern_model.specs.Properties.{is_word}
use Rattle.pattern_translation.proofs.facts.are_words.Given as goal

abbrev pub invariant-loop-byte : goal.invariant-loop-byte
invariant-loop-byte l = list_all is_word (take l.byte-index l.bytes) ≡ true
