-- The numbers of the answers that C gets, as far as keywords and schemas share them. A number stands for one answer for good. This
-- project's own.
use Rattle.std.specs.Prelude.{ℕ, Bool, true, false}
use Rattle.flat_keywords.specs.declared.errors.Fault.{Fault}
use Rattle.flat_keywords.specs.declared.errors.Fault.TheVariants.{Malformed, NotText, NumberTooWide}

-- a verdict
abbrev pub verdict_code : Bool → ℕ
verdict_code false = 0
verdict_code true = 1

-- why a member is refused
abbrev pub unknown_keyword : ℕ
unknown_keyword = 6

abbrev pub bad_keyword : ℕ
bad_keyword = 7

abbrev pub bad_pattern : ℕ
bad_pattern = 8

abbrev pub pattern_not_literal : ℕ
pattern_not_literal = 9

-- what is wrong with the bytes of a document
abbrev pub document_code : Fault → ℕ
document_code Malformed = 11
document_code NotText = 12
document_code NumberTooWide = 13

abbrev pub out_of_memory : ℕ
out_of_memory = 14

-- two that are no answers of a document: offsets that do not fit, and documents that all have their codes
abbrev pub bad_offsets : ℕ
bad_offsets = 15

abbrev pub judged : ℕ
judged = 16
