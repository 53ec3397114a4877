-- The number of want of memory is that of want of memory alone.
use Rattle.std.proofs.Common.{◌≡◌, true, false, refl, ◌∙◌, sym}
use Rattle.std.specs.Prelude.{Ok, Err}
use Rattle.flat_keywords.specs.Right.{Answer}
use Rattle.flat_keywords.specs.declared.errors.Fault.TheVariants.{Malformed, NotText, NumberTooWide}
use Rattle.flat_keywords.specs.declared.errors.JudgeError.TheVariants.{Keywords, NotAnObject, UnknownKeyword, BadKeyword, BadPattern, PatternNotLiteral, TooDeep, Document, OutOfMemory}
use Rattle.judge_c.specs.Answers.{IsGiven, code_of}
use Rattle.judge_c.specs.Codes.{out_of_memory}
use Rattle.judge_c.specs.declared.answer.JudgeAnswer.{JudgeAnswer}

-- an answer with the number of want of memory is want of memory
pub memory_alone : (r : Answer) → code_of r ≡ out_of_memory → r ≡ Err OutOfMemory
memory_alone (Ok false) h = absurd cc
memory_alone (Ok true) h = absurd cc
memory_alone (Err (Keywords Malformed)) h = absurd cc
memory_alone (Err (Keywords NotText)) h = absurd cc
memory_alone (Err (Keywords NumberTooWide)) h = absurd cc
memory_alone (Err NotAnObject) h = absurd cc
memory_alone (Err (UnknownKeyword m)) h = absurd cc
memory_alone (Err (BadKeyword m)) h = absurd cc
memory_alone (Err (BadPattern m)) h = absurd cc
memory_alone (Err (PatternNotLiteral m)) h = absurd cc
memory_alone (Err (TooDeep m)) h = absurd cc
memory_alone (Err (Document Malformed)) h = absurd cc
memory_alone (Err (Document NotText)) h = absurd cc
memory_alone (Err (Document NumberTooWide)) h = absurd cc
memory_alone (Err OutOfMemory) h = refl

-- what is given for an answer has the number of want of memory only where the answer is want of memory
pub given_memory : (a : JudgeAnswer) (r : Answer) → IsGiven a r → a.code ≡ out_of_memory → r ≡ Err OutOfMemory
given_memory a r is h = memory_alone r (sym is.code ∙ h)
