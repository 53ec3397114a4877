-- The exit codes of a run. This project's own.
use Rattle.std.specs.Prelude.{ℕ}
use Rattle.line_program.specs.declared.status.Status.{Status}
use Rattle.line_program.specs.declared.status.Status.TheVariants.{Done, BadWords, ReadFault, WriteFault, LineTooLong, InputTooLong, OutOfMemory}

abbrev pub code_of : Status → ℕ
code_of Done = 0
code_of BadWords = 2
code_of ReadFault = 3
code_of WriteFault = 4
code_of LineTooLong = 5
code_of InputTooLong = 6
code_of OutOfMemory = 7
