-- When a source or a sink fails. This project's own.
use Rattle.std.specs.Prelude.{◌≡◌, ◌≢◌, ℕ, ◌+◌, ◌-◌, ◌^◌, ◌≤◌, min, Result, OnOk, OnErr, IfErr, IsErrOf}
use Rattle.line_program.specs.declared.status.Status.{Status}
use Rattle.line_program.specs.declared.stream.SinkError.{SinkError}
use Rattle.line_program.specs.declared.stream.SinkError.TheVariants.{Failed, OutOfMemory}

-- a count of faults is greater now, or stands at the last value of a counter of 64 bits
abbrev pub Rose : ℕ → ℕ → Type 0
Rose before now = min (before + 1) (2 ^ 64 - 1) ≤ now

-- the count does not fall, and an error comes only where it rose
pub record HasCause {T E : Type 0} (before now : ℕ) (result : Result T E) : Type 0 where
  pub later : before ≤ now
  pub failed : OnErr result (Rose before now)

-- the same for a sink, whose want of memory is no fault
pub record SinkHasCause {T : Type 0} (before now : ℕ) (result : Result T SinkError) : Type 0 where
  pub later : before ≤ now
  pub failed : IsErrOf result Failed → Rose before now
  pub memory : IsErrOf result OutOfMemory → now ≡ before

-- ---- streams that count each failure

-- one more, until a counter of 64 bits stands at its last value
abbrev pub IsOneMore : ℕ → ℕ → Type 0
IsOneMore before now = now ≡ min (before + 1) (2 ^ 64 - 1)

-- the count is one more at an error, and the same at Ok
pub record CountsEach {T E : Type 0} (before now : ℕ) (result : Result T E) : Type 0 where
  pub kept : OnOk result (now ≡ before)
  pub one : OnErr result (IsOneMore before now)

-- the same for a sink, whose want of memory is no fault
pub record SinkCountsEach {T : Type 0} (before now : ℕ) (result : Result T SinkError) : Type 0 where
  pub kept : OnOk result (now ≡ before)
  pub memory : IsErrOf result OutOfMemory → now ≡ before
  pub one : IsErrOf result Failed → IsOneMore before now

-- the count after a run is one more at this fault, and the same at every other status
pub record CountsOnce (fault : Status) (before now : ℕ) (status : Status) : Type 0 where
  pub one : status ≡ fault → IsOneMore before now
  pub kept : (status ≢ fault) → now ≡ before

-- the same of a step of a run
pub record StepCountsOnce {T : Type 0} (fault : Status) (before now : ℕ) (result : Result T Status) : Type 0 where
  pub ok : OnOk result (now ≡ before)
  pub error : IfErr result (CountsOnce fault before now)
