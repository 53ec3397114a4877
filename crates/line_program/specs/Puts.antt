-- How much of a piece was written. This project's own.
use Rattle.std.specs.Prelude.{◌≡◌, ℕ, ◌<◌, List, [], ◌++◌, length, Result, OnOk, OnErr}
use Rattle.std.specs.declared.option.Option.{Option}
use Rattle.std.specs.Io.KnownBytes.{Appends}

-- a front of the piece was written, all of it at Ok and not all at an error
pub record Puts {T E : Type 0} (before now : Option (List ℕ)) (piece : List ℕ) (result : Result T E) : Type 0 where
  pub front : List ℕ
  pub back : List ℕ
  pub parts : piece ≡ front ++ back
  pub appends : Appends before now front
  pub all : OnOk result (back ≡ [])
  pub missing : OnErr result (0 < length back)
