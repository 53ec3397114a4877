-- What the code reads of the words of a command line. This project's own.
use Rattle.std.specs.Prelude.{◌≡◌, ◌≢◌, ◌≤◌, ℕ, List, slice_index, decimal, MatchOption}
use Rattle.std.specs.declared.option.Option.{Option}
use Rattle.judge.specs.Words.{AreGood, IsCheck, IsCheck4, IsEncode, IsMake}
use Rattle.judge.specs.declared.words.Request.{Request}
use Rattle.judge.specs.declared.words.Request.TheVariants.{Check, Check4, Encode, Make}

-- the words ask for the command
abbrev pub Asks : List (List ℕ) → Request → Type 0
Asks words Check = IsCheck words
Asks words Check4 = IsCheck4 words
Asks words Encode = IsEncode words
Asks words (Make count) = IsMake words count

-- the words ask for this, or for nothing
abbrev pub IsAsked : List (List ℕ) → Option Request → Type 0
IsAsked words request = MatchOption request (AreGood words → ⊥) (Asks words)

-- the word is a number that `make` takes
pub record IsPairs (word : List ℕ) (count : ℕ) : Type 0 where
  pub is : word ≡ decimal count
  pub some : 1 ≤ count
  pub most : count ≤ 100000

abbrev pub IsCount : List ℕ → Option ℕ → Type 0
IsCount word count = MatchOption count ((n : ℕ) → IsPairs word n → ⊥) (IsPairs word)

-- the word begins neither with 0 nor with a sign
abbrev pub IsBare : List ℕ → Type 0
IsBare word = (slice_index word 0 ≢ 48) × (slice_index word 0 ≢ 43)
