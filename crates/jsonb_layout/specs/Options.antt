-- Words for definitions that may have no value. This project's own.
use Rattle.std.specs.Prelude.{Bool, Option, Some, None, if◌then◌else◌}

-- a value, and then what f makes of it
infixl 10 ◌>>=◌
abbrev pub ◌>>=◌ : {A B : Type 0} → Option A → (A → Option B) → Option B
(Some x) >>= f = f x
None >>= f = None

-- a value, where the test is true
abbrev pub only_if : {A : Type 0} → Bool → Option A → Option A
only_if b r = if b then r else None
