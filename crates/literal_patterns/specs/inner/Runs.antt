-- All the literals that a text begins with.
use Rattle.std.specs.Prelude.{ℕ}
use Rattle.pattern_model.specs.Text.{Text}
use Rattle.pattern_model.specs.Literals.{Literal, Literals}

-- no literal stands here
abbrev pub Stops : Text → Type 0
Stops x = (c : ℕ) (y : Text) → Literal x c y → ⊥

-- x is literals that stand for w, and then y, where no literal stands
abbrev pub Run : Text → Text → Text → Type 0
Run x w y = Literals x w y × Stops y
