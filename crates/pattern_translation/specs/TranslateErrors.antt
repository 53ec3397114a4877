-- When each refusal of a translation is answered. This project's own.
use Rattle.std.specs.Prelude.{◌≡◌, true, Some}
use Rattle.pattern_model.specs.Text.{Text}
use Rattle.pattern_model.specs.Tree.{Tree}
use Rattle.pattern_model.specs.Grammar.{Grammar}
use Rattle.pattern_translation.specs.declared.translate_error.TranslateError.{TranslateError}
use Rattle.pattern_translation.specs.declared.translate_error.TranslateError.TheVariants as errors
use Rattle.rust_pattern_model.specs.Refusals.{Refusal, refusal}

-- a text of the widened grammar, of which this is the first cause that stands
abbrev pub RefusedFor : Refusal → Text → Type 0
RefusedFor r x = (t : Tree) × Grammar true x t × (refusal x t ≡ Some r)

abbrev pub IsCause : TranslateError → Text → Type 0
IsCause errors.Invalid x = (t : Tree) → Grammar true x t → ⊥
IsCause errors.LookAround x = RefusedFor Refusal.look_around x
IsCause errors.BackReference x = RefusedFor Refusal.back_reference x
IsCause errors.Unsupported x = RefusedFor Refusal.unsupported x
IsCause errors.OutOfMemory x = Unit {0}
