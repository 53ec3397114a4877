-- The causes of refusal in memory.
use Rattle.pattern_translation.specs.declared.refusal.Cause as rust
use Rattle.pattern_translation.specs.declared.refusal.Cause.TheVariants as causes
use Rattle.rust_pattern_model.specs.Refusals.{Refusal, look_around, back_reference, unsupported}

abbrev pub cause_of : rust.Cause → Refusal
cause_of causes.LookAround = look_around
cause_of causes.BackReference = back_reference
cause_of causes.Unsupported = unsupported
