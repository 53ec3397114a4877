use Rattle.std.proofs.Common.{◌≡◌}
use Rattle.std.specs.Prelude.{◌⊎◌}
use Rattle.json_exact.specs.Trees.{tree}
use Rattle.jsonb_encode.specs.Limits.{all_fit}
use Rattle.jsonb_encode.specs.declared.error.EncodeError.TheVariants.{TooLarge, OutOfMemory}
use Rattle.jsonb_encode.specs.declared.number_form.NumericForm.TheVariants.{Short}
use Rattle.jsonb_encode.proofs.Roots.{short_always, no_misfit}
use Rattle.jsonb_encode.proofs.encoding.encode.Goals as goal

pub returns-clause-causes : goal.returns-clause-causes
returns-clause-causes c =
    let t = tree c.args.value.now in
    no_misfit c.encode_with.result (all_fit Short t) (λ e. (e ≡ TooLarge) ⊎ (e ≡ OutOfMemory)) (short_always t)
    c.encode_with.ensures.does_not_fit c.encode_with.ensures.causes
