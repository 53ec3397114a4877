use Rattle.std.proofs.Common.{sym, subst, arith}
use Rattle.jsonb_layout.specs.Stands.{Stands}
use Rattle.jsonb.specs.Nested.{nested_arrays}
use Rattle.jsonb.proofs.Nestings.{nested_stands}
use Rattle.jsonb.proofs.encode.container.encode_nested_arrays.Goals as goal

pub returns-in-Ok-clause-stands : goal.returns-in-Ok-clause-stands
returns-in-Ok-clause-stands c = subst (λ b. Stands b (nested_arrays c.args.depth)) (sym c.in-Ok.ensures) (nested_stands c.args.depth (omega arith))
