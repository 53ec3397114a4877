use Rattle.std.proofs.Common.{refl, sym}
use Rattle.jsonb_encode.specs.Number.{header, is_short}
use Rattle.jsonb_encode.proofs.NumberStands.{narrow_fits}
use Rattle.jsonb_encode.proofs.laws.narrow_numbers_fit.Goals as goal

pub returns : goal.returns
returns c = λ d narrow. sym (narrow_fits d (is_short (header d)) narrow refl)
