use Rattle.std.proofs.Common.{◌≡◌, Err, ap, ◌∙◌}
use Rattle.jsonb.specs.declared.encode.hex_text.HexError.TheVariants.{NotHex}
use Rattle.jsonb.proofs.encode.hex_text.decode_hex.Goals as goal

pub returns-in-Err-clause-not_hex : goal.returns-in-Err-clause-not_hex
returns-in-Err-clause-not_hex c = λ place is.
    let same : c.in-Err.error ≡ NotHex place = cc in
    let found = c.decode_hex_into.ensures.not_hex place (c.in-Err.is ∙ ap Err same) in
    rw c.as_bytes.ensures.value at found
