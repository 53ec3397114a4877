use Rattle.std.proofs.Common.{◌≡◌, refl, arith}
use Rattle.jsonb.proofs.HexTexts.{hex_or_not, one_first, sized_hex, sized_tells}
use Rattle.jsonb.proofs.encode.hex_text.decode_even.Goals as goal

pub returns-in-Ok-clause-ok : goal.returns-in-Ok-clause-ok
returns-in-Ok-clause-ok c = sized_hex _ _ _ c.decode_to_slice.result c.requires c.decode_to_slice.ensures.value c.in-Ok.is

pub returns-in-Ok-clause-refuses : goal.returns-in-Ok-clause-refuses
returns-in-Ok-clause-refuses c = λ place first.
    let hex = sized_hex _ _ _ c.decode_to_slice.result c.requires c.decode_to_slice.ensures.value c.in-Ok.is in
    absurd (hex_or_not _ _ place hex first)

pub returns-in-Err-InvalidHexCharacter-clause-not_hex : goal.returns-in-Err-InvalidHexCharacter-clause-not_hex
returns-in-Err-InvalidHexCharacter-clause-not_hex c =
    let told = sized_tells _ _ _ c.decode_to_slice.result _ c.requires c.decode_to_slice.ensures.value c.in-Err-InvalidHexCharacter.is in
    (_, refl, rw c.in-Err-InvalidHexCharacter.field-0-is at told.0)

pub returns-in-Err-InvalidHexCharacter-clause-accepts : goal.returns-in-Err-InvalidHexCharacter-clause-accepts
returns-in-Err-InvalidHexCharacter-clause-accepts c = λ bytes hex.
    let told = sized_tells _ _ _ c.decode_to_slice.result _ c.requires c.decode_to_slice.ensures.value c.in-Err-InvalidHexCharacter.is in
    let found = rw c.in-Err-InvalidHexCharacter.field-0-is at told.0 in
    absurd (hex_or_not _ bytes _ hex found)

pub returns-in-Err-InvalidHexCharacter-clause-refuses : goal.returns-in-Err-InvalidHexCharacter-clause-refuses
returns-in-Err-InvalidHexCharacter-clause-refuses c = λ place first.
    let told = sized_tells _ _ _ c.decode_to_slice.result _ c.requires c.decode_to_slice.ensures.value c.in-Err-InvalidHexCharacter.is in
    let found = rw c.in-Err-InvalidHexCharacter.field-0-is at told.0 in
    let same : c.in-Err-InvalidHexCharacter.index ≡ place = one_first _ _ place found first in
    cc

pub unreachable-requires : goal.unreachable-requires
unreachable-requires c =
    let told = sized_tells _ _ _ c.decode_to_slice.result _ c.requires c.decode_to_slice.ensures.value c.in-Err-OddLength.is in
    let odd = rw c.in-Err-OddLength.field-0-is at told.0 in
    let even = c.requires in
    omega (arith, odd, even)

pub unreachable-requires-in-Err-InvalidStringLength : goal.unreachable-requires-in-Err-InvalidStringLength
unreachable-requires-in-Err-InvalidStringLength c =
    let told = sized_tells _ _ _ c.decode_to_slice.result _ c.requires c.decode_to_slice.ensures.value c.in-Err-InvalidStringLength.is in
    rw c.in-Err-InvalidStringLength.field-0-is at told.0

pub unreachable-requires-in-Err-OutOfMemory : goal.unreachable-requires-in-Err-OutOfMemory
unreachable-requires-in-Err-OutOfMemory c =
    let told = sized_tells _ _ _ c.decode_to_slice.result _ c.requires c.decode_to_slice.ensures.value c.in-Err-OutOfMemory.is in
    told.1 c.in-Err-OutOfMemory.field-0-is
