use Rattle.std.proofs.Common.{List, map, take}
use Rattle.std.specs.Prelude.{string_bytes}
use Rattle.json_model.specs.Decimal.{Decimal}
use Rattle.jsonb_encode.specs.Literals.{AreNumerals}
use Rattle.jsonb_encode.proofs.contents.check_texts.Given as goal

abbrev pub invariant-loop-index : goal.invariant-loop-index
invariant-loop-index l = (ws : List Decimal) × AreNumerals l.form (take l.index (map string_bytes l.texts)) ws
