-- The bytes of the string that a buffer holds. This project's own.
use Rattle.std.specs.Prelude.{ℕ, List, string_bytes}
use Rattle.jsonb.specs.declared.buffer.JsonbBuffer.{JsonbBuffer}

abbrev pub buffer_bytes : JsonbBuffer → List ℕ
buffer_bytes b = string_bytes b.text
