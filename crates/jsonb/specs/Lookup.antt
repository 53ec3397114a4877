-- The bytes of a prepared key's name. This project's own.
use Rattle.std.specs.Prelude.{ℕ, List, string_bytes}
use Rattle.jsonb.specs.declared.key.JsonbKey.{JsonbKey}

abbrev pub key_name : JsonbKey → List ℕ
key_name k = string_bytes k.name
