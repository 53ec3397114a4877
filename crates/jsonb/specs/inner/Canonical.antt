-- What the look at the canonical form has still to do: containers that were entered, each with the values that are left of it.
use Rattle.std.specs.Prelude.{ℕ, ◌+◌, ◌<◌, ◌≤◌, Bool, true, false, List, [], ◌∷◌, length, ◌↔◌}
use Rattle.std.specs.List.{AllByRecursion}
use Rattle.jsonb_layout.specs.Seats.{Seat}
use Rattle.jsonb_encode.specs.Canonical.{HasCanonicalBytes, AllHaveCanonicalBytes}
use Rattle.jsonb.specs.Seated.{seats_left}
use Rattle.jsonb.specs.declared.cursor.Cursor.{Cursor}

abbrev pub IsLeftCanonical : Cursor → Type 0
IsLeftCanonical c = AllHaveCanonicalBytes (seats_left c)

abbrev pub AreLeftCanonical : List Cursor → Type 0
AreLeftCanonical cs = AllByRecursion IsLeftCanonical cs

-- ---- how much is left to do

abbrev pub seats_weight : List Seat → ℕ
seats_weight [] = 0
seats_weight (s ∷ cs) = 2 + length s.bytes + seats_weight cs

abbrev pub cursor_weight : Cursor → ℕ
cursor_weight c = 1 + seats_weight (seats_left c)

abbrev pub pending_weight : List Cursor → ℕ
pending_weight [] = 0
pending_weight (c ∷ cs) = cursor_weight c + pending_weight cs

-- ---- what code answers

-- A value was looked at: what is in it is put behind what was pending. No: it is not canonical.
abbrev pub Looked : Seat → List Cursor → List Cursor → Bool → Type 0
Looked s old new true =
    ((HasCanonicalBytes s × AreLeftCanonical old) ↔ AreLeftCanonical new) × (pending_weight new ≤ length s.bytes + pending_weight old)
Looked s old new false = HasCanonicalBytes s → ⊥

-- The next of some values was looked at.
abbrev pub Advanced : Cursor → List Cursor → List Cursor → Bool → Type 0
Advanced c old new true =
    ((IsLeftCanonical c × AreLeftCanonical old) ↔ AreLeftCanonical new) × (pending_weight new < cursor_weight c + pending_weight old)
Advanced c old new false = IsLeftCanonical c → ⊥
