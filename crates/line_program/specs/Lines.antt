-- The lines of a text of bytes: each ends with the byte 0x0A, but maybe the last. This project's own.
use Rattle.std.specs.Prelude.{◌≢◌, ℕ, ◌^◌, ◌≤◌, ◌==◌, if◌then◌else◌, List, [], ◌∷◌, ◌++◌, length}

-- a byte in front of the first line
abbrev pub onto_first : ℕ → List (List ℕ) → List (List ℕ)
onto_first byte [] = (byte ∷ []) ∷ []
onto_first byte (line ∷ lines) = (byte ∷ line) ∷ lines

-- the parts before each byte 0x0A, and the part after the last where that is not empty
abbrev pub lines_of : List ℕ → List (List ℕ)
lines_of [] = []
lines_of (byte ∷ text) = if byte == 10 then [] ∷ lines_of text else onto_first byte (lines_of text)

-- no byte of the text is this one
abbrev pub Lacks : ℕ → List ℕ → Type 0
Lacks byte [] = Unit {0}
Lacks byte (first ∷ text) = (first ≢ byte) × Lacks byte text

-- a text with no end of a line
abbrev pub IsOneLine : List ℕ → Type 0
IsOneLine text = Lacks 10 text

abbrev pub AreLines : List (List ℕ) → Type 0
AreLines [] = Unit {0}
AreLines (line ∷ lines) = IsOneLine line × AreLines lines

-- no line has more than 2^24 bytes, its end not counted
abbrev pub AreShort : List (List ℕ) → Type 0
AreShort [] = Unit {0}
AreShort (line ∷ lines) = (length line ≤ 2 ^ 24) × AreShort lines

-- these lines, each with its end, and then some text
abbrev pub text_of : List (List ℕ) → List ℕ → List ℕ
text_of [] after = after
text_of (line ∷ lines) after = line ++ 10 ∷ text_of lines after
