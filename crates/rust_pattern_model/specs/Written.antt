-- What is written for one escape, code point or class atom in the pattern syntax of Rust (the documentation of the crate `regex`,
-- section "Syntax"). Which of the texts of that syntax is written is this project's own. What no row names is copied.
use Rattle.std.specs.Prelude.{ℕ, ◌%◌, Bool, ◌&&◌, ◌||◌, [], ◌∷◌, ◌++◌, drop, codes, if◌then◌else◌}
use Rattle.pattern_model.specs.Text.{Text, is_at}
use Rattle.pattern_model.specs.Classes.{Atom}
use Rattle.pattern_model.specs.Tree.{Escape}

-- white space and the ends of lines, as ranges
abbrev pub spaces : Text
spaces =
    codes "\\x{9}-\\x{d}\\x{20}-\\x{20}\\x{a0}-\\x{a0}\\x{1680}-\\x{1680}\\x{2000}-\\x{200a}"
    ++ codes "\\x{2028}-\\x{2029}\\x{202f}-\\x{202f}\\x{205f}-\\x{205f}\\x{3000}-\\x{3000}\\x{feff}-\\x{feff}"

-- the class escapes, in a class or outside
abbrev pub escape_written : Escape → Text
escape_written Escape.digit = codes "[0-9]"
escape_written Escape.not_digit = codes "[^0-9]"
escape_written Escape.word = codes "[A-Za-z0-9_]"
escape_written Escape.not_word = codes "[^A-Za-z0-9_]"
escape_written Escape.space = codes "[" ++ (spaces ++ codes "]")
escape_written Escape.not_space = codes "[^" ++ (spaces ++ codes "]")

-- the text begins with a backslash and this character
abbrev pub is_escape : ℕ → Text → Bool
is_escape d x = is_at 92 x && is_at d (drop 1 x)

-- the control character of a letter, with which the text begins
abbrev pub control_of : Text → Text
control_of [] = []
control_of (c ∷ x) = (c % 32) ∷ []

-- A code point, in a class or outside. The source goes on with x, of which `own` is the part that stands for the code point.
abbrev pub code_written : Text → Text → Text
code_written x own =
    if is_escape 99 x then control_of (drop 2 x)
    else if is_escape 48 x then codes "\\x00"
    else if is_escape 60 x then codes "<"
    else if is_escape 62 x then codes ">"
    else own

-- Two places in a class: `before` begins with what is directly before a character, if anything is, and `next` with what is directly
-- behind it. The same plain character stands beside it; in a class `&` and `~` are plain, but for `\&` and `\~`.
abbrev pub has_same_beside : ℕ → Text → Text → Bool
has_same_beside c before next = is_at c before || is_at c next

-- A hyphen stands beside it: `-` or `\-` before it, or `-` behind it.
abbrev pub has_hyphen_beside : Text → Text → Bool
has_hyphen_beside before next = is_at 45 before || (is_escape 45 before || is_at 45 next)

-- A plain character of a class, with which x begins, gets a backslash: `[`; `&` and `~` beside the same; and `-` beside a hyphen.
abbrev pub gets_backslash : Text → Text → Text → Bool
gets_backslash before x next =
    is_at 91 x
    || ((is_at 38 x && has_same_beside 38 before next)
    || ((is_at 126 x && has_same_beside 126 before next)
    || (is_at 45 x && has_hyphen_beside before next)))

-- an atom of a class
abbrev pub atom_written : Text → Atom → Text → Text → Text → Text
atom_written before (Atom.escape e) x own next = escape_written e
atom_written before (Atom.property negated) x own next = own
atom_written before (Atom.code c) x own next = if gets_backslash before x next then 92 ∷ own else code_written x own
