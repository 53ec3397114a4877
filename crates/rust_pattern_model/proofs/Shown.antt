-- How a code point is written for Rust.
use Rattle.std.specs.Prelude.{◌≡◌, ℕ, Bool, true, ◌||◌, ◌==◌, nat_lt, [], ◌∷◌, ◌++◌, Some}
use Rattle.pattern_model.specs.Text.{Text}
use Rattle.rust_pattern_model.specs.RustClasses.{escape}

-- a control character, `<` or `>`
abbrev pub is_quiet : ℕ → Bool
is_quiet c = nat_lt c 32 || (c == 60 || c == 62)

-- the text is an escape that stands for the code point, whatever follows it; or the code point itself, which is quiet
pub data Shown (c : ℕ) (w : Text) : Type 0 where
  behind : (v : Text) → w ≡ 92 ∷ v → ((rest : Text) → escape (v ++ rest) ≡ Some (c, rest)) → Shown c w
  itself : w ≡ c ∷ [] → is_quiet c ≡ true → Shown c w
