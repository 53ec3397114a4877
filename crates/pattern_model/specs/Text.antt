-- Texts as code points, and parts that stand one after another. This project's own.
-- Each reading function reads from the beginning of a text, and gives what it read and what follows; none where there is nothing.
use Rattle.std.specs.Prelude.{Bool, List, None, Option, Some, [], drop, false, if◌then◌else◌, length, option_and_then, option_map, suc, zero, ℕ, ◌++◌, ◌<◌, ◌==◌, ◌∷◌, ◌≡◌}

-- code points
abbrev pub Text : Type 0
Text = List ℕ

abbrev pub is_at : ℕ → Text → Bool
is_at c [] = false
is_at c (d ∷ x) = d == c

-- Parts one after another, up to a place where they stop. Each takes a character, and the number bounds them.
abbrev pub with_front : {A : Type 0} → List A → Option (List A × Text) → Option (List A × Text)
with_front xs r = option_map (λ p. (xs ++ p.0, p.1)) r

abbrev pub many_in : {A : Type 0} → (Text → Bool) → (Text → Option (List A × Text)) → ℕ → Text → Option (List A × Text)
many_in stop one zero x = None
many_in stop one (suc n) x = if stop x then Some ([], x) else option_and_then (λ p. with_front p.0 (many_in stop one n p.1)) (one x)

unfoldable pub many : {A : Type 0} → (Text → Bool) → (Text → Option (List A × Text)) → Text → Option (List A × Text)
many stop one x = many_in stop one (suc (length x)) x

-- what follows the character, if it stands here
abbrev pub past : ℕ → Text → Option Text
past c x = if is_at c x then Some (drop 1 x) else None

-- each call takes a character at least
abbrev pub Shrinks : {A : Type 0} → (Text → Option (A × Text)) → Type 0
Shrinks {A} one = (x : Text) (p : A × Text) → one x ≡ Some p → length p.1 < length x
