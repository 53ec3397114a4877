-- What answers lines. This project's own.
use Rattle.std.specs.Prelude.{◌≡◌, ℕ, List, [], ◌∷◌, ◌++◌}

-- the text is the line's answer and the end of a line
pub record AnswersOne (IsAnswer : List ℕ → List ℕ → Type 0) (line text : List ℕ) : Type 0 where
  pub answer : List ℕ
  pub right : IsAnswer line answer
  pub is : text ≡ answer ++ 10 ∷ []

-- the text is an answer to each of the lines, in their order, each with the end of a line
abbrev pub Answers : (List ℕ → List ℕ → Type 0) → List (List ℕ) → List ℕ → Type 0
Answers IsAnswer [] text = text ≡ []
Answers IsAnswer (line ∷ lines) text =
    (answer : List ℕ) × (rest : List ℕ) × IsAnswer line answer × Answers IsAnswer lines rest
    × (text ≡ answer ++ 10 ∷ rest)
