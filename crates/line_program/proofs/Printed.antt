-- What is printed of an answer.
use Rattle.std.proofs.Common.{Bor, ◌≡◌, ◌⊎◌, inl, inr, ℕ, List, [], ◌∷◌, ◌++◌, Option, Some, None, Result, Ok, Err, refl, ap, ◌∙◌, subst}
use Rattle.std.specs.Prelude.{IfOk, IsNone, IsSomeAnd, MatchOption}
use Rattle.std.specs.Result.{result_ok}
use Rattle.line_program.specs.Answers.{AnswersOne}

-- the name of an answer and the end of a line, or nothing where it has no name
abbrev pub Printed : Option (List ℕ) → Option (Bor (List ℕ)) → Type 0
Printed name o = MatchOption name (IsNone o) (λ n. IsSomeAnd o (λ t. t.now ≡ n ++ 10 ∷ []))

-- of some answers one is want of memory, and has no name; the name of each right one answers the line
module _ {V : Type 0} (name_of : V → Option (List ℕ)) (memory : V) (IsRight : V → Type 0) (IsAnswer : List ℕ → List ℕ → Type 0)
    (line : List ℕ) (silent : name_of memory ≡ None)
    (answers : (v : V) (name : List ℕ) → IsRight v → name_of v ≡ Some name → IsAnswer line name) where
  no_name : (v : V) (name : List ℕ) → v ≡ memory → name_of v ≡ Some name → ⊥
  no_name v name is named = let none : name_of v ≡ None = ap name_of is ∙ silent in cc

  named_answer : (v : V) (name text : List ℕ) → (v ≡ memory) ⊎ IsRight v → name_of v ≡ Some name → text ≡ name ++ 10 ∷ []
      → AnswersOne IsAnswer line text
  named_answer v name text (inl is) named e = absurd (no_name v name is named)
  named_answer v name text (inr right) named e = record { answer = name; right = answers v name right named; is = e }

  printed_name : (v : V) (name : Option (List ℕ)) (text : Bor (List ℕ)) → (v ≡ memory) ⊎ IsRight v → name_of v ≡ name
      → Printed name (Some text) → AnswersOne IsAnswer line text.now
  printed_name v None text right named h = cc
  printed_name v (Some name) text right named h = named_answer v name text.now right named h

  printed_text : (v : V) (o : Option (Bor (List ℕ))) (text : Bor (List ℕ)) → (v ≡ memory) ⊎ IsRight v → Printed (name_of v) o
      → o ≡ Some text → AnswersOne IsAnswer line text.now
  printed_text v o text right printed e =
      printed_name v (name_of v) text right refl (subst (λ p. Printed (name_of v) p) e printed)

  -- what is printed of a right answer answers the line
  pub printed_answer : {E : Type 0} (v : V) (o : Option (Bor (List ℕ))) (result : Result (Bor (List ℕ)) E) → (v ≡ memory) ⊎ IsRight v
      → Printed (name_of v) o → o ≡ result_ok result → IfOk result (λ text. AnswersOne IsAnswer line text.now)
  printed_answer v o (Ok text) right printed e = printed_text v o text right printed e
  printed_answer v o (Err error) right printed e = tt
