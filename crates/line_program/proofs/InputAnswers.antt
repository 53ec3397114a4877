-- Each input has one text of answers, where each line has one answer, and what a run wrote begins it.
use Rattle.std.proofs.Common.{◌≡◌, inl, inr, ℕ, List, [], ◌∷◌, ◌++◌, refl, sym, ap, ◌∙◌, subst, append_assoc, append-nil}
use Rattle.line_program.specs.Answers.{Answers}
use Rattle.line_program.specs.Lines.{lines_of}
use Rattle.line_program.specs.Ran.{Agrees, AnswersBefore, AnswersEnded, IsCutOff, StopsAt}
use Rattle.line_program.specs.declared.status.Status.{Status}
use Rattle.line_program.specs.declared.status.Status.TheVariants.{Done, BadWords, ReadFault, WriteFault, LineTooLong, InputTooLong, OutOfMemory}
use Rattle.line_program.proofs.Texts.{lines_of-text}

-- the text begins with this one
abbrev pub Begins : List ℕ → List ℕ → Type 0
Begins text whole = (rest : List ℕ) × (whole ≡ text ++ rest)

module _ (A : List ℕ → List ℕ → Type 0) where
  -- where each line has an answer, lines have a text of answers
  pub some_text : ((line : List ℕ) → (answer : List ℕ) × A line answer) → (lines : List (List ℕ)) → (text : List ℕ) × Answers A lines text
  some_text some [] = ([], refl)
  some_text some (line ∷ lines) =
      let answer = some line in
      let rest = some_text some lines in
      (answer.0 ++ 10 ∷ rest.0, (answer.0, rest.0, answer.1, rest.1, refl))

  -- answers to lines and to more lines are answers to the lines, and answers to the others
  answers_parts : (ls ms : List (List ℕ)) (text : List ℕ) → Answers A (ls ++ ms) text
      → (x : List ℕ) × (y : List ℕ) × Answers A ls x × Answers A ms y × (text ≡ x ++ y)
  answers_parts [] ms text h = ([], text, refl, h, refl)
  answers_parts (l ∷ ls) ms text h =
      let rest = answers_parts ls ms h.1 h.3 in (
        h.0 ++ 10 ∷ rest.0,
        rest.1,
        (h.0, rest.0, h.2, rest.2, refl),
        rest.3,
        h.4 ∙ ap (λ t. h.0 ++ 10 ∷ t) rest.4 ∙ sym (append_assoc h.0 (10 ∷ rest.0) rest.1),
      )

  module _ (one : (line a b : List ℕ) → A line a → A line b → a ≡ b) where
    -- where each line has one answer, lines have one text of answers
    pub one_text : (lines : List (List ℕ)) (s t : List ℕ) → Answers A lines s → Answers A lines t → s ≡ t
    one_text [] s t h g = h ∙ sym g
    one_text (line ∷ lines) s t h g =
        let answer = one line h.0 g.0 h.2 g.2 in
        let rest = one_text lines h.1 g.1 h.3 g.3 in
        h.4 ∙ ap (λ x. x ++ 10 ∷ h.1) answer ∙ ap (λ x. g.0 ++ 10 ∷ x) rest ∙ sym g.4

    -- answers to the first lines begin the answers to all
    front_begins : (lines front back : List (List ℕ)) (text whole : List ℕ) → lines ≡ front ++ back → Answers A front text
        → Answers A lines whole → Begins text whole
    front_begins lines front back text whole parts h g =
        let both = answers_parts front back whole (subst (λ ls. Answers A ls whole) parts g) in
        (both.1, both.4 ∙ ap (λ t. t ++ both.1) (one_text front both.0 text both.2 h))

    ended_begins : (taken text whole : List ℕ) → AnswersEnded A taken text → Answers A (lines_of taken) whole → Begins text whole
    ended_begins taken text whole h g =
        let parts = ap lines_of h.parts ∙ lines_of-text h.ended h.open_line h.lines in
        front_begins (lines_of taken) h.ended (lines_of h.open_line) text whole parts h.answers g

    cut_begins : (line begun : List ℕ) (others : List (List ℕ)) (whole : List ℕ) → IsCutOff A line begun
        → Answers A (line ∷ others) whole → Begins begun whole
    cut_begins line begun others whole h g =
        let same = one line g.0 h.answer g.2 h.right in
        let first : g.0 ++ 10 ∷ g.1 ≡ (h.answer ++ 10 ∷ []) ++ g.1 =
        ap (λ x. x ++ 10 ∷ g.1) same ∙ sym (append_assoc h.answer (10 ∷ []) g.1) in
        (h.missing ++ g.1, g.4 ∙ first ∙ ap (λ t. t ++ g.1) h.parts ∙ append_assoc begun h.missing g.1)

    none_begins : (begun whole : List ℕ) → begun ≡ [] → Begins begun whole
    none_begins begun whole e = (whole, rw e refl)

    stop_begins : (status : Status) (line begun : List ℕ) (others : List (List ℕ)) (whole : List ℕ) → StopsAt A status line begun
        → Answers A (line ∷ others) whole → Begins begun whole
    stop_begins Done line begun others whole h g = absurd h
    stop_begins BadWords line begun others whole h g = absurd h
    stop_begins ReadFault line begun others whole h g = absurd h
    stop_begins InputTooLong line begun others whole h g = absurd h
    stop_begins LineTooLong line begun others whole h g = none_begins begun whole h.1
    stop_begins WriteFault line begun others whole h g = cut_begins line begun others whole h.1 g
    stop_begins OutOfMemory line begun others whole h g = elim h.1 [
      | inl none ↦ none_begins begun whole none
      | inr cut ↦ cut_begins line begun others whole cut g
    ]

    before_begins : (status : Status) (taken text whole : List ℕ) → AnswersBefore A status taken text
        → Answers A (lines_of taken) whole → Begins text whole
    before_begins status taken text whole h g =
        let both = answers_parts h.front (h.line ∷ h.others) whole (subst (λ ls. Answers A ls whole) h.parts g) in
        let answered = one_text h.front both.0 h.answered both.2 h.answers in
        let begun = stop_begins status h.line h.begun h.others both.1 h.stops both.3 in
        let whole_parts : whole ≡ h.answered ++ (h.begun ++ begun.0) =
        both.4 ∙ ap (λ t. t ++ both.1) answered ∙ ap (λ t. h.answered ++ t) begun.1 in
        (begun.0, whole_parts ∙ sym (append_assoc h.answered h.begun begun.0) ∙ ap (λ t. t ++ begun.0) (sym h.text_parts))

    -- what a run wrote begins the answers to what it took
    pub agrees_begins : (status : Status) (taken text whole : List ℕ) → Agrees A status taken text
        → Answers A (lines_of taken) whole → Begins text whole
    agrees_begins Done taken text whole h g =
        ([], one_text (lines_of taken) whole text g h.answers ∙ sym (append-nil text))
    agrees_begins BadWords taken text whole h g = absurd h
    agrees_begins ReadFault taken text whole h g = ended_begins taken text whole h g
    agrees_begins InputTooLong taken text whole h g = ended_begins taken text whole h.1 g
    agrees_begins WriteFault taken text whole h g = before_begins WriteFault taken text whole h g
    agrees_begins LineTooLong taken text whole h g = before_begins LineTooLong taken text whole h g
    agrees_begins OutOfMemory taken text whole h g = before_begins OutOfMemory taken text whole h g
