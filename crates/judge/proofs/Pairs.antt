-- Which lines are pairs of hex texts.
use Rattle.std.proofs.Common.{Bor, ◌≡◌, ◌⊎◌, inl, ℕ, List, [], ◌∷◌, ◌++◌, Bool, Option, Result, Err, refl, sym, ◌∙◌, subst}
use Rattle.std.specs.Prelude.{IfOk}
use Rattle.std.specs.Result.{result_ok}
use Rattle.jsonb.specs.HexText.{IsHexText}
use Rattle.jsonb.proofs.HexTexts.{pair_no_space}
use Rattle.flat_keywords.specs.declared.draft.Draft.{Draft}
use Rattle.flat_keywords.specs.declared.errors.JudgeError.{JudgeError}
use Rattle.flat_keywords.specs.declared.errors.JudgeError.TheVariants.{OutOfMemory}
use Rattle.judge.specs.Answers.{IsPair, LineAnswerBy, name_of}
use Rattle.judge.specs.inner.KeptKeywords.{IsVerdictOnTexts}
use Rattle.line_program.specs.Answers.{AnswersOne}
use Rattle.line_program.specs.Lines.{Lacks}
use Rattle.flat_keywords.specs.Right.{RightBy}
use Rattle.line_program.proofs.Printed.{Printed, printed_answer}
use Rattle.line_program.proofs.Texts.{Lacks-cut, cut_once}

-- a hex text has no space
pub hex_lacks : (text bytes : List ℕ) → IsHexText text bytes → Lacks 32 text
hex_lacks [] bytes h = tt
hex_lacks (x ∷ []) [] h = absurd h
hex_lacks (x ∷ []) (b ∷ bytes) h = absurd h
hex_lacks (x ∷ y ∷ text) [] h = absurd h
hex_lacks (x ∷ y ∷ text) (b ∷ bytes) h =
    let no_space = pair_no_space x y b h.0 in
    (no_space.0, (no_space.1, hex_lacks text bytes h.1))

-- the parts of a pair are those around the first space
pub parts_once : (line first second k d : List ℕ) → line ≡ first ++ 32 ∷ second → Lacks 32 first → IsPair line k d
    → IsHexText first k × IsHexText second d
parts_once line first second k d e lacks pair =
    let same = cut_once 32 pair.first pair.second first second (hex_lacks pair.first k pair.keywords_text) lacks (sym pair.whole ∙ e) in
    (subst (λ t. IsHexText t k) same.0 pair.keywords_text, subst (λ t. IsHexText t d) same.1 pair.document_text)

-- a line with no space is no pair
pub no_parts : (line k d : List ℕ) → Lacks 32 line → IsPair line k d → ⊥
no_parts line k d lacks pair = Lacks-cut 32 pair.first pair.second (subst (λ t. Lacks 32 t) pair.whole lacks)

-- a line whose parts are not both hex texts is no pair
pub no_hex_parts : (line first second : List ℕ) → line ≡ first ++ 32 ∷ second → Lacks 32 first
    → ((k d : List ℕ) → IsHexText first k → IsHexText second d → ⊥) → (k d : List ℕ) → IsPair line k d → ⊥
no_hex_parts line first second e lacks none k d pair =
    let parts = parts_once line first second k d e lacks pair in
    none k d parts.0 parts.1

-- ---- the answer to a pair

-- a line of two hex texts is a pair
pub verdict_pair : (draft : Draft) (line first second : List ℕ) (verdict : Result Bool JudgeError) → line ≡ first ++ 32 ∷ second
    → (v : IsVerdictOnTexts draft first second verdict) → IsPair line v.verdict_on.keywords v.document
verdict_pair _ line first second verdict e v =
    record { first = first; second = second; whole = e; keywords_text = v.verdict_on.hex; document_text = v.hex }

-- what is printed of the right answer to a pair answers its line
pub printed_answers : (draft : Draft) {E : Type 0} (line k d : List ℕ) (verdict : Result Bool JudgeError) (o : Option (Bor (List ℕ)))
    (result : Result (Bor (List ℕ)) E) → IsPair line k d → (verdict ≡ Err OutOfMemory) ⊎ RightBy draft k d verdict
    → Printed (name_of verdict) o → o ≡ result_ok result → IfOk result (λ text. AnswersOne (LineAnswerBy draft) line text.now)
printed_answers draft line k d verdict o result pair =
    printed_answer name_of (Err OutOfMemory) (RightBy draft k d) (LineAnswerBy draft) line refl
    (λ v name right named. inl (record { keywords = k; document = d; verdict = v; pair = pair; right = right; named = named }))
    verdict o result
