-- Each line has one answer.
use Rattle.std.proofs.Common.{◌≡◌, ◌⊎◌, inl, inr, ℕ, List, [], ◌∷◌, ◌++◌, true, false, Option, Some, None, Result, Ok, Err, refl, sym, ap, ◌∙◌, subst, codes}
use Rattle.std.specs.Prelude.{IsSome}
use Rattle.std.proofs.lemmas.Bool.Decides.{eqb_tells}
use Rattle.json_model.specs.Tree.{Tree}
use Rattle.jsonb.proofs.HexTexts.{hex_bytes, hex_once, hex_or_none}
use Rattle.jsonb.specs.Root.{IsRead}
use Rattle.jsonb.specs.declared.error.JsonbError.{JsonbError}
use Rattle.jsonb.specs.declared.error.JsonbError.TheVariants as read
use Rattle.judge.specs.Answers.{IsJudged, IsPair, LineAnswerBy, fault_name, name_of}
use Rattle.line_program.specs.Lines.{Lacks}
use Rattle.flat_keywords.specs.Right.{Answer, RightBy, RightFrom, RightOf, RightWith}
use Rattle.flat_keywords.specs.Validity.{HasFaultBy}
use Rattle.flat_keywords.specs.declared.draft.Draft.{Draft}
use Rattle.flat_keywords.specs.declared.errors.JudgeError.TheVariants.{Keywords, NotAnObject, UnknownKeyword, BadKeyword, BadPattern, PatternNotLiteral, TooDeep, Document, OutOfMemory}
use Rattle.flat_keywords.specs.declared.errors.KeywordError.{KeywordError}
use Rattle.flat_keywords.specs.declared.errors.KeywordError.TheVariants as keyword
use Rattle.flat_keywords.proofs.OneAnswer.{one_answer}
use Rattle.judge.proofs.Pairs.{hex_lacks, no_parts, parts_once}
use Rattle.flat_keywords.proofs.SomeAnswer.{some_answer}

-- ---- pairs

-- the parts around the first such byte, or it stands nowhere
cut_or_none : (byte : ℕ) (text : List ℕ)
    → ((first : List ℕ) × (second : List ℕ) × (text ≡ first ++ byte ∷ second) × Lacks byte first) ⊎ Lacks byte text
cut_or_none byte [] = inr tt
cut_or_none byte (x ∷ text) = elim (eqb_tells x byte) [
  | inl hit ↦ inl ([], text, ap (λ b. b ∷ text) hit.1, tt)
  | inr miss ↦ elim (cut_or_none byte text) [
    | inl cut ↦ inl (x ∷ cut.0, cut.1, ap (λ t. x ∷ t) cut.2, (miss.1, cut.3))
    | inr none ↦ inr (miss.1, none)
  ]
]

pair_of : (line first second : List ℕ) → line ≡ first ++ 32 ∷ second → Lacks 32 first
    → ((k : List ℕ) × (d : List ℕ) × IsPair line k d) ⊎ ((k d : List ℕ) → IsPair line k d → ⊥)
pair_of line first second cut lacks = elim (hex_or_none first) [
  | inl k ↦ elim (hex_or_none second) [
    | inl d ↦ inl (k.0, d.0, record { first = first; second = second; whole = cut; keywords_text = k.1; document_text = d.1 })
    | inr none ↦ inr (λ x y pair. none y ((parts_once line first second x y cut lacks pair).1))
  ]
  | inr none ↦ inr (λ x y pair. none x ((parts_once line first second x y cut lacks pair).0))
]

-- a line is a pair, or it is none
pair_or_none : (line : List ℕ) → ((k : List ℕ) × (d : List ℕ) × IsPair line k d) ⊎ ((k d : List ℕ) → IsPair line k d → ⊥)
pair_or_none line = elim (cut_or_none 32 line) [
  | inl cut ↦ pair_of line cut.0 cut.1 cut.2 cut.3
  | inr none ↦ inr (λ k d pair. no_parts line k d none pair)
]

-- a line is a pair of one keyword object and one document at most
pair_once : (line k d x y : List ℕ) → IsPair line k d → IsPair line x y → (k ≡ x) × (d ≡ y)
pair_once line k d x y p q =
    let other = parts_once line p.first p.second x y p.whole (hex_lacks p.first k p.keywords_text) q in
    (hex_once p.first k x p.keywords_text other.0, hex_once p.second d y p.document_text other.1)

-- ---- right answers by a draft have names

module _ (draft : Draft) where
  memory_of : (t : Tree) (s : Result Tree JsonbError) (d : List ℕ) → IsRead d s → RightOf draft t s (Err OutOfMemory) → ⊥
  memory_of t (Err read.Malformed) d h is = cc
  memory_of t (Err read.NotText) d h is = cc
  memory_of t (Err read.NumberTooWide) d h is = cc
  memory_of t (Err read.OutOfMemory) d h is = h
  memory_of t (Ok u) d h is = let e = is.1 in cc

  memory_with : (t : Tree) (f : Option KeywordError) (d : List ℕ) → HasFaultBy draft t f → RightWith draft t f d (Err OutOfMemory) → ⊥
  memory_with t (Some keyword.NotAnObject) d h is = cc
  memory_with t (Some (keyword.UnknownKeyword m)) d h is = cc
  memory_with t (Some (keyword.BadKeyword m)) d h is = cc
  memory_with t (Some (keyword.BadPattern m)) d h is = cc
  memory_with t (Some (keyword.PatternNotLiteral m)) d h is = cc
  memory_with t (Some (keyword.TooDeep m)) d h is = cc
  memory_with t (Some keyword.OutOfMemory) d h is = h
  memory_with t None d h is = memory_of t is.0 d is.1 is.2

  memory_from : (s : Result Tree JsonbError) (k d : List ℕ) → IsRead k s → RightFrom draft s d (Err OutOfMemory) → ⊥
  memory_from (Err read.Malformed) k d h is = cc
  memory_from (Err read.NotText) k d h is = cc
  memory_from (Err read.NumberTooWide) k d h is = cc
  memory_from (Err read.OutOfMemory) k d h is = h
  memory_from (Ok t) k d h is = memory_with t is.0 d is.1 is.2

  -- want of memory is right of no slices
  pub never_memory : (k d : List ℕ) → RightBy draft k d (Err OutOfMemory) → ⊥
  unfolding RightBy
  never_memory k d h = memory_from h.0 k d h.1 h.2

  pub named : (k d : List ℕ) (r : Answer) → RightBy draft k d r → (name : List ℕ) × (name_of r ≡ Some name)
  named k d (Ok true) h = (codes "valid", refl)
  named k d (Ok false) h = (codes "invalid", refl)
  named k d (Err (Keywords fault)) h = (codes "Keywords(" ++ fault_name fault ++ codes ")", refl)
  named k d (Err NotAnObject) h = (codes "NotAnObject", refl)
  named k d (Err (UnknownKeyword member)) h = (codes "UnknownKeyword", refl)
  named k d (Err (BadKeyword member)) h = (codes "BadKeyword", refl)
  named k d (Err (BadPattern member)) h = (codes "BadPattern", refl)
  named k d (Err (PatternNotLiteral member)) h = (codes "PatternNotLiteral", refl)
  named k d (Err (TooDeep member)) h = (codes "TooDeep", refl)
  named k d (Err (Document fault)) h = (codes "Document(" ++ fault_name fault ++ codes ")", refl)
  named k d (Err OutOfMemory) h = absurd (never_memory k d h)

  pub is_named : (k d : List ℕ) (r : Answer) → RightBy draft k d r → IsSome (name_of r)
  is_named k d r h = let name = named k d r h in rw name.1 refl

  -- ---- one answer

  pub some_line_answer : (line : List ℕ) → (answer : List ℕ) × LineAnswerBy draft line answer
  some_line_answer line = elim (pair_or_none line) [
    | inl p ↦
        let pair = p.2 in
        let right = some_answer draft p.0 p.1 (hex_bytes pair.first p.0 pair.keywords_text) (hex_bytes pair.second p.1 pair.document_text) in
        let name = named p.0 p.1 right.0 right.1 in
        (name.0, inl (record { keywords = p.0; document = p.1; verdict = right.0; pair = pair; right = right.1; named = name.1 }))
    | inr none ↦ (codes "bad line", inr (record { no_pair = none; named = refl }))
  ]

  judged_once : (line a b : List ℕ) → IsJudged draft line a → IsJudged draft line b → a ≡ b
  judged_once line a b h g =
      let same = pair_once line g.keywords g.document h.keywords h.document g.pair h.pair in
      let right : RightBy draft h.keywords h.document g.verdict =
      subst (λ t. RightBy draft h.keywords t g.verdict) same.1 (subst (λ t. RightBy draft t g.document g.verdict) same.0 g.right) in
      let verdict = one_answer draft h.keywords h.document h.verdict g.verdict h.right right in
      let name : Some a ≡ Some b = sym h.named ∙ ap name_of verdict ∙ g.named in
      cc

  pub one_line_answer : (line a b : List ℕ) → LineAnswerBy draft line a → LineAnswerBy draft line b → a ≡ b
  one_line_answer line a b (inl h) (inl g) = judged_once line a b h g
  one_line_answer line a b (inl h) (inr g) = absurd (g.no_pair h.keywords h.document h.pair)
  one_line_answer line a b (inr h) (inl g) = absurd (h.no_pair g.keywords g.document g.pair)
  one_line_answer line a b (inr h) (inr g) = h.named ∙ sym g.named
