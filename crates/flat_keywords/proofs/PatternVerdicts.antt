-- A literal pattern finds a string exactly where its analysis hits it; so what it asks is decided.
use Rattle.std.proofs.Common.{inl, inr, List, ℕ, Option, Some, None, refl}
use Rattle.std.specs.Prelude.{◌↔◌, IfSome, IsSome, IsSomeAnd}
use Rattle.json_model.specs.Parts.{as_string, points}
use Rattle.json_model.specs.Tree.{Tree}
use Rattle.literal_patterns.specs.Analyses.{kept_of}
use Rattle.literal_patterns.specs.declared.literal_pattern.LiteralPattern.{LiteralPattern}
use Rattle.literal_patterns.proofs.DecidedHits.{decided_hits}
use Rattle.literal_patterns.proofs.DecidedPatterns.{decided_analysis, decided_grammar, Decided}
use Rattle.literal_patterns.proofs.MatchLaws.{keeps_matches}
use Rattle.pattern_model.specs.Literals.{Analysis, IsAnalysis, Hits}
use Rattle.pattern_model.proofs.LiteralMatches.{literal_matches}
use Rattle.flat_keywords.specs.Patterns.{Finds, IsLiteral, IsPattern}
use Rattle.flat_keywords.specs.Validity.{Suits}
use Rattle.flat_keywords.specs.inner.Passes.{IsPatternOf}
use Rattle.flat_keywords.specs.declared.keyword.Keyword.TheVariants.{Pattern}
use Rattle.flat_keywords.proofs.Decided.{decided_if}

abbrev String : Type 0
String = List ℕ

hits_finds : (s : String) (a : Analysis) → IsAnalysis (points s) a → (y : String) → Hits a (points y) ↔ Finds s y
hits_finds s a h y = let m = literal_matches (points s) a h in (
  λ g. (m.tree, m.has.0, (m.same (points y)).0 g),
  λ (t, g, k). (keeps_matches (points s) a t h g (points y)).1 k,
)

-- the analysis of the string under `pattern` asks for what the pattern asks for
pub pattern_is : (v : Tree) (a : LiteralPattern) → IsSomeAnd (as_string v) (λ s. IsAnalysis (points s) (kept_of a)) → IsPatternOf v a
pattern_is v a h d = go (as_string v) (as_string d) h
  where
    go : (o p : Option String) → IsSomeAnd o (λ s. IsAnalysis (points s) (kept_of a)) →
        IfSome p (λ y. Hits (kept_of a) (points y)) ↔ IfSome o (λ s. IfSome p (Finds s))
    go None p h = absurd h
    go (Some s) None h = (λ _. tt, λ _. tt)
    go (Some s) (Some y) h = hits_finds s (kept_of a) h y

-- and the keyword takes the string
pub pattern_suits : (v : Tree) (a : LiteralPattern) → IsSomeAnd (as_string v) (λ s. IsAnalysis (points s) (kept_of a)) → Suits Pattern v
pattern_suits v a h = record {
  form = there (as_string v) h;
  pattern = has_tree (as_string v) h;
  literal = is_literal (as_string v) h;
  not_deep = λ deep. deep;
}
  where
    there : (o : Option String) → IsSomeAnd o (λ s. IsAnalysis (points s) (kept_of a)) → IsSome o
    there None h = absurd h
    there (Some s) h = refl

    has_tree : (o : Option String) → IsSomeAnd o (λ s. IsAnalysis (points s) (kept_of a)) → IsSomeAnd o (λ s. IsPattern s → ⊥) → ⊥
    has_tree None h none = h
    has_tree (Some s) h none = let m = literal_matches (points s) (kept_of a) h in none (m.tree, m.has.0)

    is_literal : (o : Option String) → IsSomeAnd o (λ s. IsAnalysis (points s) (kept_of a))
        → IsSomeAnd o (λ s. IsPattern s × (IsLiteral s → ⊥)) → ⊥
    is_literal None h needs = h
    is_literal (Some s) h needs = needs.1 (kept_of a, h)

-- a pattern that needs no engine has an analysis
literal_of : (s : String) → ((IsPattern s → ⊥) → ⊥) → (IsPattern s × (IsLiteral s → ⊥) → ⊥) → IsLiteral s
literal_of s pattern literal = elim (decided_analysis (points s)) [
  | inl h ↦ h
  | inr none ↦ elim (decided_grammar (points s)) [
    | inl p ↦ absurd (literal (p, none))
    | inr n ↦ absurd (pattern n)
  ]
]

-- whether a string is found is decided, where the pattern has no fault
pub decided_found : (o p : Option String) → (IsSomeAnd o (λ s. IsPattern s → ⊥) → ⊥) → (IsSomeAnd o (λ s. IsPattern s × (IsLiteral s → ⊥)) → ⊥)
    → Decided (IfSome o (λ s. IfSome p (Finds s)))
decided_found None p pattern literal = inl tt
decided_found (Some s) p pattern literal =
    let (a, h) = literal_of s pattern literal in decided_if (Finds s) (λ y. find a h y) p
  where
    find : (a : Analysis) → IsAnalysis (points s) a → (y : String) → Decided (Finds s y)
    find a h y = let same = hits_finds s a h y in elim (decided_hits a (points y)) [
      | inl g ↦ inl (same.0 g)
      | inr n ↦ inr (λ g. n (same.1 g))
    ]
