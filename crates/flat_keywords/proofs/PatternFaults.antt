-- The faults of patterns stand alone: a value that has one has the form of its keyword, and no other fault.
use Rattle.std.proofs.Common.{inr, List, ℕ, Option, Some, None, refl}
use Rattle.std.specs.Prelude.{IsSome, IsSomeAnd}
use Rattle.json_model.specs.Parts.{as_string, points}
use Rattle.json_model.specs.Tree.{Tree}
use Rattle.literal_patterns.proofs.DecidedPatterns.{decided_analysis, decided_grammar, Decided}
use Rattle.flat_keywords.specs.Patterns.{IsLiteral, IsPattern}
use Rattle.flat_keywords.specs.Validity.{HasFormBy, IsNarrowBy, IsNoPattern, KeepsDeep, NeedsEngine}
use Rattle.flat_keywords.specs.declared.draft.Reading.{Reading}
use Rattle.flat_keywords.specs.declared.draft.Reading.TheVariants as reading
use Rattle.flat_keywords.specs.declared.keyword.Keyword.{Keyword}
use Rattle.flat_keywords.specs.declared.keyword.Keyword.TheVariants.{Pattern}
use Rattle.flat_keywords.proofs.Decided.{decided_and, decided_both, decided_not}

text_there : {A : Type 0} (o : Option A) (P : A → Type 0) → IsSomeAnd o P → IsSome o
text_there None P h = absurd h
text_there (Some a) P h = refl

-- draft 4 asks nothing of a pattern besides
besides : (r : Reading) (v : Tree) → IsNarrowBy r Pattern v
besides reading.Draft2020 v = tt
besides (reading.Draft4 partners) v = tt

pub no_pattern_form : (r : Reading) (w : Keyword) (v : Tree) → IsNoPattern w v → HasFormBy r w v
no_pattern_form r Pattern v h = (text_there (as_string v) (λ s. IsPattern s → ⊥) h, besides r v)
no_pattern_form r _ v h = absurd h

pub needs_engine_form : (r : Reading) (w : Keyword) (v : Tree) → NeedsEngine w v → HasFormBy r w v
needs_engine_form r Pattern v h = (text_there (as_string v) (λ s. IsPattern s × (IsLiteral s → ⊥)) h, besides r v)
needs_engine_form r _ v h = absurd h

-- a string is a pattern, or it is none
pub one_of_both : (w : Keyword) (v : Tree) → NeedsEngine w v → IsNoPattern w v → ⊥
one_of_both Pattern v h g = go (as_string v) h g
  where
    go : (o : Option (List ℕ)) → IsSomeAnd o (λ s. IsPattern s × (IsLiteral s → ⊥)) → IsSomeAnd o (λ s. IsPattern s → ⊥) → ⊥
    go None h g = h
    go (Some s) h g = g h.0
one_of_both _ v h g = h

-- a value that is kept as it is, is no pattern
pub deep_alone : (w : Keyword) (v : Tree) → KeepsDeep w v → IsNoPattern w v → ⊥
deep_alone Pattern v h g = h
deep_alone _ v h g = g

pub deep_no_engine : (w : Keyword) (v : Tree) → KeepsDeep w v → NeedsEngine w v → ⊥
deep_no_engine Pattern v h g = h
deep_no_engine _ v h g = g

pub decided_no_pattern : (w : Keyword) (v : Tree) → Decided (IsNoPattern w v)
decided_no_pattern Pattern v = decided_and (λ s. IsPattern s → ⊥) (λ s. decided_not (decided_grammar (points s))) (as_string v)
decided_no_pattern _ v = inr (λ h. h)

pub decided_engine : (w : Keyword) (v : Tree) → Decided (NeedsEngine w v)
decided_engine Pattern v = decided_and (λ s. IsPattern s × (IsLiteral s → ⊥))
    (λ s. decided_both (decided_grammar (points s)) (decided_not (decided_analysis (points s)))) (as_string v)
decided_engine _ v = inr (λ h. h)
