-- Each valid keyword object and each document have a verdict: whether a document meets a keyword is decided.
use Rattle.std.proofs.Common.{inl, inr, ℕ, ◌^◌, List, [], ◌∷◌, Bool, true, Option, Some, None, pos}
use Rattle.std.specs.Prelude.{◌↔◌, ◌*ℤ◌, IfSome, IsTrue, IsSome, IsSomeAnd}
use Rattle.std.specs.List.{AllByRecursion}
use Rattle.json_model.specs.Decimal.{Decimal, IsBelow}
use Rattle.json_model.specs.Parts.{as_array, as_boolean, as_number, as_object, as_string, elements_of, is_number, lookup, pairs_of}
use Rattle.json_model.specs.Same.{IsUnique}
use Rattle.json_model.specs.Tree.{Tree}
use Rattle.json_semantics.specs.Bounds.{IsAtMost, Keeps}
use Rattle.json_semantics.specs.declared.numeric_check.BoundOp.{BoundOp}
use Rattle.json_semantics.specs.declared.numeric_check.BoundOp.TheVariants.{Lt, Lte, Gt, Gte}
use Rattle.json_traits.specs.Allowed.{IsOfType}
use Rattle.json_traits.specs.Kinds.{type_of}
use Rattle.json_traits.specs.Names.{name_of}
use Rattle.json_traits.specs.Numbers.{decimal_in, whole}
use Rattle.json_traits.specs.declared.types.json_type.JsonType.{JsonType}
use Rattle.json_traits.specs.declared.types.json_type.JsonType.TheVariants.{Integer}
use Rattle.flat_keywords.specs.Draft4.{IsOfWrittenType}
use Rattle.flat_keywords.specs.Names.{keyword_by, reading_of}
use Rattle.flat_keywords.specs.Validity.{IsFairBy, IsNarrowBy, IsValidBy, Suits}
use Rattle.flat_keywords.specs.Verdict.{Holds, HoldsAtBy, IsAmong, IsKeyOf, IsNamed, IsOneOf, IsUpTo, Reaches, VerdictBy, count_of}
use Rattle.flat_keywords.specs.declared.draft.Draft.{Draft}
use Rattle.flat_keywords.specs.declared.draft.Reading.{Reading}
use Rattle.flat_keywords.specs.declared.keyword.Keyword.{Keyword}
use Rattle.flat_keywords.specs.declared.keyword.Keyword.TheVariants.{«Type», Enum, Const, Bound, Least, Greatest, Pattern, Required, UniqueItems, Silent, WrittenType}
use Rattle.flat_keywords.proofs.PatternVerdicts.{decided_found}
use Rattle.flat_keywords.proofs.BoundLaws.{at_most}
use Rattle.flat_keywords.proofs.DecidedSame.{decided_same}
use Rattle.flat_keywords.proofs.SomeFault.{decided_written}
use Rattle.flat_keywords.proofs.UniqueLaws.{decided_unique}
use Rattle.literal_patterns.proofs.DecidedPatterns.{Decided}
use Rattle.flat_keywords.proofs.Decided.{decided_all, decided_below, decided_both, decided_either, decided_if, decided_not, decided_some, decided_then, decided_true, decided_type, decided_whole, same_texts, same_truth_values, same_type, truth_of}

-- ---- types

decided_among : (s : List ℕ) (vs : List Tree) → Decided (IsAmong s vs)
decided_among s [] = inr (λ h. h)
decided_among s (v ∷ vs) = decided_either (same_texts (as_string v) (Some s)) (decided_among s vs)

decided_named : (t : JsonType) (v : Tree) → Decided (IsNamed t v)
decided_named t v = decided_either (same_texts (as_string v) (Some (name_of t))) (decided_among (name_of t) (elements_of v))

decided_of_type : (d : Tree) (t : JsonType) → Decided (IsOfType d t)
decided_of_type d t =
    decided_either (same_type t (type_of d)) (decided_both (same_type t Integer)
    (decided_both (decided_true (is_number d)) (decided_whole (decimal_in d))))

-- by how it is written
decided_of_written_type : (d : Tree) (t : JsonType) → Decided (IsOfWrittenType d t)
decided_of_written_type d t = decided_either (same_type t (type_of d)) (decided_both (same_type t Integer) (decided_written d))

-- one of the named types is the document's
decided_types : (Of : Tree → JsonType → Type 0) → ((d : Tree) (t : JsonType) → Decided (Of d t)) → (v d : Tree)
    → Decided ((t : JsonType) × IsNamed t v × Of d t)
decided_types Of of v d = elim (decided_type (λ t. IsNamed t v × Of d t) (λ t. decided_both (decided_named t v) (of d t))) [
  | inl h ↦ inl (h.0, h.1.0, h.1.1)
  | inr n ↦ inr (λ h. n (h.0, (h.1, h.2)))
]

-- ---- bounds and counts

-- two numbers, where both trees are numbers
decided_bound : (R : Decimal → Decimal → Type 0) → ((m x : Decimal) → Decided (R m x)) → (v d : Tree)
    → Decided (IfSome (as_number v) (λ m. IfSome (as_number d) (R m)))
decided_bound R h v d = decided_if (λ m. IfSome (as_number d) (R m)) (λ m. decided_if (R m) (h m) (as_number d)) (as_number v)

-- a number and a count
decided_limit : (R : Decimal → ℕ → Type 0) → ((m : Decimal) (n : ℕ) → Decided (R m n)) → (v : Tree) (count : Option ℕ)
    → Decided (IfSome (as_number v) (λ m. IfSome count (R m)))
decided_limit R h v count = decided_if (λ m. IfSome count (R m)) (λ m. decided_if (R m) (h m) count) (as_number v)

decided_reaches : (m : Decimal) (n : ℕ) → Decided (Reaches m n)
decided_reaches m n = decided_not (decided_below (whole (pos n)) m)

decided_up_to : (m : Decimal) (n : ℕ) → Decided (IsUpTo m n)
decided_up_to m n = decided_not (decided_below m (whole (pos n)))

-- ---- names

decided_key : (ps : List (List ℕ × Tree)) (v : Tree) → Decided (IsKeyOf ps v)
decided_key ps v = decided_if (λ s. IsSome (lookup s ps)) (λ s. decided_some (lookup s ps)) (as_string v)

-- ---- values

decided_one_of : (d : Tree) (vs : List Tree) → Decided (IsOneOf d vs)
decided_one_of d [] = inr (λ h. h)
decided_one_of d (v ∷ vs) = decided_either (decided_same d v) (decided_one_of d vs)

-- ---- each keyword

-- how a number stands to a limit
decided_at_most : (x y : Decimal) → Decided (IsAtMost x y)
decided_at_most x y = go (at_most (x.digits *ℤ pos (10 ^ y.places)) (y.digits *ℤ pos (10 ^ x.places))) (decided_below y x)
  where
    go : (IsAtMost x y ↔ (IsBelow y x → ⊥)) → Decided (IsBelow y x) → Decided (IsAtMost x y)
    go e (inl b) = inr (λ h. e.0 h b)
    go e (inr n) = inl (e.1 n)

decided_keeps : (op : BoundOp) (m x : Decimal) → Decided (Keeps op x m)
decided_keeps Lt m x = decided_below x m
decided_keeps Lte m x = decided_at_most x m
decided_keeps Gt m x = decided_below m x
decided_keeps Gte m x = decided_at_most m x

decided_holds : (w : Keyword) (v d : Tree) → Suits w v → Decided (Holds w v d)
decided_holds «Type» v d suits = decided_types IsOfType decided_of_type v d
decided_holds Enum v d suits = decided_one_of d (elements_of v)
decided_holds Const v d suits = decided_same d v
decided_holds (Bound op) v d suits = decided_bound (λ m x. Keeps op x m) (decided_keeps op) v d
decided_holds (Least measure) v d suits = decided_limit Reaches decided_reaches v (count_of measure d)
decided_holds (Greatest measure) v d suits = decided_limit IsUpTo decided_up_to v (count_of measure d)
decided_holds UniqueItems v d suits =
    decided_then (same_truth_values (as_boolean v) (Some true)) (decided_if IsUnique decided_unique (as_array d))
decided_holds (Silent form) v d suits = inl tt
decided_holds WrittenType v d suits = decided_types IsOfWrittenType decided_of_written_type v d
decided_holds Pattern v d suits = decided_found (as_string v) (as_string d) suits.pattern suits.literal
decided_holds Required v d suits =
    decided_if (λ ps. AllByRecursion (IsKeyOf ps) (elements_of v)) (λ ps. decided_all (IsKeyOf ps) (decided_key ps) (elements_of v)) (as_object d)

decided_at : (r : Reading) (d : Tree) (p : List ℕ × Tree) → IsFairBy r p → Decided (HoldsAtBy r d p)
decided_at r d p fair = go (keyword_by r p.0) fair
  where
    go : (o : Option Keyword) → IsSomeAnd o (λ w. Suits w p.1 × IsNarrowBy r w p.1) → Decided (IfSome o (λ w. Holds w p.1 d))
    go None fair = absurd fair
    go (Some w) fair = decided_holds w p.1 d fair.0

decided_pairs : (r : Reading) (d : Tree) (ps : List (List ℕ × Tree)) → AllByRecursion (IsFairBy r) ps → Decided (AllByRecursion (HoldsAtBy r d) ps)
decided_pairs r d [] fair = inl tt
decided_pairs r d (p ∷ ps) fair = decided_both (decided_at r d p fair.0) (decided_pairs r d ps fair.1)

pub some_verdict : (draft : Draft) (k d : Tree) → IsValidBy draft k → (b : Bool) × (IsTrue b ↔ VerdictBy draft k d)
some_verdict draft k d valid = truth_of (decided_pairs (reading_of draft k) d (pairs_of k) valid.fair)
