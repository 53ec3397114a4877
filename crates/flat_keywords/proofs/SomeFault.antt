-- Each keyword tree has its first fault, or none: the form of each member is decided.
use Rattle.std.proofs.Common.{◌≡◌, ◌⊎◌, inl, inr, ℕ, zero, suc, ◌<◌, List, [], ◌∷◌, take, length, Option, Some, None, refl, pos}
use Rattle.std.specs.Prelude.{IsSome, IsSomeAnd, slice_get}
use Rattle.std.specs.List.{AllByRecursion}
use Rattle.json_model.specs.Decimal.{Decimal}
use Rattle.json_model.specs.Parts.{as_array, as_boolean, as_number, as_object, as_string, elements_of, pairs_of}
use Rattle.json_model.specs.Nest.{nest}
use Rattle.json_model.specs.Tree.{Tree, scalar, array, object}
use Rattle.json_traits.specs.Names.{name_of}
use Rattle.json_traits.specs.Numbers.{whole}
use Rattle.flat_keywords.specs.Draft4.{AreChoices, IsNarrow, IsWrittenWhole}
use Rattle.flat_keywords.specs.Names.{keyword_by, reading_of}
use Rattle.flat_keywords.specs.Validity.{AreDistinct, AreNames, AreTypeNames, HasDeep, HasFaultBy, HasForm, HasFormBy, IsBadBy, IsBadPatternBy, IsCount, IsDeep, IsFairBy, IsFirstBy, IsNarrowBy, IsNoPattern, IsNotLiteralBy, IsOfForm, IsTooDeepBy, IsTypeName, IsUnknownBy, KeepsDeep, NamesTypes, NeedsEngine, Suits}
use Rattle.flat_keywords.specs.Verdict.{IsNameOf}
use Rattle.flat_keywords.specs.declared.draft.Draft.{Draft}
use Rattle.flat_keywords.specs.declared.draft.Reading.{Reading}
use Rattle.flat_keywords.specs.declared.draft.Reading.TheVariants as reading
use Rattle.flat_keywords.specs.declared.errors.KeywordError.{KeywordError}
use Rattle.flat_keywords.specs.declared.errors.KeywordError.TheVariants as keyword
use Rattle.flat_keywords.specs.declared.keyword.Form.{Form}
use Rattle.flat_keywords.specs.declared.keyword.Form.TheVariants.{Anything, Text, Truth, Array, Nothing}
use Rattle.flat_keywords.specs.declared.keyword.Keyword.{Keyword}
use Rattle.flat_keywords.specs.declared.keyword.Keyword.TheVariants.{«Type», Enum, Const, Bound, Least, Greatest, Pattern, Required, UniqueItems, Silent, WrittenType}
use Rattle.flat_keywords.proofs.UniqueLaws.{decided_unique}
use Rattle.flat_keywords.proofs.PatternFaults.{decided_engine, decided_no_pattern}
use Rattle.literal_patterns.proofs.DecidedPatterns.{Decided}
use Rattle.flat_keywords.proofs.Decided.{decided_less, decided_all, decided_and, decided_below, decided_both, decided_either, decided_filled, decided_not, decided_some, decided_type, decided_whole, same_counts, same_texts}

-- ---- the forms

decided_distinct : (vs : List Tree) → Decided (AreDistinct vs)
decided_distinct [] = inl tt
decided_distinct (v ∷ vs) =
    decided_both
    (decided_all (λ u. as_string u ≡ as_string v → ⊥) (λ u. decided_not (same_texts (as_string u) (as_string v))) vs)
    (decided_distinct vs)

decided_type_name : (v : Tree) → Decided (IsTypeName v)
decided_type_name v = decided_type (λ t. IsNameOf t v) (λ t. same_texts (as_string v) (Some (name_of t)))

decided_type_names : (vs : List Tree) → Decided (AreTypeNames vs)
decided_type_names vs = three (decided_filled vs) (decided_all IsTypeName decided_type_name vs) (decided_distinct vs)
  where
    three : {P Q R : Type 0} → Decided P → Decided Q → Decided R → Decided (P × Q × R)
    three (inl p) (inl q) (inl r) = inl (p, q, r)
    three (inl p) (inl q) (inr n) = inr (λ h. n h.2)
    three (inl p) (inr n) r = inr (λ h. n h.1)
    three (inr n) q r = inr (λ h. n h.0)

decided_types : (v : Tree) → Decided (NamesTypes v)
decided_types v = decided_either (decided_type_name v) (decided_and AreTypeNames decided_type_names (as_array v))

decided_names : (vs : List Tree) → Decided (AreNames vs)
decided_names vs = decided_both (decided_all (λ v. IsSome (as_string v)) (λ v. decided_some (as_string v)) vs) (decided_distinct vs)

decided_count : (m : Decimal) → Decided (IsCount m)
decided_count m = decided_both (decided_whole m) (decided_not (decided_below m (whole (pos 0))))

decided_limit : (v : Tree) → Decided (IsSomeAnd (as_number v) IsCount)
decided_limit v = decided_and IsCount decided_count (as_number v)

decided_of_form : (form : Form) (v : Tree) → Decided (IsOfForm form v)
decided_of_form Anything v = inl tt
decided_of_form Text v = decided_some (as_string v)
decided_of_form Truth v = decided_some (as_boolean v)
decided_of_form Array v = decided_some (as_array v)
decided_of_form Nothing v = inr (λ h. h)

pub decided_form : (w : Keyword) (v : Tree) → Decided (HasForm w v)
decided_form «Type» v = decided_types v
decided_form Enum v = decided_some (as_array v)
decided_form Const v = inl tt
decided_form (Bound op) v = decided_some (as_number v)
decided_form (Least measure) v = decided_limit v
decided_form (Greatest measure) v = decided_limit v
decided_form Pattern v = decided_some (as_string v)
decided_form UniqueItems v = decided_some (as_boolean v)
decided_form Required v = decided_and AreNames decided_names (as_array v)
decided_form (Silent form) v = decided_of_form form v
decided_form WrittenType v = decided_types v

-- ---- what draft 4 asks besides

decided_choices : (vs : List Tree) → Decided (AreChoices vs)
decided_choices vs = decided_both (decided_filled vs) (decided_unique vs)

pub decided_written : (v : Tree) → Decided (IsWrittenWhole v)
decided_written v = decided_and (λ m. m.places ≡ 0) (λ m. same_counts m.places 0) (as_number v)

decided_narrow : (w : Keyword) (v : Tree) → Decided (IsNarrow w v)
decided_narrow Enum v = decided_and AreChoices decided_choices (as_array v)
decided_narrow (Least measure) v = decided_written v
decided_narrow (Greatest measure) v = decided_written v
decided_narrow Required v = decided_and (λ vs. 0 < length vs) decided_filled (as_array v)
decided_narrow _ v = inl tt

decided_besides : (r : Reading) (w : Keyword) (v : Tree) → Decided (IsNarrowBy r w v)
decided_besides reading.Draft2020 w v = inl tt
decided_besides (reading.Draft4 partners) w v = decided_narrow w v

pub decided_form_by : (r : Reading) (w : Keyword) (v : Tree) → Decided (HasFormBy r w v)
decided_form_by r w v = decided_both (decided_form w v) (decided_besides r w v)

-- ---- values that nest too deep

decided_is_deep : (v : Tree) → Decided (IsDeep v)
decided_is_deep v = decided_less 128 (nest v)

decided_has_deep : (vs : List Tree) → Decided (HasDeep vs)
decided_has_deep [] = inr (λ h. h)
decided_has_deep (v ∷ vs) = decided_either (decided_is_deep v) (decided_has_deep vs)

pub decided_deep : (w : Keyword) (v : Tree) → Decided (KeepsDeep w v)
decided_deep «Type» v = inr (λ h. h)
decided_deep Enum v = decided_has_deep (elements_of v)
decided_deep Const v = decided_is_deep v
decided_deep (Bound op) v = inr (λ h. h)
decided_deep (Least measure) v = inr (λ h. h)
decided_deep (Greatest measure) v = inr (λ h. h)
decided_deep Pattern v = inr (λ h. h)
decided_deep UniqueItems v = inr (λ h. h)
decided_deep Required v = inr (λ h. h)
decided_deep (Silent form) v = inr (λ h. h)
decided_deep WrittenType v = inr (λ h. h)

-- ---- a member has no fault, or one of the five

abbrev Pair : Type 0
Pair = List ℕ × Tree

one_of_and : {A : Type 0} (o : Option A) (P Q R S U : A → Type 0) → IsSomeAnd o (λ a. P a ⊎ (Q a ⊎ (R a ⊎ (S a ⊎ U a))))
    → IsSomeAnd o P ⊎ (IsSomeAnd o Q ⊎ (IsSomeAnd o R ⊎ (IsSomeAnd o S ⊎ IsSomeAnd o U)))
one_of_and None P Q R S U h = absurd h
one_of_and (Some a) P Q R S U h = h

module _ (r : Reading) where
  abbrev IsFaulty : Pair → Type 0
  IsFaulty p = IsUnknownBy r p ⊎ (IsBadBy r p ⊎ (IsBadPatternBy r p ⊎ (IsNotLiteralBy r p ⊎ IsTooDeepBy r p)))

  by_keyword : (o : Option Keyword) (v : Tree) → IsSomeAnd o (λ w. Suits w v × IsNarrowBy r w v) ⊎ ((o ≡ None)
      ⊎ (IsSomeAnd o (λ w. (HasFormBy r w v → ⊥)) ⊎ (IsSomeAnd o (λ w. IsNoPattern w v) ⊎ (IsSomeAnd o (λ w. NeedsEngine w v)
      ⊎ IsSomeAnd o (λ w. HasFormBy r w v × KeepsDeep w v)))))
  by_keyword None v = inr (inl refl)
  by_keyword (Some w) v = elim (decided_form_by r w v) [
    | inl form ↦ elim (decided_no_pattern w v) [
      | inl bad ↦ inr (inr (inr (inl bad)))
      | inr pattern ↦ elim (decided_engine w v) [
        | inl needs ↦ inr (inr (inr (inr (inl needs))))
        | inr literal ↦ elim (decided_deep w v) [
          | inl deep ↦ inr (inr (inr (inr (inr (form, deep)))))
          | inr not_deep ↦ inl (record { form = form.0; pattern = pattern; literal = literal; not_deep = not_deep }, form.1)
        ]
      ]
    ]
    | inr bad ↦ inr (inr (inl bad))
  ]

  fair_or_faulty : (p : Pair) → IsFairBy r p ⊎ IsFaulty p
  fair_or_faulty p = by_keyword (keyword_by r p.0) p.1

  -- ---- the first fault

  -- pair number m is P, and each before it is fair
  abbrev FirstIn : List Pair → ℕ → (Pair → Type 0) → Type 0
  FirstIn ps m P = AllByRecursion (IsFairBy r) (take m ps) × IsSomeAnd (slice_get ps m) P

  all_or_first : (ps : List Pair) → AllByRecursion (IsFairBy r) ps ⊎ ((m : ℕ) × FirstIn ps m IsFaulty)
  all_or_first [] = inl tt
  all_or_first (p ∷ ps) = elim (fair_or_faulty p) [
    | inl fair ↦ elim (all_or_first ps) [
      | inl all ↦ inl (fair, all)
      | inr first ↦ inr (suc first.0, ((fair, first.1.0), first.1.1))
    ]
    | inr faulty ↦ inr (zero, (tt, faulty))
  ]

module _ (draft : Draft) (t : Tree) (is : IsSome (as_object t)) where
  abbrev its : Reading
  its = reading_of draft t

  first_is : (m : ℕ) (P : Pair → Type 0) → AllByRecursion (IsFairBy its) (take m (pairs_of t)) → IsSomeAnd (slice_get (pairs_of t) m) P
      → IsFirstBy draft t m P
  first_is m P before here = record { object = is; before = before; here = here }

  of_first : (m : ℕ) → FirstIn its (pairs_of t) m (IsFaulty its) → (f : Option KeywordError) × HasFaultBy draft t f
  of_first m (before, here) =
      elim (one_of_and (slice_get (pairs_of t) m) (IsUnknownBy its) (IsBadBy its) (IsBadPatternBy its) (IsNotLiteralBy its) (IsTooDeepBy its) here) [
        | inl unknown ↦ (Some (keyword.UnknownKeyword m), first_is m (IsUnknownBy its) before unknown)
        | inr rest ↦ elim rest [
          | inl bad ↦ (Some (keyword.BadKeyword m), first_is m (IsBadBy its) before bad)
          | inr rest ↦ elim rest [
            | inl bad ↦ (Some (keyword.BadPattern m), first_is m (IsBadPatternBy its) before bad)
            | inr rest ↦ elim rest [
              | inl needs ↦ (Some (keyword.PatternNotLiteral m), first_is m (IsNotLiteralBy its) before needs)
              | inr deep ↦ (Some (keyword.TooDeep m), first_is m (IsTooDeepBy its) before deep)
            ]
          ]
        ]
      ]

  of_object : (f : Option KeywordError) × HasFaultBy draft t f
  of_object = elim (all_or_first its (pairs_of t)) [
    | inl all ↦ (None, record { object = is; fair = all })
    | inr first ↦ of_first first.0 first.1
  ]

pub some_fault : (draft : Draft) (t : Tree) → (f : Option KeywordError) × HasFaultBy draft t f
some_fault _ (scalar s) = (Some keyword.NotAnObject, refl)
some_fault _ (array ts) = (Some keyword.NotAnObject, refl)
some_fault draft (object ms) = of_object draft (object ms) refl
