-- Each pair of slices has at most one right answer.
use Rattle.std.proofs.Common.{◌≡◌, inl, inr, ℕ, zero, suc, ◌+◌, List, [], ◌∷◌, take, Bool, true, false, Option, Some, None, refl, sym, ap, subst, ◌∙◌, arith}
use Rattle.std.specs.Prelude.{Result, Ok, Err, ◌↔◌, IsTrue, IsSome, IsSomeAnd, slice_get, unwrap_or}
use Rattle.std.specs.List.{AllByRecursion}
use Rattle.json_model.specs.Tree.{Tree}
use Rattle.json_model.specs.Parts.{as_object, pairs_of}
use Rattle.jsonb.specs.declared.error.JsonbError.{JsonbError}
use Rattle.jsonb.proofs.OneRead.{one_read}
use Rattle.flat_keywords.specs.Names.{keyword_by, reading_of}
use Rattle.flat_keywords.specs.Verdict.{VerdictBy}
use Rattle.flat_keywords.specs.Validity.{HasFaultBy, HasFormBy, IsBadBy, IsBadPatternBy, IsFairBy, IsFirstBy, IsNarrowBy, IsNoPattern, IsNotLiteralBy, IsTooDeepBy, IsUnknownBy, KeepsDeep, NeedsEngine, Suits}
use Rattle.flat_keywords.specs.declared.draft.Draft.{Draft}
use Rattle.flat_keywords.specs.declared.draft.Draft.TheVariants as drafts
use Rattle.flat_keywords.specs.declared.draft.Reading.{Reading}
use Rattle.flat_keywords.specs.declared.errors.KeywordError.{KeywordError}
use Rattle.flat_keywords.specs.declared.errors.KeywordError.TheVariants as keyword
use Rattle.flat_keywords.specs.declared.keyword.Keyword.{Keyword}
use Rattle.flat_keywords.specs.Right.{Answer, RightBy, RightFrom, RightOf, RightOnTrees, RightWith}
use Rattle.flat_keywords.proofs.PatternFaults.{decided_engine, decided_no_pattern, deep_alone, deep_no_engine, needs_engine_form, no_pattern_form, one_of_both}
use Rattle.literal_patterns.proofs.DecidedPatterns.{Decided}
use Rattle.flat_keywords.proofs.SomeFault.{decided_deep, decided_form_by}

abbrev Pair : Type 0
Pair = List ℕ × Tree

-- two answers that are true exactly where one thing holds are one
pub one_truth : (a b : Bool) (P : Type 0) → (IsTrue a ↔ P) → (IsTrue b ↔ P) → a ≡ b
one_truth true true P h k = refl
one_truth true false P h k = sym (k.1 (h.0 refl))
one_truth false true P h k = h.1 (k.0 refl)
one_truth false false P h k = refl

-- ---- one fault

abbrev Fault : Type 0
Fault = Option KeywordError

abbrev fault : KeywordError → Fault
fault e = Some e

-- The fault of member number m, by what is decided of its value: that it has its keyword's form, that it is no pattern, that it
-- needs an engine, and that it nests too deep.
abbrev by_value : {F N E D : Type 0} → Decided F → Decided N → Decided E → Decided D → ℕ → Fault
by_value (inl form) (inl none) e d m = Some (keyword.BadPattern m)
by_value (inl form) (inr pattern) (inl needs) d m = Some (keyword.PatternNotLiteral m)
by_value (inl form) (inr pattern) (inr literal) (inl deep) m = Some (keyword.TooDeep m)
by_value (inl form) (inr pattern) (inr literal) (inr not_deep) m = None
by_value (inr no_form) n e d m = Some (keyword.BadKeyword m)

-- how the names of an object are read
module _ (r : Reading) where
  abbrev of_value : Keyword → Tree → ℕ → Fault
  of_value w v m = by_value (decided_form_by r w v) (decided_no_pattern w v) (decided_engine w v) (decided_deep w v) m

  -- by its keyword
  abbrev by_name : Option Keyword → Tree → ℕ → Fault
  by_name None v m = Some (keyword.UnknownKeyword m)
  by_name (Some w) v m = of_value w v m

  abbrev cause : Pair → ℕ → Fault
  cause p m = by_name (keyword_by r p.0) p.1 m

  unknown_is : (m : ℕ) (p : Pair) → IsUnknownBy r p → cause p m ≡ fault (keyword.UnknownKeyword m)
  unknown_is m p h = ap (λ (o : Option Keyword). by_name o p.1 m) h

  -- what is known of a keyword, and what its value gives
  named_is : (Q : Keyword → Type 0) (v : Tree) (m : ℕ) (f : Fault) (o : Option Keyword) → IsSomeAnd o Q
      → ((w : Keyword) → Q w → of_value w v m ≡ f) → by_name o v m ≡ f
  named_is Q v m f None h gives = absurd h
  named_is Q v m f (Some w) h gives = gives w h

  bad_is : (m : ℕ) (p : Pair) → IsBadBy r p → cause p m ≡ fault (keyword.BadKeyword m)
  bad_is m p h = named_is (λ w. (HasFormBy r w p.1 → ⊥)) p.1 m (Some (keyword.BadKeyword m)) (keyword_by r p.0) h
      (λ w n. go (decided_form_by r w p.1) (decided_no_pattern w p.1) (decided_engine w p.1) (decided_deep w p.1) n)
    where
      go : {F N E D : Type 0} (f : Decided F) (n : Decided N) (e : Decided E) (d : Decided D) → (F → ⊥)
          → by_value f n e d m ≡ fault (keyword.BadKeyword m)
      go (inl f) n e d other = absurd (other f)
      go (inr f) n e d other = refl

  bad_pattern_is : (m : ℕ) (p : Pair) → IsBadPatternBy r p → cause p m ≡ fault (keyword.BadPattern m)
  bad_pattern_is m p h = named_is (λ w. IsNoPattern w p.1) p.1 m (Some (keyword.BadPattern m)) (keyword_by r p.0) h
      (λ w n. go (decided_form_by r w p.1) (decided_no_pattern w p.1) (decided_engine w p.1) (decided_deep w p.1) (no_pattern_form r w p.1 n) n)
    where
      go : {F N E D : Type 0} (f : Decided F) (n : Decided N) (e : Decided E) (d : Decided D) → F → N
          → by_value f n e d m ≡ fault (keyword.BadPattern m)
      go (inl f) (inl n) e d x y = refl
      go (inl f) (inr n) e d x y = absurd (n y)
      go (inr f) n e d x y = absurd (f x)

  not_literal_is : (m : ℕ) (p : Pair) → IsNotLiteralBy r p → cause p m ≡ fault (keyword.PatternNotLiteral m)
  not_literal_is m p h = named_is (λ w. NeedsEngine w p.1) p.1 m (Some (keyword.PatternNotLiteral m)) (keyword_by r p.0) h
      (λ w e. go (decided_form_by r w p.1) (decided_no_pattern w p.1) (decided_engine w p.1) (decided_deep w p.1) (needs_engine_form r w p.1 e)
      (one_of_both w p.1 e) e)
    where
      go : {F N E D : Type 0} (f : Decided F) (n : Decided N) (e : Decided E) (d : Decided D) → F → (N → ⊥) → E
          → by_value f n e d m ≡ fault (keyword.PatternNotLiteral m)
      go (inl f) (inl n) e d x other y = absurd (other n)
      go (inl f) (inr n) (inl e) d x other y = refl
      go (inl f) (inr n) (inr e) d x other y = absurd (e y)
      go (inr f) n e d x other y = absurd (f x)

  deep_is : (m : ℕ) (p : Pair) → IsTooDeepBy r p → cause p m ≡ fault (keyword.TooDeep m)
  deep_is m p h = named_is (λ w. HasFormBy r w p.1 × KeepsDeep w p.1) p.1 m (Some (keyword.TooDeep m)) (keyword_by r p.0) h
      (λ w d. go (decided_form_by r w p.1) (decided_no_pattern w p.1) (decided_engine w p.1) (decided_deep w p.1) d.0 (deep_alone w p.1 d.1)
      (deep_no_engine w p.1 d.1) d.1)
    where
      go : {F N E D : Type 0} (f : Decided F) (n : Decided N) (e : Decided E) (d : Decided D) → F → (N → ⊥) → (E → ⊥) → D
          → by_value f n e d m ≡ fault (keyword.TooDeep m)
      go (inl f) (inl n) e d x other never y = absurd (other n)
      go (inl f) (inr n) (inl e) d x other never y = absurd (never e)
      go (inl f) (inr n) (inr e) (inl d) x other never y = refl
      go (inl f) (inr n) (inr e) (inr d) x other never y = absurd (d y)
      go (inr f) n e d x other never y = absurd (f x)

  fair_is : (m : ℕ) (p : Pair) → IsFairBy r p → cause p m ≡ None
  fair_is m p h = named_is (λ w. Suits w p.1 × IsNarrowBy r w p.1) p.1 m None (keyword_by r p.0) h
      (λ w s. go (decided_form_by r w p.1) (decided_no_pattern w p.1) (decided_engine w p.1) (decided_deep w p.1) (s.0.form, s.1)
      s.0.pattern s.0.literal s.0.not_deep)
    where
      go : {F N E D : Type 0} (f : Decided F) (n : Decided N) (e : Decided E) (d : Decided D) → F → (N → ⊥) → (E → ⊥) → (D → ⊥)
          → by_value f n e d m ≡ None
      go (inl f) (inl n) e d x other never shallow = absurd (other n)
      go (inl f) (inr n) (inl e) d x other never shallow = absurd (never e)
      go (inl f) (inr n) (inr e) (inl d) x other never shallow = absurd (shallow d)
      go (inl f) (inr n) (inr e) (inr d) x other never shallow = refl
      go (inr f) n e d x other never shallow = absurd (f x)

  -- the first fault of pairs, of which the first has number m
  abbrev or_next : Fault → Fault → Fault
  or_next None f = f
  or_next (Some e) f = Some e

  abbrev first_cause : List Pair → ℕ → Fault
  first_cause [] m = None
  first_cause (p ∷ ps) m = or_next (cause p m) (first_cause ps (suc m))

  none_first : (ps : List Pair) (m : ℕ) → AllByRecursion (IsFairBy r) ps → first_cause ps m ≡ None
  none_first [] m h = refl
  none_first (p ∷ ps) m h = ap (λ (f : Fault). or_next f (first_cause ps (suc m))) (fair_is m p h.0) ∙ none_first ps (suc m) h.1

  found_first : (P : Pair → Type 0) (f : Fault) (n : ℕ) → ((p : Pair) → P p → cause p n ≡ f) → IsSome f
      → (ps : List Pair) (k m : ℕ) → n ≡ m + k → AllByRecursion (IsFairBy r) (take k ps) → IsSomeAnd (slice_get ps k) P → first_cause ps m ≡ f
  found_first P f n gives some [] zero m e before here = absurd here
  found_first P f n gives some [] (suc k) m e before here = absurd here
  found_first P f n gives some (p ∷ ps) zero m e before here =
      let i : m ≡ n = omega arith in
      ap (λ (x : ℕ). or_next (cause p x) (first_cause ps (suc m))) i ∙ ap (λ (x : Fault). or_next x (first_cause ps (suc m))) (gives p here)
      ∙ stays f some (first_cause ps (suc m))
    where
      stays : (f : Fault) → IsSome f → (g : Fault) → or_next f g ≡ f
      stays None h g = absurd cc
      stays (Some x) h g = refl
  found_first P f n gives some (p ∷ ps) (suc k) m e before here =
      ap (λ (x : Fault). or_next x (first_cause ps (suc m))) (fair_is m p before.0)
      ∙ found_first P f n gives some ps k (suc m) (omega arith) before.1 here

  -- the fault of a keyword tree
  abbrev fault_in : Option (List Pair) → Fault
  fault_in None = Some keyword.NotAnObject
  fault_in (Some ps) = first_cause ps 0

  pairs_fault : (o : Option (List Pair)) → IsSome o → fault_in o ≡ first_cause (unwrap_or o []) 0
  pairs_fault None h = absurd cc
  pairs_fault (Some ps) h = refl

-- the fault of a keyword tree by a draft
module _ (draft : Draft) (t : Tree) where
  abbrev its : Reading
  its = reading_of draft t

  member_fault : (m : ℕ) (P : Pair → Type 0) (e : KeywordError) → ((p : Pair) → P p → cause its p m ≡ fault e) → IsFirstBy draft t m P
      → fault_in its (as_object t) ≡ fault e
  member_fault m P e gives h =
      pairs_fault its (as_object t) h.object ∙ found_first its P (fault e) m gives refl (pairs_of t) m 0 (omega arith) h.before h.here

  fault_is : (f : Fault) → HasFaultBy draft t f → fault_in its (as_object t) ≡ f
  fault_is None h = pairs_fault its (as_object t) h.object ∙ none_first its (pairs_of t) 0 h.fair
  fault_is (Some keyword.NotAnObject) h = ap (fault_in its) h
  fault_is (Some (keyword.UnknownKeyword m)) h = member_fault m (IsUnknownBy its) (keyword.UnknownKeyword m) (unknown_is its m) h
  fault_is (Some (keyword.BadKeyword m)) h = member_fault m (IsBadBy its) (keyword.BadKeyword m) (bad_is its m) h
  fault_is (Some (keyword.BadPattern m)) h = member_fault m (IsBadPatternBy its) (keyword.BadPattern m) (bad_pattern_is its m) h
  fault_is (Some (keyword.PatternNotLiteral m)) h =
      member_fault m (IsNotLiteralBy its) (keyword.PatternNotLiteral m) (not_literal_is its m) h
  fault_is (Some (keyword.TooDeep m)) h = member_fault m (IsTooDeepBy its) (keyword.TooDeep m) (deep_is its m) h
  fault_is (Some keyword.OutOfMemory) h = absurd h

  -- a keyword tree has at most one fault
  one_fault : (e f : Fault) → HasFaultBy draft t e → HasFaultBy draft t f → e ≡ f
  one_fault e f h k = sym (fault_is e h) ∙ fault_is f k

-- ---- one answer

module _ (draft : Draft) where
  right_of : (t : Tree) (s : Result Tree JsonbError) (r q : Answer) → RightOf draft t s r → RightOf draft t s q → r ≡ q
  right_of t (Err e) r q h k = h ∙ sym k
  right_of t (Ok u) r q h k = h.1 ∙ ap (λ (b : Bool). let a : Answer = Ok b in a) (one_truth h.0 k.0 (VerdictBy draft t u) h.2 k.2) ∙ sym k.1

  right_with : (t : Tree) (e : Fault) (d : List ℕ) (r q : Answer) → RightWith draft t e d r → RightWith draft t e d q → r ≡ q
  right_with t (Some e) d r q h k = h ∙ sym k
  right_with t None d r q h k =
      right_of t h.0 r q h.2 (subst (λ (s : Result Tree JsonbError). RightOf draft t s q) (one_read d k.0 h.0 k.1 h.1) k.2)

  right_from : (s : Result Tree JsonbError) (d : List ℕ) (r q : Answer) → RightFrom draft s d r → RightFrom draft s d q → r ≡ q
  right_from (Err e) d r q h k = h ∙ sym k
  right_from (Ok t) d r q h k =
      right_with t h.0 d r q h.2 (subst (λ (e : Fault). RightWith draft t e d q) (one_fault draft t k.0 h.0 k.1 h.1) k.2)

  pub one_answer : (k d : List ℕ) (r q : Answer) → RightBy draft k d r → RightBy draft k d q → r ≡ q
  unfolding RightBy
  one_answer k d r q h g =
      right_from h.0 d r q h.2 (subst (λ (s : Result Tree JsonbError). RightFrom draft s d q) (one_read k g.0 h.0 g.1 h.1) g.2)

-- two trees have at most one right answer
pub one_on_trees : (k d : Tree) (r q : Result Bool KeywordError) → RightOnTrees k d r → RightOnTrees k d q → r ≡ q
one_on_trees k d (Err e) (Err f) h g = let same : Some e ≡ Some f = one_fault drafts.Draft2020 k (Some e) (Some f) h g in cc
one_on_trees k d (Err e) (Ok c) h g = let apart : Some e ≡ None = one_fault drafts.Draft2020 k (Some e) None h g.0 in absurd cc
one_on_trees k d (Ok b) (Err f) h g = let apart : None ≡ Some f = one_fault drafts.Draft2020 k None (Some f) h.0 g in absurd cc
one_on_trees k d (Ok b) (Ok c) h g = ap Ok (one_truth b c (VerdictBy drafts.Draft2020 k d) h.1 g.1)
