-- What compiling keeps from member to member.
use Rattle.std.proofs.Common.{arith, ◌≡◌, ℕ, zero, suc, ◌+◌, ◌<◌, ◌≤◌, ◌⊎◌, inl, inr, List, [], ◌∷◌, ◌++◌, length, take, map, Option, Some, None, true, false, refl, sym, ap, ◌∙◌, subst, take_all}
use Rattle.std.specs.Prelude.{slice_get, IsSome, IsSomeAnd, ◌↔◌, Result, Err}
use Rattle.std.specs.List.{AllByRecursion}
use Rattle.std.proofs.lemmas.Option.{slice_get_past}
use Rattle.json_model.specs.Nest.{nest, nest_members}
use Rattle.json_model.specs.Tree.{Tree, scalar, array, object, Members, no_members, member}
use Rattle.json_model.specs.Parts.{pairs_of, pairs_in, as_array, as_object}
use Rattle.json_model.specs.Keys.{key_before, rises}
use Rattle.json_traits.proofs.GivesLaws.{AtItem}
use Rattle.flat_keywords.specs.Names.{keyword_by, reading_of}
use Rattle.flat_keywords.specs.Compiled.{HasThisFaultBy, IsCompiledBy, IsFaultBy}
use Rattle.flat_keywords.specs.inner.Passes.{Passes, IsFree, Adds, Took, AddFault, NeedsNoMemory}
use Rattle.flat_keywords.specs.Validity.{AsksUniqueBy, IsBadBy, IsBadPatternBy, IsCopiedBy, IsFairBy, IsFirstBy, IsLeanBy, IsLeanMember, IsNarrowBy, IsNotLiteralBy, IsTooDeepBy, IsUnknownBy, TakesMemory}
use Rattle.flat_keywords.specs.Verdict.{Holds, HoldsAtBy}
use Rattle.flat_keywords.specs.declared.checks.Checks.{Checks}
use Rattle.flat_keywords.specs.declared.draft.Draft.{Draft}
use Rattle.flat_keywords.specs.declared.draft.Reading.{Reading}
use Rattle.flat_keywords.specs.declared.errors.KeywordError.{KeywordError}
use Rattle.flat_keywords.specs.declared.errors.KeywordError.TheVariants.{NotAnObject, UnknownKeyword, BadKeyword, BadPattern, PatternNotLiteral, TooDeep, OutOfMemory}
use Rattle.flat_keywords.specs.declared.keyword.Keyword.{Keyword}
use Rattle.flat_keywords.proofs.KeywordNames.{is_silent, one_name}
use Rattle.flat_keywords.specs.declared.keyword.Keyword.TheVariants.{«Type», Enum, Const, Bound, Least, Greatest, Pattern, Required, UniqueItems, Silent, WrittenType}
use Rattle.json_model.proofs.KeyOrderLaws.{rises_all, rises_tail, not_before}

abbrev pub Pair : Type 0
Pair = List ℕ × Tree

-- ---- lists that grow at their end

pub all_snoc : {X : Type 0} (P : X → Type 0) (xs : List X) (y : X) → AllByRecursion P xs → P y → AllByRecursion P (xs ++ y ∷ [])
all_snoc P [] y h p = (p, tt)
all_snoc P (x ∷ xs) y h p = (h.0, all_snoc P xs y h.1 p)

pub all_front : {X : Type 0} (P : X → Type 0) (xs : List X) (y : X) → AllByRecursion P (xs ++ y ∷ []) → AllByRecursion P xs × P y
all_front P [] y h = (tt, h.0)
all_front P (x ∷ xs) y h = let r = all_front P xs y h.1 in ((h.0, r.0), r.1)

-- ---- a key is no key before it

at_place : (P : List ℕ → Type 0) (ps : List Pair) (k : ℕ) (p : Pair) → AllByRecursion P (map (λ (q : Pair). q.0) ps) → slice_get ps k ≡ Some p → P p.0
at_place P [] k p h e = absurd (let z : None ≡ Some p = sym (slice_get_past [] k (omega arith)) ∙ e in cc)
at_place P (x ∷ xs) zero p h e = let s : x ≡ p = cc in subst (λ (q : Pair). P q.0) s h.0
at_place P (x ∷ xs) (suc k) p h e = at_place P xs k p h.1 e

-- no key before place k has the keyword of the key there, if something is kept of it
new_key : (r : Reading) (ps : List Pair) (k : ℕ) (p : Pair) (w : Keyword) → is_silent w ≡ false
    → rises (map (λ (q : Pair). q.0) ps) ≡ true → AtItem ps k p
    → keyword_by r p.0 ≡ Some w → AllByRecursion (λ (q : Pair). keyword_by r q.0 ≡ Some w → ⊥) (take k ps)
new_key r ps k p w kept h at e = go ps k h at.here
  where
    go : (ps : List Pair) (k : ℕ) → rises (map (λ (q : Pair). q.0) ps) ≡ true → slice_get ps k ≡ Some p
        → AllByRecursion (λ (q : Pair). keyword_by r q.0 ≡ Some w → ⊥) (take k ps)
    go [] zero h is = tt
    go [] (suc k) h is = tt
    go (x ∷ xs) zero h is = tt
    go (x ∷ xs) (suc k) h is =
        let keys = map (λ (q : Pair). q.0) xs in (
          λ same. not_before x.0 p.0 (at_place (λ y. key_before x.0 y ≡ true) xs k p (rises_all x.0 keys h) is) (one_name r x.0 p.0 w kept same e),
          go xs k (rises_tail x.0 keys h) is,
        )

-- ---- one member

module _ (r : Reading) where
  pub added : (old new : Checks) (w : Keyword) (p : Pair) → keyword_by r p.0 ≡ Some w → IsNarrowBy r w p.1 → Adds old w p.1 new → Took r old p new
  added old new w p e narrow a = record {
    fair = rw e (a.suits, narrow);
    passes = λ d. (λ h. let q = (a.passes d).0 h in (q.0, rw e q.1), λ h. (a.passes d).1 (h.0, hold d h.1));
    frees = λ u other free. a.frees u (λ same. other (e ∙ ap (λ (v : Keyword). let o : Option Keyword = Some v in o) (sym same))) free;
    memory = λ never h. a.memory (λ asks. never (e ∙ ap (λ (v : Keyword). let o : Option Keyword = Some v in o) asks.0, asks.1)) h;
  }
    where
      hold : (d : Tree) → HoldsAtBy r d p → Holds w p.1 d
      hold d h = rw e at h

  -- a value that has what the draft asks besides, and is refused
  pub refused : (m : ℕ) (w : Keyword) (p : Pair) (e : KeywordError) → keyword_by r p.0 ≡ Some w → IsNarrowBy r w p.1 → AddFault m w p.1 e
      → IsFaultBy r m p e
  refused m w p NotAnObject is narrow f = f
  refused m w p (UnknownKeyword n) is narrow f = absurd f
  refused m w p (BadKeyword n) is narrow f = (f.0, rw is (λ form. f.1 form.0))
  refused m w p (BadPattern n) is narrow f = (f.0, rw is f.1)
  refused m w p (PatternNotLiteral n) is narrow f = (f.0, rw is f.1)
  refused m w p (TooDeep n) is narrow f = (f.0, rw is ((f.1, narrow), f.2))
  refused m w p OutOfMemory is narrow f = rw is f

  -- a value that has not what the draft asks besides
  pub not_narrow : (w : Keyword) (p : Pair) → keyword_by r p.0 ≡ Some w → (IsNarrowBy r w p.1 → ⊥) → IsBadBy r p
  not_narrow w p is wide = rw is (λ form. wide form.1)

-- ---- all members

member_nests : (ms : Members) (k : ℕ) (p : Pair) → slice_get (pairs_in ms) k ≡ Some p → nest p.1 ≤ nest_members ms
member_nests no_members k p e = absurd (let z : None ≡ Some p = sym (slice_get_past [] k (omega arith)) ∙ e in cc)
member_nests (member key v ms) zero p e = let s : (key, v) ≡ p = cc in let n : nest v ≡ nest p.1 = ap (λ (q : Pair). nest q.1) s in omega arith
member_nests (member key v ms) (suc k) p e = let le = member_nests ms k p e in omega arith

-- a member's value nests less deep than the object
value_nests : (t : Tree) (k : ℕ) (p : Pair) → slice_get (pairs_of t) k ≡ Some p → nest p.1 < nest t
value_nests (scalar x) k p e = absurd (let z : None ≡ Some p = sym (slice_get_past [] k (omega arith)) ∙ e in cc)
value_nests (array ts) k p e = absurd (let z : None ≡ Some p = sym (slice_get_past [] k (omega arith)) ∙ e in cc)
value_nests (object ms) k p e = let le = member_nests ms k p e in omega arith

list_nests : (v : Tree) → IsSome (as_array v) → 1 ≤ nest v
list_nests (scalar x) h = absurd cc
list_nests (array ts) h = omega arith
list_nests (object ms) h = absurd cc

-- but for `const` and `pattern`, a keyword takes memory for a list alone
list_alone : (w : Keyword) (v : Tree) → (w ≡ Const → ⊥) × (w ≡ Pattern → ⊥) → TakesMemory w v → 1 ≤ nest v
list_alone «Type» v other h = absurd h
list_alone Enum v other h = list_nests v h
list_alone Const v other h = absurd (other.0 refl)
list_alone (Bound op) v other h = absurd h
list_alone (Least measure) v other h = absurd h
list_alone (Greatest measure) v other h = absurd h
list_alone Pattern v other h = absurd (other.1 refl)
list_alone UniqueItems v other h = absurd h
list_alone Required v other h = list_nests v h
list_alone (Silent form) v other h = absurd h
list_alone WrittenType v other h = absurd h

-- what holds of all holds at a place
pub at_each : (P : Pair → Type 0) (ps : List Pair) (k : ℕ) (p : Pair) → AllByRecursion P ps → slice_get ps k ≡ Some p → P p
at_each P [] k p h e = absurd (let z : None ≡ Some p = sym (slice_get_past [] k (omega arith)) ∙ e in cc)
at_each P (x ∷ xs) zero p h e = let s : x ≡ p = cc in subst P s h.0
at_each P (x ∷ xs) (suc k) p h e = at_each P xs k p h.1 e

-- a keyword of which nothing is kept is always free
where_kept : (c : Checks) (w : Keyword) → (is_silent w ≡ false → IsFree w c) → IsFree w c
where_kept c «Type» f = f refl
where_kept c Enum f = f refl
where_kept c Const f = f refl
where_kept c (Bound op) f = f refl
where_kept c (Least measure) f = f refl
where_kept c (Greatest measure) f = f refl
where_kept c Pattern f = f refl
where_kept c UniqueItems f = f refl
where_kept c Required f = f refl
where_kept c (Silent form) f = tt
where_kept c WrittenType f = f refl

-- by a draft the first k pairs of t were taken in
pub record Walked (draft : Draft) (t : Tree) (checks : Checks) (k : ℕ) : Type 0 where
  pub object : IsSome (as_object t)
  pub rise : rises (map (λ (q : Pair). q.0) (pairs_of t)) ≡ true
  pub fair : AllByRecursion (IsFairBy (reading_of draft t)) (take k (pairs_of t))
  pub passes : (d : Tree) → Passes checks d ↔ AllByRecursion (HoldsAtBy (reading_of draft t) d) (take k (pairs_of t))
  pub free : (w : Keyword) → AllByRecursion (λ (q : Pair). keyword_by (reading_of draft t) q.0 ≡ Some w → ⊥) (take k (pairs_of t)) → IsFree w checks
  pub memory : AllByRecursion (λ (q : Pair). AsksUniqueBy (reading_of draft t) q → ⊥) (take k (pairs_of t)) → NeedsNoMemory checks

module _ (draft : Draft) where
  pub starts : (t : Tree) (checks : Checks) → IsSome (as_object t) → rises (map (λ (q : Pair). q.0) (pairs_of t)) ≡ true
      → ((d : Tree) → Passes checks d) → ((w : Keyword) → IsFree w checks) → NeedsNoMemory checks → Walked draft t checks 0
  starts t checks is_object rise passes free memory = record {
    object = is_object;
    rise = rise;
    fair = tt;
    passes = λ d. (λ _. tt, λ _. passes d);
    free = λ w _. free w;
    memory = λ _. memory;
  }

module _ (draft : Draft) (t : Tree) (checks : Checks) (k : ℕ) (p : Pair) (at : AtItem (pairs_of t) k p) (s : Walked draft t checks k) where
  abbrev r : Reading
  r = reading_of draft t

  pub free_now : (w : Keyword) → keyword_by r p.0 ≡ Some w → IsFree w checks
  free_now w e = where_kept checks w (λ kept. s.free w (new_key r (pairs_of t) k p w kept s.rise at e))

  pub goes_on : (new : Checks) → Took r checks p new → Walked draft t new (k + 1)
  goes_on new took = record {
    object = s.object;
    rise = s.rise;
    fair = rw at.front (all_snoc (IsFairBy r) (take k (pairs_of t)) p s.fair took.fair);
    passes = λ d. rw at.front (
      λ h. (let q = (took.passes d).0 h in all_snoc (HoldsAtBy r d) (take k (pairs_of t)) p ((s.passes d).0 q.0) q.1),
      λ h. (let q = all_front (HoldsAtBy r d) (take k (pairs_of t)) p h in (took.passes d).1 ((s.passes d).1 q.0, q.1)),
    );
    free = λ w. rw at.front (λ h. let q = all_front (λ (q : Pair). keyword_by r q.0 ≡ Some w → ⊥) (take k (pairs_of t)) p h in
        took.frees w q.1 (s.free w q.0));
    memory = rw at.front (λ h. let q = all_front (λ (q : Pair). AsksUniqueBy r q → ⊥) (take k (pairs_of t)) p h in
        took.memory q.1 (s.memory q.0));
  }

  first_here : (P : Pair → Type 0) → P p → IsFirstBy draft t k P
  first_here P x = record { object = s.object; before = s.fair; here = rw at.here x }

  first_at : (m n : ℕ) (P : Pair → Type 0) → m ≡ k → n ≡ m → P p → IsFirstBy draft t n P
  first_at m n P is same x = subst (λ (i : ℕ). IsFirstBy draft t i P) (sym (same ∙ is)) (first_here P x)

  pub stops : (m : ℕ) (e : KeywordError) → m ≡ k → IsFaultBy r m p e
      → (◌≡◌ {A = Result Checks KeywordError} (Err e) (Err OutOfMemory)) ⊎ HasThisFaultBy draft t e
  stops m NotAnObject is f = absurd f
  stops m (UnknownKeyword n) is f = inr (first_at m n (IsUnknownBy r) is f.0 f.1)
  stops m (BadKeyword n) is f = inr (first_at m n (IsBadBy r) is f.0 f.1)
  stops m (BadPattern n) is f = inr (first_at m n (IsBadPatternBy r) is f.0 f.1)
  stops m (PatternNotLiteral n) is f = inr (first_at m n (IsNotLiteralBy r) is f.0 f.1)
  stops m (TooDeep n) is f = inr (first_at m n (IsTooDeepBy r) is f.0 f.1)
  stops m OutOfMemory is f = inl refl

  -- memory is wanting only where a value is copied, and no member before has a fault
  pub stops_at_copied : (m : ℕ) (e : KeywordError) → IsFaultBy r m p e
      → ◌≡◌ {A = Result Checks KeywordError} (Err e) (Err OutOfMemory) → (i : ℕ) × IsFirstBy draft t i (IsCopiedBy r)
  stops_at_copied m NotAnObject f h = absurd cc
  stops_at_copied m (UnknownKeyword n) f h = absurd cc
  stops_at_copied m (BadKeyword n) f h = absurd cc
  stops_at_copied m (BadPattern n) f h = absurd cc
  stops_at_copied m (PatternNotLiteral n) f h = absurd cc
  stops_at_copied m (TooDeep n) f h = absurd cc
  stops_at_copied m OutOfMemory f h = (k, first_here (IsCopiedBy r) f)

  -- so it never is where no value is a container, and none is that of `const` or `pattern`
  pub stops_with_memory : (m : ℕ) (e : KeywordError) → IsFaultBy r m p e → nest t ≤ 1 → IsLeanBy draft t
      → ◌≡◌ {A = Result Checks KeywordError} (Err e) (Err OutOfMemory) → ⊥
  stops_with_memory m NotAnObject f le lean h = cc
  stops_with_memory m (UnknownKeyword n) f le lean h = cc
  stops_with_memory m (BadKeyword n) f le lean h = cc
  stops_with_memory m (BadPattern n) f le lean h = cc
  stops_with_memory m (PatternNotLiteral n) f le lean h = cc
  stops_with_memory m (TooDeep n) f le lean h = cc
  stops_with_memory m OutOfMemory f le lean h = go (keyword_by r p.0) refl f
    where
      go : (o : Option Keyword) → keyword_by r p.0 ≡ o → IsSomeAnd o (λ w. TakesMemory w p.1) → ⊥
      go None e c = c
      go (Some w) e c =
          let never = at_each (IsLeanMember r) (pairs_of t) k p lean at.here in
          let lt = value_nests t k p at.here in
          let named : (u : Keyword) → w ≡ u → keyword_by r p.0 ≡ Some u = λ u is. e ∙ ap (λ (v : Keyword). let o : Option Keyword = Some v in o) is in
          let some = list_alone w p.1 (λ is. never.0 (named Const is), λ is. never.1 (named Pattern is)) c in
          omega arith

module _ (draft : Draft) where
  pub ends : (t : Tree) (checks : Checks) (k : ℕ) → length (pairs_of t) ≤ k → Walked draft t checks k → IsCompiledBy draft t checks
  ends t checks k le s =
      let all : take k (pairs_of t) ≡ pairs_of t = take_all k (pairs_of t) le in
      let r = reading_of draft t in
      record {
        valid = record { object = s.object; fair = subst (λ (l : List Pair). AllByRecursion (IsFairBy r) l) all s.fair };
        passes = λ d. subst (λ (l : List Pair). Passes checks d ↔ AllByRecursion (HoldsAtBy r d) l) all (s.passes d);
        memory = λ never. s.memory (subst (λ (l : List Pair). AllByRecursion (λ (q : Pair). AsksUniqueBy r q → ⊥) l) (sym all) never);
      }

-- ---- a reading that is the object's

pub fault_read : (q r : Reading) (m : ℕ) (p : Pair) (e : KeywordError) → q ≡ r → IsFaultBy q m p e → IsFaultBy r m p e
fault_read q r m p e is f = subst (λ (x : Reading). IsFaultBy x m p e) is f

pub took_read : (q r : Reading) (old : Checks) (p : Pair) (new : Checks) → q ≡ r → Took q old p new → Took r old p new
took_read q r old p new is took = subst (λ (x : Reading). Took x old p new) is took

pub name_read : (q r : Reading) (name : List ℕ) (w : Keyword) → q ≡ r → keyword_by q name ≡ Some w → keyword_by r name ≡ Some w
name_read q r name w is e = subst (λ (x : Reading). keyword_by x name ≡ Some w) is e
