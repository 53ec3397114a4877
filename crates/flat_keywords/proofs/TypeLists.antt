-- What reading a list of names of types keeps from element to element.
use Rattle.std.proofs.Common.{◌≡◌, ℕ, ◌+◌, ◌<◌, ◌≤◌, zero, suc, List, [], ◌∷◌, ◌++◌, length, take, Option, Some, None, Bool, true, false, ◌||◌, ◌⊎◌, inl, inr, nat_eq, refl, sym, ap, subst, ◌∙◌, take_all}
use Rattle.std.specs.Prelude.{◌↔◌, IsTrue, IsSomeAnd, if◌then◌else◌}
use Rattle.std.specs.List.{AllByRecursion}
use Rattle.std.proofs.lemmas.Bool.{eqb-true}
use Rattle.json_model.specs.Tree.{Tree, scalar, array, object}
use Rattle.json_model.specs.Parts.{as_array, as_string, elements_of, if_array}
use Rattle.json_traits.proofs.GivesLaws.{AtItem}
use Rattle.json_traits.specs.Names.{name_of}
use Rattle.json_traits.specs.Sets.{holds}
use Rattle.json_traits.specs.Weights.{same, weight}
use Rattle.json_traits.specs.declared.types.json_type.JsonType.{JsonType}
use Rattle.json_traits.specs.declared.types.json_type.JsonType.TheVariants.{Null, Boolean, Integer, Number, String, Array, Object}
use Rattle.json_traits.specs.declared.types.set.JsonTypeSet.{JsonTypeSet}
use Rattle.flat_keywords.specs.inner.Passes.{IsSetOf}
use Rattle.flat_keywords.specs.Validity.{AreDistinct, AreTypeNames, IsTypeName}
use Rattle.flat_keywords.specs.Verdict.{IsAmong, IsNameOf}
use Rattle.flat_keywords.proofs.Compiling.{all_snoc, all_front}

-- ---- types are known by their weights

abbrev of_weight : ℕ → JsonType
of_weight n =
    if nat_eq n 1 then Null else
    if nat_eq n 2 then Boolean else
    if nat_eq n 4 then Integer else
    if nat_eq n 8 then Number else
    if nat_eq n 16 then String else
    if nat_eq n 32 then Array else Object

of_weight_is : (t : JsonType) → of_weight (weight t) ≡ t
of_weight_is Null = refl
of_weight_is Boolean = refl
of_weight_is Integer = refl
of_weight_is Number = refl
of_weight_is String = refl
of_weight_is Array = refl
of_weight_is Object = refl

pub same_is : (t u : JsonType) → same t u ≡ true → t ≡ u
same_is t u h = sym (of_weight_is t) ∙ ap of_weight (eqb-true (weight t) (weight u) h) ∙ of_weight_is u

pub same_refl : (t : JsonType) → same t t ≡ true
same_refl Null = refl
same_refl Boolean = refl
same_refl Integer = refl
same_refl Number = refl
same_refl String = refl
same_refl Array = refl
same_refl Object = refl

-- ---- the elements of an array

pub of_list : {s : Tree} (t : Tree) (P : List Tree → Type 0) → Some s ≡ if_array t → IsSomeAnd (as_array t) P ↔ P (elements_of t)
of_list (scalar x) P e = absurd cc
of_list (array ts) P e = (λ h. h, λ h. h)
of_list (object ms) P e = absurd cc

-- ---- strings that differ

pub all_take : {X : Type 0} (P : X → Type 0) (xs : List X) (k : ℕ) → AllByRecursion P xs → AllByRecursion P (take k xs)
all_take P [] zero h = tt
all_take P [] (suc k) h = tt
all_take P (x ∷ xs) zero h = tt
all_take P (x ∷ xs) (suc k) h = (h.0, all_take P xs k h.1)

pub distinct_take : (ts : List Tree) (k : ℕ) → AreDistinct ts → AreDistinct (take k ts)
distinct_take [] zero h = tt
distinct_take [] (suc k) h = tt
distinct_take (t ∷ ts) zero h = tt
distinct_take (t ∷ ts) (suc k) h = (all_take (λ u. as_string u ≡ as_string t → ⊥) ts k h.0, distinct_take ts k h.1)

-- y is none of the strings
abbrev pub IsNew : Tree → List Tree → Type 0
IsNew y ts = AllByRecursion (λ t. as_string y ≡ as_string t → ⊥) ts

pub distinct_snoc : (ts : List Tree) (y : Tree) → AreDistinct ts → IsNew y ts → AreDistinct (ts ++ y ∷ [])
distinct_snoc [] y d h = (tt, tt)
distinct_snoc (t ∷ ts) y d h = (all_snoc (λ u. as_string u ≡ as_string t → ⊥) ts y d.0 h.0, distinct_snoc ts y d.1 h.1)

pub last_is_new : (ts : List Tree) (y : Tree) → AreDistinct (ts ++ y ∷ []) → IsNew y ts
last_is_new [] y d = tt
last_is_new (t ∷ ts) y d = ((all_front (λ u. as_string u ≡ as_string t → ⊥) ts y d.0).1, last_is_new ts y d.1)

-- ---- names among others

pub among_snoc : (t : List ℕ) (xs : List Tree) (y : Tree) → IsAmong t (xs ++ y ∷ []) ↔ (IsAmong t xs ⊎ (as_string y ≡ Some t))
among_snoc t [] y = (
  λ h. elim h [
    | inl a ↦ inr a
    | inr b ↦ absurd b
  ],
  λ h. elim h [
    | inl a ↦ absurd a
    | inr b ↦ inl b
  ],
)
among_snoc t (x ∷ xs) y = let r = among_snoc t xs y in (
  λ h. elim h [
    | inl a ↦ inl (inl a)
    | inr b ↦ elim (r.0 b) [
      | inl c ↦ inl (inr c)
      | inr d ↦ inr d
    ]
  ],
  λ h. elim h [
    | inl a ↦ elim a [
      | inl c ↦ inl c
      | inr d ↦ inr (r.1 (inl d))
    ]
    | inr b ↦ inr (r.1 (inr b))
  ],
)

pub name_is_new : (t : List ℕ) (ts : List Tree) (y : Tree) → as_string y ≡ Some t → (IsAmong t ts → ⊥) → IsNew y ts
name_is_new t [] y e h = tt
name_is_new t (x ∷ xs) y e h = (λ s. h (inl (sym s ∙ e)), name_is_new t xs y e (λ a. h (inr a)))

pub name_is_old : (t : List ℕ) (ts : List Tree) (y : Tree) → as_string y ≡ Some t → IsAmong t ts → IsNew y ts → ⊥
name_is_old t [] y e a h = a
name_is_old t (x ∷ xs) y e (inl s) h = h.0 (e ∙ sym s)
name_is_old t (x ∷ xs) y e (inr a) h = name_is_old t xs y e a h.1

-- ---- all elements

-- what reading an element as a name of a type says
abbrev Says : Option JsonType → Tree → Type 0
Says o y = (t : JsonType) → (o ≡ Some t) ↔ IsNameOf t y

-- a string is no list
no_list : (v : Tree) (t u : JsonType) → IsNameOf t v → IsAmong (name_of u) (elements_of v) → ⊥
no_list (scalar x) t u e a = a
no_list (array ts) t u e a = cc
no_list (object ms) t u e a = a

-- the set of one type, which the tree names alone
pub alone : (v : Tree) (t : JsonType) (set : JsonTypeSet) → Says (Some t) v → ((u : JsonType) → holds set u ≡ same u t) → IsSetOf v set
alone v t set says one = λ u. (
  λ h. inl ((says u).0 (ap (λ (x : JsonType). let o : Option JsonType = Some x in o) (sym (same_is u t (sym (one u) ∙ h))))),
  λ n. elim n [
    | inl e ↦ (let o : ◌≡◌ {A = Option JsonType} (Some t) (Some u) = (says u).1 e in let i : t ≡ u = cc in one u ∙ ap (same u) i ∙ same_refl u)
    | inr a ↦ absurd (no_list v t u ((says t).0 refl) a)
  ],
)

-- the first k trees are names, none twice, and the set holds their types
pub record Named (ts : List Tree) (set : JsonTypeSet) (k : ℕ) : Type 0 where
  pub names : AllByRecursion IsTypeName (take k ts)
  pub distinct : AreDistinct (take k ts)
  pub held : (t : JsonType) → IsTrue (holds set t) ↔ IsAmong (name_of t) (take k ts)

pub starts : (ts : List Tree) (set : JsonTypeSet) → ((t : JsonType) → holds set t ≡ false) → Named ts set 0
starts ts set h = record {
  names = tt;
  distinct = tt;
  held = λ t. (λ e. (let z : true ≡ false = sym e ∙ h t in cc), λ a. absurd a);
}

module _ (ts : List Tree) (set : JsonTypeSet) (k : ℕ) (y : Tree) (at : AtItem ts k y) (s : Named ts set k) where
  pub no_name : Says None y → AreTypeNames ts → ⊥
  no_name says names =
      let front : AllByRecursion IsTypeName (take k ts ++ y ∷ []) =
      subst (λ (l : List Tree). AllByRecursion IsTypeName l) at.front (all_take IsTypeName ts (k + 1) names.1) in
      let named = (all_front IsTypeName (take k ts) y front).1 in
      let z : ◌≡◌ {A = Option JsonType} None (Some named.0) = (says named.0).1 named.1 in
      cc

  pub twice : (t : JsonType) → Says (Some t) y → holds set t ≡ true → AreTypeNames ts → ⊥
  twice t says held names =
      let front : AreDistinct (take k ts ++ y ∷ []) = subst AreDistinct at.front (distinct_take ts (k + 1) names.2) in
      name_is_old (name_of t) (take k ts) y ((says t).0 refl) ((s.held t).0 held) (last_is_new (take k ts) y front)

  module _ (t : JsonType) (new : JsonTypeSet) (says : Says (Some t) y) (free : holds set t ≡ false)
      (grows : (u : JsonType) → holds new u ≡ holds set u || same u t) where
    held_now : (u : JsonType) → IsTrue (holds new u) ↔ (IsAmong (name_of u) (take k ts) ⊎ IsNameOf u y)
    held_now u = go (holds set u) (same u t) refl refl
      where
        go : (a b : Bool) → holds set u ≡ a → same u t ≡ b → IsTrue (holds new u) ↔ (IsAmong (name_of u) (take k ts) ⊎ IsNameOf u y)
        go true b e f = (λ _. inl ((s.held u).0 e), λ _. grows u ∙ ap (λ x. x || same u t) e)
        go false true e f = (
          λ _. inr ((says u).0 (ap (λ (x : JsonType). let o : Option JsonType = Some x in o) (sym (same_is u t f)))),
          λ _. grows u ∙ ap (λ x. x || same u t) e ∙ f,
        )
        go false false e f = (
          λ h. (let z : true ≡ false = sym h ∙ grows u ∙ ap (λ x. x || same u t) e ∙ f in cc),
          λ h. elim h [
            | inl a ↦ (let z : true ≡ false = sym ((s.held u).1 a) ∙ e in cc)
            | inr n ↦ (let o : ◌≡◌ {A = Option JsonType} (Some t) (Some u) = (says u).1 n in let i : t ≡ u = cc in
                let z : true ≡ false = sym (same_refl u) ∙ ap (same u) (sym i) ∙ f in cc)
          ],
        )

    pub goes_on : Named ts new (k + 1)
    goes_on = record {
      names = rw at.front (all_snoc IsTypeName (take k ts) y s.names (t, (says t).0 refl));
      distinct =
          rw at.front (distinct_snoc (take k ts) y s.distinct
          (name_is_new (name_of t) (take k ts) y ((says t).0 refl) (λ a. let z : true ≡ false = sym ((s.held t).1 a) ∙ free in cc)));
      held = λ u. rw at.front (let h = held_now u in let r = among_snoc (name_of u) (take k ts) y in (λ x. r.1 (h.0 x), λ x. h.1 (r.0 x)));
    }

pub ends : (ts : List Tree) (set : JsonTypeSet) (k : ℕ) → length ts ≤ k → 0 < length ts → Named ts set k
    → AreTypeNames ts × ((t : JsonType) → IsTrue (holds set t) ↔ IsAmong (name_of t) ts)
ends ts set k le some s =
    let all : take k ts ≡ ts = take_all k ts le in
    let names : AllByRecursion IsTypeName ts = subst (λ (l : List Tree). AllByRecursion IsTypeName l) all s.names in
    ((some, names, subst AreDistinct all s.distinct), λ t. subst (λ (l : List Tree). IsTrue (holds set t) ↔ IsAmong (name_of t) l) all (s.held t))
