-- What is kept of the places before one, when one more is seen.
use Rattle.std.proofs.Common.{◌≡◌, ◌≢◌, ℕ, ◌+◌, ◌<◌, List, [], ◌∷◌, ◌++◌, Bool, true, false, cond, eqb, length, get_or, refl, sym, subst, ◌∙◌, arith}
use Rattle.std.specs.Prelude.{Option, None, Some}
use Rattle.std.proofs.lemmas.Bool.{eqb-true, eqb-false}
use Rattle.std.proofs.lemmas.List.{get_or_append_left}
use Rattle.std.proofs.Math.Seq.{get_or-append_seam}
use Rattle.distinct_places.specs.Apart.{AreApart, IsApart}
use Rattle.distinct_places.specs.inner.Newest.{IsNewest}

by_place : (hs : List ℕ) (k h j : ℕ) → get_or hs k 0 ≢ h → (j < k → get_or hs j 0 ≢ h) → j < k + 1 → get_or hs j 0 ≢ h
by_place hs k h j apart below lt is = grind arith

-- a place with another number is not the newest
later : (hs : List ℕ) (k h : ℕ) (o : Option ℕ) → get_or hs k 0 ≢ h → IsNewest hs k h o → IsNewest hs (k + 1) h o
later hs k h None apart newest = λ j lt. by_place hs k h j apart (λ l. newest j l) lt
later hs k h (Some p) apart (low, is, above) = (omega arith, is, λ j gt lt. by_place hs k h j apart (λ l. above j gt l) lt)

newest_by : (x : Bool) (hs : List ℕ) (k h : ℕ) (o : Option ℕ) → eqb (get_or hs k 0) h ≡ x
    → IsNewest hs k h o → IsNewest hs (k + 1) h (cond x (Some k) o)
newest_by true hs k h o e newest = (omega arith, eqb-true (get_or hs k 0) h e, λ j gt lt. absurd (omega arith))
newest_by false hs k h o e newest = later hs k h o (eqb-false (get_or hs k 0) h e) newest

-- the place k is the newest with its number, and of each other number the newest stays
pub newest_more : (hs : List ℕ) (k h : ℕ) (o n : Option ℕ) → n ≡ cond (eqb (get_or hs k 0) h) (Some k) o
    → IsNewest hs k h o → IsNewest hs (k + 1) h n
newest_more hs k h o n e newest = subst (λ m. IsNewest hs (k + 1) h m) (sym e) (newest_by (eqb (get_or hs k 0) h) hs k h o refl newest)

-- each of the first k places leads to the newest before it with its number
abbrev pub AreLinked : List ℕ → ℕ → List (Option ℕ) → Type 0
AreLinked hs k os = (j : ℕ) (d : Option ℕ) → j < k → IsNewest hs j (get_or hs j 0) (get_or os j d)

older_below : (j k : ℕ) → j ≢ k → j < k + 1 → j < k
older_below j k apart lt = omega arith

module _ (hs : List ℕ) (os : List (Option ℕ)) (o : Option ℕ) (k : ℕ) (len : length os ≡ k) (all : AreLinked hs k os)
    (one : IsNewest hs k (get_or hs k 0) o) where
  older_by : (x : Bool) (j : ℕ) (d : Option ℕ) → eqb j k ≡ x → j < k + 1 → IsNewest hs j (get_or hs j 0) (get_or (os ++ o ∷ []) j d)
  older_by true j d is lt =
      let same = eqb-true j k is in
      let here : get_or (os ++ o ∷ []) j d ≡ o = subst (λ i. get_or (os ++ o ∷ []) i d ≡ o) (len ∙ sym same) (get_or-append_seam os o [] d) in
      subst (λ i. IsNewest hs i (get_or hs i 0) (get_or (os ++ o ∷ []) j d)) (sym same)
      (subst (λ n. IsNewest hs k (get_or hs k 0) n) (sym here) one)
  older_by false j d is lt =
      let below : j < k = older_below j k (eqb-false j k is) lt in
      subst (λ n. IsNewest hs j (get_or hs j 0) n) (sym (get_or_append_left os (o ∷ []) d j (omega arith))) (all j d below)

  -- one more place leads to the newest before it
  pub linked_more : (b : Bool) (ns : List (Option ℕ)) → b ≡ true → ns ≡ cond b (os ++ o ∷ []) os → AreLinked hs (k + 1) ns
  linked_more b ns ok e =
      subst (AreLinked hs (k + 1)) (sym (subst (λ x. ns ≡ cond x (os ++ o ∷ []) os) ok e)) (λ j d lt. older_by (eqb j k) j d refl lt)

apart_by : (same : ℕ → ℕ → Type 0) (k a : ℕ) (x : Bool) → eqb a k ≡ x → AreApart same k → IsApart same k → a < k + 1 → IsApart same a
apart_by same k a true e apart one lt = subst (IsApart same) (sym (eqb-true a k e)) one
apart_by same k a false e apart one lt = apart a (older_below a k (eqb-false a k e) lt)

-- one more place that is apart from those before it
pub apart_more : (same : ℕ → ℕ → Type 0) (k : ℕ) → AreApart same k → IsApart same k → AreApart same (k + 1)
apart_more same k apart one a lt = apart_by same k a (eqb a k) refl apart one lt
