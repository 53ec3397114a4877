-- An iterator whose state shows what is left gives just that; and what a loop over it knows.
use Rattle.std.specs.Prelude.{◌≡◌, ℕ, ◌+◌, ◌<◌, ◌≤◌, List, [], ◌∷◌, ◌++◌, length, map, take, drop, slice_get, Option, Some, None}
use Rattle.std.proofs.Common.{refl, suc, arith, length-drop, add-one, get_or, sym, ap, subst, ◌∙◌}
use Rattle.std.proofs.Math.Seq.{drop-cons, take-suc}
use Rattle.std.proofs.lemmas.Option.{slice_get-get_or}
use Rattle.std.specs.Iterator.{AlwaysYields, YieldsFirstBy}
use Rattle.json_traits.specs.Gives.{Gives}

pub record AtItem {B : Type 0} (ys : List B) (k : ℕ) (y : B) : Type 0 where
  pub within : k < length ys
  pub here : slice_get ys k ≡ Some y
  pub front : take (k + 1) ys ≡ take k ys ++ y ∷ []
  pub back : drop k ys ≡ y ∷ drop (k + 1) ys

-- the list begins with y, and goes on with what s gives
at_cons : {S A B : Type 0} (steps : S → Option A → S → Type 0) (v : A → B) (s j : S) (x : A) (ys : List B) → AlwaysYields steps v s ys →
    steps s (Some x) j → (rest : List B) × (ys ≡ v x ∷ rest) × AlwaysYields steps v j rest
at_cons steps v s j x [] h e = absurd (h x j e)
at_cons steps v s j x (y ∷ ys) h e = (ys, rw (h.1 x j e).0 refl, (h.1 x j e).1)

at_nil : {S A B : Type 0} (steps : S → Option A → S → Type 0) (v : A → B) (s u : S) (ys : List B) → AlwaysYields steps v s ys → steps s None u → ys
    ≡ []
at_nil steps v s u [] h e = refl
at_nil steps v s u (y ∷ ys) h e = absurd (h.0 u e)

at_head : {B : Type 0} (ys : List B) (k : ℕ) (y : B) (rest : List B) → drop k ys ≡ y ∷ rest → AtItem ys k y × (drop (k + 1) ys ≡ rest)
at_head ys k y rest e =
    let lt : k < length ys = omega (arith, length-drop k ys, ap length e) in
    let d = drop-cons ys k y lt in
    let one : k + 1 ≡ suc k = add-one k in
    let same : get_or ys k y ≡ y = cc in
    let tail : drop (suc k) ys ≡ rest = cc in
    let back : drop (k + 1) ys ≡ rest = rw one tail in
    let front : take (k + 1) ys ≡ take k ys ++ y ∷ [] = rw one (take-suc ys k y lt ∙ ap (λ z. take k ys ++ z ∷ []) same) in
    (record { within = lt; here = slice_get-get_or ys k y lt ∙ ap Some same; front = front; back = e ∙ ap (λ r. y ∷ r) (sym back) }, back)

module _ {S A B : Type 0} {steps : S → Option A → S → Type 0} {v : A → B} {s : S} where
  -- at the end of the iterator no item is left
  pub left_end : {u : S} (ys : List B) (k : ℕ) → Gives steps v s (drop k ys) → steps s None u → length ys ≤ k
  left_end {u = u} ys k h e = omega (arith, length-drop k ys, ap length (at_nil steps v s u (drop k ys) h.always e))

  -- an item is the next of the list, and the rest is left
  pub left_item : {j : S} {x : A} (ys : List B) (k : ℕ) → Gives steps v s (drop k ys) → steps s (Some x) j → AtItem ys k (v x)
      × Gives steps v j (drop (k + 1) ys)
  left_item {j = j} {x = x} ys k h e =
      let r = at_cons steps v s j x (drop k ys) h.always e in
      let a = at_head ys k (v x) r.0 r.1 in
      (a.0, record { always = subst (λ zs. AlwaysYields steps v j zs) (sym a.1) r.2 })

module _ {S A B : Type 0} (view : A → B) (rest : S → List B) where
  always_by : (ys : List B) (s : S) → rest s ≡ ys → AlwaysYields (YieldsFirstBy view rest) view s ys
  always_by [] s e = λ x j f. cc
  always_by (y ∷ ys) s e = (λ j f. cc, λ x j f. let h : view x ≡ y = cc in let t : rest j ≡ ys = cc in (h, always_by ys j t))

  -- an iterator whose state shows what is left gives just that
  pub gives_rest : (s : S) → Gives (YieldsFirstBy view rest) view s (rest s)
  gives_rest s = record { always = always_by (rest s) s refl }

  module _ {C : Type 0} (f : B → C) (g : A → C) (same : (x : A) → g x ≡ f (view x)) where
    always_through : (ys : List B) (s : S) → rest s ≡ ys → AlwaysYields (YieldsFirstBy view rest) g s (map f ys)
    always_through [] s e = λ x j h. cc
    always_through (y ∷ ys) s e =
        (λ j h. cc, λ x j h. let k : view x ≡ y = cc in let t : rest j ≡ ys = cc in (same x ∙ ap f k, always_through ys j t))

    -- and so it gives what is made of each of them
    pub gives_through : (s : S) → Gives (YieldsFirstBy view rest) g s (map f (rest s))
    gives_through s = record { always = always_through (rest s) s refl }
