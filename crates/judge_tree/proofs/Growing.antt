-- Formulas that grow while what is left of a list shrinks.
use Rattle.std.proofs.Common.{◌≡◌, ◌+◌, ◌≤◌, ℕ, List, [], ◌∷◌, ◌++◌, drop, length, subst, sym, inl, inr, ◌⊎◌, refl, ap, map, Option, Some, None}
use Rattle.std.specs.Prelude.{◌↔◌, IfSome}
use Rattle.std.proofs.lemmas.List.{drop_all}
use Rattle.json_model.specs.Tree.{Tree}
use Rattle.judge_tree.specs.inner.Asked.{Asked, IsFrugal, Means, all_of, any_of}

-- all of some and one more: each of them, and that one
all_put : (xs : List Asked) (a : Asked) (d : Tree) → Means (all_of (xs ++ a ∷ [])) d ↔ (Means (all_of xs) d × Means a d)
all_put [] a d = (λ h. (refl, h.0), λ h. (h.1, refl))
all_put (x ∷ xs) a d = let r = all_put xs a d in (λ h. let s = r.0 h.1 in ((h.0, s.0), s.1), λ h. (h.0.0, r.1 (h.0.1, h.1)))

-- one of some and one more: one of them, or that one
any_put : (xs : List Asked) (a : Asked) (d : Tree) → Means (any_of (xs ++ a ∷ [])) d ↔ (Means (any_of xs) d ⊎ Means a d)
any_put [] a d = (λ h. elim h [ inl m ↦ inr m | inr z ↦ absurd cc ], λ h. elim h [ inl z ↦ absurd cc | inr m ↦ inl m ])
any_put (x ∷ xs) a d = let r = any_put xs a d in (
  λ h. elim h [ inl m ↦ inl (inl m) | inr t ↦ elim (r.0 t) [ inl s ↦ inl (inr s) | inr m ↦ inr m ] ],
  λ h. elim h [ inl s ↦ elim s [ inl m ↦ inl m | inr t ↦ inr (r.1 (inl t)) ] | inr m ↦ inr (r.1 (inr m)) ],
)

-- some that need no memory, and one more that needs none, need none
frugal_put : (xs : List Asked) (a : Asked) → IsFrugal (all_of xs) → IsFrugal a → IsFrugal (all_of (xs ++ a ∷ []))
frugal_put [] a h f = (f, tt)
frugal_put (x ∷ xs) a h f = (h.0, frugal_put xs a h.1 f)

-- to ask for one of them needs no memory where to ask for all of them needs none
pub frugal_any : (xs : List Asked) → IsFrugal (all_of xs) → IsFrugal (any_of xs)
frugal_any [] h = tt
frugal_any (x ∷ xs) h = (h.0, frugal_any xs h.1)

module _ {X : Type 0} (xs : List X) (k : ℕ) (now : List Asked) where
  module _ (x : X) (back : drop k xs ≡ x ∷ drop (k + 1) xs) (a : Asked) (more : List Asked) (is : more ≡ now ++ a ∷ []) (m : ℕ)
      (next : m ≡ k + 1) where
    module _ (Rest : List X → Type 0) (One : X → Type 0) where
      module _ (d : Tree) (Q : Type 0) (here : Means a d ↔ One x) where
        -- the formulas so far and the rest decide on all, and so do one more and what is left then
        pub all_goes_on : (Rest (x ∷ drop (k + 1) xs) ↔ (One x × Rest (drop (k + 1) xs))) → (Means (all_of now) d × Rest (drop k xs)) ↔ Q
            → (Means (all_of more) d × Rest (drop m xs)) ↔ Q
        all_goes_on split left =
            let l = subst (λ (zs : List X). (Means (all_of now) d × Rest zs) ↔ Q) back left in
            let p = all_put now a d in
            subst (λ (n : ℕ). (Means (all_of more) d × Rest (drop n xs)) ↔ Q) (sym next)
            (subst (λ (all : List Asked). (Means (all_of all) d × Rest (drop (k + 1) xs)) ↔ Q) (sym is) (
              λ h. (let s = p.0 h.0 in l.0 (s.0, split.1 (here.0 s.1, h.1))),
              λ q. (let s = l.1 q in let t = split.0 s.1 in (p.1 (s.0, here.1 t.0), t.1)),
            ))

        -- and on one of them
        pub any_goes_on : (Rest (x ∷ drop (k + 1) xs) ↔ (One x ⊎ Rest (drop (k + 1) xs))) → (Means (any_of now) d ⊎ Rest (drop k xs)) ↔ Q
            → (Means (any_of more) d ⊎ Rest (drop m xs)) ↔ Q
        any_goes_on split left =
            let l = subst (λ (zs : List X). (Means (any_of now) d ⊎ Rest zs) ↔ Q) back left in
            let p = any_put now a d in
            subst (λ (n : ℕ). (Means (any_of more) d ⊎ Rest (drop n xs)) ↔ Q) (sym next)
            (subst (λ (all : List Asked). (Means (any_of all) d ⊎ Rest (drop (k + 1) xs)) ↔ Q) (sym is) (
              λ h. elim h [
                | inl m ↦ elim (p.0 m) [ inl n ↦ l.0 (inl n) | inr n ↦ l.0 (inr (split.1 (inl (here.0 n)))) ]
                | inr r ↦ l.0 (inr (split.1 (inr r)))
              ],
              λ q. elim (l.1 q) [
                | inl n ↦ inl (p.1 (inl n))
                | inr r ↦ elim (split.0 r) [ inl o ↦ inl (p.1 (inr (here.1 o))) | inr s ↦ inr s ]
              ],
            ))

      -- where Q holds, the formulas so far need no memory, and so with one more
      pub frugal_goes_on : (Q : Type 0) → (One x → IsFrugal a) → (Rest (x ∷ drop (k + 1) xs) → One x × Rest (drop (k + 1) xs))
          → (Q → IsFrugal (all_of now) × Rest (drop k xs)) → Q → IsFrugal (all_of more) × Rest (drop m xs)
      frugal_goes_on Q here split left q =
          let l = left q in
          let s = split (subst Rest back l.1) in
          subst (λ (n : ℕ). IsFrugal (all_of more) × Rest (drop n xs)) (sym next)
          (subst (λ (all : List Asked). IsFrugal (all_of all) × Rest (drop (k + 1) xs)) (sym is) (frugal_put now a l.0 (here s.0), s.1))

  module _ (Rest : List X → Type 0) (d : Tree) (Q : Type 0) (le : length xs ≤ k) where
    -- nothing is left, so the formulas decide
    pub all_ends : Rest [] → (Means (all_of now) d × Rest (drop k xs)) ↔ Q → Means (all_of now) d ↔ Q
    all_ends nothing left =
        let l = subst (λ (zs : List X). (Means (all_of now) d × Rest zs) ↔ Q) (drop_all k xs le) left in
        (λ m. l.0 (m, nothing), λ q. (l.1 q).0)

    pub any_ends : (Rest [] → ⊥) → (Means (any_of now) d ⊎ Rest (drop k xs)) ↔ Q → Means (any_of now) d ↔ Q
    any_ends nothing left =
        let l = subst (λ (zs : List X). (Means (any_of now) d ⊎ Rest zs) ↔ Q) (drop_all k xs le) left in
        (λ m. l.0 (inl m), λ q. elim (l.1 q) [ inl m ↦ m | inr r ↦ absurd (nothing r) ])

-- a list that grows by one at its end, seen through a function
pub map_put : {X Y : Type 0} (f : X → Y) (xs : List X) (x : X) → map f (xs ++ x ∷ []) ≡ map f xs ++ f x ∷ []
map_put f [] x = refl
map_put f (y ∷ xs) x = ap (λ r. f y ∷ r) (map_put f xs x)

-- what is the same of each value is the same of one that may be there
pub if_some : {X : Type 0} (o : Option X) (P Q : X → Type 0) → ((x : X) → P x ↔ Q x) → IfSome o P ↔ IfSome o Q
if_some None P Q f = (λ h. h, λ h. h)
if_some (Some x) P Q f = f x
