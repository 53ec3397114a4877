-- Objects whose keys rise are the same exactly where they are place by place.
use Rattle.std.proofs.Common.{arith, ◌≡◌, ℕ, suc, ◌≤◌, Bool, true, false, List, [], ◌∷◌, length, map, refl, sym, subst, ap, ◌∙◌, inl, inr, Option, Some, None}
use Rattle.std.specs.Prelude.{IsSomeAnd, ◌↔◌, ⊤, if◌then◌else◌}
use Rattle.std.specs.Str.{bytes_eq}
use Rattle.std.specs.List.{AllByRecursion}
use Rattle.std.proofs.lemmas.Slice.Eq.{bytes_eq-Decides}
use Rattle.json_model.specs.Keys.{key_before, rises}
use Rattle.json_model.specs.Parts.{pairs_in, members_from, lookup}
use Rattle.json_model.specs.Same.{Same, SameMembers}
use Rattle.json_model.specs.Tree.{Tree, object, Members, no_members, member, keys}
use Rattle.json_model.proofs.KeyOrderLaws.{key_total, not_before, rises_all, rises_tail}
use Rattle.json_traits.proofs.RisingLaws.{keys_from}

-- the same key, and the same tree under it, at each place
abbrev pub SameAtPlaces : Members → Members → Type 0
SameAtPlaces no_members no_members = ⊤
SameAtPlaces no_members (member l u ns) = ⊥
SameAtPlaces (member k t ms) no_members = ⊥
SameAtPlaces (member k t ms) (member l u ns) = (k ≡ l) × Same t u × SameAtPlaces ms ns

-- keys that differ compare unequal
other_key : (k l : List ℕ) → (k ≡ l → ⊥) → bytes_eq k l ≡ false
other_key k l h = go (bytes_eq k l) refl
  where
    go : (b : Bool) → bytes_eq k l ≡ b → bytes_eq k l ≡ false
    go true e = absurd (h ((bytes_eq-Decides k l).0 e))
    go false e = e

-- keys that are equal compare equal
same_key : (k l : List ℕ) → k ≡ l → bytes_eq k l ≡ true
same_key k l e = (bytes_eq-Decides k l).1 e

-- a key before all others is none of them
before_all : (k : List ℕ) (ns : Members) → AllByRecursion (λ z. key_before k z ≡ true) (keys ns) → lookup k (pairs_in ns) ≡ None
before_all k no_members h = refl
before_all k (member l u ns) h = rw (other_key k l (not_before k l h.0)) (before_all k ns h.1)

-- the same tree stands under the key
abbrev Found : List ℕ → Tree → Members → Type 0
Found k t ns = IsSomeAnd (lookup k (pairs_in ns)) (λ u. Same t u)

-- a key that has no tree has not the same one
not_found : (k : List ℕ) (t : Tree) (ns : Members) → lookup k (pairs_in ns) ≡ None → Found k t ns → ⊥
not_found k t ns e h = subst (λ (o : Option Tree). IsSomeAnd o (λ u. Same t u)) e h

-- under the first key is the first tree
found_first : (k l : List ℕ) (t u : Tree) (ns : Members) → k ≡ l → Found k t (member l u ns) → Same t u
found_first k l t u ns e h = subst (λ (b : Bool). IsSomeAnd (if b then Some u else lookup k (pairs_in ns)) (λ w. Same t w)) (same_key k l e) h

-- and the other way round
first_found : (k l : List ℕ) (t u : Tree) (ns : Members) → k ≡ l → Same t u → Found k t (member l u ns)
first_found k l t u ns e h = subst (λ (b : Bool). IsSomeAnd (if b then Some u else lookup k (pairs_in ns)) (λ w. Same t w)) (sym (same_key k l e)) h

-- another key than the first is found among the rest
found_rest : (k l : List ℕ) (t u : Tree) (ns : Members) → (k ≡ l → ⊥) → Found k t (member l u ns) → Found k t ns
found_rest k l t u ns e h = subst (λ (b : Bool). IsSomeAnd (if b then Some u else lookup k (pairs_in ns)) (λ w. Same t w)) (other_key k l e) h

-- and what is found among the rest is found
rest_found : (k l : List ℕ) (t u : Tree) (ns : Members) → (k ≡ l → ⊥) → Found k t ns → Found k t (member l u ns)
rest_found k l t u ns e h = subst (λ (b : Bool). IsSomeAnd (if b then Some u else lookup k (pairs_in ns)) (λ w. Same t w)) (sym (other_key k l e)) h

-- keys that come after another are found among the rest
after_first : (l : List ℕ) (u : Tree) (ms ns : Members) → AllByRecursion (λ z. key_before l z ≡ true) (keys ms) → SameMembers ms (member l u ns) →
    SameMembers ms ns
after_first l u no_members ns h s = tt
after_first l u (member k t ms) ns h s = (found_rest k l t u ns (λ e. not_before l k h.0 (sym e)) s.0, after_first l u ms ns h.1 s.1)

-- and what is found among the rest is found behind a key before it
before_rest : (l : List ℕ) (u : Tree) (ms ns : Members) → AllByRecursion (λ z. key_before l z ≡ true) (keys ms) → SameMembers ms ns →
    SameMembers ms (member l u ns)
before_rest l u no_members ns h s = tt
before_rest l u (member k t ms) ns h s = (rest_found k l t u ns (λ e. not_before l k h.0 (sym e)) s.0, before_rest l u ms ns h.1 s.1)

-- a key before the first of keys that rise is before all of them
before_rising : (k l : List ℕ) (ks : List (List ℕ)) → key_before k l ≡ true → rises (l ∷ ks) ≡ true →
    AllByRecursion (λ z. key_before k z ≡ true) (l ∷ ks)
before_rising k l ks b e = let h : rises (k ∷ l ∷ ks) ≡ true = rw (b, e) refl in rises_all k (l ∷ ks) h

-- keys that rise and are all found are no more than those that they are found among
no_more : (ms ns : Members) → rises (keys ms) ≡ true → rises (keys ns) ≡ true → SameMembers ms ns → length (pairs_in ms) ≤ length (pairs_in ns)
no_more no_members ns e f s = omega arith
no_more (member k t ms) no_members e f s = absurd s.0
no_more (member k t ms) (member l u ns) e f s = elim (key_total k l) [
  | inl b ↦ absurd (not_found k t (member l u ns) (before_all k (member l u ns) (before_rising k l (keys ns) b f)) s.0)
  | inr r ↦ elim r [
    | inl g ↦
        (let after = subst (λ (z : List ℕ). AllByRecursion (λ y. key_before z y ≡ true) (keys ms)) g (rises_all k (keys ms) e) in
        let n = no_more ms ns (rises_tail k (keys ms) e) (rises_tail l (keys ns) f) (after_first l u ms ns after s.1) in
        omega arith)
    | inr b ↦
        (let n = no_more (member k t ms) ns e (rises_tail l (keys ns) f) (after_first l u (member k t ms) ns (before_rising l k (keys ms) b e) s) in
        omega arith)
  ]
]

-- as many members, each found among the others, are the same at each place
pub same_places : (ms ns : Members) → rises (keys ms) ≡ true → rises (keys ns) ≡ true → length (pairs_in ms) ≡ length (pairs_in ns) →
    SameMembers ms ns → SameAtPlaces ms ns
same_places no_members no_members e f n s = tt
same_places no_members (member l u ns) e f n s = absurd (omega arith)
same_places (member k t ms) no_members e f n s = absurd s.0
same_places (member k t ms) (member l u ns) e f n s = elim (key_total k l) [
  | inl b ↦ absurd (not_found k t (member l u ns) (before_all k (member l u ns) (before_rising k l (keys ns) b f)) s.0)
  | inr r ↦ elim r [
    | inl g ↦
        (let after = subst (λ (z : List ℕ). AllByRecursion (λ y. key_before z y ≡ true) (keys ms)) g (rises_all k (keys ms) e) in (
          g,
          found_first k l t u ns g s.0,
          same_places ms ns (rises_tail k (keys ms) e) (rises_tail l (keys ns) f) (omega arith) (after_first l u ms ns after s.1),
        ))
    | inr b ↦
        (let m = no_more (member k t ms) ns e (rises_tail l (keys ns) f) (after_first l u (member k t ms) ns (before_rising l k (keys ms) b e) s) in
        absurd (omega arith))
  ]
]

-- where members are the same at each place, there are as many
pub same_count : (ms ns : Members) → SameAtPlaces ms ns → length (pairs_in ms) ≡ length (pairs_in ns)
same_count no_members no_members p = refl
same_count no_members (member l u ns) p = absurd p
same_count (member k t ms) no_members p = absurd p
same_count (member k t ms) (member l u ns) p = ap suc (same_count ms ns p.2)

-- where members are the same at each place, each is found
pub all_found : (ms ns : Members) → rises (keys ms) ≡ true → SameAtPlaces ms ns → SameMembers ms ns
all_found no_members ns e p = tt
all_found (member k t ms) no_members e p = absurd p
all_found (member k t ms) (member l u ns) e p =
    let after = subst (λ (z : List ℕ). AllByRecursion (λ y. key_before z y ≡ true) (keys ms)) p.0 (rises_all k (keys ms) e) in
    (first_found k l t u ns p.0 p.1, before_rest l u ms ns after (all_found ms ns (rises_tail k (keys ms) e) p.2))

-- of objects whose keys rise
pub place_by_place : (ms ns : Members) → rises (keys ms) ≡ true → rises (keys ns) ≡ true
    → ((length (pairs_in ms) ≡ length (pairs_in ns)) × SameMembers ms ns) ↔ SameAtPlaces ms ns
place_by_place ms ns e f = (λ h. same_places ms ns e f h.0 h.1, λ p. (same_count ms ns p, all_found ms ns e p))

-- of pairs whose keys rise
pub pairs_by_place : (ps qs : List (List ℕ × Tree)) → rises (map (λ (p : List ℕ × Tree). p.0) ps) ≡ true → rises (map (λ (q : List ℕ × Tree). q.0) qs)
    ≡ true
    → Same (object (members_from ps)) (object (members_from qs)) ↔ SameAtPlaces (members_from ps) (members_from qs)
pairs_by_place ps qs e f = place_by_place (members_from ps) (members_from qs) (ap rises (keys_from ps) ∙ e) (ap rises (keys_from qs) ∙ f)

-- with nothing left, nothing differs
pub none_left : (ps qs : List (List ℕ × Tree)) → ps ≡ [] → length ps ≡ length qs → SameAtPlaces (members_from ps) (members_from qs)
none_left [] [] e n = tt
none_left [] (q ∷ qs) e n = absurd (omega arith)
none_left (p ∷ ps) qs e n = absurd cc

-- where the first pairs differ, the objects do
pub first_differs : (p q : List ℕ × Tree) (ps qs rs ss : List (List ℕ × Tree)) → ps ≡ p ∷ rs → qs ≡ q ∷ ss → (p.0 ≡ q.0 → Same p.1 q.1 → ⊥)
    → SameAtPlaces (members_from ps) (members_from qs) → ⊥
first_differs p q ps qs rs ss e f h s =
    let t = subst (λ (zs : List (List ℕ × Tree)). SameAtPlaces (members_from ps) (members_from zs)) f s in
    let u = subst (λ (zs : List (List ℕ × Tree)). SameAtPlaces (members_from zs) (members_from (q ∷ ss))) e t in
    h u.0 u.1

-- where the first pairs are the same, what is left without them decides
pub first_same : (p q : List ℕ × Tree) (ps qs rs ss : List (List ℕ × Tree)) (Q : Type 0) → ps ≡ p ∷ rs → qs ≡ q ∷ ss → (p.0 ≡ q.0) × Same p.1 q.1
    → SameAtPlaces (members_from ps) (members_from qs) ↔ Q → SameAtPlaces (members_from rs) (members_from ss) ↔ Q
first_same p q ps qs rs ss Q e f s h =
    let t = subst (λ (zs : List (List ℕ × Tree)). SameAtPlaces (members_from ps) (members_from zs) ↔ Q) f h in
    let u = subst (λ (zs : List (List ℕ × Tree)). SameAtPlaces (members_from zs) (members_from (q ∷ ss)) ↔ Q) e t in
    (λ r. u.0 (s.0, s.1, r), λ x. (u.1 x).2)

-- with nothing left of the second, nothing differs
pub none_right : (ps qs : List (List ℕ × Tree)) → qs ≡ [] → length ps ≡ length qs → SameAtPlaces (members_from ps) (members_from qs)
none_right [] [] e n = tt
none_right (p ∷ ps) [] e n = absurd (omega arith)
none_right ps (q ∷ qs) e n = absurd cc
