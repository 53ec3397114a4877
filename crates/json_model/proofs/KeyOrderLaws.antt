-- The order of keys: total, and keys that rise are in order throughout.
use Rattle.std.proofs.Common.{◌≡◌, ℕ, ◌<◌, eqb, ltb, Bool, true, false, List, [], ◌∷◌, length, refl, ap, ◌∙◌, arith, inl, inr, ◌⊎◌}
use Rattle.std.specs.Prelude.{◌||◌, ◌&&◌}
use Rattle.std.specs.List.{AllByRecursion}
use Rattle.std.proofs.lemmas.Bool.{eqb-true, eq-eqb, ltb-true, ltb-false, lt-ltb}
use Rattle.json_model.specs.Keys.{bytes_before, key_before, rises}

or_either : (a b : Bool) → (a || b) ≡ true → (a ≡ true) ⊎ (b ≡ true)
or_either true b e = inl refl
or_either false b e = inr e

and_both : (a b : Bool) → (a && b) ≡ true → (a ≡ true) × (b ≡ true)
and_both true b e = (refl, e)
and_both false b e = absurd cc

-- below, or equal and then as the rest says
abbrev Leads : ℕ → ℕ → Bool → Type 0
Leads a b r = (a < b) ⊎ ((a ≡ b) × (r ≡ true))

leads : (a b : ℕ) (r : Bool) → (ltb a b || (eqb a b && r)) ≡ true → Leads a b r
leads a b r e = elim (or_either (ltb a b) (eqb a b && r) e) [
  | inl lt ↦ inl (ltb-true a b lt)
  | inr eq ↦ (let t = and_both (eqb a b) r eq in inr (eqb-true a b t.0, t.1))
]

led : (a b : ℕ) (r : Bool) → Leads a b r → (ltb a b || (eqb a b && r)) ≡ true
led a b r (inl lt) = rw (lt-ltb a b lt) refl
led a b r (inr (e, h)) = go (ltb a b) (eq-eqb a b e) h
  where
    go : (c : Bool) → eqb a b ≡ true → r ≡ true → (c || (eqb a b && r)) ≡ true
    go true f h = refl
    go false f h = rw (f, h) refl

leads_trans : (a b c : ℕ) (r s t : Bool) → (r ≡ true → s ≡ true → t ≡ true) → Leads a b r → Leads b c s → Leads a c t
leads_trans a b c r s t f (inl x) (inl y) = inl (omega arith)
leads_trans a b c r s t f (inl x) (inr (e, h)) = inl (omega arith)
leads_trans a b c r s t f (inr (e, h)) (inl y) = inl (omega arith)
leads_trans a b c r s t f (inr (e, h)) (inr (g, k)) = inr (e ∙ g, f h k)

bytes_trans : (x y z : List ℕ) → bytes_before x y ≡ true → bytes_before y z ≡ true → bytes_before x z ≡ true
bytes_trans [] [] z e f = absurd cc
bytes_trans [] (b ∷ ys) [] e f = absurd cc
bytes_trans [] (b ∷ ys) (c ∷ zs) e f = refl
bytes_trans (a ∷ xs) [] z e f = absurd cc
bytes_trans (a ∷ xs) (b ∷ ys) [] e f = absurd cc
bytes_trans (a ∷ xs) (b ∷ ys) (c ∷ zs) e f =
    led a c (bytes_before xs zs)
    (leads_trans a b c (bytes_before xs ys) (bytes_before ys zs) (bytes_before xs zs) (bytes_trans xs ys zs) (leads a b (bytes_before xs ys) e)
    (leads b c (bytes_before ys zs) f))

not_self : (a : ℕ) (r : Bool) → (r ≡ true → ⊥) → Leads a a r → ⊥
not_self a r f (inl lt) = omega arith
not_self a r f (inr (e, h)) = f h

bytes_not : (x : List ℕ) → bytes_before x x ≡ true → ⊥
bytes_not [] e = cc
bytes_not (a ∷ xs) e = not_self a (bytes_before xs xs) (bytes_not xs) (leads a a (bytes_before xs xs) e)

pub key_trans : (x y z : List ℕ) → key_before x y ≡ true → key_before y z ≡ true → key_before x z ≡ true
key_trans x y z e f =
    led (length x) (length z) (bytes_before x z)
    (leads_trans (length x) (length y) (length z) (bytes_before x y) (bytes_before y z) (bytes_before x z) (bytes_trans x y z)
    (leads (length x) (length y) (bytes_before x y) e) (leads (length y) (length z) (bytes_before y z) f))

pub not_before : (x y : List ℕ) → key_before x y ≡ true → x ≡ y → ⊥
not_before x y e same =
    let h : key_before x x ≡ true = ap (key_before x) same ∙ e in
    not_self (length x) (bytes_before x x) (bytes_not x) (leads (length x) (length x) (bytes_before x x) h)

all_after : (x y : List ℕ) (ks : List (List ℕ)) → key_before x y ≡ true → AllByRecursion (λ z. key_before y z ≡ true) ks
    → AllByRecursion (λ z. key_before x z ≡ true) ks
all_after x y [] e h = tt
all_after x y (z ∷ ks) e h = (key_trans x y z e h.0, all_after x y ks e h.1)

pub rises_all : (x : List ℕ) (ks : List (List ℕ)) → rises (x ∷ ks) ≡ true → AllByRecursion (λ z. key_before x z ≡ true) ks
rises_all x [] e = tt
rises_all x (y ∷ ks) e = let t = and_both (key_before x y) (rises (y ∷ ks)) e in (t.0, all_after x y ks t.0 (rises_all y ks t.1))

pub rises_tail : (x : List ℕ) (ks : List (List ℕ)) → rises (x ∷ ks) ≡ true → rises ks ≡ true
rises_tail x [] e = refl
rises_tail x (y ∷ ks) e = (and_both (key_before x y) (rises (y ∷ ks)) e).1

-- of two numbers, each with what decides where they are equal, one leads or both are equal
leads_total : (a b : ℕ) (X Y E : Type 0) (r s : Bool) → (X → r ≡ true) → (Y → s ≡ true) → X ⊎ (E ⊎ Y)
    → Leads a b r ⊎ (((a ≡ b) × E) ⊎ Leads b a s)
leads_total a b X Y E r s f g h = go (ltb a b) (ltb b a) refl refl h
  where
    go : (l m : Bool) → ltb a b ≡ l → ltb b a ≡ m → X ⊎ (E ⊎ Y) → Leads a b r ⊎ (((a ≡ b) × E) ⊎ Leads b a s)
    go true m e k h = inl (inl (ltb-true a b e))
    go false true e k h = inr (inr (inl (ltb-true b a k)))
    go false false e k (inl x) = inl (inr (let p = ltb-false a b e in let q = ltb-false b a k in omega arith, f x))
    go false false e k (inr (inl x)) = inr (inl (let p = ltb-false a b e in let q = ltb-false b a k in omega arith, x))
    go false false e k (inr (inr y)) = inr (inr (inr (let p = ltb-false a b e in let q = ltb-false b a k in omega arith, g y)))

bytes_total : (x y : List ℕ) → (bytes_before x y ≡ true) ⊎ ((x ≡ y) ⊎ (bytes_before y x ≡ true))
bytes_total [] [] = inr (inl refl)
bytes_total [] (b ∷ ys) = inl refl
bytes_total (a ∷ xs) [] = inr (inr refl)
bytes_total (a ∷ xs) (b ∷ ys) =
    elim (leads_total a b (bytes_before xs ys ≡ true) (bytes_before ys xs ≡ true) (xs ≡ ys) (bytes_before xs ys) (bytes_before ys xs) (λ e. e)
    (λ e. e) (bytes_total xs ys)) [
      | inl l ↦ inl (led a b (bytes_before xs ys) l)
      | inr t ↦ elim t [
        | inl e ↦ inr (inl (ap (λ (n : ℕ). n ∷ xs) e.0 ∙ ap (λ (zs : List ℕ). b ∷ zs) e.1))
        | inr l ↦ inr (inr (led b a (bytes_before ys xs) l))
      ]
    ]

-- of two keys one comes first, or they are one key
pub key_total : (x y : List ℕ) → (key_before x y ≡ true) ⊎ ((x ≡ y) ⊎ (key_before y x ≡ true))
key_total x y =
    elim (leads_total (length x) (length y) (bytes_before x y ≡ true) (bytes_before y x ≡ true) (x ≡ y) (bytes_before x y) (bytes_before y x)
    (λ e. e) (λ e. e) (bytes_total x y)) [
      | inl l ↦ inl (led (length x) (length y) (bytes_before x y) l)
      | inr t ↦ elim t [
        | inl e ↦ inr (inl e.1)
        | inr l ↦ inr (inr (led (length y) (length x) (bytes_before y x) l))
      ]
    ]

-- where keys rise, the first comes before the second
pub rises_next : (x y : List ℕ) (ks : List (List ℕ)) → rises (x ∷ y ∷ ks) ≡ true → key_before x y ≡ true
rises_next x y ks e = (and_both (key_before x y) (rises (y ∷ ks)) e).0

-- a key before the first of keys that rise
pub rises_cons : (x y : List ℕ) (ks : List (List ℕ)) → key_before x y ≡ true → rises (y ∷ ks) ≡ true → rises (x ∷ y ∷ ks) ≡ true
rises_cons x y ks e f = rw (e, f) refl
