-- The open groups begin one after the other, and one of them is the innermost around a place.
use Rattle.std.proofs.Common.{◌≡◌, ℕ, zero, suc, ◌+◌, ◌<◌, ◌≤◌, true, false, List, [], ◌∷◌, ◌++◌, length, take, get_or, Option, refl, ap, sym, ◌∙◌, subst, arith}
use Rattle.std.specs.Prelude.{nat_le, nat_lt, if◌then◌else◌}
use Rattle.std.specs.List.{AllWithin}
use Rattle.std.proofs.Math.Seq.{take-suc, take-length}
use Rattle.pattern_model.specs.Tree.{Name}
use Rattle.pattern_tree.specs.declared.places.Places.{Places}
use Rattle.pattern_tree.specs.declared.places.Scope.{Scope}
use Rattle.pattern_tree.specs.Machine.{Outer, State}
use Rattle.pattern_tree.specs.Places.{bottom, OuterPlaced, inner_first, Placed, lives, StartsRise}
use Rattle.pattern_tree.proofs.PlaceLaws.{inner_snoc}

-- each begins after the one around it, the innermost first
abbrev Falls : List Scope → Type 0
Falls [] = Unit {0}
Falls (c ∷ cs) = (bottom cs ≤ c.start) × Falls cs

placed_fall : (place : Name → Option ℕ) (os : List Outer) (cs : List Scope) → OuterPlaced place os cs → Falls cs
placed_fall place [] [] h = tt
placed_fall place [] (c ∷ cs) h = absurd h
placed_fall place (o ∷ os) [] h = absurd h
placed_fall place (o ∷ os) (c ∷ cs) h = (let low = h.0.low in let high = h.0.high in omega arith, placed_fall place os cs h.1)

-- each begins after a place
abbrev AllAfter : ℕ → List Scope → Type 0
AllAfter b [] = Unit {0}
AllAfter b (c ∷ cs) = (b < c.start) × AllAfter b cs

bottom_after : (cs : List Scope) (x : Scope) → AllAfter x.start cs → Falls cs → x.start < bottom (cs ++ (x ∷ []))
bottom_after [] x a f = omega arith
bottom_after (c ∷ cs) x a f = let l = a.0 in omega arith

bottom_front : (cs : List Scope) (x : Scope) → bottom cs ≤ bottom (cs ++ (x ∷ []))
bottom_front [] x = omega arith
bottom_front (c ∷ cs) x = omega arith

falls_front : (cs : List Scope) (x : Scope) → Falls (cs ++ (x ∷ [])) → Falls cs × AllAfter x.start cs
falls_front [] x h = (tt, tt)
falls_front (c ∷ cs) x h =
    let (f, a) = falls_front cs x h.1 in
    let low = h.0 in
    let b = bottom_front cs x in
    let k = bottom_after cs x a f in
    ((omega arith, f), (omega arith, a))

after_front : (b : ℕ) (cs : List Scope) (x : Scope) → AllAfter b (cs ++ (x ∷ [])) → AllAfter b cs × (b < x.start)
after_front b [] x h = (tt, h.0)
after_front b (c ∷ cs) x h = let (a, l) = after_front b cs x h.1 in ((h.0, a), l)

after_at : (b : ℕ) (xs : List Scope) → AllAfter b (inner_first xs) → (k : ℕ) (d : Scope) → k < length xs → b < (get_or xs k d).start
after_at b [] h k d l = absurd (omega arith)
after_at b (x ∷ xs) h zero d l = (after_front b (inner_first xs) x h).1
after_at b (x ∷ xs) h (suc k) d l = after_at b xs (after_front b (inner_first xs) x h).0 k d (omega arith)

falls_rise : (xs : List Scope) → Falls (inner_first xs) → (i j : ℕ) (d : Scope) → i ≤ j → j < length xs →
    (get_or xs i d).start ≤ (get_or xs j d).start
falls_rise [] h i j d le l = absurd (omega arith)
falls_rise (x ∷ xs) h zero zero d le l = omega arith
falls_rise (x ∷ xs) h zero (suc j) d le l =
    let k : x.start < (get_or xs j d).start = after_at x.start xs (falls_front (inner_first xs) x h).1 j d (omega arith) in omega arith
falls_rise (x ∷ xs) h (suc i) zero d le l = absurd (omega arith)
falls_rise (x ∷ xs) h (suc i) (suc j) d le l = falls_rise xs (falls_front (inner_first xs) x h).0 i j d (omega arith) (omega arith)

-- what the reader keeps says that the open groups stand in their order
pub starts_rise : (p : Places) (s : State) (at : ℕ) → Placed p s at → StartsRise p.outer.items
starts_rise p s at h = falls_rise p.outer.items (placed_fall _ s.outer (inner_first p.outer.items) h.outer)

last_scope : (xs : List Scope) (j : ℕ) (c : Scope) → j < length xs → c ≡ get_or xs j c →
    inner_first (take (suc j) xs) ≡ c ∷ inner_first (take j xs)
last_scope xs j c h e =
    ap inner_first (take-suc xs j c h ∙ ap (λ z. take j xs ++ (z ∷ [])) (sym e)) ∙ inner_snoc (take j xs) c

get_any : (xs : List Scope) (j : ℕ) (c d : Scope) → j < length xs → get_or xs j c ≡ get_or xs j d
get_any [] j c d h = absurd (omega arith)
get_any (x ∷ xs) zero c d h = refl
get_any (x ∷ xs) (suc j) c d h = get_any xs j c d (omega arith)

self_at : (xs : List Scope) (j : ℕ) (d : Scope) → j < length xs → get_or xs j d ≡ get_or xs j (get_or xs j d)
self_at xs j d h = get_any xs j d (get_or xs j d) h

module _ (xs : List Scope) (p : ℕ) where
  -- from the place on which they begin after p, the walk from the innermost passes over the groups
  passes : (i n a : ℕ) (c : Scope) → i < length xs → c ≡ get_or xs i c → nat_lt c.start p ≡ false →
      lives a (inner_first (take (suc i) xs)) p ≡ lives c.alternative (inner_first (take i xs)) p
  passes i n a c h e f =
      ap (λ z. lives a z p) (last_scope xs i c h e) ∙ ap (λ z. if z then nat_le a p else lives c.alternative (inner_first (take i xs)) p) f

  stops : (i a : ℕ) (d : Scope) → i ≤ length xs → AllWithin (λ s. nat_lt s.start p ≡ true) xs 0 i →
      lives a (inner_first (take i xs)) p ≡ nat_le a p
  stops zero a d h k = refl
  stops (suc i) a d h k =
      let c = get_or xs i d in
      ap (λ z. lives a z p) (last_scope xs i c (omega arith) (self_at xs i d (omega arith)))
      ∙ ap (λ z. if z then nat_le a p else lives c.alternative (inner_first (take i xs)) p) (k i d (omega arith) (omega arith))

  walks : (n i a : ℕ) (c : Scope) → suc (i + n) ≡ length xs → c ≡ get_or xs i c →
      AllWithin (λ s. nat_lt s.start p ≡ false) xs i (length xs) →
      lives a (inner_first xs) p ≡ lives c.alternative (inner_first (take i xs)) p
  walks zero i a c e k h =
      let all : take (suc i) xs ≡ xs = ap (λ z. take z xs) (let m : suc i ≡ length xs = omega arith in m) ∙ take-length xs in
      ap (λ z. lives a (inner_first z) p) (sym all)
      ∙ passes i 0 a c (omega arith) k (subst (λ z. nat_lt z.start p ≡ false) (sym k) (h i c (omega arith) (omega arith)))
  walks (suc n) i a c e k h =
      let d = get_or xs (suc i) c in
      walks n (suc i) a d (omega arith) (self_at xs (suc i) c (omega arith)) (λ j b l m. h j b (omega arith) m)
      ∙ passes i 0 d.alternative c (omega arith) k (subst (λ z. nat_lt z.start p ≡ false) (sym k) (h i c (omega arith) (omega arith)))

  -- the innermost group around p is the last that begins before it, and the next tells where its open alternative began
  pub live_inside : (i a : ℕ) (c : Scope) → i < length xs → c ≡ get_or xs i c → AllWithin (λ s. nat_lt s.start p ≡ true) xs 0 i →
      AllWithin (λ s. nat_lt s.start p ≡ false) xs i (length xs) → nat_le c.alternative p ≡ lives a (inner_first xs) p
  live_inside i a c h e before after =
      let n = sub (length xs) i h in
      sym (walks n.0 i a c n.1 e after ∙ stops i c.alternative c (omega arith) before)
    where
      sub : (m i : ℕ) → i < m → (n : ℕ) × (suc (i + n) ≡ m)
      sub zero i h = absurd (omega arith)
      sub (suc m) zero h = (m, omega arith)
      sub (suc m) (suc i) h = let (n, e) = sub m i (omega arith) in (n, omega arith)

  pub live_end : (i a : ℕ) (d : Scope) → i ≡ length xs → AllWithin (λ s. nat_lt s.start p ≡ true) xs 0 i →
      nat_le a p ≡ lives a (inner_first xs) p
  live_end i a d e before =
      let all : take i xs ≡ xs = ap (λ z. take z xs) e ∙ take-length xs in
      sym (ap (λ z. lives a (inner_first z) p) (sym all) ∙ stops i a d (omega arith) before)
