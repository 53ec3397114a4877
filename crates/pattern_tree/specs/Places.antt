-- Where the last group of each name begins, and what that tells of the names that a group cannot have.
use Rattle.std.specs.Prelude.{◌≡◌, ℕ, ◌+◌, ◌≤◌, Bool, true, false, ◌&&◌, ◌||◌, nat_le, nat_lt, List, [], ◌∷◌, ◌++◌, Option, Some, None, ◌⊎◌, if◌then◌else◌}
use Rattle.std.specs.List.{list_all}
use Rattle.std.specs.List.Sorted.{IsNonDecreasingBy}
use Rattle.std.specs.Option.{is_some}
use Rattle.std.specs.BTreeMap.{get_by_text}
use Rattle.pattern_tree.specs.declared.places.Places.{Places}
use Rattle.pattern_tree.specs.declared.places.Scope.{Scope}
use Rattle.pattern_model.specs.Tree.{Name, Mark, Token}
use Rattle.pattern_tree.specs.Machine.{Frame, Outer, State, step}
use Rattle.pattern_model.specs.SharedNames.{is_in, mark_names}
use Rattle.pattern_tree.specs.LiveNames.{opt_names, live_frame, allowed}

-- the place is there, and is at least a, or between a and b
abbrev pub from : ℕ → Option ℕ → Bool
from a None = false
from a (Some p) = nat_le a p

abbrev pub between : ℕ → ℕ → Option ℕ → Bool
between a b None = false
between a b (Some p) = nat_le a p && nat_le p b

-- at least a, and below b
abbrev pub below : ℕ → ℕ → Option ℕ → Bool
below a b None = false
below a b (Some p) = nat_le a p && nat_lt p b

-- where the inside of the innermost of these groups begins at the least
abbrev pub bottom : List Scope → ℕ
bottom [] = 0
bottom (c ∷ cs) = c.start + 1

module _ (place : Name → Option ℕ) where
  -- A group that is open, from `a` on, whose alternative began at `b`, and in which a group opened at `c` with this mark.
  pub record FramePlaced (a b c : ℕ) (f : Frame) (m : Mark) : Type 0 where
    pub row : f.last ≡ None → f.before ≡ None
    pub low : a ≤ b
    pub high : b ≤ c
    pub live : (q : Name) → is_in q (live_frame f) || is_in q (mark_names m) ≡ between b c (place q)
    pub done : (q : Name) → is_in q (opt_names f.done) ≡ true → from a (place q) ≡ true
    pub before : (q : Name) → below a b (place q) ≡ true → is_in q (opt_names f.done) ≡ true

  abbrev pub OuterPlaced : List Outer → List Scope → Type 0
  OuterPlaced [] [] = Unit {0}
  OuterPlaced (o ∷ os) (c ∷ cs) = FramePlaced (bottom cs) c.alternative c.start o.frame o.mark × OuterPlaced os cs
  OuterPlaced _ _ = ⊥

-- the groups stand in the order in which they begin
abbrev pub StartsRise : List Scope → Type 0
StartsRise cs = IsNonDecreasingBy (λ c. c.start) cs

-- the innermost first
abbrev pub inner_first : List Scope → List Scope
inner_first [] = []
inner_first (c ∷ cs) = inner_first cs ++ (c ∷ [])

abbrev pub place_of : Places → Name → Option ℕ
place_of p q = get_by_text p.latest q

-- what the places tell of a state, at a place in the text
pub record Placed (p : Places) (s : State) (at : ℕ) : Type 0 where
  pub outer : OuterPlaced (place_of p) s.outer (inner_first p.outer.items)
  pub row : s.here.last ≡ None → s.here.before ≡ None
  pub low : bottom (inner_first p.outer.items) ≤ p.alternative
  pub high : p.alternative ≤ at
  pub live : (q : Name) → is_in q (live_frame s.here) ≡ from p.alternative (place_of p q)
  pub all : (q : Name) → is_in q (opt_names s.here.done) || is_in q (live_frame s.here) ≡ from (bottom (inner_first p.outer.items))
      (place_of p q)
  pub early : (q : Name) → from at (place_of p q) ≡ false

-- whether the token may stand here, and what the places then tell
abbrev pub Allows : Token → State → ℕ → Places → Bool → Type 0
Allows t s end new true = (allowed t s ≡ true) × ((n : State) → step t s ≡ Some n → Placed new n end)
Allows t s end new false = allowed t s ≡ false

-- the innermost scope is taken off, where there is one
abbrev pub Popped : Places → Places → Type 0
Popped old new =
    (old.outer.items ≡ []) ⊎ ((c : Scope) × (old.outer.items ≡ new.outer.items ++ (c ∷ [])) × (new.alternative ≡ c.alternative))

-- a place stands in the open alternative of the innermost group that is around it
abbrev pub lives : ℕ → List Scope → ℕ → Bool
lives alternative [] p = nat_le alternative p
lives alternative (c ∷ cs) p = if nat_lt c.start p then nat_le alternative p else lives c.alternative cs p

abbrev pub lives_at : Places → Option ℕ → Bool
lives_at p None = false
lives_at p (Some q) = lives p.alternative (inner_first p.outer.items) q

abbrev pub taken : Places → Name → Bool
taken p n = lives_at p (place_of p n)

-- each of the names is a key
abbrev pub has_all : Places → List Name → Bool
has_all p ns = list_all (λ q. is_some (place_of p q)) ns
