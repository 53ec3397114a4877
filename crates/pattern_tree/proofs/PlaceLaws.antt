-- The places of names, as tokens are read.
use Rattle.std.proofs.Common.{Global, ◌≡◌, ℕ, ◌+◌, ◌<◌, ◌≤◌, Bool, true, false, not, ◌&&◌, List, [], ◌∷◌, ◌++◌, map, Option, Some, None, option_map, refl, ap, sym, ◌∙◌, subst, arith, append-nil, inl, inr}
use Rattle.std.proofs.Math.Bool.{or_assoc}
use Rattle.std.specs.Prelude.{nat_le, nat_lt, ◌||◌, if◌then◌else◌, string_bytes, String, Vec}
use Rattle.std.specs.Option.{is_some}
use Rattle.std.specs.Map.{lookup, update}
use Rattle.std.specs.Str.{bytes_eq}
use Rattle.std.proofs.lemmas.Slice.Eq.{bytes_eq-Decides}
use Rattle.std.proofs.lemmas.Bool.Decides.{same_from_decides}
use Rattle.std.specs.BTreeMap.{BTreeMap, IsEmpty, get_by_text}
use Rattle.std.proofs.lemmas.Bool.Decides.{nat_tests}
use Rattle.std.proofs.lemmas.Bool.{le-leb}
use Rattle.std.proofs.Math.Dec.{leb-zero}
use Rattle.std.proofs.lemmas.List.{map-append}
use Rattle.std.proofs.lemmas.List.Folds.{list_all-append}
use Rattle.pattern_tree.specs.declared.places.Places.{Places}
use Rattle.pattern_tree.specs.declared.places.Scope.{Scope}
use Rattle.pattern_model.specs.Tree.{Name, Leaf, Mark, Bounds, Tree, leaf, group, repeat, Token}
use Rattle.pattern_tree.specs.Machine.{Frame, Outer, State, fresh, begin, with_here, push, whole, with_done, alternative_of, barred, can_repeat, repeated, closed, finished}
use Rattle.pattern_model.specs.SharedNames.{is_in, disjoint, mark_names, names}
use Rattle.pattern_tree.specs.LiveNames.{opt_names, live_frame, live_outer, live}
use Rattle.pattern_tree.specs.Places.{from, between, below, bottom, FramePlaced, OuterPlaced, inner_first, Placed, Allows, Popped, lives, lives_at, taken, place_of, has_all}
use Rattle.pattern_tree.proofs.NameLaws.{in_append, live_push}

-- the names of back-references
and_true : (a b : Bool) → b ≡ true → a && (b && true) ≡ a
and_true true b e = ap (λ z. z && true) e
and_true false b e = refl

and_false : (a b : Bool) → b ≡ false → a && (b && true) ≡ false
and_false true b e = ap (λ z. z && true) e
and_false false b e = refl

split_last : (p : Places) (names front : List (String Global)) (n : String Global) → names ≡ front ++ (n ∷ []) →
    has_all p (map string_bytes names) ≡ has_all p (map string_bytes front) && (is_some (place_of p (string_bytes n)) && true)
split_last p names front n e =
    ap (λ z. has_all p (map string_bytes z)) e ∙ (ap (has_all p) (map-append string_bytes front (n ∷ []))
    ∙ list_all-append (λ q. is_some (place_of p q)) (map string_bytes front) (string_bytes n ∷ []))

pub lacks : (p : Places) (names front : List (String Global)) (n : String Global) → names ≡ front ++ (n ∷ []) →
    is_some (place_of p (string_bytes n)) ≡ false → has_all p (map string_bytes names) ≡ false
lacks p names front n e f = split_last p names front n e ∙ and_false _ _ f

pub has_one : (p : Places) (names front : List (String Global)) (n : String Global) → names ≡ front ++ (n ∷ []) →
    is_some (place_of p (string_bytes n)) ≡ true → has_all p (map string_bytes names) ≡ has_all p (map string_bytes front)
has_one p names front n e f = split_last p names front n e ∙ and_true _ _ f

-- tests on places
from_between : (b k : ℕ) (p : Option ℕ) → b ≤ k → between b k p || from (k + 1) p ≡ from b p
from_between b k None h = refl
from_between b k (Some p) h = grind (arith, nat_tests)

between_early : (b at : ℕ) (p : Option ℕ) → from at p ≡ false → from b p ≡ between b at p
between_early b at None h = refl
between_early b at (Some p) h = grind (arith, nat_tests)

later : (a b : ℕ) (p : Option ℕ) → a ≤ b → from a p ≡ false → from b p ≡ false
later a b None le h = refl
later a b (Some p) le h = grind (arith, nat_tests)

from_some : (a p : ℕ) → a ≤ p → from a (Some p) ≡ true
from_some a p h = le-leb a p h

not_from : (a p : ℕ) → p < a → from a (Some p) ≡ false
not_from a p h = grind (arith, nat_tests)

not_between : (b k p : ℕ) → k < p → between b k (Some p) ≡ false
not_between b k p h = grind (arith, nat_tests)

is_between : (b p : ℕ) → b ≤ p → between b p (Some p) ≡ true
is_between b p h = grind (arith, nat_tests)

not_below : (a b p : ℕ) → b ≤ p → below a b (Some p) ≡ false
not_below a b p h = grind (arith, nat_tests)

below_from : (a b : ℕ) (p : Option ℕ) → below a b p ≡ true → (from a p ≡ true) × (from b p ≡ false)
below_from a b None h = cc
below_from a b (Some p) h = go (nat_le a p) (nat_lt p b) refl refl h
  where
    go : (x y : Bool) → nat_le a p ≡ x → nat_lt p b ≡ y → x && y ≡ true → (x ≡ true) × (nat_le b p ≡ false)
    go true true e f h = (refl, grind (arith, nat_tests))
    go true false e f h = cc
    go false y e f h = cc

joined_done : (d : Bool) (a b : ℕ) (p : Option ℕ) → a ≤ b → (d ≡ true → from a p ≡ true) → (below a b p ≡ true → d ≡ true) →
    d || from b p ≡ from a p
joined_done true a b p le f g = sym (f refl)
joined_done false a b None le f g = refl
joined_done false a b (Some p) le f g = go (nat_le a p) (nat_lt p b) refl refl g
  where
    go : (x y : Bool) → nat_le a p ≡ x → nat_lt p b ≡ y → (x && y ≡ true → false ≡ true) → nat_le b p ≡ x
    go true true e f g = let h = g refl in cc
    go true false e f g = grind (arith, nat_tests)
    go false y e f g = grind (arith, nat_tests)

or_false : (a : Bool) → a || false ≡ a
or_false true = refl
or_false false = refl

whole_names : (d b l : Option Tree) → (l ≡ None → b ≡ None) →
    names (with_done d (alternative_of b l)) ≡ opt_names d ++ (opt_names b ++ opt_names l)
whole_names None None None h = refl
whole_names None (Some s) None h = let e : Some s ≡ None = h refl in cc
whole_names None None (Some t) h = refl
whole_names None (Some s) (Some t) h = refl
whole_names (Some d) None None h = refl
whole_names (Some d) (Some s) None h = let e : Some s ≡ None = h refl in cc
whole_names (Some d) None (Some t) h = refl
whole_names (Some d) (Some s) (Some t) h = refl

pub inner_snoc : (xs : List Scope) (c : Scope) → inner_first (xs ++ (c ∷ [])) ≡ c ∷ inner_first xs
inner_snoc [] c = refl
inner_snoc (x ∷ xs) c = ap (λ z. z ++ (x ∷ [])) (inner_snoc xs c)

pub placed_first : (latest : BTreeMap (String Global) ℕ) (outer : Vec Scope Global) (s : State) (at : ℕ) → IsEmpty latest →
    outer.items ≡ [] → s ≡ begin → Placed (record { latest = latest; outer = outer; alternative = 0 }) s at
placed_first latest outer s at e f g =
    let none : (q : Name) → get_by_text latest q ≡ None = λ q. empty_map latest e q in
    let scopes : inner_first outer.items ≡ [] = ap inner_first f in
    subst (λ z. Placed (record { latest = latest; outer = outer; alternative = 0 }) z at) (sym g) (record {
      outer = subst (λ z. OuterPlaced (λ q. get_by_text latest q) [] z) (sym scopes) tt;
      row = λ z. refl;
      low = let k : bottom (inner_first outer.items) ≡ 0 = ap bottom scopes in omega arith;
      high = omega arith;
      live = λ q. sym (ap (from 0) (none q));
      all = λ q. sym (ap (from (bottom (inner_first outer.items))) (none q));
      early = λ q. ap (from at) (none q);
    })
  where
    empty_map : (m : BTreeMap (String Global) ℕ) → IsEmpty m → (q : Name) → get_by_text m q ≡ None
    empty_map m e q = ap (lookup _) e

-- the same places
frame_alike : (f g : Name → Option ℕ) (a b c : ℕ) (fr : Frame) (m : Mark) → ((q : Name) → f q ≡ g q) → FramePlaced f a b c fr m →
    FramePlaced g a b c fr m
frame_alike f g a b c fr m e h = record {
  row = h.row;
  low = h.low;
  high = h.high;
  live = λ q. h.live q ∙ ap (between b c) (e q);
  done = λ q k. ap (from a) (sym (e q)) ∙ h.done q k;
  before = λ q k. h.before q (ap (below a b) (e q) ∙ k);
}

placed_alike : (f g : Name → Option ℕ) (os : List Outer) (cs : List Scope) → ((q : Name) → f q ≡ g q) → OuterPlaced f os cs →
    OuterPlaced g os cs
placed_alike f g [] [] e h = tt
placed_alike f g [] (c ∷ cs) e h = absurd h
placed_alike f g (o ∷ os) [] e h = absurd h
placed_alike f g (o ∷ os) (c ∷ cs) e h =
    (frame_alike f g (bottom cs) c.alternative c.start o.frame o.mark e h.0, placed_alike f g os cs e h.1)

-- a token that changes no name
pub placed_same : (p : Places) (s n : State) (at end : ℕ) → Placed p s at → at ≤ end → n.outer ≡ s.outer → n.here.done ≡ s.here.done →
    live_frame n.here ≡ live_frame s.here → (n.here.last ≡ None → n.here.before ≡ None) → Placed p n end
placed_same p s n at end h le o d l r = record {
  outer = subst (λ z. OuterPlaced (place_of p) z (inner_first p.outer.items)) (sym o) h.outer;
  row = r;
  low = h.low;
  high = let a = h.high in omega arith;
  live = λ q. ap (is_in q) l ∙ h.live q;
  all = λ q. ap (λ z. is_in q (opt_names z) || is_in q (live_frame n.here)) d ∙ (ap (λ z. is_in q (opt_names s.here.done) || is_in q z) l
      ∙ h.all q);
  early = λ q. later at end (place_of p q) le (h.early q);
}

pub placed_bar : (p new : Places) (s : State) (at end : ℕ) → Placed p s at → at ≤ end → new.latest ≡ p.latest → new.outer ≡ p.outer →
    new.alternative ≡ end → Placed new (with_here s.outer (barred s.here)) end
placed_bar p new s at end h le e f g =
    let same : (q : Name) → place_of new q ≡ place_of p q = λ q. ap (λ z. get_by_text z q) e in
    let scopes : inner_first new.outer.items ≡ inner_first p.outer.items = ap (λ z. inner_first z.items) f in
    record {
      outer = placed_alike (place_of p) (place_of new) s.outer (inner_first new.outer.items) (λ q. sym (same q))
          (subst (λ z. OuterPlaced (place_of p) s.outer z) (sym scopes) h.outer);
      row = λ z. refl;
      low = let a = h.low in let b = h.high in let k : bottom (inner_first new.outer.items) ≡ bottom (inner_first p.outer.items) =
          ap bottom scopes in omega arith;
      high = omega arith;
      live = λ q. sym (ap (λ z. from z (place_of new q)) g ∙ (ap (from end) (same q) ∙ later at end (place_of p q) le (h.early q)));
      all = λ q. or_false _ ∙ (ap (is_in q) (whole_names s.here.done s.here.before s.here.last h.row)
          ∙ (in_append q (opt_names s.here.done) (live_frame s.here)
          ∙ (h.all q ∙ (ap (λ z. from (bottom z) (place_of p q)) (sym scopes)
          ∙ ap (from (bottom (inner_first new.outer.items))) (sym (same q))))));
      early = λ q. ap (from end) (same q) ∙ later at end (place_of p q) le (h.early q);
    }

-- the names of a tree that was finished
pub state_names : (p : Places) (s : State) (at : ℕ) (t : Tree) → Placed p s at → finished s.here s.outer ≡ Some t → (q : Name) →
    is_some (place_of p q) ≡ is_in q (names t)
state_names p s at t h e q = go s.outer (inner_first p.outer.items) h.outer (h.all q) e
  where
    any : (o : Option ℕ) → is_some o ≡ from 0 o
    any None = refl
    any (Some p) = sym (leb-zero p)

    go : (os : List Outer) (cs : List Scope) → OuterPlaced (place_of p) os cs →
        is_in q (opt_names s.here.done) || is_in q (live_frame s.here) ≡ from (bottom cs) (place_of p q) → finished s.here os ≡ Some t →
        is_some (place_of p q) ≡ is_in q (names t)
    go [] [] g a e =
        let w : whole s.here ≡ t = some_same e in
        any (place_of p q)
        ∙ (sym a ∙ (sym (in_append q (opt_names s.here.done) (live_frame s.here))
        ∙ (ap (is_in q) (sym (whole_names s.here.done s.here.before s.here.last h.row)) ∙ ap (λ z. is_in q (names z)) w)))
      where
        some_same : {A : Type 0} {a b : A} → Some a ≡ Some b → a ≡ b
        some_same e = cc
    go [] (c ∷ cs) g a e = absurd g
    go (o ∷ os) cs g a e = cc

-- a closing parenthesis
pub placed_closes : (p new : Places) (s : State) (f : Frame) (o : Outer) (os : List Outer) (c : Scope) (at end : ℕ) → Placed p s at →
    at ≤ end → s.here ≡ f → s.outer ≡ o ∷ os →
    new.latest ≡ p.latest → p.outer.items ≡ new.outer.items ++ (c ∷ []) → new.alternative ≡ c.alternative →
    Placed new (record { here = push (group o.mark (whole f)) o.frame; outer = os }) end
placed_closes p new s f o os c at end h le ef eo e g a =
    let same : (q : Name) → place_of new q ≡ place_of p q = λ q. ap (λ z. get_by_text z q) e in
    let cs = inner_first new.outer.items in
    let split : inner_first p.outer.items ≡ c ∷ cs = ap inner_first g ∙ inner_snoc new.outer.items c in
    let both : OuterPlaced (place_of p) (o ∷ os) (c ∷ cs) =
    subst (λ z. OuterPlaced (place_of p) (o ∷ os) z) split (subst (λ z. OuterPlaced (place_of p) z (inner_first p.outer.items)) eo
    h.outer) in
    let outer : FramePlaced (place_of p) (bottom cs) c.alternative c.start o.frame o.mark = both.0 in
    let t : Tree = group o.mark (whole f) in
    let inner : (q : Name) → is_in q (names (whole f)) ≡ from (c.start + 1) (place_of p q) = λ q.
    ap (λ z. is_in q (names (whole z))) (sym ef) ∙ (ap (is_in q) (whole_names s.here.done s.here.before s.here.last h.row)
    ∙ (in_append q (opt_names s.here.done) (live_frame s.here) ∙ (h.all q ∙ ap (λ z. from (bottom z) (place_of p q)) split))) in
    let now : (q : Name) → is_in q (live_frame (push t o.frame)) ≡ from c.alternative (place_of p q) = λ q.
    ap (is_in q) (live_push t o.frame) ∙ (in_append q (live_frame o.frame) (mark_names o.mark ++ names (whole f))
    ∙ (ap (λ z. is_in q (live_frame o.frame) || z) (in_append q (mark_names o.mark) (names (whole f)))
    ∙ (sym (or_assoc (is_in q (live_frame o.frame)) (is_in q (mark_names o.mark)) (is_in q (names (whole f))))
    ∙ (ap (λ z. z || is_in q (names (whole f))) (outer.live q) ∙ (ap (λ z. between c.alternative c.start (place_of p q) || z) (inner q)
    ∙ from_between c.alternative c.start (place_of p q) outer.high))))) in
    record {
      outer = placed_alike (place_of p) (place_of new) os cs (λ q. sym (same q)) both.1;
      row = λ z. no_row z;
      low = let k = outer.low in subst (λ z. bottom cs ≤ z) (sym a) k;
      high = let k = h.low in let b : bottom (inner_first p.outer.items) ≡ c.start + 1 = ap bottom split in let d = h.high in let i =
          outer.high in omega arith;
      live = λ q. now q ∙ (ap (λ z. from z (place_of p q)) (sym a) ∙ ap (from new.alternative) (sym (same q)));
      all = λ q. ap (λ z. is_in q (opt_names o.frame.done) || z) (now q)
          ∙ (joined_done (is_in q (opt_names o.frame.done)) (bottom cs) c.alternative (place_of p q) outer.low (outer.done q)
          (outer.before q) ∙ ap (from (bottom cs)) (sym (same q)));
      early = λ q. ap (from end) (same q) ∙ later at end (place_of p q) le (h.early q);
    }
  where
    no_row : {t : Tree} {z : Option Tree} → Some t ≡ None → z ≡ None
    no_row e = cc

or_none : (a b : Bool) → a || b ≡ false → (a ≡ false) × (b ≡ false)
or_none true b e = cc
or_none false b e = (refl, e)

module _ (f g : Name → Option ℕ) (t : Name → Bool) (at : ℕ) (moves : (q : Name) → g q ≡ (if t q then Some at else f q)) where
  moves_on : (q : Name) → t q ≡ true → g q ≡ Some at
  moves_on q e = moves q ∙ ap (λ z. if z then Some at else f q) e

  stays : (q : Name) → t q ≡ false → g q ≡ f q
  stays q e = moves q ∙ ap (λ z. if z then Some at else f q) e

  moved_frame : (a b c : ℕ) (fr : Frame) (m : Mark) → c < at →
      ((q : Name) → t q ≡ true → is_in q (live_frame fr) || is_in q (mark_names m) ≡ false) → FramePlaced f a b c fr m →
      FramePlaced g a b c fr m
  moved_frame a b c fr m lt free h = record {
    row = h.row;
    low = h.low;
    high = h.high;
    live = λ q. live q (t q) refl;
    done = λ q k. done q k (t q) refl;
    before = λ q k. before q k (t q) refl;
  }
    where
      live : (q : Name) (b2 : Bool) → t q ≡ b2 → is_in q (live_frame fr) || is_in q (mark_names m) ≡ between b c (g q)
      live q true e = free q e ∙ sym (ap (between b c) (moves_on q e) ∙ not_between b c at lt)
      live q false e = h.live q ∙ ap (between b c) (sym (stays q e))

      done : (q : Name) → is_in q (opt_names fr.done) ≡ true → (b2 : Bool) → t q ≡ b2 → from a (g q) ≡ true
      done q k true e = ap (from a) (moves_on q e) ∙ from_some a at (let x = h.low in let y = h.high in omega arith)
      done q k false e = ap (from a) (stays q e) ∙ h.done q k

      before : (q : Name) → below a b (g q) ≡ true → (b2 : Bool) → t q ≡ b2 → is_in q (opt_names fr.done) ≡ true
      before q k true e = let x : below a b (Some at) ≡ false =
          not_below a b at (let y = h.high in omega arith) in let z : below a b (Some at) ≡ true = ap (below a b) (sym (moves_on q e))
          ∙ k in cc
      before q k false e = h.before q (ap (below a b) (sym (stays q e)) ∙ k)

  moved_outer : (os : List Outer) (cs : List Scope) → bottom cs ≤ at → ((q : Name) → t q ≡ true → is_in q (live_outer os) ≡ false) →
      OuterPlaced f os cs → OuterPlaced g os cs
  moved_outer [] [] le free h = tt
  moved_outer [] (c ∷ cs) le free h = absurd h
  moved_outer (o ∷ os) [] le free h = absurd h
  moved_outer (o ∷ os) (c ∷ cs) le free h = (
    moved_frame (bottom cs) c.alternative c.start o.frame o.mark (omega arith)
        (λ q e. sym (in_append q (live_frame o.frame) (mark_names o.mark))
        ∙ (or_none _ _ (sym (in_append q (live_outer os) (live_frame o.frame ++ mark_names o.mark)) ∙ free q e)).1) h.0,
    moved_outer os cs (let x = h.0.low in let y = h.0.high in omega arith)
        (λ q e. (or_none _ _ (sym (in_append q (live_outer os) (live_frame o.frame ++ mark_names o.mark)) ∙ free q e)).0) h.1,
  )

  not_early : (end : ℕ) (q : Name) → at < end → from at (f q) ≡ false → (b2 : Bool) → t q ≡ b2 → from end (g q) ≡ false
  not_early end q lt k true e = ap (from end) (moves_on q e) ∙ not_from end at lt
  not_early end q lt k false e = ap (from end) (stays q e) ∙ later at end (f q) (omega arith) k

-- an opening parenthesis
pub placed_opens : (p new : Places) (s : State) (m : Mark) (at end : ℕ) → Placed p s at → at < end →
    ((q : Name) → place_of new q ≡ (if is_in q (mark_names m) then Some at else place_of p q)) →
    ((q : Name) → is_in q (mark_names m) ≡ true → is_in q (live s) ≡ false) →
    new.outer.items ≡ p.outer.items ++ ((record { start = at; alternative = p.alternative }) ∷ []) → new.alternative ≡ end →
    Placed new (record { here = fresh; outer = record { mark = m; frame = s.here } ∷ s.outer }) end
placed_opens p new s m at end h lt moves free g a =
    let f = place_of p in
    let k = place_of new in
    let t : Name → Bool = λ q. is_in q (mark_names m) in
    let cs = inner_first p.outer.items in
    let c : Scope = record { start = at; alternative = p.alternative } in
    let split : inner_first new.outer.items ≡ c ∷ cs = ap inner_first g ∙ inner_snoc p.outer.items c in
    let none : (q : Name) → t q ≡ true → (is_in q (live_outer s.outer) ≡ false) × (is_in q (live_frame s.here) ≡ false) =
    λ q e. or_none _ _ (sym (in_append q (live_outer s.outer) (live_frame s.here)) ∙ free q e) in
    let low = h.low in
    let high = h.high in
    let older : OuterPlaced k s.outer cs = moved_outer f k t at moves s.outer cs (omega arith) (λ q e. (none q e).0) h.outer in
    let mine : FramePlaced k (bottom cs) p.alternative at s.here m = record {
      row = h.row;
      low = h.low;
      high = h.high;
      live = λ q. live q (t q) refl;
      done = λ q d. done q d (t q) refl;
      before = λ q d. before q d (t q) refl;
    } in
    record {
      outer = subst (λ z. OuterPlaced k (record { mark = m; frame = s.here } ∷ s.outer) z) (sym split) (mine, older);
      row = λ z. refl;
      low = let b : bottom (inner_first new.outer.items) ≡ at + 1 = ap bottom split in omega arith;
      high = omega arith;
      live = λ q. sym (ap (λ z. from z (k q)) a ∙ not_early f k t at moves end q lt (h.early q) (t q) refl);
      all = λ q. sym (ap (λ z. from (bottom z) (k q)) split ∙ not_early f k t at moves (at + 1) q (omega arith) (h.early q) (t q) refl);
      early = λ q. not_early f k t at moves end q lt (h.early q) (t q) refl;
    }
  where
    live : (q : Name) (b2 : Bool) → is_in q (mark_names m) ≡ b2 →
        is_in q (live_frame s.here) || is_in q (mark_names m) ≡ between p.alternative at (place_of new q)
    live q true e = ap (λ z. is_in q (live_frame s.here) || z) e
        ∙ (or_true (is_in q (live_frame s.here))
        ∙ sym (ap (between p.alternative at) (moves q ∙ ap (λ z. if z then Some at else place_of p q) e)
        ∙ is_between p.alternative at h.high))
      where
        or_true : (a : Bool) → a || true ≡ true
        or_true true = refl
        or_true false = refl
    live q false e = ap (λ z. is_in q (live_frame s.here) || z) e
        ∙ (or_false _
        ∙ (h.live q ∙ (between_early p.alternative at (place_of p q) (h.early q)
        ∙ ap (between p.alternative at) (sym (moves q ∙ ap (λ z. if z then Some at else place_of p q) e)))))

    done : (q : Name) → is_in q (opt_names s.here.done) ≡ true → (b2 : Bool) → is_in q (mark_names m) ≡ b2 →
        from (bottom (inner_first p.outer.items)) (place_of new q) ≡ true
    done q d true e = ap (from _) (moves q ∙ ap (λ z. if z then Some at else place_of p q) e)
        ∙ from_some _ at (let x = h.low in let y = h.high in omega arith)
    done q d false e = ap (from _) (moves q ∙ ap (λ z. if z then Some at else place_of p q) e)
        ∙ (sym (h.all q) ∙ ap (λ z. z || is_in q (live_frame s.here)) d)

    before : (q : Name) → below (bottom (inner_first p.outer.items)) p.alternative (place_of new q) ≡ true → (b2 : Bool) →
        is_in q (mark_names m) ≡ b2 → is_in q (opt_names s.here.done) ≡ true
    before q d true e =
        let x : below (bottom (inner_first p.outer.items)) p.alternative (Some at) ≡ false = not_below _ p.alternative at h.high in
        let z : below (bottom (inner_first p.outer.items)) p.alternative (Some at) ≡ true =
        ap (below _ p.alternative) (sym (moves q ∙ ap (λ z. if z then Some at else place_of p q) e)) ∙ d in cc
    before q d false e =
        let k : below (bottom (inner_first p.outer.items)) p.alternative (place_of p q) ≡ true =
        ap (below _ p.alternative) (sym (moves q ∙ ap (λ z. if z then Some at else place_of p q) e)) ∙ d in
        let b = below_from _ p.alternative (place_of p q) k in
        let l : is_in q (live_frame s.here) ≡ false = h.live q ∙ b.1 in
        sym (or_false _) ∙ (ap (λ z. is_in q (opt_names s.here.done) || z) (sym l) ∙ (h.all q ∙ b.0))

-- the names that a group cannot have are those whose last group stands in an open alternative
outer_bound : (f : Name → Option ℕ) (os : List Outer) (cs : List Scope) (q : Name) (p : ℕ) → OuterPlaced f os cs → f q ≡ Some p →
    is_in q (live_outer os) ≡ true → p < bottom cs
outer_bound f [] cs q p h e k = cc
outer_bound f (o ∷ os) [] q p h e k = absurd h
outer_bound f (o ∷ os) (c ∷ cs) q p h e k =
    go (is_in q (live_outer os)) refl (sym (in_append q (live_outer os) (live_frame o.frame ++ mark_names o.mark))
    ∙ k) (outer_bound f os cs q p h.1 e)
  where
    between_high : (b : ℕ) (k : ℕ) (p : ℕ) → between b k (Some p) ≡ true → p < k + 1
    between_high b k p h = grind (arith, nat_tests)

    go : (b : Bool) → is_in q (live_outer os) ≡ b → b || is_in q (live_frame o.frame ++ mark_names o.mark) ≡ true →
        (is_in q (live_outer os) ≡ true → p < bottom cs) → p < c.start + 1
    go true e2 k2 ih = let a = ih e2 in let x = h.0.low in let y = h.0.high in omega arith
    go false e2 k2 ih = between_high c.alternative c.start p (sym (ap (between c.alternative c.start) e)
        ∙ (sym (h.0.live q) ∙ (sym (in_append q (live_frame o.frame) (mark_names o.mark)) ∙ k2)))

outer_none : (f : Name → Option ℕ) (os : List Outer) (cs : List Scope) (q : Name) → OuterPlaced f os cs → f q ≡ None →
    is_in q (live_outer os) ≡ false
outer_none f [] cs q h e = refl
outer_none f (o ∷ os) [] q h e = absurd h
outer_none f (o ∷ os) (c ∷ cs) q h e =
    in_append q (live_outer os) (live_frame o.frame ++ mark_names o.mark)
    ∙ (ap (λ z. z || is_in q (live_frame o.frame ++ mark_names o.mark)) (outer_none f os cs q h.1 e)
    ∙ (in_append q (live_frame o.frame) (mark_names o.mark) ∙ (h.0.live q ∙ ap (between c.alternative c.start) e)))

outer_lives : (f : Name → Option ℕ) (os : List Outer) (cs : List Scope) (q : Name) (p alternative : ℕ) → OuterPlaced f os cs →
    f q ≡ Some p → bottom cs ≤ alternative →
    is_in q (live_outer os) || nat_le alternative p ≡ lives alternative cs p
outer_lives f [] [] q p alternative h e le = refl
outer_lives f [] (c ∷ cs) q p alternative h e le = absurd h
outer_lives f (o ∷ os) [] q p alternative h e le = absurd h
outer_lives f (o ∷ os) (c ∷ cs) q p alternative h e le =
    let split : is_in q (live_outer (o ∷ os)) ≡ is_in q (live_outer os) || between c.alternative c.start (Some p) =
    in_append q (live_outer os) (live_frame o.frame ++ mark_names o.mark)
    ∙ ap (λ z. is_in q (live_outer os) || z) (in_append q (live_frame o.frame) (mark_names o.mark)
    ∙ (h.0.live q ∙ ap (between c.alternative c.start) e)) in
    ap (λ z. z || nat_le alternative p) split
    ∙ go (is_in q (live_outer os)) (nat_lt c.start p) (nat_le c.alternative p) refl refl refl
    (outer_lives f os cs q p c.alternative h.1 e h.0.low) (outer_bound f os cs q p h.1 e)
  where
    go : (x y z : Bool) → is_in q (live_outer os) ≡ x → nat_lt c.start p ≡ y → nat_le c.alternative p ≡ z →
        x || z ≡ lives c.alternative cs p → (x ≡ true → p < bottom cs) →
        (x || (z && nat_le p c.start)) || nat_le alternative p ≡ (if y then nat_le alternative p else lives c.alternative cs p)
    go true true z ex ey ez ih b = let k = b refl in let low = h.0.low in let high =
        h.0.high in absurd (let lt : c.start < p = grind (arith, nat_tests) in omega arith)
    go false true z ex ey ez ih b =
        let lt : c.start < p = grind (arith, nat_tests) in
        let n : nat_le p c.start ≡ false = grind (arith, nat_tests) in
        ap (λ w. (z && w) || nat_le alternative p) n ∙ no_and z (nat_le alternative p)
      where
        no_and : (a b : Bool) → (a && false) || b ≡ b
        no_and true b = refl
        no_and false b = refl
    go x false z ex ey ez ih b =
        let le2 : p ≤ c.start = grind (arith, nat_tests) in
        let n : nat_le alternative p ≡ false = grind (arith, nat_tests) in
        let y : nat_le p c.start ≡ true = le-leb p c.start le2 in
        ap (λ w. (x || (z && w)) || nat_le alternative p) y ∙ (ap (λ w. (x || (z && true)) || w) n ∙ (all_of x z ∙ ih))
      where
        all_of : (a b : Bool) → (a || (b && true)) || false ≡ a || b
        all_of true b = refl
        all_of false true = refl
        all_of false false = refl

-- a group cannot have a name that is taken
pub live_is : (p : Places) (s : State) (at : ℕ) (n : Name) → Placed p s at → is_in n (live s) ≡ taken p n
live_is p s at n h = in_append n (live_outer s.outer) (live_frame s.here) ∙ (ap (λ z. is_in n (live_outer s.outer) || z) (h.live n)
    ∙ go (place_of p n) refl)
  where
    go : (o : Option ℕ) → place_of p n ≡ o → is_in n (live_outer s.outer) || from p.alternative o ≡ lives_at p o
    go None e = ap (λ z. z || false) (outer_none (place_of p) s.outer (inner_first p.outer.items) n h.outer e)
    go (Some r) e = outer_lives (place_of p) s.outer (inner_first p.outer.items) n r p.alternative h.outer e h.low

not_true : (a b : Bool) → b ≡ not a → b ≡ true → a ≡ false
not_true true b e f = cc
not_true false b e f = refl

not_false : (a b : Bool) → b ≡ not a → b ≡ false → a ≡ true
not_false true b e f = refl
not_false false b e f = cc

and_one : (a : Bool) → a && true ≡ a
and_one true = refl
and_one false = refl

pub open_refused : (p : Places) (s : State) (at : ℕ) (m : Mark) (n : Name) (ok : Bool) → Placed p s at → mark_names m ≡ n ∷ [] →
    ok ≡ not (taken p n) → ok ≡ false → disjoint (mark_names m) (live s) ≡ false
open_refused p s at m n ok h e f g =
    ap (λ z. disjoint z (live s)) e ∙ (ap (λ z. not z && true) (live_is p s at n h ∙ not_false (taken p n) ok f g))

same_name : (a b : Name) → bytes_eq a b ≡ bytes_eq b a
same_name a b = same_from_decides (bytes_eq a b) (bytes_eq b a) (bytes_eq-Decides a b) (
  λ e. sym ((bytes_eq-Decides b a).0 e),
  λ e. (bytes_eq-Decides b a).1 (sym e),
)

-- a group with a name that is free
pub open_named : (p mid new : Places) (s : State) (at end : ℕ) (m : Mark) (n : Name) (ok : Bool) → Placed p s at → at < end →
    mark_names m ≡ n ∷ [] → ok ≡ not (taken p n) → ok ≡ true →
    ((q : Name) → place_of mid q ≡ update bytes_eq (place_of p) n (Some at) q) → mid.outer ≡ p.outer → mid.alternative ≡ p.alternative →
    new.latest ≡ mid.latest → new.outer.items ≡ mid.outer.items ++ ((record { start = at; alternative = mid.alternative }) ∷ []) →
    new.alternative ≡ end → Allows (Token.opens m) s end new true
open_named p mid new s at end m n ok h lt e f g u o a l i k =
    let free : is_in n (live s) ≡ false = live_is p s at n h ∙ not_true (taken p n) ok f g in
    let moves : (q : Name) → place_of new q ≡ (if is_in q (mark_names m) then Some at else place_of p q) = λ q.
    ap (λ z. get_by_text z q) l ∙ (u q ∙ (ap (λ z. if z then Some at else place_of p q) (same_name n q ∙ sym (or_false (bytes_eq q n)))
    ∙ ap (λ z. if is_in q z then Some at else place_of p q) (sym e))) in
    let taken_none : (q : Name) → is_in q (mark_names m) ≡ true → is_in q (live s) ≡ false = λ q t.
    let same : q ≡ n = (bytes_eq-Decides q n).0 (sym (or_false (bytes_eq q n)) ∙ (ap (is_in q) (sym e) ∙ t)) in ap (λ z. is_in z (live s))
    same ∙ free in
    let scopes : new.outer.items ≡ p.outer.items ++ ((record { start = at; alternative = p.alternative }) ∷ []) = i
    ∙ (ap (λ z. z.items ++ ((record { start = at; alternative = mid.alternative }) ∷ [])) o
    ∙ ap (λ z. p.outer.items ++ ((record { start = at; alternative = z }) ∷ [])) a) in (
      ap (λ z. disjoint z (live s)) e ∙ ap (λ z. not z && true) free,
      λ w q. subst (λ z. Placed new z end) (some_state q) (placed_opens p new s m at end h lt moves taken_none scopes k),
    )
  where
    some_state : {a b : State} → Some a ≡ Some b → a ≡ b
    some_state e = cc

-- a group without a name
pub open_plain : (p new : Places) (s : State) (at end : ℕ) (m : Mark) → Placed p s at → at < end → mark_names m ≡ [] →
    new.latest ≡ p.latest → new.outer.items ≡ p.outer.items ++ ((record { start = at; alternative = p.alternative }) ∷ []) →
    new.alternative ≡ end → Allows (Token.opens m) s end new true
open_plain p new s at end m h lt e l i k = (
  ap (λ z. disjoint z (live s)) e,
  λ w q. subst (λ z. Placed new z end) (some_state q) (placed_opens p new s m at end h lt
      (λ q. ap (λ z. get_by_text z q) l ∙ ap (λ z. if is_in q z then Some at else place_of p q) (sym e))
      (λ q t. let x : is_in q (mark_names m) ≡ false = ap (is_in q) e in cc) i k),
)
  where
    some_state : {a b : State} → Some a ≡ Some b → a ≡ b
    some_state e = cc

-- the other tokens
closes_from : (p new : Places) (f : Frame) (os : List Outer) (at end : ℕ) → Placed p (with_here os f) at → at ≤ end →
    new.latest ≡ p.latest → Popped p new → (n : State) → closed f os ≡ Some n → Placed new n end
closes_from p new f [] at end h le l o n e = cc
closes_from p new f (o ∷ os) at end h le l (inl e) n q =
    absurd (subst (λ z. OuterPlaced (place_of p) (o ∷ os) z) (ap inner_first e) h.outer)
closes_from p new f (o ∷ os) at end h le l (inr (c, g, a)) n q =
    subst (λ z. Placed new z end) (some_state q) (placed_closes p new (with_here (o ∷ os) f) f o os c at end h le refl refl l g a)
  where
    some_state : {a b : State} → Some a ≡ Some b → a ≡ b
    some_state e = cc

pub take_closes : (p new : Places) (s : State) (at end : ℕ) → Placed p s at → at < end → new.latest ≡ p.latest → Popped p new →
    Allows Token.closes s end new true
take_closes p new s at end h lt l o = (refl, λ n e. closes_from p new s.here s.outer at end h (omega arith) l o n e)

pub take_bar : (p new : Places) (s : State) (at end : ℕ) → Placed p s at → at < end → new.latest ≡ p.latest → new.outer ≡ p.outer →
    new.alternative ≡ end → Allows Token.bar s end new true
take_bar p new s at end h lt l o a =
    (refl, λ n e. subst (λ z. Placed new z end) (some_state e) (placed_bar p new s at end h (omega arith) l o a))
  where
    some_state : {a b : State} → Some a ≡ Some b → a ≡ b
    some_state e = cc

pub take_leaf : (p : Places) (s : State) (l : Leaf) (at end : ℕ) → Placed p s at → at < end → Allows (Token.leaf l) s end p true
take_leaf p s l at end h lt = (
  refl,
  λ n e. subst (λ z. Placed p z end) (some_state e) (placed_same p s (with_here s.outer (push (leaf l) s.here)) at end h
      (omega arith) refl refl (live_push (leaf l) s.here ∙ append-nil (live_frame s.here)) (λ z. no_row z)),
)
  where
    some_state : {a b : State} → Some a ≡ Some b → a ≡ b
    some_state e = cc

    no_row : {t : Tree} {z : Option Tree} → Some t ≡ None → z ≡ None
    no_row e = cc

times_from : (p : Places) (b : Bounds) (d bf l : Option Tree) (os : List Outer) (at end : ℕ) →
    Placed p (with_here os (record { done = d; before = bf; last = l })) at → at ≤ end → (n : State) →
    option_map (with_here os) (repeated b (record { done = d; before = bf; last = l }) l) ≡ Some n → Placed p n end
times_from p b d bf None os at end h le n e = cc
times_from p b d bf (Some t) os at end h le n e = go (can_repeat t) e
  where
    some_state : {a b : State} → Some a ≡ Some b → a ≡ b
    some_state e = cc

    no_row : {t : Tree} {z : Option Tree} → Some t ≡ None → z ≡ None
    no_row e = cc

    go : (k : Bool) →
        option_map (with_here os) (if k then Some (record { done = d; before = bf; last = Some (repeat t b) }) else None) ≡ Some n →
        Placed p n end
    go true e = subst (λ z. Placed p z end) (some_state e) (placed_same p (with_here os (record { done = d; before = bf; last = Some t }))
        (with_here os (record { done = d; before = bf; last = Some (repeat t b) })) at end h le refl refl refl (λ z. no_row z))
    go false e = cc

pub take_times : (p : Places) (s : State) (b : Bounds) (at end : ℕ) → Placed p s at → at < end → Allows (Token.times b) s end p true
take_times p s b at end h lt = (refl, λ n e. times_from p b s.here.done s.here.before s.here.last s.outer at end h (omega arith) n e)
