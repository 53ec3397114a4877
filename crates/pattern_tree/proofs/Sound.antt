-- What the machine reads is spelled by the tokens.
use Rattle.std.proofs.Common.{◌≡◌, Bool, true, false, ◌&&◌, List, [], ◌∷◌, ◌++◌, Option, Some, None, option_map, option_and_then, refl, ap, sym, ◌∙◌, append_assoc, subst}
use Rattle.std.proofs.lemmas.List.{append-nil}
use Rattle.std.specs.Prelude.{if◌then◌else◌}
use Rattle.pattern_model.specs.Tree.{Leaf, Mark, Bounds, Tree, empty, leaf, group, repeat, sequence, either, Token, tokens_of, Level, fits}
use Rattle.pattern_tree.specs.Machine.{Frame, Outer, State, fresh, push, pushed_before, whole, with_done, barred, can_repeat, repeated, closed, finished, run, step, begin, with_here, tree_of_tokens, alternative_of, spelled_option, spelled_done, spelled_frame, spelled_outer, spelled}
use Rattle.pattern_model.proofs.BoolLaws.{and_left, and_right, and_true}
use Rattle.pattern_model.proofs.LiteralTrees.{row_alternative}

abbrev pub row_ok : Option Tree → Option Tree → Bool
row_ok None None = true
row_ok None (Some t) = fits Level.term t
row_ok (Some r) None = false
row_ok (Some r) (Some t) = fits Level.row r && fits Level.term t

abbrev pub done_ok : Option Tree → Bool
done_ok None = true
done_ok (Some d) = fits Level.disjunction d

pub record FineFrame (f : Frame) : Type 0 where
  pub done : done_ok f.done ≡ true
  pub row : row_ok f.before f.last ≡ true

abbrev pub FineOuter : List Outer → Type 0
FineOuter [] = Unit {0}
FineOuter (o ∷ os) = FineFrame o.frame × FineOuter os

pub record Fine (s : State) : Type 0 where
  pub here : FineFrame s.here
  pub outer : FineOuter s.outer

pub term_row : (t : Tree) → fits Level.term t ≡ true → fits Level.row t ≡ true
term_row empty h = cc
term_row (leaf l) h = h
term_row (group m t) h = h
term_row (repeat t b) h = h
term_row (sequence l r) h = cc
term_row (either l r) h = cc

pub alternative_disjunction : (t : Tree) → fits Level.alternative t ≡ true → fits Level.disjunction t ≡ true
alternative_disjunction empty h = refl
alternative_disjunction (leaf l) h = h
alternative_disjunction (group m t) h = h
alternative_disjunction (repeat t b) h = h
alternative_disjunction (sequence l r) h = h
alternative_disjunction (either l r) h = cc

repeat_atom : (t : Tree) → fits Level.term t ≡ true → can_repeat t ≡ true → fits Level.atom t ≡ true
repeat_atom empty h c = cc
repeat_atom (leaf l) h c = c
repeat_atom (group m t) h c = and_true _ _ c h
repeat_atom (repeat t b) h c = cc
repeat_atom (sequence l r) h c = cc
repeat_atom (either l r) h c = cc

alternative_fits : (b l : Option Tree) → row_ok b l ≡ true → fits Level.alternative (alternative_of b l) ≡ true
alternative_fits None None h = refl
alternative_fits None (Some t) h = row_alternative t (term_row t h)
alternative_fits (Some r) None h = cc
alternative_fits (Some r) (Some t) h = h

alternative_tokens : (b l : Option Tree) → row_ok b l ≡ true → tokens_of (alternative_of b l) ≡ spelled_option b ++ spelled_option l
alternative_tokens None None h = refl
alternative_tokens None (Some t) h = refl
alternative_tokens (Some r) None h = cc
alternative_tokens (Some r) (Some t) h = refl

whole_fits : (d : Option Tree) (b l : Option Tree) → done_ok d ≡ true → row_ok b l ≡ true →
    fits Level.disjunction (with_done d (alternative_of b l)) ≡ true
whole_fits None b l g h = alternative_disjunction (alternative_of b l) (alternative_fits b l h)
whole_fits (Some d) b l g h = and_true _ _ g (alternative_fits b l h)

whole_tokens : (d : Option Tree) (b l : Option Tree) → row_ok b l ≡ true →
    tokens_of (with_done d (alternative_of b l)) ≡ spelled_done d ++ (spelled_option b ++ spelled_option l)
whole_tokens None b l h = alternative_tokens b l h
whole_tokens (Some d) b l h = ap (λ z. tokens_of d ++ (Token.bar ∷ z)) (alternative_tokens b l h)
    ∙ sym (append_assoc (tokens_of d) (Token.bar ∷ []) (spelled_option b ++ spelled_option l))

push_ok : (b l : Option Tree) (t : Tree) → row_ok b l ≡ true → fits Level.term t ≡ true → row_ok (pushed_before b l) (Some t) ≡ true
push_ok None None t h g = g
push_ok None (Some x) t h g = and_true _ _ (term_row x h) g
push_ok (Some r) None t h g = cc
push_ok (Some r) (Some x) t h g = and_true _ _ h g

pushed_tokens : (b l : Option Tree) → row_ok b l ≡ true → spelled_option (pushed_before b l) ≡ spelled_option b ++ spelled_option l
pushed_tokens None None h = refl
pushed_tokens None (Some t) h = refl
pushed_tokens (Some r) None h = cc
pushed_tokens (Some r) (Some t) h = refl

-- what a step leaves
pub record Goes (s n : State) (t : Token) : Type 0 where
  pub fine : Fine n
  pub spelled : spelled n ≡ spelled s ++ (t ∷ [])

push_fine : (t : Tree) (f : Frame) → FineFrame f → fits Level.term t ≡ true → FineFrame (push t f)
push_fine t f h g = record { done = h.done; row = push_ok f.before f.last t h.row g }

push_spelled : (t : Tree) (f : Frame) → FineFrame f → spelled_frame (push t f) ≡ spelled_frame f ++ tokens_of t
push_spelled t f h =
    ap (λ z. spelled_done f.done ++ (z ++ tokens_of t)) (pushed_tokens f.before f.last h.row)
    ∙ sym (append_assoc (spelled_done f.done) (spelled_option f.before ++ spelled_option f.last) (tokens_of t))

step_leaf : (l : Leaf) (f : Frame) (os : List Outer) → Fine (with_here os f) →
    Goes (with_here os f) (with_here os (push (leaf l) f)) (Token.leaf l)
step_leaf l f os h = record {
  fine = record { here = push_fine (leaf l) f h.here refl; outer = h.outer };
  spelled = ap (λ z. spelled_outer os ++ z) (push_spelled (leaf l) f h.here)
      ∙ sym (append_assoc (spelled_outer os) (spelled_frame f) (Token.leaf l ∷ []));
}

step_opens : (m : Mark) (f : Frame) (os : List Outer) → Fine (with_here os f) →
    Goes (with_here os f) (with_here (record { mark = m; frame = f } ∷ os) fresh) (Token.opens m)
step_opens m f os h = record {
  fine = record { here = record { done = refl; row = refl }; outer = (h.here, h.outer) };
  spelled = append-nil _ ∙ sym (append_assoc (spelled_outer os) (spelled_frame f) (Token.opens m ∷ []));
}

step_bar : (f : Frame) (os : List Outer) → Fine (with_here os f) → Goes (with_here os f) (with_here os (barred f)) Token.bar
step_bar f os h = record {
  fine = record { here = record { done = whole_fits f.done f.before f.last h.here.done h.here.row; row = refl }; outer = h.outer };
  spelled = ap (λ z. spelled_outer os ++ z) (append-nil _
      ∙ ap (λ z. z ++ (Token.bar ∷ [])) (whole_tokens f.done f.before f.last h.here.row))
      ∙ sym (append_assoc (spelled_outer os) (spelled_frame f) (Token.bar ∷ []));
}

step_closes : (f : Frame) (o : Outer) (os : List Outer) → Fine (with_here (o ∷ os) f) →
    Goes (with_here (o ∷ os) f) (with_here os (push (group o.mark (whole f)) o.frame)) Token.closes
step_closes f o os h = record {
  fine = record {
    here = push_fine (group o.mark (whole f)) o.frame h.outer.0 (whole_fits f.done f.before f.last h.here.done h.here.row);
    outer = h.outer.1;
  };
  spelled =
      ap (λ z. spelled_outer os ++ z) (push_spelled (group o.mark (whole f)) o.frame h.outer.0)
      ∙ (ap (λ z. spelled_outer os ++ (spelled_frame o.frame ++ (Token.opens o.mark ∷ z ++ (Token.closes ∷ []))))
      (whole_tokens f.done f.before f.last h.here.row)
      ∙ simp append_assoc);
}

repeat_ok : (b : Option Tree) (t : Tree) (bounds : Bounds) → row_ok b (Some t) ≡ true → can_repeat t ≡ true →
    row_ok b (Some (repeat t bounds)) ≡ true
repeat_ok None t bounds h c = repeat_atom t h c
repeat_ok (Some r) t bounds h c = and_true _ _ (and_left _ _ h) (repeat_atom t (and_right _ _ h) c)

step_times : (b : Bounds) (d bf : Option Tree) (t : Tree) (os : List Outer) →
    Fine (with_here os (record { done = d; before = bf; last = Some t })) → can_repeat t ≡ true →
    Goes (with_here os (record { done = d; before = bf; last = Some t }))
    (with_here os (record { done = d; before = bf; last = Some (repeat t b) })) (Token.times b)
step_times b d bf t os h c = record {
  fine = record { here = record { done = h.here.done; row = repeat_ok bf t b h.here.row c }; outer = h.outer };
  spelled = simp append_assoc;
}

some_same : {A : Type 0} {a b : A} → Some a ≡ Some b → a ≡ b
some_same e = cc

moved : {s : State} {t : Token} (m n : State) → Some m ≡ Some n → Goes s m t → Goes s n t
moved {s} {t} m n e g = subst (λ z. Goes s z t) (some_same e) g

goes_times : (b : Bounds) (d bf l : Option Tree) (os : List Outer) (n : State) →
    option_map (with_here os) (repeated b (record { done = d; before = bf; last = l }) l) ≡ Some n →
    Fine (with_here os (record { done = d; before = bf; last = l })) →
    Goes (with_here os (record { done = d; before = bf; last = l })) n (Token.times b)
goes_times b d bf None os n e h = cc
goes_times b d bf (Some t) os n e h = go (can_repeat t) refl e
  where
    go : (k : Bool) → can_repeat t ≡ k →
        option_map (with_here os) (if k then Some (record { done = d; before = bf; last = Some (repeat t b) }) else None) ≡ Some n →
        Goes (with_here os (record { done = d; before = bf; last = Some t })) n (Token.times b)
    go true c e = moved _ n e (step_times b d bf t os h c)
    go false c e = cc

goes_closes : (f : Frame) (os : List Outer) (n : State) → closed f os ≡ Some n → Fine (with_here os f) →
    Goes (with_here os f) n Token.closes
goes_closes f [] n e h = cc
goes_closes f (o ∷ os) n e h = moved _ n e (step_closes f o os h)

pub step_goes : (t : Token) (s n : State) → step t s ≡ Some n → Fine s → Goes s n t
step_goes (Token.leaf l) s n e h = moved _ n e (step_leaf l s.here s.outer h)
step_goes (Token.opens m) s n e h = moved _ n e (step_opens m s.here s.outer h)
step_goes Token.closes s n e h = goes_closes s.here s.outer n e h
step_goes Token.bar s n e h = moved _ n e (step_bar s.here s.outer h)
step_goes (Token.times b) s n e h = goes_times b s.here.done s.here.before s.here.last s.outer n e h

-- a tree that fits, with these tokens
pub record Shaped (ts : List Token) (t : Tree) : Type 0 where
  pub fits : fits Level.disjunction t ≡ true
  pub tokens : tokens_of t ≡ ts

pub finished_shaped : (f : Frame) (os : List Outer) (t : Tree) → finished f os ≡ Some t → Fine (with_here os f) →
    Shaped (spelled (with_here os f)) t
finished_shaped f [] t e h = subst (λ z. Shaped (spelled_frame f) z) (some_same e) (record {
  fits = whole_fits f.done f.before f.last h.here.done h.here.row;
  tokens = whole_tokens f.done f.before f.last h.here.row;
})
finished_shaped f (o ∷ os) t e h = cc

shaped_onward : (x : Token) (ts : List Token) (s : State) (t : Tree) → Fine s →
    ((n : State) → run ts n ≡ Some t → Fine n → Shaped (spelled n ++ ts) t) →
    (r : Option State) → step x s ≡ r → option_and_then (λ n. run ts n) r ≡ Some t → Shaped (spelled s ++ (x ∷ ts)) t
shaped_onward x ts s t h below None q e = cc
shaped_onward x ts s t h below (Some n) q e =
    let g : Goes s n x = step_goes x s n q h in
    let whole : Shaped (spelled n ++ ts) t = below n e g.fine in
    subst (λ z. Shaped z t) (ap (λ z. z ++ ts) g.spelled ∙ append_assoc (spelled s) (x ∷ []) ts) whole

run_shaped : (ts : List Token) (s : State) (t : Tree) → run ts s ≡ Some t → Fine s → Shaped (spelled s ++ ts) t
unfolding run
run_shaped [] s t e h = rw append-nil (finished_shaped s.here s.outer t e h)
run_shaped (x ∷ ts) s t e h = shaped_onward x ts s t h (λ n q g. run_shaped ts n t q g) (step x s) refl e

pub tree_shaped : (ts : List Token) (t : Tree) → tree_of_tokens ts ≡ Some t → Shaped ts t
tree_shaped ts t e = run_shaped ts begin t e (record { here = record { done = refl; row = refl }; outer = tt })
