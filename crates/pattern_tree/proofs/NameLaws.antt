-- The reading with names refuses exactly the trees that share a name where they may not.
use Rattle.std.proofs.Common.{◌≡◌, Bool, true, false, not, ◌&&◌, List, [], ◌∷◌, ◌++◌, Option, Some, None, refl, ap, sym, ◌∙◌, append_assoc}
use Rattle.std.proofs.Math.Bool.{or_assoc}
use Rattle.std.proofs.lemmas.List.{append-nil}
use Rattle.std.specs.Prelude.{if◌then◌else◌, ◌||◌, nat_eq}
use lib.Pointwise.{pointwise}
use Rattle.pattern_model.specs.Tree.{Name, Mark, Tree, empty, leaf, group, repeat, sequence, either, Token, tokens_of, Level, fits}
use Rattle.pattern_tree.specs.Machine.{Frame, Outer, State, fresh, push, pushed_before, whole, barred, begin, with_here}
use Rattle.pattern_model.specs.SharedNames.{is_in, disjoint, mark_names, names, apart}
use Rattle.pattern_tree.specs.LiveNames.{opt_names, live_frame, live_outer, live, run_named}
use Rattle.pattern_model.proofs.LiteralTrees.{row_alternative}
use Rattle.pattern_tree.proofs.Sound.{term_row}
use Rattle.pattern_tree.proofs.Complete.{load, load_atom, whole_load}
use Rattle.pattern_model.proofs.BoolLaws.{and_left, and_right}

and_assoc : (a b c : Bool) → (a && b) && c ≡ a && (b && c)
and_assoc true b c = refl
and_assoc false b c = refl

disjoint_append : (xs ys zs : List Name) → disjoint (xs ++ ys) zs ≡ disjoint xs zs && disjoint ys zs
disjoint_append [] ys zs = refl
disjoint_append (a ∷ xs) ys zs = ap (λ z. not (is_in a zs) && z) (disjoint_append xs ys zs)
    ∙ sym (and_assoc (not (is_in a zs)) (disjoint xs zs) (disjoint ys zs))

pub in_append : (a : Name) (ys zs : List Name) → is_in a (ys ++ zs) ≡ is_in a ys || is_in a zs
in_append a [] zs = refl
in_append a (y ∷ ys) zs = ap (λ z. pointwise nat_eq a y || z) (in_append a ys zs)
    ∙ sym (or_assoc (pointwise nat_eq a y) (is_in a ys) (is_in a zs))

-- not (a || b) && (c && d), sorted
four : (a b c d : Bool) → not (a || b) && (c && d) ≡ (not a && c) && (not b && d)
four true b c d = refl
four false true true d = refl
four false true false d = refl
four false false c d = refl

disjoint_both : (xs ys zs : List Name) → disjoint xs (ys ++ zs) ≡ disjoint xs ys && disjoint xs zs
disjoint_both [] ys zs = refl
disjoint_both (a ∷ xs) ys zs =
    ap (λ z. not z && disjoint xs (ys ++ zs)) (in_append a ys zs)
    ∙ (ap (λ z. not (is_in a ys || is_in a zs) && z) (disjoint_both xs ys zs)
    ∙ four (is_in a ys) (is_in a zs) (disjoint xs ys) (disjoint xs zs))

disjoint_nil : (xs : List Name) → disjoint xs [] ≡ true
disjoint_nil [] = refl
disjoint_nil (a ∷ xs) = disjoint_nil xs

pub pushed_names : (b l : Option Tree) → opt_names (pushed_before b l) ≡ opt_names b ++ opt_names l
pushed_names None None = refl
pushed_names (Some t) None = sym (append-nil (names t))
pushed_names None (Some t) = refl
pushed_names (Some s) (Some t) = refl

pub live_push : (t : Tree) (f : Frame) → live_frame (push t f) ≡ live_frame f ++ names t
live_push t f = ap (λ z. z ++ names t) (pushed_names f.before f.last)

live_load : (t : Tree) (f : Frame) → fits Level.alternative t ≡ true → live_frame (load t f) ≡ live_frame f ++ names t
live_load empty f h = sym (append-nil (live_frame f))
live_load (leaf l) f h = live_push (leaf l) f
live_load (group m t) f h = live_push (group m t) f
live_load (repeat t b) f h = live_push (repeat t b) f
live_load (sequence l r) f h =
    live_load r (load l f) (row_alternative r (term_row r (and_right _ _ h)))
    ∙ (ap (λ z. z ++ names r) (live_load l f (row_alternative l (and_left _ _ h)))
    ∙ append_assoc (live_frame f) (names l) (names r))
live_load (either l r) f h = cc

-- the tree may stand here
abbrev pub may : Tree → State → Bool
may t s = apart t && disjoint (names t) (live s)

abbrev pub starts : Tree → Frame → Type 0
starts (either l r) f = (f.before ≡ None) × (f.last ≡ None)
starts _ f = Unit {0}

if_and : {A : Type 0} (p q : Bool) (x : Option A) → (if p then (if q then x else None) else None) ≡ (if p && q then x else None)
if_and true q x = refl
if_and false q x = refl

if_then : {A : Type 0} (p : Bool) (x y z : Option A) → x ≡ y → (if p then x else z) ≡ (if p then y else z)
if_then p x y z e = ap (λ w. if p then w else z) e

if_test : {A : Type 0} (p q : Bool) (x : Option A) → p ≡ q → (if p then x else None) ≡ (if q then x else None)
if_test p q x e = ap (λ w. if w then x else None) e

-- (d1: names of the mark against those that live; a: the inside apart; d2, d3: its names against those that live, and against the mark's)
and_true : (a : Bool) → a && true ≡ a
and_true true = refl
and_true false = refl

group_bits : (a b c d : Bool) → a && (b && (c && d)) ≡ (b && d) && (a && c)
group_bits true true true true = refl
group_bits true true true false = refl
group_bits true true false true = refl
group_bits true true false false = refl
group_bits true false c d = refl
group_bits false true c true = refl
group_bits false true c false = refl
group_bits false false c d = refl

row_bits : (a b c d e : Bool) → (a && b) && (c && (d && e)) ≡ (a && (c && e)) && (b && d)
row_bits true true true true true = refl
row_bits true true true true false = refl
row_bits true true true false true = refl
row_bits true true true false false = refl
row_bits true true false d e = refl
row_bits true false true d true = refl
row_bits true false true d false = refl
row_bits true false false d e = refl
row_bits false b c d e = refl

either_bits : (a b c d : Bool) → (a && b) && (c && d) ≡ (a && c) && (b && d)
either_bits true true true d = refl
either_bits true true false d = refl
either_bits true false true d = refl
either_bits true false false d = refl
either_bits false b c d = refl

starts_open : (t : Tree) (f : Frame) → f.before ≡ None → f.last ≡ None → starts t f
starts_open (either l r) f a b = (a, b)
starts_open empty f a b = tt
starts_open (leaf l) f a b = tt
starts_open (group m t) f a b = tt
starts_open (repeat t c) f a b = tt
starts_open (sequence l r) f a b = tt

starts_any : (t : Tree) (f : Frame) → fits Level.alternative t ≡ true → starts t f
starts_any empty f h = tt
starts_any (leaf l) f h = tt
starts_any (group m t) f h = tt
starts_any (repeat t b) f h = tt
starts_any (sequence l r) f h = tt
starts_any (either l r) f h = cc

atom_alternative : (t : Tree) → fits Level.atom t ≡ true → fits Level.alternative t ≡ true
atom_alternative empty h = cc
atom_alternative (leaf l) h = refl
atom_alternative (group m t) h = and_right _ _ h
atom_alternative (repeat t b) h = cc
atom_alternative (sequence l r) h = cc
atom_alternative (either l r) h = cc

bits_group : (m : Mark) (t : Tree) (f : Frame) (os : List Outer) →
    disjoint (mark_names m) (live (with_here os f)) && may t (with_here (record { mark = m; frame = f } ∷ os) fresh) ≡ may (group m t)
    (with_here os f)
bits_group m t f os =
    let s = live (with_here os f) in
    let e : live (with_here (record { mark = m; frame = f } ∷ os) fresh) ≡ s ++ mark_names m = append-nil _
    ∙ sym (append_assoc (live_outer os) (live_frame f) (mark_names m)) in
    ap (λ z. disjoint (mark_names m) s && (apart t && z)) (ap (disjoint (names t)) e ∙ disjoint_both (names t) s (mark_names m))
    ∙ (group_bits (disjoint (mark_names m) s) (apart t) (disjoint (names t) s) (disjoint (names t) (mark_names m))
    ∙ ap (λ z. (apart t && disjoint (names t) (mark_names m)) && z) (sym (disjoint_append (mark_names m) (names t) s)))

bits_row : (l r : Tree) (f : Frame) (os : List Outer) → fits Level.alternative l ≡ true →
    may l (with_here os f) && may r (with_here os (load l f)) ≡ may (sequence l r) (with_here os f)
bits_row l r f os h =
    let s = live (with_here os f) in
    let e : live (with_here os (load l f)) ≡ s ++ names l = ap (λ z. live_outer os ++ z) (live_load l f h)
    ∙ sym (append_assoc (live_outer os) (live_frame f) (names l)) in
    ap (λ z. may l (with_here os f) && (apart r && z)) (ap (disjoint (names r)) e ∙ disjoint_both (names r) s (names l))
    ∙ (row_bits (apart l) (disjoint (names l) s) (apart r) (disjoint (names r) s) (disjoint (names r) (names l))
    ∙ ap (λ z. (apart l && (apart r && disjoint (names r) (names l))) && z) (sym (disjoint_append (names l) (names r) s)))

bits_either : (l r : Tree) (f : Frame) (os : List Outer) → f.before ≡ None → f.last ≡ None →
    may l (with_here os f) && may r (with_here os (barred (load l f))) ≡ may (either l r) (with_here os f)
bits_either l r f os a b =
    let s = live (with_here os f) in
    let e : live (with_here os (barred (load l f))) ≡ s = ap (λ z. live_outer os ++ (opt_names z ++ [])) (sym a)
    ∙ ap (λ z. live_outer os ++ (opt_names f.before ++ opt_names z)) (sym b) in
    ap (λ z. may l (with_here os f) && (apart r && disjoint (names r) z)) e
    ∙ (either_bits (apart l) (disjoint (names l) s) (apart r) (disjoint (names r) s)
    ∙ ap (λ z. (apart l && apart r) && z) (sym (disjoint_append (names l) (names r) s)))

pub named_load : (k : Level) (t : Tree) (rest : List Token) (f : Frame) (os : List Outer) → fits k t ≡ true → starts t f →
    run_named (tokens_of t ++ rest) (with_here os f) ≡ (if may t (with_here os f) then run_named rest (with_here os (load t f)) else None)
unfolding run_named
named_load k empty rest f os h g = refl
named_load k (leaf l) rest f os h g = refl
named_load k (group m t) rest f os h g =
    let ht : fits Level.disjunction t ≡ true = and_right _ _ h in
    let o : Outer = record { mark = m; frame = f } in
    let whole_is : whole (load t fresh) ≡ t = whole_load t ht in
    if_then (disjoint (mark_names m) (live (with_here os f))) _ _ None
    (ap (λ z. run_named z (with_here (o ∷ os) fresh)) (append_assoc (tokens_of t) (Token.closes ∷ []) rest)
    ∙ (named_load Level.disjunction t (Token.closes ∷ rest) fresh (o ∷ os) ht (starts_open t fresh refl refl)
    ∙ if_then (may t (with_here (o ∷ os) fresh)) _ _ None (ap (λ z. run_named rest (with_here os (push (group m z) f))) whole_is)))
    ∙ (if_and (disjoint (mark_names m) (live (with_here os f))) (may t (with_here (o ∷ os) fresh))
    (run_named rest (with_here os (push (group m t) f)))
    ∙ if_test _ _ (run_named rest (with_here os (push (group m t) f))) (bits_group m t f os))
named_load k (repeat t b) rest f os h g =
    let ht : fits Level.atom t ≡ true = and_right _ _ h in
    let (e, c) = load_atom t f ht in
    ap (λ z. run_named z (with_here os f)) (append_assoc (tokens_of t) (Token.times b ∷ []) rest)
    ∙ (named_load Level.atom t (Token.times b ∷ rest) f os ht (starts_any t f (atom_alternative t ht))
    ∙ if_then (may t (with_here os f)) _ _ None
    (ap (λ z. run_named (Token.times b ∷ rest) (with_here os z)) e ∙ rw c refl))
named_load k (sequence l r) rest f os h g =
    let two : fits Level.row l && fits Level.term r ≡ true = and_right _ _ h in
    let hl : fits Level.alternative l ≡ true = row_alternative l (and_left _ _ two) in
    let hr : fits Level.alternative r ≡ true = row_alternative r (term_row r (and_right _ _ two)) in
    ap (λ z. run_named z (with_here os f)) (append_assoc (tokens_of l) (tokens_of r) rest)
    ∙ (named_load Level.row l (tokens_of r ++ rest) f os (and_left _ _ two) (starts_any l f hl)
    ∙ (if_then (may l (with_here os f)) _ _ None (named_load Level.term r rest (load l f) os (and_right _ _ two)
    (starts_any r (load l f) hr))
    ∙ (if_and (may l (with_here os f)) (may r (with_here os (load l f))) (run_named rest (with_here os (load r (load l f))))
    ∙ if_test _ _ (run_named rest (with_here os (load r (load l f)))) (bits_row l r f os hl))))
named_load k (either l r) rest f os h (a, b) =
    let two : fits Level.disjunction l && fits Level.alternative r ≡ true = and_right _ _ h in
    ap (λ z. run_named z (with_here os f)) (append_assoc (tokens_of l) (Token.bar ∷ tokens_of r) rest)
    ∙ (named_load Level.disjunction l (Token.bar ∷ tokens_of r ++ rest) f os (and_left _ _ two) (starts_open l f a b)
    ∙ (if_then (may l (with_here os f)) _ _ None (named_load Level.alternative r rest (barred (load l f)) os (and_right _ _ two)
    (starts_any r (barred (load l f)) (and_right _ _ two)))
    ∙ (if_and (may l (with_here os f)) (may r (with_here os (barred (load l f))))
    (run_named rest (with_here os (load r (barred (load l f)))))
    ∙ if_test _ _ (run_named rest (with_here os (load r (barred (load l f))))) (bits_either l r f os a b))))

-- the reading with names gives the tree exactly where its names are apart
pub named_again : (t : Tree) → fits Level.disjunction t ≡ true → run_named (tokens_of t) begin ≡ (if apart t then Some t else None)
unfolding run_named
named_again t h =
    ap (λ z. run_named z begin) (sym (append-nil (tokens_of t)))
    ∙ (named_load Level.disjunction t [] fresh [] h (starts_open t fresh refl refl)
    ∙ (if_then (may t begin) _ _ None (ap Some (whole_load t h))
    ∙ if_test _ _ (Some t) (ap (λ z. apart t && z) (disjoint_nil (names t)) ∙ and_true (apart t))))
