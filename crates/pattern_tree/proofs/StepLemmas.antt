-- Each step of the reader is a step of the machine.
use Rattle.std.proofs.Common.{◌≡◌, ℕ, ◌+◌, ◌<◌, ◌≤◌, List, [], ◌∷◌, ◌++◌, length, Some, None, refl, ap, sym, ◌∙◌, subst, arith, true, false, option_map, Bool}
use Rattle.std.specs.Prelude.{if◌then◌else◌}
use Rattle.pattern_tree.specs.declared.node.Node.{Node}
use Rattle.pattern_tree.specs.declared.part.Part.{Part}
use Rattle.pattern_tree.specs.declared.reader.Open.{Open}
use Rattle.pattern_tree.specs.declared.reader.Reader.{Reader}
use Rattle.pattern_model.specs.Tree.{Tree, Token, Mark, Bounds, group, repeat}
use Rattle.pattern_tree.specs.Machine.{Frame, Outer, push, whole, fresh, with_here, step, can_repeat, closed, repeated, finished}
use Rattle.pattern_tree.specs.Nodes.{trees_of, tree_at, frame_of, opt_tree, InPart, InOuter, Adds, outer1, outer_of, state_of, InReader, StepsTo, mark_of}
use Rattle.pattern_tree.proofs.NodeLemmas.{frame_adds, in_part_more, length_trees, outer_adds, outer_snoc, in_outer_more, in_outer_snoc, in_outer_front, adds_twice, opt_tree_adds}

pub part_in : (ns : List Node) (p : Part) → InPart (length ns) p → InPart (length (trees_of ns)) p
part_in ns p h = subst (λ z. InPart z p) (sym (length_trees ns)) h

outer_in : (ns : List Node) (os : List Open) → InOuter (length ns) os → InOuter (length (trees_of ns)) os
outer_in ns os h = subst (λ z. InOuter z os) (sym (length_trees ns)) h

-- where only the open part and the nodes change
pub goes_on : (t : Token) (old new : Reader) (f : Frame) →
    step t (state_of old) ≡ Some (with_here (state_of old).outer f) →
    frame_of (trees_of new.nodes.items) new.here ≡ f →
    Adds (trees_of old.nodes.items) (trees_of new.nodes.items) → new.outer.items ≡ old.outer.items → InReader old →
    InPart (length new.nodes.items) new.here → length old.nodes.items ≤ length new.nodes.items →
    length new.nodes.items ≤ length old.nodes.items + 4 →
    StepsTo t old new
goes_on t old new f s e a o h p le few = record {
  step = s ∙ ap Some (ap (λ z. record { here = f; outer = z }) (sym (ap (λ z. outer_of (trees_of new.nodes.items) z) o
      ∙ outer_adds (trees_of old.nodes.items) (trees_of new.nodes.items) old.outer.items a
      (outer_in old.nodes.items old.outer.items h.outer)))
      ∙ ap (λ z. record { here = z; outer = outer_of (trees_of new.nodes.items) new.outer.items }) (sym e));
  inside = record {
    here = p;
    outer =
        subst (λ z. InOuter (length new.nodes.items) z) (sym o) (in_outer_more (length old.nodes.items) (length new.nodes.items)
        old.outer.items le h.outer);
  };
  few = few;
}

pub opened : (m : Mark) (old new : Reader) (o : Open) → new.outer.items ≡ old.outer.items ++ (o ∷ []) → new.nodes.items ≡ old.nodes.items →
    mark_of o.mark ≡ m → o.part ≡ old.here →
    frame_of (trees_of new.nodes.items) new.here ≡ fresh → InPart (length new.nodes.items) new.here → InReader old →
    StepsTo (Token.opens m) old new
opened m old new o e n k p f i h = record {
  step = ap Some (
      ap (λ z. record {
        here = fresh;
        outer = record { mark = z; frame = frame_of (trees_of old.nodes.items) old.here } ∷ outer_of
            (trees_of old.nodes.items) old.outer.items;
      }) (sym k)
      ∙ (ap (λ z. record {
        here = fresh;
        outer = record { mark = mark_of o.mark; frame = frame_of (trees_of old.nodes.items) z } ∷ outer_of
            (trees_of old.nodes.items) old.outer.items;
      }) (sym p)
      ∙ (ap (λ z. record { here = fresh; outer = z }) (sym (ap (outer_of (trees_of old.nodes.items)) e
      ∙ outer_snoc (trees_of old.nodes.items) old.outer.items o))
      ∙ (ap (λ z. record { here = fresh; outer = outer_of (trees_of z) new.outer.items }) (sym n)
      ∙ ap (λ z. record { here = z; outer = outer_of (trees_of new.nodes.items) new.outer.items }) (sym f)))));
  inside = record {
    here = i;
    outer =
        subst (λ z. InOuter (length z) new.outer.items) (sym n) (subst (λ z. InOuter (length old.nodes.items) z) (sym e)
        (in_outer_snoc (length old.nodes.items) old.outer.items o h.outer (subst (λ z. InPart (length old.nodes.items) z)
        (sym p) h.here)));
  };
  few = let same : length new.nodes.items ≡ length old.nodes.items = ap length n in omega arith;
}

pub closes : (old new : Reader) (o : Open) (mid : List Node) (id : ℕ) →
    old.outer.items ≡ new.outer.items ++ (o ∷ []) →
    Adds (trees_of old.nodes.items) (trees_of mid) →
    tree_at (trees_of mid) id ≡ group (mark_of o.mark) (whole (frame_of (trees_of old.nodes.items) old.here)) →
    Adds (trees_of mid) (trees_of new.nodes.items) →
    frame_of (trees_of new.nodes.items) new.here ≡ push (tree_at (trees_of mid) id) (frame_of (trees_of mid) o.part) →
    InReader old → InPart (length new.nodes.items) new.here → length old.nodes.items ≤ length new.nodes.items →
    length new.nodes.items ≤ length old.nodes.items + 4 →
    StepsTo Token.closes old new
closes old new o mid id e a t b f h p le few =
    let ts = trees_of old.nodes.items in
    let us = trees_of new.nodes.items in
    let g : Tree = group (mark_of o.mark) (whole (frame_of ts old.here)) in
    let inside : InOuter (length old.nodes.items) new.outer.items × InPart (length old.nodes.items) o.part =
    in_outer_front (length old.nodes.items) new.outer.items o (subst (λ z. InOuter (length old.nodes.items) z) e h.outer) in
    let split : outer_of ts old.outer.items ≡ outer1 ts o ∷ outer_of ts new.outer.items = ap (outer_of ts) e
    ∙ outer_snoc ts new.outer.items o in
    let out : outer_of us new.outer.items ≡ outer_of ts new.outer.items =
    outer_adds ts us new.outer.items (adds_twice ts (trees_of mid) us a b) (outer_in old.nodes.items new.outer.items inside.0) in
    let here : frame_of us new.here ≡ push g (frame_of ts o.part) = f ∙ (ap (λ z. push z (frame_of (trees_of mid) o.part)) t
    ∙ ap (push g) (frame_adds ts (trees_of mid) o.part a (part_in old.nodes.items o.part inside.1))) in
    record {
      step = ap (λ z. closed (frame_of ts old.here) z) split
          ∙ ap Some (ap (λ z. record { here = push g (frame_of ts o.part); outer = z }) (sym out)
          ∙ ap (λ z. record { here = z; outer = outer_of us new.outer.items }) (sym here));
      inside = record { here = p; outer = in_outer_more (length old.nodes.items) (length new.nodes.items) new.outer.items le inside.0 };
      few = few;
    }

-- a quantifier leads on exactly where it may follow the last term
repeats_if : (b : Bounds) (ts : List Tree) (p : Part) (os : List Outer) (id : ℕ) (can : Bool) → p.last ≡ Some id →
    can_repeat (tree_at ts id) ≡ can →
    step (Token.times b) (with_here os (frame_of ts p)) ≡ option_map (with_here os) (if can then Some (record {
      done = opt_tree ts p.done;
      before = opt_tree ts p.before;
      last =
          Some (repeat (tree_at ts id) b);
    }) else None)
repeats_if b ts p os id can e c =
    ap (λ z. option_map (with_here os) (repeated b (frame_of ts p) (opt_tree ts z))) e
    ∙ ap (λ z. option_map (with_here os) (if z then Some (record {
      done = opt_tree ts p.done;
      before = opt_tree ts p.before;
      last =
          Some (repeat (tree_at ts id) b);
    }) else None)) c

pub repeats_none : (b : Bounds) (ts : List Tree) (p : Part) (os : List Outer) (id : ℕ) → p.last ≡ Some id →
    can_repeat (tree_at ts id) ≡ false →
    step (Token.times b) (with_here os (frame_of ts p)) ≡ None
repeats_none b ts p os id e c = repeats_if b ts p os id false e c

pub repeats_node : (b : Bounds) (old new : Reader) (id last : ℕ) → old.here.last ≡ Some id →
    can_repeat (tree_at (trees_of old.nodes.items) id) ≡ true →
    Adds (trees_of old.nodes.items) (trees_of new.nodes.items) → new.outer.items ≡ old.outer.items →
    tree_at (trees_of new.nodes.items) last ≡ repeat (tree_at (trees_of old.nodes.items) id) b →
    new.here ≡ record { done = old.here.done; before = old.here.before; last = Some last } →
    InReader old → last < length new.nodes.items → length old.nodes.items ≤ length new.nodes.items →
    length new.nodes.items ≤ length old.nodes.items + 4 →
    StepsTo (Token.times b) old new
repeats_node b old new id last e c a o t n h lt le few =
    let ts = trees_of old.nodes.items in
    let us = trees_of new.nodes.items in
    let p = part_in old.nodes.items old.here h.here in
    let f : frame_of us new.here ≡ record {
      done = opt_tree ts old.here.done;
      before = opt_tree ts old.here.before;
      last =
          Some (repeat (tree_at ts id) b);
    } =
    ap (frame_of us) n
    ∙ (ap (λ z. record { done = z; before = opt_tree us old.here.before; last = Some (tree_at us last) })
    (opt_tree_adds ts us old.here.done a p.done)
    ∙ (ap (λ z. record { done = opt_tree ts old.here.done; before = z; last = Some (tree_at us last) })
    (opt_tree_adds ts us old.here.before a p.before)
    ∙ ap (λ z. record { done = opt_tree ts old.here.done; before = opt_tree ts old.here.before; last = Some z }) t)) in
    let more : InPart (length new.nodes.items) old.here =
    in_part_more (length old.nodes.items) (length new.nodes.items) old.here le h.here in
    goes_on (Token.times b) old new _ (repeats_if b ts old.here (outer_of ts old.outer.items) id true e c) f a o h
    (subst (λ z. InPart (length new.nodes.items) z) (sym n) (record { done = more.done; before = more.before; last = lt })) le few

unfinished_more : (f : Frame) (xs : List Outer) (y : Outer) → finished f (xs ++ (y ∷ [])) ≡ None
unfinished_more f [] y = refl
unfinished_more f (x ∷ xs) y = refl

pub unfinished : (f : Frame) (ts : List Tree) (os : List Open) → 0 < length os → finished f (outer_of ts os) ≡ None
unfinished f ts [] h = absurd (omega arith)
unfinished f ts (o ∷ os) h = unfinished_more f (outer_of ts os) (outer1 ts o)
