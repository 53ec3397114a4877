-- The trees of nodes, as nodes are added.
use Rattle.std.proofs.Common.{◌≡◌, ℕ, zero, suc, ◌+◌, ◌<◌, ◌≤◌, List, [], ◌∷◌, ◌++◌, length, Option, Some, None, refl, ap, sym, ◌∙◌, append_assoc, arith, length-append, get_or, subst, Bool}
use Rattle.std.proofs.lemmas.List.{append-nil}
use Rattle.std.proofs.Math.ListN.{get_or-append}
use Rattle.std.proofs.Math.Seq.{get_or-append_seam}
use Rattle.pattern_tree.specs.declared.node.Node.{Node}
use Rattle.pattern_tree.specs.declared.part.Part.{Part}
use Rattle.pattern_model.specs.Tree.{Tree, empty}
use Rattle.pattern_tree.specs.Machine.{can_repeat, joined, push, pushed_before}
use Rattle.pattern_tree.specs.Nodes.{trees_of, tree_at, built, grown, frame_of, opt_tree, InOption, InPart, Adds, mark_of, outer1, outer_of, InOuter}
use Rattle.pattern_tree.specs.declared.reader.Open.{Open}

grown_snoc : (ns : List Node) (n : Node) (ts : List Tree) → grown ts (ns ++ (n ∷ [])) ≡ grown ts ns ++ (built (grown ts ns) n.shape ∷ [])
grown_snoc [] n ts = refl
grown_snoc (m ∷ ns) n ts = grown_snoc ns n (ts ++ (built ts m.shape ∷ []))

pub trees_snoc : (ns : List Node) (n : Node) → trees_of (ns ++ (n ∷ [])) ≡ trees_of ns ++ (built (trees_of ns) n.shape ∷ [])
unfolding trees_of
trees_snoc ns n = grown_snoc ns n []

length_grown : (ns : List Node) (ts : List Tree) → length (grown ts ns) ≡ length ts + length ns
length_grown [] ts = omega arith
length_grown (n ∷ ns) ts = omega (arith, length_grown ns (ts ++ (built ts n.shape ∷ [])), length-append ts (built ts n.shape ∷ []))

pub length_trees : (ns : List Node) → length (trees_of ns) ≡ length ns
unfolding trees_of
length_trees ns = omega (arith, length_grown ns [])

pub tree_at_old : (ts us : List Tree) (i : ℕ) → i < length ts → tree_at (ts ++ us) i ≡ tree_at ts i
tree_at_old ts us i h = get_or-append ts us empty i h

pub tree_at_new : (ts : List Tree) (t : Tree) → tree_at (ts ++ (t ∷ [])) (length ts) ≡ t
tree_at_new ts t = get_or-append_seam ts t [] empty

pub opt_tree_old : (ts us : List Tree) (o : Option ℕ) → InOption (length ts) o → opt_tree (ts ++ us) o ≡ opt_tree ts o
opt_tree_old ts us None h = refl
opt_tree_old ts us (Some i) h = ap Some (tree_at_old ts us i h)

pub opt_tree_adds : (old new : List Tree) (o : Option ℕ) → Adds old new → InOption (length old) o → opt_tree new o ≡ opt_tree old o
opt_tree_adds old new o (more, e) h = ap (λ z. opt_tree z o) e ∙ opt_tree_old old more o h

pub tree_at_adds : (old new : List Tree) (i : ℕ) → Adds old new → i < length old → tree_at new i ≡ tree_at old i
tree_at_adds old new i (more, e) h = ap (λ z. tree_at z i) e ∙ tree_at_old old more i h

pub frame_adds : (old new : List Tree) (p : Part) → Adds old new → InPart (length old) p → frame_of new p ≡ frame_of old p
frame_adds old new p a h =
    let d : opt_tree new p.done ≡ opt_tree old p.done = opt_tree_adds old new p.done a h.done in
    let b : opt_tree new p.before ≡ opt_tree old p.before = opt_tree_adds old new p.before a h.before in
    let l : opt_tree new p.last ≡ opt_tree old p.last = opt_tree_adds old new p.last a h.last in
    ap (λ z. record { done = z; before = opt_tree new p.before; last = opt_tree new p.last }) d
    ∙ (ap (λ z. record { done = opt_tree old p.done; before = z; last = opt_tree new p.last }) b
    ∙ ap (λ z. record { done = opt_tree old p.done; before = opt_tree old p.before; last = z }) l)

pub in_option_more : (m n : ℕ) (o : Option ℕ) → m ≤ n → InOption m o → InOption n o
in_option_more m n None le h = tt
in_option_more m n (Some i) le h = omega arith

pub in_part_more : (m n : ℕ) (p : Part) → m ≤ n → InPart m p → InPart n p
in_part_more m n p le h = record {
  done = in_option_more m n p.done le h.done;
  before = in_option_more m n p.before le h.before;
  last =
      in_option_more m n p.last le h.last;
}

pub adds_none : (ts : List Tree) → Adds ts ts
adds_none ts = ([], sym (append-nil ts))

pub adds_twice : (a b c : List Tree) → Adds a b → Adds b c → Adds a c
adds_twice a b c (m, e) (n, f) = (m ++ n, f ∙ (ap (λ z. z ++ n) e ∙ append_assoc a m n))

grown_adds : (ns : List Node) (ts : List Tree) → Adds ts (grown ts ns)
grown_adds [] ts = adds_none ts
grown_adds (n ∷ ns) ts = adds_twice ts (ts ++ (built ts n.shape ∷ [])) _ (built ts n.shape ∷ [], refl)
    (grown_adds ns (ts ++ (built ts n.shape ∷ [])))

-- the shape at a place tells its tree, over the trees before it
grown_at : (ns : List Node) (ts : List Tree) (i : ℕ) (d : Node) → i < length ns →
    (us : List Tree) × (length us ≡ length ts + i) × Adds us (grown ts ns) ×
    (tree_at (grown ts ns) (length ts + i) ≡ built us (get_or ns i d).shape)
grown_at [] ts i d h = absurd (omega arith)
grown_at (n ∷ ns) ts zero d h =
    let t = built ts n.shape in
    let one : length (ts ++ (t ∷ [])) ≡ length ts + 1 = omega (arith, length-append ts (t ∷ [])) in
    let a : Adds (ts ++ (t ∷ [])) (grown (ts ++ (t ∷ [])) ns) = grown_adds ns (ts ++ (t ∷ [])) in
    let e : length ts + 0 ≡ length ts = omega arith in (
      ts,
      omega arith,
      adds_twice ts (ts ++ (t ∷ [])) _ (t ∷ [], refl) a,
      ap (tree_at (grown (ts ++ (t ∷ [])) ns)) e ∙ (tree_at_adds (ts ++ (t ∷ [])) _ (length ts) a (omega arith) ∙ tree_at_new ts t),
    )
grown_at (n ∷ ns) ts (suc i) d h =
    let t = built ts n.shape in
    let e : length ts + suc i ≡ length (ts ++ (t ∷ [])) + i = omega (arith, length-append ts (t ∷ [])) in
    let (us, l, a, f) = grown_at ns (ts ++ (t ∷ [])) i d (omega arith) in
    (us, l ∙ sym e, a, ap (tree_at (grown (ts ++ (t ∷ [])) ns)) e ∙ f)

pub shape_at : (ns : List Node) (i : ℕ) (d : Node) → i < length ns →
    (us : List Tree) × (length us ≡ i) × Adds us (trees_of ns) × (tree_at (trees_of ns) i ≡ built us (get_or ns i d).shape)
unfolding trees_of
shape_at ns i d h =
    let e : i ≡ 0 + i = omega arith in
    let (us, l, a, f) = grown_at ns [] i d h in (us, l ∙ sym e, a, ap (tree_at (grown [] ns)) e ∙ f)

pub extended : (old new : List Node) (p : Part) (last before id : ℕ) → Adds (trees_of old) (trees_of new) →
    tree_at (trees_of new) before ≡ joined (opt_tree (trees_of old) p.before) (tree_at (trees_of old) last) →
    p.last ≡ Some last → InPart (length old) p → id < length old →
    frame_of (trees_of new) (record { done = p.done; before = Some before; last = Some id }) ≡ push (tree_at (trees_of old) id)
    (frame_of (trees_of old) p)
extended old new p last before id a e is fine h =
    let n : length (trees_of old) ≡ length old = length_trees old in
    let d : opt_tree (trees_of new) p.done ≡ opt_tree (trees_of old) p.done =
    opt_tree_adds (trees_of old) (trees_of new) p.done a (subst (λ z. InOption z p.done) (sym n) fine.done) in
    let t : tree_at (trees_of new) id ≡ tree_at (trees_of old) id = tree_at_adds (trees_of old) (trees_of new) id a (omega arith) in
    ap (λ z. record { done = z; before = Some (tree_at (trees_of new) before); last = Some (tree_at (trees_of new) id) }) d
    ∙ (ap (λ z. record { done = opt_tree (trees_of old) p.done; before = Some z; last = Some (tree_at (trees_of new) id) }) e
    ∙ (ap (λ z. record {
      done = opt_tree (trees_of old) p.done;
      before =
          Some (joined (opt_tree (trees_of old) p.before) (tree_at (trees_of old) last));
      last = Some z;
    }) t
    ∙ ap (λ z. record {
      done = opt_tree (trees_of old) p.done;
      before =
          pushed_before (opt_tree (trees_of old) p.before) (opt_tree (trees_of old) z);
      last = Some (tree_at (trees_of old) id);
    }) (sym is)))

pub can_repeat_at : (ns : List Node) (i : ℕ) (d : Node) (r : Bool) → i < length ns →
    ((us : List Tree) → r ≡ can_repeat (built us (get_or ns i d).shape)) → r ≡ can_repeat (tree_at (trees_of ns) i)
can_repeat_at ns i d r h f = let (us, l, a, e) = shape_at ns i d h in f us ∙ sym (ap can_repeat e)

outer_old : (old new : List Tree) (o : Open) → Adds old new → InPart (length old) o.part → outer1 new o ≡ outer1 old o
outer_old old new o a h = ap (λ z. record { mark = mark_of o.mark; frame = z }) (frame_adds old new o.part a h)

pub outer_adds : (old new : List Tree) (os : List Open) → Adds old new → InOuter (length old) os → outer_of new os ≡ outer_of old os
outer_adds old new [] a h = refl
outer_adds old new (o ∷ os) a h =
    ap (λ z. z ++ (outer1 new o ∷ [])) (outer_adds old new os a h.1) ∙ ap (λ z. outer_of old os ++ (z ∷ [])) (outer_old old new o a h.0)

pub outer_snoc : (ts : List Tree) (os : List Open) (o : Open) → outer_of ts (os ++ (o ∷ [])) ≡ outer1 ts o ∷ outer_of ts os
outer_snoc ts [] o = refl
outer_snoc ts (p ∷ os) o = ap (λ z. z ++ (outer1 ts p ∷ [])) (outer_snoc ts os o)

pub in_outer_more : (m n : ℕ) (os : List Open) → m ≤ n → InOuter m os → InOuter n os
in_outer_more m n [] le h = tt
in_outer_more m n (o ∷ os) le h = (in_part_more m n o.part le h.0, in_outer_more m n os le h.1)

pub in_outer_snoc : (n : ℕ) (os : List Open) (o : Open) → InOuter n os → InPart n o.part → InOuter n (os ++ (o ∷ []))
in_outer_snoc n [] o h g = (g, tt)
in_outer_snoc n (p ∷ os) o h g = (h.0, in_outer_snoc n os o h.1 g)

pub in_outer_front : (n : ℕ) (os : List Open) (o : Open) → InOuter n (os ++ (o ∷ [])) → InOuter n os × InPart n o.part
in_outer_front n [] o h = (tt, h.0)
in_outer_front n (p ∷ os) o h = let (a, b) = in_outer_front n os o h.1 in ((h.0, a), b)
