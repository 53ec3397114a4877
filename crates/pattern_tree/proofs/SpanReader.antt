-- Each step of the reader keeps what is said of places.
use Rattle.std.proofs.Common.{◌≡◌, ℕ, ◌<◌, ◌≤◌, Bool, List, [], ◌∷◌, ◌++◌, length, Option, Some, None, Ok, Err, IfOk, IfSome, Global, ◌-◌, refl, ap, sym, ◌∙◌, subst, arith}
use Rattle.std.specs.Prelude.{Result, Vec}
use Rattle.std.specs.Str.{chars}
use Rattle.std.proofs.lemmas.Str.{chars-encodes}
use lib.Utf8.{encodes}
use denote.Text.{Utf8}
use denote.Shadow.{shadow}
use Rattle.pattern_model.specs.Text.{Text}
use Rattle.pattern_model.specs.Tree.{Token}
use Rattle.pattern_model.specs.Spans.{TokenStands}
use Rattle.pattern_tree.specs.declared.node.Counts.{Counts}
use Rattle.pattern_tree.specs.declared.node.Node.{Node}
use Rattle.pattern_tree.specs.declared.node.Single.{Single}
use Rattle.pattern_tree.specs.declared.node.Shape.TheVariants as shapes
use Rattle.pattern_tree.specs.declared.part.Part.{Part}
use Rattle.pattern_tree.specs.declared.pattern.Pattern.{Pattern}
use Rattle.pattern_tree.specs.declared.reader.Open.{Open}
use Rattle.pattern_tree.specs.declared.reader.Reader.{Reader}
use Rattle.pattern_tree.specs.declared.span.Span.{Span}
use Rattle.pattern_tree.specs.Nodes.{span_at, leaf_of, mark_of, bounds_of, InPart, InOuter, InReader}
use Rattle.pattern_tree.specs.Parts.{with_node, with_disjunction, with_last}
use Rattle.pattern_tree.specs.Patterns.{SpansStand}
use Rattle.pattern_tree.specs.Spans.{ItemsFit, NodeStands, NodesStand, TermsStand, AlternativesStand, PartStands, OuterStands, ReaderStands}
use Rattle.pattern_tree.proofs.NodeLemmas.{in_part_more, in_outer_more, in_outer_front}
use Rattle.pattern_tree.proofs.SpanSteps.{Added, one_added, added_after, longer, disjunction_added, term_stands, part_old, outer_old, outer_push, outer_pop, stands_old, below_is, from_here, to_here}

-- a text has so many bytes
pub bytes_are : (x : List ℕ) → shadow (Utf8 x) → length (encodes (chars x)) ≡ length x
bytes_are x (cs, u) =
    let same : chars x ≡ cs = ap chars (sym u.1) ∙ chars-encodes cs u.0 in
    ap (λ z. length (encodes z)) same ∙ ap length u.1

module _ (wide : Bool) (x : Text) where
  -- a node that was added becomes the last term of the innermost group
  grown_stands : (ns : List Node) (p : List Node × ℕ) (part : Part) (os : List Open) (new : Reader) (b m e : ℕ) → InPart (length ns) part →
      InOuter (length ns) os →
      PartStands wide x ns part b m → OuterStands wide x ns os 0 b → Added wide x ns p m e →
      with_last p.0 part.before part.last ≡ (new.nodes.items, new.here.before) → new.here.done ≡ part.done → new.here.last ≡ Some p.1 →
      new.outer.items ≡ os → ReaderStands wide x new e
  grown_stands ns p part os new b m e hp ho s o k q d l u =
      let le = longer wide x ns p m e k in
      term_stands wide x new p.0 part os p.1 b m e k.nodes (in_part_more (length ns) (length p.0) part le hp)
      (in_outer_more (length ns) (length p.0) os le ho) k.is_node
      (subst (λ z. PartStands wide x z part b m) (sym k.grown) (part_old wide x ns k.more part b m hp s)) k.stands
      (subst (λ z. OuterStands wide x z os 0 b) (sym k.grown) (outer_old wide x ns k.more os 0 b ho o)) q d l u

  pub single_stands : (old new : Reader) (l : Single) (s : Span) (nodes : List Node) (id : ℕ) → InReader old →
      with_node old.nodes.items (shapes.Single l) s ≡ (nodes, id) →
      with_last nodes old.here.before old.here.last ≡ (new.nodes.items, new.here.before) → new.here.done ≡ old.here.done →
      new.here.last ≡ Some id → new.outer.items ≡ old.outer.items →
      ReaderStands wide x old s.start → TokenStands wide x s.start (Token.leaf (leaf_of l)) s.end → ItemsFit x l s.start s.end →
      ReaderStands wide x new s.end
  single_stands old new l s nodes id h e q d k u r t i =
      let one : Added wide x old.nodes.items (nodes, id) s.start s.end =
      subst (λ z. Added wide x old.nodes.items z s.start s.end) e (one_added wide x old.nodes.items (shapes.Single l) s s.start s.end
      r.nodes refl (t, i) refl refl) in
      grown_stands old.nodes.items (nodes, id) old.here old.outer.items new r.begin s.start s.end h.here h.outer r.here r.outer one q d k u

  pub open_stands : (old new : Reader) (o : Open) (start end : ℕ) → new.nodes.items ≡ old.nodes.items →
      new.outer.items ≡ old.outer.items ++ (o ∷ []) → o.part ≡ old.here → o.start ≡ start →
      new.here ≡ record { done = None; before = None; last = None } → ReaderStands wide x old start →
      TokenStands wide x start (Token.opens (mark_of o.mark)) end → ReaderStands wide x new end
  open_stands old new o start end n u p s f r t =
      let part : PartStands wide x old.nodes.items o.part r.begin o.start =
      subst (λ z. PartStands wide x old.nodes.items z r.begin o.start) (sym p)
      (subst (λ z. PartStands wide x old.nodes.items old.here r.begin z) (sym s) r.here) in
      let pushed = outer_push wide x old.nodes.items old.outer.items o 0 r.begin end r.outer part
      (from_here wide x (Token.opens (mark_of o.mark)) start o.start end (sym s) t) in
      record {
        nodes = subst (NodesStand wide x) (sym n) r.nodes;
        begin = end;
        outer = subst (λ z. OuterStands wide x new.nodes.items z 0 end) (sym u)
            (subst (λ z. OuterStands wide x z (old.outer.items ++ (o ∷ [])) 0 end) (sym n) pushed);
        here = subst (λ z. PartStands wide x new.nodes.items z end end) (sym f) refl;
      }

  pub bar_stands : (old new : Reader) (id start end : ℕ) → InReader old →
      with_disjunction old.nodes.items old.here start ≡ (new.nodes.items, id) → new.outer.items ≡ old.outer.items →
      new.here ≡ record { done = Some id; before = None; last = None } → ReaderStands wide x old start →
      TokenStands wide x start Token.bar end → ReaderStands wide x new end
  bar_stands old new id start end h e u f r t =
      let k : Added wide x old.nodes.items (new.nodes.items, id) r.begin start =
      subst (λ z. Added wide x old.nodes.items z r.begin start) e (disjunction_added wide x old.nodes.items old.here r.begin start
      r.nodes h.here r.here) in
      record {
        nodes = k.nodes;
        begin = r.begin;
        outer = subst (λ z. OuterStands wide x new.nodes.items z 0 r.begin) (sym u)
            (subst (λ z. OuterStands wide x z old.outer.items 0 r.begin) (sym k.grown)
            (outer_old wide x old.nodes.items k.more old.outer.items 0 r.begin h.outer r.outer));
        here = subst (λ z. PartStands wide x new.nodes.items z r.begin end) (sym f) (start, end, k.stands, t, refl);
      }

  pub close_stands : (old new : Reader) (o : Open) (closed nodes : List Node) (inner id : ℕ) (s : Span) → InReader old →
      old.outer.items ≡ new.outer.items ++ (o ∷ []) →
      with_disjunction old.nodes.items old.here s.start ≡ (closed, inner) →
      with_node closed (shapes.Group o.mark inner) (record { start = o.start; end = s.end }) ≡ (nodes, id) →
      with_last nodes o.part.before o.part.last ≡ (new.nodes.items, new.here.before) → new.here.done ≡ o.part.done →
      new.here.last ≡ Some id →
      ReaderStands wide x old s.start → TokenStands wide x s.start Token.closes s.end → ReaderStands wide x new s.end
  close_stands old new o closed nodes inner id s h u e g q d l r t =
      let ns = old.nodes.items in
      let (b, os, part, opened) = outer_pop wide x ns new.outer.items o 0 r.begin (subst (λ z. OuterStands wide x ns z 0 r.begin) u r.outer)
      in
      let (ho, hp) = in_outer_front (length ns) new.outer.items o (subst (InOuter (length ns)) u h.outer) in
      let k : Added wide x ns (closed, inner) r.begin s.start =
      subst (λ z. Added wide x ns z r.begin s.start) e (disjunction_added wide x ns old.here r.begin s.start r.nodes h.here r.here) in
      let whole : Span = record { start = o.start; end = s.end } in
      let group : Added wide x closed (with_node closed (shapes.Group o.mark inner) whole) o.start s.end =
      one_added wide x closed (shapes.Group o.mark inner) whole o.start s.end k.nodes (below_is inner (length closed) k.is_node) (
        to_here wide x (Token.opens (mark_of o.mark)) o.start r.begin _ (sym k.stands.from) opened,
        from_here wide x Token.closes s.start _ s.end (sym k.stands.to) t,
      ) refl refl in
      let all : Added wide x ns (nodes, id) o.start s.end =
      added_after wide x ns (closed, inner) (nodes, id) o.start r.begin s.start s.end k
      (subst (λ z. Added wide x closed z o.start s.end) g group) in
      grown_stands ns (nodes, id) o.part new.outer.items new b o.start s.end hp ho part os all q d l refl

  last_ends : (ns : List Node) (done before : Option ℕ) (id a m : ℕ) → AlternativesStand wide x ns done before (Some id) a m →
      (span_at ns id).end ≡ m
  last_ends ns None None id a m s = s.to
  last_ends ns None (Some i) id a m (mid, s, r) = r.to
  last_ends ns (Some j) None id a m (bar, after, n, t, s) = s.to
  last_ends ns (Some j) (Some i) id a m (bar, after, n, t, (mid, s, r)) = r.to

  last_becomes : (ns more : List Node) (before : Option ℕ) (id last a m e : ℕ) →
      InPart (length ns) (record { done = None; before = before; last = Some id }) → TermsStand wide x ns before (Some id) a m →
      NodeStands (ns ++ more) last (span_at ns id).start e → TermsStand wide x (ns ++ more) before (Some last) a e
  last_becomes ns more None id last a m e h s n = record { from = n.from ∙ s.from; to = n.to }
  last_becomes ns more (Some i) id last a m e h (mid, s, r) n =
      (mid, stands_old ns more i a mid h.before s, record { from = n.from ∙ r.from; to = n.to })

  repeat_becomes : (ns more : List Node) (done before : Option ℕ) (id last a m e : ℕ) →
      InPart (length ns) (record { done = done; before = before; last = Some id }) → AlternativesStand wide x ns done before (Some id) a m →
      NodeStands (ns ++ more) last (span_at ns id).start e → AlternativesStand wide x (ns ++ more) done before (Some last) a e
  repeat_becomes ns more None before id last a m e h s n = last_becomes ns more before id last a m e h s n
  repeat_becomes ns more (Some j) before id last a m e h (bar, after, k, t, s) n = (
    bar,
    after,
    stands_old ns more j a bar h.done k,
    t,
    last_becomes ns more before id last after m e (record {
      done = tt;
      before =
          h.before;
      last = h.last;
    }) s n,
  )

  pub times_stands : (old new : Reader) (counts : Counts) (id last start end : ℕ) → InReader old → old.here.last ≡ Some id →
      id < length old.nodes.items →
      with_node old.nodes.items (shapes.Repeat id counts) (record {
        start = (span_at old.nodes.items id).start;
        end =
            end;
      }) ≡ (new.nodes.items, last) →
      new.here ≡ record { done = old.here.done; before = old.here.before; last = Some last } → new.outer.items ≡ old.outer.items →
      ReaderStands wide x old start → TokenStands wide x start (Token.times (bounds_of counts)) end → ReaderStands wide x new end
  times_stands old new counts id last start end h is lt e f u r t =
      let ns = old.nodes.items in
      let span : Span = record { start = (span_at ns id).start; end = end } in
      let here : AlternativesStand wide x ns old.here.done old.here.before (Some id) r.begin start =
      subst (λ z. AlternativesStand wide x ns old.here.done old.here.before z r.begin start) is r.here in
      let token =
      from_here wide x (Token.times (bounds_of counts)) start _ end
      (sym (last_ends ns old.here.done old.here.before id r.begin start here)) t in
      let k : Added wide x ns (new.nodes.items, last) (span_at ns id).start end = subst (λ z. Added wide x ns z (span_at ns id).start end) e
      (one_added wide x ns (shapes.Repeat id counts) span (span_at ns id).start end r.nodes (below_is id (length ns) lt) (refl, token) refl
      refl) in
      let now : NodeStands (ns ++ k.more) last (span_at ns id).start end =
      subst (λ z. NodeStands z last (span_at ns id).start end) k.grown k.stands in
      let part : AlternativesStand wide x (ns ++ k.more) old.here.done old.here.before (Some last) r.begin end =
      repeat_becomes ns k.more old.here.done old.here.before id last r.begin start end (record {
        done = h.here.done;
        before =
            h.here.before;
        last = lt;
      }) here now in
      record {
        nodes = k.nodes;
        begin = r.begin;
        outer = subst (λ z. OuterStands wide x new.nodes.items z 0 r.begin) (sym u)
            (subst (λ z. OuterStands wide x z old.outer.items 0 r.begin) (sym k.grown)
            (outer_old wide x ns k.more old.outer.items 0 r.begin h.outer r.outer));
        here = subst (λ z. PartStands wide x new.nodes.items z r.begin end) (sym f)
            (subst (λ z. AlternativesStand wide x z old.here.done old.here.before (Some last) r.begin end) (sym k.grown) part);
      }

  -- the end of the text
  pub finished_added : (r : Reader) (nodes : List Node) (root end : ℕ) → InReader r →
      with_disjunction r.nodes.items r.here end ≡ (nodes, root) → (s : ReaderStands wide x r end) →
      Added wide x r.nodes.items (nodes, root) s.begin end
  finished_added r nodes root end h e s =
      subst (λ z. Added wide x r.nodes.items z s.begin end) e (disjunction_added wide x r.nodes.items r.here s.begin end s.nodes h.here
      s.here)

  pub finished_stands : (r : Reader) (p : Pattern) (end : ℕ) → InReader r → r.outer.items ≡ [] →
      with_disjunction r.nodes.items r.here end ≡ (p.nodes.items, p.root) → ReaderStands wide x r end → SpansStand wide x p end
  finished_stands r p end h none e s =
      let k = finished_added r p.nodes.items p.root end h e s in
      let first : 0 ≡ s.begin = subst (λ z. OuterStands wide x r.nodes.items z 0 s.begin) none s.outer in
      record { whole = subst (λ z. NodeStands p.nodes.items p.root z end) (sym first) k.stands; nodes = k.nodes.fit }

  pub ended_spans : {E : Type 0} (r : Reader) (end : ℕ) (o : Result (Option Pattern) E) → ReaderStands wide x r end →
      IfOk o (λ q. IfSome q (λ p. (w : Bool) (y : Text) → ReaderStands w y r end → SpansStand w y p end)) →
      IfOk o (λ q. IfSome q (λ p. SpansStand wide x p end))
  ended_spans r end (Err e) s h = tt
  ended_spans r end (Ok None) s h = tt
  ended_spans r end (Ok (Some p)) s h = h wide x s

  pub first_stands : (nodes : Vec Node Global) (outer : Vec Open Global) (at : ℕ) → nodes.items ≡ [] → outer.items ≡ [] → at ≡ 0 →
      ReaderStands wide x (record { nodes = nodes; here = record { done = None; before = None; last = None }; outer = outer }) at
  first_stands nodes outer at n o e = record {
    nodes = subst (NodesStand wide x) (sym n) (record { below = refl; fit = λ i d l. absurd (omega arith) });
    begin = 0;
    outer = subst (λ z. OuterStands wide x nodes.items z 0 0) (sym o) refl;
    here = sym e;
  }

  -- nothing is left to read
  pub stands_at_end : (r : Reader) (rest : List ℕ) (total : ℕ) → shadow (Utf8 rest) → chars rest ≡ [] →
      ReaderStands wide x r (total - length rest) → ReaderStands wide x r total
  stands_at_end r rest total u e s =
      let none : length rest ≡ 0 = sym (bytes_are rest u) ∙ ap (λ z. length (encodes z)) e in
      subst (λ z. ReaderStands wide x r z) (let q : total - length rest ≡ total = omega arith in q) s

pub none_open : (os : List Open) → length os ≤ 0 → os ≡ []
none_open [] h = refl
none_open (o ∷ os) h = absurd (omega arith)
