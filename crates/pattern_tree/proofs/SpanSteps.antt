-- The nodes stand where their places say, as nodes are added.
use Rattle.std.proofs.Common.{◌≡◌, ℕ, zero, suc, ◌+◌, ◌<◌, ◌≤◌, Bool, true, false, ◌&&◌, List, [], ◌∷◌, ◌++◌, length, get_or, Option, Some, None, refl, ap, sym, ◌∙◌, subst, arith, length-append, append_assoc, ◌⊎◌, inl, inr}
use Rattle.std.specs.Prelude.{nat_lt}
use Rattle.std.proofs.lemmas.List.{append-nil}
use Rattle.std.proofs.Math.ListN.{get_or-append}
use Rattle.std.proofs.Math.Seq.{get_or-append_seam}
use Rattle.std.proofs.lemmas.Bool.Decides.{nat_tests}
use Rattle.pattern_model.specs.Text.{Text}
use Rattle.pattern_model.specs.Tree.{Token}
use Rattle.pattern_model.specs.Spans.{TokenStands}
use Rattle.pattern_tree.specs.declared.node.Node.{Node}
use Rattle.pattern_tree.specs.declared.node.Shape.{Shape}
use Rattle.pattern_tree.specs.declared.node.Shape.TheVariants as shapes
use Rattle.pattern_tree.specs.declared.part.Part.{Part}
use Rattle.pattern_tree.specs.declared.reader.Open.{Open}
use Rattle.pattern_tree.specs.declared.reader.Reader.{Reader}
use Rattle.pattern_tree.specs.declared.span.Span.{Span}
use Rattle.pattern_tree.specs.Below.{parts_below, all_below}
use Rattle.pattern_tree.specs.Nodes.{span_at, mark_of, InOption, InPart, InOuter}
use Rattle.pattern_tree.specs.Parts.{with_node, between_nodes, with_term, with_alternative, with_either, with_disjunction, with_last}
use Rattle.pattern_tree.specs.Spans.{NodeStands, FitsShape, NodesStand, TermsStand, AlternativesStand, PartStands, OuterStands, ReaderStands}
use Rattle.pattern_model.proofs.BoolLaws.{both, and_true, is_below}

abbrev no_node : Node
no_node = record { shape = shapes.Empty; span = record { start = 0; end = 0 } }

-- places and parts, as the list of nodes grows
pub span_old : (ns ms : List Node) (i : ℕ) → i < length ns → span_at (ns ++ ms) i ≡ span_at ns i
span_old ns ms i h = ap (λ z. z.span) (get_or-append ns ms no_node i h)

pub span_new : (ns : List Node) (n : Node) → span_at (ns ++ (n ∷ [])) (length ns) ≡ n.span
span_new ns n = ap (λ z. z.span) (get_or-append_seam ns n [] no_node)

below_snoc : (k : ℕ) (ns : List Node) (n : Node) → all_below k ns ≡ true → parts_below (k + length ns) n.shape ≡ true →
    all_below k (ns ++ (n ∷ [])) ≡ true
below_snoc k [] n h p = and_true (parts_below k n.shape) true (let e : k + 0 ≡ k =
    omega arith in subst (λ z. parts_below z n.shape ≡ true) e p) refl
below_snoc k (m ∷ ns) n h p =
    let (a, b) = both (parts_below k m.shape) (all_below (k + 1) ns) h in
    and_true (parts_below k m.shape) (all_below (k + 1) (ns ++ (n ∷ []))) a
    (below_snoc (k + 1) ns n b (let e : k + suc (length ns) ≡ (k + 1) + length ns =
    omega arith in subst (λ z. parts_below z n.shape ≡ true) e p))

below_at : (k : ℕ) (ns : List Node) (i : ℕ) (d : Node) → all_below k ns ≡ true → i < length ns →
    parts_below (k + i) (get_or ns i d).shape ≡ true
below_at k [] i d h l = absurd (omega arith)
below_at k (m ∷ ns) zero d h l = let e : k + 0 ≡ k =
    omega arith in subst (λ z. parts_below z m.shape ≡ true) (sym e) (both (parts_below k m.shape) (all_below (k + 1) ns) h).0
below_at k (m ∷ ns) (suc i) d h l =
    let e : k + suc i ≡ (k + 1) + i = omega arith in
    subst (λ z. parts_below z (get_or ns i d).shape ≡ true) (sym e)
    (below_at (k + 1) ns i d (both (parts_below k m.shape) (all_below (k + 1) ns) h).1 (omega arith))

-- the parts of a node stand before it
pub parts_at : (ns : List Node) (i : ℕ) (d : Node) → all_below 0 ns ≡ true → i < length ns → parts_below i (get_or ns i d).shape ≡ true
parts_at ns i d h l = let e : 0 + i ≡ i = omega arith in subst (λ z. parts_below z (get_or ns i d).shape ≡ true) e (below_at 0 ns i d h l)

pub below_is : (i n : ℕ) → i < n → nat_lt i n ≡ true
below_is i n e = grind (arith, nat_tests)

pub stands_old : (ns ms : List Node) (i a e : ℕ) → i < length ns → NodeStands ns i a e → NodeStands (ns ++ ms) i a e
stands_old ns ms i a e h s = record {
  from = ap (λ z. z.start) (span_old ns ms i h) ∙ s.from;
  to = ap (λ z. z.end) (span_old ns ms i h)
      ∙ s.to;
}

module _ (wide : Bool) (x : Text) where
  pub from_here : (t : Token) (a b e : ℕ) → a ≡ b → TokenStands wide x a t e → TokenStands wide x b t e
  from_here t a b e q s = subst (λ z. TokenStands wide x z t e) q s

  pub to_here : (t : Token) (a d e : ℕ) → d ≡ e → TokenStands wide x a t d → TokenStands wide x a t e
  to_here t a d e q s = subst (λ z. TokenStands wide x a t z) q s

  fits_old : (ns ms : List Node) (k : ℕ) (shape : Shape) (s : Span) → k ≤ length ns → parts_below k shape ≡ true →
      FitsShape wide x ns shape s → FitsShape wide x (ns ++ ms) shape s
  fits_old ns ms k shapes.Empty s le b f = f
  fits_old ns ms k (shapes.Single l) s le b f = f
  fits_old ns ms k (shapes.Group m i) s le b f =
      let l : i < length ns = let h = is_below i k b in omega arith in
      let e = sym (span_old ns ms i l) in
      (to_here _ s.start _ _ (ap (λ z. z.start) e) f.0, from_here _ _ _ s.end (ap (λ z. z.end) e) f.1)
  fits_old ns ms k (shapes.Repeat i c) s le b f =
      let l : i < length ns = let h = is_below i k b in omega arith in
      let e = sym (span_old ns ms i l) in
      (f.0 ∙ ap (λ z. z.start) e, from_here _ _ _ s.end (ap (λ z. z.end) e) f.1)
  fits_old ns ms k (shapes.Sequence i j) s le b f =
      let two = both (nat_lt i k) (nat_lt j k) b in
      let e = sym (span_old ns ms i (let h = is_below i k two.0 in omega arith)) in
      let g = sym (span_old ns ms j (let h = is_below j k two.1 in omega arith)) in
      (f.0 ∙ ap (λ z. z.start) e, sym (ap (λ z. z.end) e) ∙ (f.1 ∙ ap (λ z. z.start) g), f.2 ∙ ap (λ z. z.end) g)
  fits_old ns ms k (shapes.Either i j) s le b f =
      let two = both (nat_lt i k) (nat_lt j k) b in
      let e = sym (span_old ns ms i (let h = is_below i k two.0 in omega arith)) in
      let g = sym (span_old ns ms j (let h = is_below j k two.1 in omega arith)) in (
        f.0 ∙ ap (λ z. z.start) e,
        to_here Token.bar _ _ _ (ap (λ z. z.start) g) (from_here Token.bar _ _ _ (ap (λ z. z.end) e) f.1),
        f.2
            ∙ ap (λ z. z.end) g,
      )

  -- one node more
  pub nodes_more : (ns : List Node) (shape : Shape) (s : Span) → NodesStand wide x ns → parts_below (length ns) shape ≡ true →
      FitsShape wide x ns shape s → NodesStand wide x (with_node ns shape s).0
  nodes_more ns shape s h b f =
      let n : Node = record { shape = shape; span = s } in
      record {
        below = below_snoc 0 ns n h.below (let e : 0 + length ns ≡ length ns =
            omega arith in subst (λ z. parts_below z shape ≡ true) (sym e) b);
        fit = λ i d l. go i d l (i_is i l);
      }
    where
      i_is : (i : ℕ) → i < length (ns ++ ((record { shape = shape; span = s }) ∷ [])) → (i < length ns) ⊎ (i ≡ length ns)
      i_is i l = let k = length-append ns ((record { shape = shape; span = s }) ∷ []) in nat_cases i (length ns) (omega arith)
        where
          nat_cases : (i n : ℕ) → i ≤ n → (i < n) ⊎ (i ≡ n)
          nat_cases zero zero h = inr refl
          nat_cases zero (suc n) h = inl (omega arith)
          nat_cases (suc i) zero h = absurd (omega arith)
          nat_cases (suc i) (suc n) h = up (nat_cases i n (omega arith))
            where
              up : (i < n) ⊎ (i ≡ n) → (suc i < suc n) ⊎ (suc i ≡ suc n)
              up (inl l) = inl (omega arith)
              up (inr e) = inr (ap suc e)

      go : (i : ℕ) (d : Node) → i < length (ns ++ ((record { shape = shape; span = s }) ∷ [])) → (i < length ns) ⊎ (i ≡ length ns) →
          FitsShape wide x (ns ++ ((record { shape = shape; span = s }) ∷ []))
          (get_or (ns ++ ((record { shape = shape; span = s }) ∷ [])) i d).shape
          (get_or (ns ++ ((record { shape = shape; span = s }) ∷ [])) i d).span
      go i d l (inl k) =
          let n : Node = record { shape = shape; span = s } in
          let e = sym (get_or-append ns (n ∷ []) d i k) in
          subst (λ z. FitsShape wide x (ns ++ (n ∷ [])) z.shape z.span) e
          (fits_old ns (n ∷ []) i (get_or ns i d).shape (get_or ns i d).span (omega arith) (parts_at ns i d h.below k) (h.fit i d k))
      go i d l (inr k) =
          let n : Node = record { shape = shape; span = s } in
          let e : n ≡ get_or (ns ++ (n ∷ [])) i d = sym (ap (λ z. get_or (ns ++ (n ∷ [])) z d) k ∙ get_or-append_seam ns n [] d) in
          subst (λ z. FitsShape wide x (ns ++ (n ∷ [])) z.shape z.span) e (fits_old ns (n ∷ []) (length ns) shape s (omega arith) b f)

  terms_old : (ns ms : List Node) (before last : Option ℕ) (a e : ℕ) → InOption (length ns) before → InOption (length ns) last →
      TermsStand wide x ns before last a e → TermsStand wide x (ns ++ ms) before last a e
  terms_old ns ms None None a e hb hl s = s
  terms_old ns ms (Some i) None a e hb hl s = absurd s
  terms_old ns ms None (Some l) a e hb hl s = stands_old ns ms l a e hl s
  terms_old ns ms (Some i) (Some l) a e hb hl (m, s, r) = (m, stands_old ns ms i a m hb s, stands_old ns ms l m e hl r)

  alternatives_old : (ns ms : List Node) (done before last : Option ℕ) (a e : ℕ) → InOption (length ns) done → InOption (length ns) before →
      InOption (length ns) last →
      AlternativesStand wide x ns done before last a e → AlternativesStand wide x (ns ++ ms) done before last a e
  alternatives_old ns ms None before last a e hd hb hl s = terms_old ns ms before last a e hb hl s
  alternatives_old ns ms (Some i) before last a e hd hb hl (bar, after, n, t, r) =
      (bar, after, stands_old ns ms i a bar hd n, t, terms_old ns ms before last after e hb hl r)

  pub part_old : (ns ms : List Node) (p : Part) (a e : ℕ) → InPart (length ns) p → PartStands wide x ns p a e →
      PartStands wide x (ns ++ ms) p a e
  part_old ns ms p a e h s = alternatives_old ns ms p.done p.before p.last a e h.done h.before h.last s

  pub outer_old : (ns ms : List Node) (os : List Open) (a b : ℕ) → InOuter (length ns) os → OuterStands wide x ns os a b →
      OuterStands wide x (ns ++ ms) os a b
  outer_old ns ms [] a b h s = s
  outer_old ns ms (o ∷ os) a b h (p, (m, t, r)) = (part_old ns ms o.part a o.start h.0 p, (m, t, outer_old ns ms os m b h.1 r))

  pub outer_push : (ns : List Node) (os : List Open) (o : Open) (a b e : ℕ) → OuterStands wide x ns os a b →
      PartStands wide x ns o.part b o.start →
      TokenStands wide x o.start (Token.opens (mark_of o.mark)) e → OuterStands wide x ns (os ++ (o ∷ [])) a e
  outer_push ns [] o a b e q p t = (subst (λ z. PartStands wide x ns o.part z o.start) (sym q) p, (e, t, refl))
  outer_push ns (r ∷ os) o a b e (pr, (m, tk, rest)) p t = (pr, (m, tk, outer_push ns os o m b e rest p t))

  pub outer_pop : (ns : List Node) (os : List Open) (o : Open) (a e : ℕ) → OuterStands wide x ns (os ++ (o ∷ [])) a e →
      (b : ℕ) × OuterStands wide x ns os a b × PartStands wide x ns o.part b o.start × TokenStands wide x o.start
      (Token.opens (mark_of o.mark)) e
  outer_pop ns [] o a e (p, (m, t, q)) = (a, refl, p, to_here (Token.opens (mark_of o.mark)) o.start m e q t)
  outer_pop ns (r ∷ os) o a e (pr, (m, tk, rest)) = let (b, s, p, t) = outer_pop ns os o m e rest in (b, (pr, (m, tk, s)), p, t)

  -- nodes with a node that stands from one place to another, grown from others
  pub record Added (ns : List Node) (p : List Node × ℕ) (a e : ℕ) : Type 0 where
    pub nodes : NodesStand wide x p.0
    pub stands : NodeStands p.0 p.1 a e
    pub more : List Node
    pub grown : p.0 ≡ ns ++ more
    pub is_node : p.1 < length p.0

  pub one_added : (ns : List Node) (shape : Shape) (s : Span) (a e : ℕ) → NodesStand wide x ns → parts_below (length ns) shape ≡ true →
      FitsShape wide x ns shape s → s.start ≡ a → s.end ≡ e →
      Added ns (with_node ns shape s) a e
  one_added ns shape s a e h b f q r =
      let n : Node = record { shape = shape; span = s } in
      record {
        nodes = nodes_more ns shape s h b f;
        stands = record { from = ap (λ z. z.start) (span_new ns n) ∙ q; to = ap (λ z. z.end) (span_new ns n) ∙ r };
        more = n ∷ [];
        grown = refl;
        is_node = let k = length-append ns (n ∷ []) in omega arith;
      }

  term_added : (ns : List Node) (before : Option ℕ) (last a e : ℕ) → NodesStand wide x ns → InOption (length ns) before → last < length ns →
      TermsStand wide x ns before (Some last) a e →
      Added ns (with_term ns before last) a e
  term_added ns None last a e h hb hl s = record { nodes = h; stands = s; more = []; grown = sym (append-nil ns); is_node = hl }
  term_added ns (Some i) last a e h hb hl (m, s, r) =
      one_added ns (shapes.Sequence i last) (between_nodes ns i last) a e h
      (and_true (nat_lt i (length ns)) (nat_lt last (length ns)) (below_is i (length ns) hb) (below_is last (length ns) hl))
      (refl, s.to ∙ sym r.from, refl) s.from r.to

  alternative_added : (ns : List Node) (before last : Option ℕ) (a e : ℕ) → NodesStand wide x ns → InOption (length ns) before →
      InOption (length ns) last → TermsStand wide x ns before last a e →
      Added ns (with_alternative ns before last e) a e
  alternative_added ns None None a e h hb hl s = one_added ns shapes.Empty (record { start = e; end = e }) a e h refl refl (sym s) refl
  alternative_added ns (Some i) None a e h hb hl s = absurd s
  alternative_added ns before (Some l) a e h hb hl s = term_added ns before l a e h hb hl s

  pub added_after : (ns : List Node) (p q : List Node × ℕ) (a b d e : ℕ) → Added ns p b d → Added p.0 q a e → Added ns q a e
  added_after ns p q a b d e r s = record {
    nodes = s.nodes;
    stands = s.stands;
    more = r.more ++ s.more;
    grown = s.grown ∙ (ap (λ z. z ++ s.more) r.grown ∙ append_assoc ns r.more s.more);
    is_node = s.is_node;
  }

  pub longer : (ns : List Node) (p : List Node × ℕ) (a e : ℕ) → Added ns p a e → length ns ≤ length p.0
  longer ns p a e r = let k : length p.0 ≡ length (ns ++ r.more) = ap length r.grown in let l = length-append ns r.more in omega arith

  either_added : (ns : List Node) (done before last : Option ℕ) (a e : ℕ) → NodesStand wide x ns → InOption (length ns) done →
      InOption (length ns) before → InOption (length ns) last →
      AlternativesStand wide x ns done before last a e → Added ns (with_either done (with_alternative ns before last e)) a e
  either_added ns None before last a e h hd hb hl s = alternative_added ns before last a e h hb hl s
  either_added ns (Some i) before last a e h hd hb hl (bar, after, n, t, r) =
      let p = with_alternative ns before last e in
      let k : Added ns p after e = alternative_added ns before last after e h hb hl r in
      let le = longer ns p after e k in
      let left : NodeStands p.0 i a bar = subst (λ z. NodeStands z i a bar) (sym k.grown) (stands_old ns k.more i a bar hd n) in
      added_after ns p (with_node p.0 (shapes.Either i p.1) (between_nodes p.0 i p.1)) a after e e k
      (one_added p.0 (shapes.Either i p.1) (between_nodes p.0 i p.1) a e k.nodes
      (and_true (nat_lt i (length p.0)) (nat_lt p.1 (length p.0)) (below_is i (length p.0) (omega arith))
      (below_is p.1 (length p.0) k.is_node))
      (refl, to_here Token.bar _ after _ (sym k.stands.from) (from_here Token.bar bar _ after (sym left.to) t), refl) left.from k.stands.to)

  pub disjunction_added : (ns : List Node) (p : Part) (a e : ℕ) → NodesStand wide x ns → InPart (length ns) p → PartStands wide x ns p a e →
      Added ns (with_disjunction ns p e) a e
  disjunction_added ns p a e h i s = either_added ns p.done p.before p.last a e h i.done i.before i.last s

  -- a term that stands next becomes the last one
  terms_more : (ns : List Node) (before last : Option ℕ) (id a m e : ℕ) → NodesStand wide x ns → InOption (length ns) before →
      InOption (length ns) last → id < length ns →
      TermsStand wide x ns before last a m → NodeStands ns id m e →
      NodesStand wide x (with_last ns before last).0 × TermsStand wide x (with_last ns before last).0 (with_last ns before last).1
      (Some id) a e × ((more : List Node) × ((with_last ns before last).0 ≡ ns ++ more))
  terms_more ns None None id a m e h hb hl hi s n = (h, record { from = n.from ∙ sym s; to = n.to }, ([], sym (append-nil ns)))
  terms_more ns (Some i) None id a m e h hb hl hi s n = absurd s
  terms_more ns before (Some l) id a m e h hb hl hi s n =
      let k : Added ns (with_term ns before l) a m = term_added ns before l a m h hb hl s in
      (k.nodes, (m, k.stands, subst (λ z. NodeStands z id m e) (sym k.grown) (stands_old ns k.more id m e hi n)), (k.more, k.grown))

  alternatives_more : (ns : List Node) (done before last : Option ℕ) (id a m e : ℕ) → NodesStand wide x ns → InOption (length ns) done →
      InOption (length ns) before → InOption (length ns) last → id < length ns →
      AlternativesStand wide x ns done before last a m → NodeStands ns id m e →
      NodesStand wide x (with_last ns before last).0 × AlternativesStand wide x (with_last ns before last).0 done
      (with_last ns before last).1 (Some id) a e × ((more : List Node) × ((with_last ns before last).0 ≡ ns ++ more))
  alternatives_more ns None before last id a m e h hd hb hl hi s n = terms_more ns before last id a m e h hb hl hi s n
  alternatives_more ns (Some i) before last id a m e h hd hb hl hi (bar, after, k, t, r) n =
      let (g, s, (more, q)) = terms_more ns before last id after m e h hb hl hi r n in
      (g, (bar, after, subst (λ z. NodeStands z i a bar) (sym q) (stands_old ns more i a bar hd k), t, s), (more, q))

  -- the reader, where a node that stands next becomes the last term of the innermost group
  pub term_stands : (new : Reader) (ns : List Node) (part : Part) (os : List Open) (id b m e : ℕ) → NodesStand wide x ns →
      InPart (length ns) part → InOuter (length ns) os → id < length ns →
      PartStands wide x ns part b m → NodeStands ns id m e → OuterStands wide x ns os 0 b →
      with_last ns part.before part.last ≡ (new.nodes.items, new.here.before) → new.here.done ≡ part.done → new.here.last ≡ Some id →
      new.outer.items ≡ os → ReaderStands wide x new e
  term_stands new ns part os id b m e h hp ho hi s n o q d l u =
      let (g, k, (more, grown)) = alternatives_more ns part.done part.before part.last id b m e h hp.done hp.before hp.last hi s n in
      let nodes : (with_last ns part.before part.last).0 ≡ new.nodes.items = ap (λ z. z.0) q in
      let before : (with_last ns part.before part.last).1 ≡ new.here.before = ap (λ z. z.1) q in
      let here : PartStands wide x new.nodes.items (record { done = part.done; before = new.here.before; last = Some id }) b e =
      subst (λ z. AlternativesStand wide x new.nodes.items part.done z (Some id) b e) before
      (subst (λ z. AlternativesStand wide x z part.done (with_last ns part.before part.last).1 (Some id) b e) nodes k) in
      record {
        nodes = subst (NodesStand wide x) nodes g;
        begin = b;
        outer = subst (λ z. OuterStands wide x new.nodes.items z 0 b) (sym u) (subst (λ z. OuterStands wide x z os 0 b) (sym grown
            ∙ nodes) (outer_old ns more os 0 b ho o));
        here = subst (λ z. AlternativesStand wide x new.nodes.items z new.here.before new.here.last b e) (sym d)
            (subst (λ z. AlternativesStand wide x new.nodes.items part.done new.here.before z b e) (sym l) here);
      }
