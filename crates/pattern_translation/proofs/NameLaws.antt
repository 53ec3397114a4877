-- The names of the groups in the nodes that are left.
use Rattle.std.proofs.Common.{◌≡◌, ◌+◌, ◌<◌, Bool, true, false, List, [], ◌∷◌, ◌++◌, Some, None, refl, ap, sym, ◌∙◌, subst, arith, append_assoc}
use Rattle.std.specs.Prelude.{◌||◌, reverse, cond}
use Rattle.std.specs.Str.{bytes_eq}
use Rattle.std.specs.List.{list_any}
use Rattle.std.proofs.lemmas.List.{reverse-append, append-nil}
use Rattle.pattern_model.specs.Tree.{Name, Mark, Tree}
use Rattle.pattern_model.specs.SharedNames.{names}
use Rattle.pattern_tree.specs.declared.form.NodeId.{NodeId}
use Rattle.pattern_tree.specs.declared.pattern.Pattern.{Pattern}
use Rattle.pattern_tree.specs.Forms.{mark_name}
use Rattle.pattern_tree.specs.Patterns.{HasNode, node_tree}
use Rattle.rust_pattern_model.specs.Refusals.{has_twin, shares_name}
use Rattle.pattern_translation.specs.Names.{shares, names_of, tree_size, size_of, HaveNodes, Looked, LooksAt}

-- equal tests find the same
pub shares_same : (s u : Name → Bool) → ((q : Name) → s q ≡ u q) → (ns : List Name) → shares s ns ≡ shares u ns
shares_same s u e [] = refl
shares_same s u e (n ∷ ns) =
    ap (λ b. b || shares (λ q. s q || bytes_eq n q) ns) (e n)
    ∙ ap (λ b. u n || b) (shares_same (λ q. s q || bytes_eq n q) (λ q. u q || bytes_eq n q) (λ q. ap (λ b. b || bytes_eq n q) (e q)) ns)

some_of_both : (s u : Name → Bool) (ns : List Name) → list_any (λ q. s q || u q) ns ≡ list_any s ns || list_any u ns
some_of_both s u [] = refl
some_of_both s u (n ∷ ns) = ap (λ b. (s n || u n) || b) (some_of_both s u ns) ∙ four (s n) (u n) (list_any s ns) (list_any u ns)
  where
    four : (a b c d : Bool) → (a || b) || (c || d) ≡ (a || c) || (b || d)
    four true b c d = refl
    four false true true d = refl
    four false true false d = refl
    four false false c d = refl

three : (a b c d : Bool) → a || ((b || c) || d) ≡ (a || b) || (c || d)
three true b c d = refl
three false true c d = refl
three false false c d = refl

shares_any : (s : Name → Bool) (ns : List Name) → shares s ns ≡ list_any s ns || has_twin ns
shares_any s [] = refl
shares_any s (n ∷ ns) =
    ap (λ b. s n || b) (shares_any (λ q. s q || bytes_eq n q) ns ∙ ap (λ b. b || has_twin ns) (some_of_both s (bytes_eq n) ns))
    ∙ three (s n) (list_any s ns) (list_any (bytes_eq n) ns) (has_twin ns)

-- where nothing was seen, a name stands twice
pub shares_twin : (s : Name → Bool) → ((q : Name) → s q ≡ false) → (ns : List Name) → shares s ns ≡ has_twin ns
shares_twin s e ns = shares_any s ns ∙ ap (λ b. b || has_twin ns) (none ns)
  where
    none : (ns : List Name) → list_any s ns ≡ false
    none [] = refl
    none (n ∷ ns) = ap (λ b. b || list_any s ns) (e n) ∙ none ns

-- the last on the list is the next
pub last_first : {A : Type 0} (xs : List A) (x : A) → reverse (xs ++ (x ∷ [])) ≡ x ∷ reverse xs
last_first xs x = reverse-append xs (x ∷ [])

-- at first nothing was seen, and the root is left
pub all_left : (p : Pattern) (root : NodeId) (t : Tree) (old new : List NodeId) (s : Name → Bool) → old ≡ [] → new ≡ old ++ (root ∷ []) →
    node_tree p root ≡ t → ((q : Name) → s q ≡ false) → shares s (names_of p (reverse new)) ≡ shares_name t
all_left p root t old new s e f g h =
    let r : reverse new ≡ root ∷ [] = ap reverse (f ∙ ap (λ z. z ++ (root ∷ [])) e) in
    shares_twin s h (names_of p (reverse new))
    ∙ (ap (λ z. has_twin (names_of p z)) r ∙ ap has_twin (append-nil (names (node_tree p root)) ∙ ap names g))

-- a node without names and parts
pub nothing_left : (p : Pattern) (id : NodeId) (nodes : List NodeId) (s : Name → Bool) → names (node_tree p id) ≡ [] →
    0 < tree_size (node_tree p id) → Looked p id nodes nodes s s
nothing_left p id nodes s e n =
    record {
      same = ap (λ z. shares s (z ++ names_of p (reverse nodes))) (sym e);
      nodes = λ h. h;
      fewer = omega (arith, n);
    }

-- a node with one part, and names before it that were seen
pub one_left : (p : Pattern) (id i : NodeId) (old new : List NodeId) (s u : Name → Bool) → HasNode p i → new ≡ old ++ (i ∷ []) →
    shares u (names (node_tree p i) ++ names_of p (reverse old)) ≡ shares s (names (node_tree p id) ++ names_of p (reverse old)) →
    tree_size (node_tree p id) ≡ 1 + tree_size (node_tree p i) → Looked p id old new s u
one_left p id i old new s u h e f n =
    let r : reverse new ≡ i ∷ reverse old = ap reverse e ∙ last_first old i in
    record {
      same = ap (λ z. shares u (names_of p z)) r ∙ f;
      nodes = λ g. subst (HaveNodes p) (sym r) (h, g);
      fewer = subst (λ z. size_of p z < tree_size (node_tree p id) + size_of p (reverse old)) (sym r) (omega (arith, n));
    }

-- a node with two parts
pub two_left : (p : Pattern) (id i j : NodeId) (old middle new : List NodeId) (s : Name → Bool) → HasNode p i → HasNode p j →
    middle ≡ old ++ (j ∷ []) → new ≡ middle ++ (i ∷ []) →
    names (node_tree p id) ≡ names (node_tree p i) ++ names (node_tree p j) →
    tree_size (node_tree p id) ≡ 1 + (tree_size (node_tree p i) + tree_size (node_tree p j)) → Looked p id old new s s
two_left p id i j old middle new s h k d e f n =
    let q : reverse middle ≡ j ∷ reverse old = ap reverse d ∙ last_first old j in
    let r : reverse new ≡ i ∷ (j ∷ reverse old) = ap reverse e ∙ (last_first middle i ∙ ap (λ z. i ∷ z) q) in
    record {
      same = ap (λ z. shares s (names_of p z)) r
          ∙ ap (shares s) (sym (append_assoc (names (node_tree p i)) (names (node_tree p j)) (names_of p (reverse old)))
          ∙ ap (λ z. z ++ names_of p (reverse old)) (sym f));
      nodes = λ g. subst (HaveNodes p) (sym r) (h, (k, g));
      fewer = subst (λ z. size_of p z < tree_size (node_tree p id) + size_of p (reverse old)) (sym r) (omega (arith, n));
    }

-- the names of a group are its own and those in it
pub unnamed : (m : Mark) (t : Tree) → None ≡ mark_name m → names (Tree.group m t) ≡ names t
unnamed Mark.capture t e = refl
unnamed (Mark.named n) t e = cc
unnamed Mark.plain t e = refl
unnamed Mark.modified t e = refl
unnamed Mark.ahead t e = refl
unnamed Mark.not_ahead t e = refl
unnamed Mark.behind t e = refl
unnamed Mark.not_behind t e = refl

pub named : (m : Mark) (n : Name) (t : Tree) → Some n ≡ mark_name m → names (Tree.group m t) ≡ n ∷ names t
named Mark.capture n t e = cc
named (Mark.named q) n t e = let f : q ≡ n = cc in ap (λ z. z ∷ names t) f
named Mark.plain n t e = cc
named Mark.modified n t e = cc
named Mark.ahead n t e = cc
named Mark.not_ahead n t e = cc
named Mark.behind n t e = cc
named Mark.not_behind n t e = cc

-- a name that was seen
pub seen_again : (s : Name → Bool) (n : Name) (ns all : List Name) → all ≡ n ∷ ns → true ≡ s n → shares s all ≡ true
seen_again s n ns all e f = ap (shares s) e ∙ ap (λ b. b || shares (λ q. s q || bytes_eq n q) ns) (sym f)

-- a name that was not seen, and is now
pub seen_now : (s u : Name → Bool) (n : Name) (ns all : List Name) → all ≡ n ∷ ns → false ≡ s n →
    ((q : Name) → u q ≡ s q || bytes_eq n q) → shares u ns ≡ shares s all
seen_now s u n ns all e f g =
    shares_same u (λ q. s q || bytes_eq n q) g ns
    ∙ (ap (λ b. b || shares (λ q. s q || bytes_eq n q) ns) f ∙ ap (shares s) (sym e))

pub cond_or : (a b : Bool) → cond a true b ≡ b || a
cond_or true true = refl
cond_or true false = refl
cond_or false true = refl
cond_or false false = refl

-- a group with a name, and whether it was seen
pub look_named : (p : Pattern) (id i : NodeId) (old new : List NodeId) (s u : Name → Bool) (known : Bool) (m : Mark) (n : Name) →
    HasNode p i → new ≡ old ++ (i ∷ []) → node_tree p id ≡ Tree.group m (node_tree p i) → Some n ≡ mark_name m → known ≡ s n →
    (known ≡ false → (q : Name) → u q ≡ s q || bytes_eq n q) → LooksAt p id old new s u known
look_named p id i old new s u true m n h e t k f g =
    seen_again s n (names (node_tree p i) ++ names_of p (reverse old)) (names (node_tree p id) ++ names_of p (reverse old))
    (ap (λ z. z ++ names_of p (reverse old)) (ap names t ∙ named m n (node_tree p i) k)) f
look_named p id i old new s u false m n h e t k f g =
    one_left p id i old new s u h e
    (seen_now s u n (names (node_tree p i) ++ names_of p (reverse old)) (names (node_tree p id) ++ names_of p (reverse old))
    (ap (λ z. z ++ names_of p (reverse old)) (ap names t ∙ named m n (node_tree p i) k)) f (g refl)) (ap tree_size t)
