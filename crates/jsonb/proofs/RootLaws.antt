-- Each answer of the reader by its cause.
use Rattle.std.proofs.Common.{◌≡◌, ℕ, ◌≤◌, List, [], true, false, Option, Some, None, refl, sym, ap, subst, ◌∙◌, ◌⊎◌, inl, inr}
use Rattle.std.specs.Prelude.{Result, Ok, Err, IfOk, IsSomeAnd, option_map}
use Rattle.std.proofs.lemmas.Bool.{ne_eqb}
use Rattle.json_model.specs.Nest.{nest}
use Rattle.json_model.specs.Tree.{Scalar, Tree, scalar}
use Rattle.jsonb_layout.specs.Layout.{Item}
use Rattle.jsonb_layout.specs.declared.form.Form.{Form}
use Rattle.jsonb_layout.specs.declared.form.Form.TheVariants.{Array, Object, Lone}
use Rattle.jsonb_layout.specs.Options.{◌>>=◌}
use Rattle.jsonb_layout.specs.inner.Reading.{Place, scalar_of, opened, lone_in, lone_item}
use Rattle.jsonb_layout.specs.Seats.{Seat, IsRoot, item_seat}
use Rattle.jsonb_layout.specs.Stands.{Stands}
use Rattle.jsonb_layout.specs.inner.Trees.{read, held_by, root_in, tree_of, item_tree}
use Rattle.jsonb_layout.proofs.Containers.{tree_takes, tree_again}
use Rattle.jsonb_layout.proofs.SeatRuns.{container_is_root, lone_is_root}
use Rattle.jsonb_layout.proofs.Tools.{IsBytes, bind_some, some_is}
use Rattle.jsonb_layout.proofs.Unrolled.{read_unroll}
use Rattle.jsonb.specs.Found.{tree_found, scalar_found}
use Rattle.jsonb.specs.Nodes.{node_tree}
use Rattle.jsonb.specs.inner.Reads.{lone_tree, Reads}
use Rattle.jsonb.specs.Root.{Cause, IsRead, read_tree}
use Rattle.jsonb.specs.Seated.{node_seat}
use Rattle.jsonb.specs.inner.Values.{is_clean, IsJsonTree}
use Rattle.jsonb.specs.declared.error.JsonbError.{JsonbError}
use Rattle.jsonb.specs.declared.error.JsonbError.TheVariants as errors
use Rattle.jsonb.specs.declared.found.Found.{Found}
use Rattle.jsonb.specs.declared.node.JsonbNode.{JsonbNode}
use Rattle.jsonb.proofs.TreeCauses.{of_text, of_narrow, text_of, json_of, differ}

-- ---- what is computed is the relation

-- what is computed is what a user believes, but for want of memory
pub answers : (b : List ℕ) → IsBytes b → (r : Result JsonbNode JsonbError) → Reads (tree_of b) r
    → (r ≡ Err errors.OutOfMemory) ⊎ IsRead b (read_tree r)
answers b fits (Ok n) (e, clean) = inr (tree_takes b (node_tree n) fits e, json_of (node_tree n) clean)
answers b fits (Err errors.Malformed) e = inr (λ t h. let k : None ≡ Some t = sym e ∙ tree_again b t h in absurd cc)
answers b fits (Err errors.NotText) h = inr (go (tree_of b) refl h)
  where
    go : (r : Option Tree) → tree_of b ≡ r → IsSomeAnd r (λ t. (tree_found t).not_text ≡ true) → Cause b errors.NotText
    go None e h = absurd h
    go (Some t) e h = (t, tree_takes b t fits e, λ text. differ (tree_found t).not_text h (of_text t text))
answers b fits (Err errors.NumberTooWide) h = inr (go (tree_of b) refl h)
  where
    go : (r : Option Tree) → tree_of b ≡ r → IsSomeAnd r (λ t. ((tree_found t).not_text ≡ false) × ((tree_found t).wide ≡ true))
        → Cause b errors.NumberTooWide
    go None e h = absurd h
    go (Some t) e h = (t, tree_takes b t fits e, text_of t h.0, λ narrow. differ (tree_found t).wide h.1 (of_narrow t narrow))
answers b fits (Err errors.OutOfMemory) h = inl refl

-- a flat slice never wants memory
pub never_wants : (b : List ℕ) (r : Result JsonbNode JsonbError) → Reads (tree_of b) r → (t : Tree) → Stands b t → nest t ≤ 1
    → r ≡ Err errors.OutOfMemory → ⊥
never_wants b (Ok n) h t s low e = absurd cc
never_wants b (Err errors.Malformed) h t s low e = absurd cc
never_wants b (Err errors.NotText) h t s low e = absurd cc
never_wants b (Err errors.NumberTooWide) h t s low e = absurd cc
never_wants b (Err errors.OutOfMemory) h t s low e = h t (tree_again b t s) low

-- ---- a root scalar

-- the tree of a root scalar is that of its item
pub lone_root : (b : List ℕ) (x : Item) → Some x ≡ lone_item b → tree_of b ≡ lone_tree x
unfolding tree_of lone_item
lone_root b x e =
    let o = bind_some (opened b) (λ o. lone_in o.0 o.2) x (sym e) in
    let lone_is = form_is o.0.0 o.0.2 o.2 in
    ap (λ (r : Option (Form × ℕ × Place)). r >>= λ o. root_in o.0 b) o.1
    ∙ ap (λ (f : Form). root_in f b) lone_is
    ∙ ap (λ (r : Option Item). r >>= λ x. lone_tree x) (again o)
  where
    form_is : (f : Form) (p : Place) → lone_in f p ≡ Some x → f ≡ Lone
    form_is Array p e = absurd cc
    form_is Object p e = absurd cc
    form_is Lone p e = refl

    again : (o : (o : Form × ℕ × Place) × (opened b ≡ Some o) × (lone_in o.0 o.2 ≡ Some x)) → lone_item b ≡ Some x
    again o = sym e

-- no root scalar is a container
pub no_lone_root : (b : List ℕ) → None ≡ lone_item b → tree_of b ≡ read b
unfolding tree_of lone_item
no_lone_root b e = go (opened b) refl
  where
    by : (f : Form) (c : ℕ) (p : Place) → opened b ≡ Some (f, c, p) → root_in f b ≡ read b
    by Array c p h = refl
    by Object c p h = refl
    by Lone c p h =
        ap (λ (r : Option Item). r >>= λ x. lone_tree x) (sym e)
        ∙ sym (read_unroll b ∙ ap (λ (r : Option (Form × ℕ × Place)). r >>= λ o. held_by read o.0 o.1 o.2) h)

    go : (r : Option (Form × ℕ × Place)) → opened b ≡ r → (r >>= λ o. root_in o.0 b) ≡ read b
    go None h = sym (read_unroll b ∙ ap (λ (r : Option (Form × ℕ × Place)). r >>= λ o. held_by read o.0 o.1 o.2) h)
    go (Some o) h = by o.0 o.1 o.2 h

-- ---- the item of a root scalar

not_five : (x : Item) (s : Scalar) → scalar_of 0 x ≡ Some s → x.kind ≡ 5 → ⊥
unfolding scalar_of
not_five x s e five = let k : None ≡ Some s = rw five at e in absurd cc

pub lone_found : (x : Item) (f : Found) → Some f ≡ option_map scalar_found (scalar_of 0 x) → option_map tree_found (lone_tree x) ≡ Some f
lone_found x f e = go (scalar_of 0 x) e
  where
    go : (r : Option Scalar) → Some f ≡ option_map scalar_found r → option_map tree_found (r >>= λ s. Some (scalar s)) ≡ Some f
    go None e = absurd cc
    go (Some s) e = sym e

-- a root scalar in which nothing is found is JSON
pub lone_json : (x : Item) (f : Found) → Some f ≡ option_map scalar_found (scalar_of 0 x) → is_clean f ≡ true → IsJsonTree (lone_tree x)
lone_json x f e clean = go (lone_tree x) (lone_found x f e)
  where
    go : (r : Option Tree) → option_map tree_found r ≡ Some f → IsJsonTree r
    go None e = absurd cc
    go (Some t) e = ap is_clean (some_is (tree_found t) f e) ∙ clean

pub lone_none : (x : Item) → None ≡ option_map scalar_found (scalar_of 0 x) → lone_tree x ≡ None
lone_none x e = go (scalar_of 0 x) e
  where
    go : (r : Option Scalar) → None ≡ option_map scalar_found r → (r >>= λ s. Some (scalar s)) ≡ None
    go None e = refl
    go (Some s) e = absurd cc

-- its tree is that of an item at the front of a payload
pub lone_is_item : (x : Item) (f : Found) → Some f ≡ option_map scalar_found (scalar_of 0 x) → lone_tree x ≡ item_tree 0 x
lone_is_item x f e = go (scalar_of 0 x) refl e
  where
    go : (r : Option Scalar) → scalar_of 0 x ≡ r → Some f ≡ option_map scalar_found r → lone_tree x ≡ item_tree 0 x
    go None h e = absurd cc
    go (Some s) h e = sym (rw (ne_eqb x.kind 5 (not_five x s h)) refl)

-- its node has its tree
pub lone_node : (x : Item) (f : Found) (n : JsonbNode) → Some f ≡ option_map scalar_found (scalar_of 0 x) → is_clean f ≡ true
    → Some (node_tree n) ≡ item_tree 0 x → (lone_tree x ≡ Some (node_tree n)) × (is_clean (tree_found (node_tree n)) ≡ true)
lone_node x f n e clean same =
    let is : lone_tree x ≡ Some (node_tree n) = lone_is_item x f e ∙ sym same in
    (is, ap is_clean (some_is (tree_found (node_tree n)) f (sym (ap (option_map tree_found) is) ∙ lone_found x f e)) ∙ clean)

-- ---- where the root lies

abbrev pub whole : List ℕ → Seat
whole b = record { at = 0; kind = 5; bytes = b }

-- a container is the root of its slice
pub container_root : (b : List ℕ) → IsBytes b → (r : Result JsonbNode JsonbError) → Reads (read b) r → IfOk r (λ n. node_seat n ≡ whole b)
    → IfOk r (λ n. IsRoot b (node_seat n))
container_root b fits (Ok n) h e = subst (IsRoot b) (sym e) (container_is_root b (node_tree n) fits h.0)
container_root b fits (Err x) h e = tt

-- a root scalar lies where its item does
pub scalar_root : (b : List ℕ) (x : Item) → IsBytes b → Some x ≡ lone_item b → (r : Result JsonbNode JsonbError)
    → IfOk r (λ n. node_seat n ≡ item_seat 0 1 [] x) → IfOk r (λ n. IsRoot b (node_seat n))
scalar_root b x fits e (Ok n) h = subst (IsRoot b) (sym h) (lone_is_root b x fits (sym e))
scalar_root b x fits e (Err y) h = tt
