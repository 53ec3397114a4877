-- What is found in frames, value by value.
use Rattle.std.proofs.Common.{◌≡◌, ℕ, zero, suc, ◌+◌, ◌-◌, ◌*◌, ◌/◌, ◌<◌, ◌≤◌, Bool, true, false, eqb, List, [], ◌∷◌, ◌++◌, length, Option, Some, None, refl, sym, ap, subst, ◌∙◌, arith}
use Rattle.std.specs.Prelude.{option_map, max}
use Rattle.std.proofs.lemmas.Bool.{eq-eqb, ne_eqb}
use Rattle.json_model.specs.Tree.{Scalar, Tree, scalar, array, object, Elements, no_elements, element}
use Rattle.json_model.specs.Nest.{nest, nest_elements, nest_members}
use Rattle.jsonb_layout.specs.Layout.{Item}
use Rattle.jsonb_layout.specs.declared.form.Form.{Form}
use Rattle.jsonb_layout.specs.declared.form.Form.TheVariants.{Array, Object, Lone}
use Rattle.jsonb_layout.specs.Options.{◌>>=◌, only_if}
use Rattle.jsonb_layout.specs.inner.Reading.{Place, item_at, unpadded, scalar_of, keys_at, opened, ended}
use Rattle.jsonb_layout.specs.inner.Trees.{item_by, elements_by, members, held_by, read, item_tree}
use Rattle.jsonb_layout.proofs.Tools.{bind_some, some_is, less_one}
use Rattle.jsonb_layout.proofs.Openings.{ended_is}
use Rattle.jsonb_layout.proofs.Sizes.{item_takes}
use Rattle.jsonb_layout.proofs.Containers.{count}
use Rattle.jsonb_layout.proofs.Shapes.{elements_count, keys_count, read_no_scalar}
use Rattle.jsonb_layout.proofs.Unrolled.{read_unroll}
use Rattle.jsonb.specs.declared.found.Found.{Found}
use Rattle.jsonb.specs.declared.frame.Frame.{Frame}
use Rattle.jsonb.specs.Found.{nothing, both, scalar_found, keys_found, keys_after, tree_found, elements_found}
use Rattle.jsonb.specs.inner.Frames.{combine, container_found, rest_found, frame_found, frames_found, frame_weight, frames_weight, IsInside}
use Rattle.jsonb.proofs.FoundLaws.{combine_assoc, combine_comm, combine_nothing, nothing_combine, members_found_is}

-- ---- the end of a frame

pub rest_end : (n : ℕ) (p : Place) → n ≡ 0 → rest_found n p ≡ ended p nothing
unfolding elements_by
rest_end n p e = ap (λ (k : ℕ). rest_found k p) e

-- a frame of no values at the end of the payload holds nothing
pub at_end : (n : ℕ) (p : Place) → n ≡ 0 → length p.rest ≡ 0 → rest_found n p ≡ Some nothing
at_end n p e h = rest_end n p e ∙ rw (eq-eqb (length p.rest) 0 h) refl

-- a frame of no values with bytes behind it can not be read
pub past_end : (n : ℕ) (p : Place) → n ≡ 0 → (length p.rest ≡ 0 → ⊥) → rest_found n p ≡ None
past_end n p e h = rest_end n p e ∙ rw (ne_eqb (length p.rest) 0 h) refl

-- ---- the next value of a frame

end_both : (b : Bool) (f g : Found) → only_if b (Some (both f g)) ≡ combine (Some f) (only_if b (Some g))
end_both true f g = refl
end_both false f g = refl

abbrev first_of : Option Tree → Option (Elements × Place) → Option (Elements × Place)
first_of a r = a >>= λ t. r >>= λ ts. Some (element t ts.0, ts.1)

one_more : (a : Option Tree) (r : Option (Elements × Place))
    → (first_of a r >>= λ r. ended r.1 (elements_found r.0)) ≡ combine (option_map tree_found a) (r >>= λ r. ended r.1 (elements_found r.0))
one_more None r = refl
one_more (Some t) None = refl
one_more (Some t) (Some r) = end_both (eqb (length r.1.rest) 0) (tree_found t) (elements_found r.0)

first_none : (n : ℕ) (p : Place) → item_at p ≡ None → rest_found (suc n) p ≡ None
unfolding elements_by
first_none n p e = rw e refl

first_some : (n : ℕ) (p q : Place) (x : Item) → item_at p ≡ Some (x, q)
    → rest_found (suc n) p ≡ combine (option_map tree_found (item_tree p.at x)) (rest_found n q)
unfolding elements_by
first_some n p q x e = rw e (one_more (item_tree p.at x) (elements_by read n q))

module _ (n : ℕ) (p : Place) (some : 0 < n) where
  -- where no item is, what is left can not be read
  pub rest_none : None ≡ item_at p → rest_found n p ≡ None
  rest_none e = ap (λ (k : ℕ). rest_found k p) (sym (less_one n some)) ∙ first_none (n - 1) p (sym e)

  -- what is left is found in the next item and in the others
  pub rest_some : (x : Item) (q : Place) → Some (x, q) ≡ item_at p
      → rest_found n p ≡ combine (option_map tree_found (item_tree p.at x)) (rest_found (n - 1) q)
  rest_some x q e = ap (λ (k : ℕ). rest_found k p) (sym (less_one n some)) ∙ first_some (n - 1) p q x (sym e)

-- ---- an item

item_scalar : (at : ℕ) (x : Item) → (x.kind ≡ 5 → ⊥) → option_map tree_found (item_tree at x) ≡ option_map scalar_found (scalar_of at x)
item_scalar at x other = rw (ne_eqb x.kind 5 other) (go (scalar_of at x))
  where
    go : (r : Option Scalar) → option_map tree_found (r >>= λ s. Some (scalar s)) ≡ option_map scalar_found r
    go None = refl
    go (Some s) = refl

pub scalar_none : (at : ℕ) (x : Item) → (x.kind ≡ 5 → ⊥) → None ≡ option_map scalar_found (scalar_of at x)
    → option_map tree_found (item_tree at x) ≡ None
scalar_none at x other e = item_scalar at x other ∙ sym e

pub scalar_some : (at : ℕ) (x : Item) (f : Found) → (x.kind ≡ 5 → ⊥) → Some f ≡ option_map scalar_found (scalar_of at x)
    → option_map tree_found (item_tree at x) ≡ combine (Some f) (Some nothing)
scalar_some at x f other e = item_scalar at x other ∙ sym e ∙ sym (combine_nothing (Some f))

inside_of : (at : ℕ) (x : Item) → x.kind ≡ 5 → item_tree at x ≡ (unpadded at x.piece >>= read)
inside_of at x five = rw (eq-eqb x.kind 5 five) refl

pub inside_none : (at : ℕ) (x : Item) → x.kind ≡ 5 → None ≡ unpadded at x.piece → option_map tree_found (item_tree at x) ≡ None
inside_none at x five e = ap (option_map tree_found) (inside_of at x five ∙ ap (λ (r : Option (List ℕ)). r >>= read) (sym e))

pub inside_some : (at : ℕ) (x : Item) (b : List ℕ) → x.kind ≡ 5 → Some b ≡ unpadded at x.piece
    → option_map tree_found (item_tree at x) ≡ container_found b
inside_some at x b five e = ap (option_map tree_found) (inside_of at x five ∙ ap (λ (r : Option (List ℕ)). r >>= read) (sym e))

-- an item of kind 5 is no scalar
pub is_inside : (at : ℕ) (x : Item) (b : List ℕ) → x.kind ≡ 5 → Some b ≡ unpadded at x.piece → IsInside at x
is_inside at x b five e s h = read_no_scalar b s (ap (λ (r : Option (List ℕ)). r >>= read) e ∙ sym (inside_of at x five) ∙ h)

-- ---- a container

end_tree : (b : Bool) (t : Tree) → option_map tree_found (only_if b (Some t)) ≡ only_if b (Some (tree_found t))
end_tree true t = refl
end_tree false t = refl

array_end : (r : Option (Elements × Place)) → option_map tree_found (r >>= λ x. ended x.1 (array x.0)) ≡ (r >>= λ r. ended r.1 (elements_found r.0))
array_end None = refl
array_end (Some x) = end_tree (eqb (length x.1.rest) 0) (array x.0)

object_end : (ks : List (List ℕ)) (r : Option (Elements × Place)) → ((x : Elements × Place) → r ≡ Some x → length ks ≡ count x.0)
    → option_map tree_found (r >>= λ x. ended x.1 (object (members ks x.0)))
    ≡ combine (Some (keys_found ks)) (r >>= λ r. ended r.1 (elements_found r.0))
object_end ks None n = refl
object_end ks (Some x) n =
    end_tree (eqb (length x.1.rest) 0) (object (members ks x.0))
    ∙ ap (λ (f : Found). only_if (eqb (length x.1.rest) 0) (Some f)) (members_found_is ks x.0 (n x refl))
    ∙ end_both (eqb (length x.1.rest) 0) (keys_found ks) (elements_found x.0)

module _ (b : List ℕ) where
  opened_by : (o : Option (Form × ℕ × Place)) → o ≡ opened b → container_found b ≡ option_map tree_found (o >>= λ o. held_by read o.0 o.1 o.2)
  opened_by o e = ap (option_map tree_found) (read_unroll b ∙ ap (λ (o : Option (Form × ℕ × Place)). o >>= λ o. held_by read o.0 o.1 o.2) (sym e))

  -- what is not opened is no container
  pub not_opened : None ≡ opened b → container_found b ≡ None
  not_opened e = opened_by None e

  -- in an array is found what is found in its elements
  pub array_found : (c : ℕ) (p : Place) → Some (Array, c, p) ≡ opened b → container_found b ≡ combine (Some nothing) (rest_found c p)
  array_found c p e = opened_by (Some (Array, c, p)) e ∙ array_end (elements_by read c p) ∙ sym (nothing_combine (rest_found c p))

  -- a root scalar is no container inside
  pub lone_found : (c : ℕ) (p : Place) → Some (Lone, c, p) ≡ opened b → container_found b ≡ None
  lone_found c p e = opened_by (Some (Lone, c, p)) e

  module _ (c : ℕ) (p : Place) (e : Some (Object, c, p) ≡ opened b) where
    object_by : (k : Option (List (List ℕ) × Place)) → k ≡ keys_at c None p
        → container_found b ≡ option_map tree_found (k >>= λ k. elements_by read c k.1 >>= λ r. ended r.1 (object (members k.0 r.0)))
    object_by k h =
        opened_by (Some (Object, c, p)) e
        ∙ ap
        (λ (k : Option (List (List ℕ) × Place)).
        option_map tree_found (k >>= λ k. elements_by read c k.1 >>= λ r. ended r.1 (object (members k.0 r.0))))
        (sym h)

    -- an object without its keys is none
    pub no_keys : None ≡ keys_at c None p → container_found b ≡ None
    no_keys h = object_by None h

    -- in an object is found what is found in its keys and values
    pub object_found : (k : List (List ℕ) × Place) → Some k ≡ keys_at c None p
        → container_found b ≡ combine (Some (keys_found k.0)) (rest_found c k.1)
    object_found k h =
        object_by (Some k) h ∙ object_end k.0 (elements_by read c k.1) (λ x g. keys_count c p k (sym h) ∙ sym (elements_count read c k.1 x g))

-- ---- flat trees

max_zero : (a b : ℕ) → max a b ≡ 0 → (a ≡ 0) × (b ≡ 0)
max_zero a b e = (omega arith, omega arith)

pub members_nest : (ks : List (List ℕ)) (ts : Elements) → length ks ≡ count ts → nest_members (members ks ts) ≡ nest_elements ts
members_nest [] no_elements e = refl
members_nest [] (element t ts) e = absurd cc
members_nest (k ∷ ks) no_elements e = absurd cc
members_nest (k ∷ ks) (element t ts) e = ap (λ (n : ℕ). max (nest t) n) (members_nest ks ts (omega arith))

abbrev pub Flat : ℕ → Place → Type 0
Flat n p = (r : Elements × Place) → elements_by read n p ≡ Some r → nest_elements r.0 ≡ 0

module _ (b : List ℕ) (t : Tree) (is : read b ≡ Some t) (low : nest t ≤ 1) where
  held_is : (f : Form) (c : ℕ) (p : Place) → Some (f, c, p) ≡ opened b → held_by read f c p ≡ Some t
  held_is f c p e = ap (λ (o : Option (Form × ℕ × Place)). o >>= λ o. held_by read o.0 o.1 o.2) e ∙ sym (read_unroll b) ∙ is

  -- a flat array holds scalars
  pub array_flat : (c : ℕ) (p : Place) → Some (Array, c, p) ≡ opened b → Flat c p
  array_flat c p e r h =
      let a = bind_some (elements_by read c p) (λ r. ended r.1 (array r.0)) t (held_is Array c p e) in
      let d = ended_is a.0.1 (array a.0.0) t a.2 in
      let same : a.0 ≡ r = some_is a.0 r (sym a.1 ∙ h) in
      let n : nest t ≡ 1 + nest_elements a.0.0 = ap nest (sym d.1) in
      subst (λ (y : Elements × Place). nest_elements y.0 ≡ 0) same (omega arith)

  -- a flat object holds scalars
  pub object_flat : (c : ℕ) (p : Place) → Some (Object, c, p) ≡ opened b → (k : List (List ℕ) × Place) → Some k ≡ keys_at c None p → Flat c k.1
  object_flat c p e k g r h =
      let j = bind_some (keys_at c None p) (λ k. elements_by read c k.1 >>= λ r. ended r.1 (object (members k.0 r.0))) t (held_is Object c p e) in
      let same : j.0 ≡ k = some_is j.0 k (sym j.1 ∙ sym g) in
      let rest : (elements_by read c k.1 >>= λ r. ended r.1 (object (members k.0 r.0))) ≡ Some t =
      subst (λ (y : List (List ℕ) × Place). (elements_by read c y.1 >>= λ r. ended r.1 (object (members y.0 r.0))) ≡ Some t) same j.2 in
      let a = bind_some (elements_by read c k.1) (λ r. ended r.1 (object (members k.0 r.0))) t rest in
      let d = ended_is a.0.1 (object (members k.0 a.0.0)) t a.2 in
      let at : a.0 ≡ r = some_is a.0 r (sym a.1 ∙ h) in
      let n : nest t ≡ 1 + nest_members (members k.0 a.0.0) = ap nest (sym d.1) in
      let m : nest_members (members k.0 a.0.0) ≡ nest_elements a.0.0 =
      members_nest k.0 a.0.0 (keys_count c p k (sym g) ∙ sym (elements_count read c k.1 a.0 a.1)) in
      subst (λ (y : Elements × Place). nest_elements y.0 ≡ 0) at (omega arith)

-- what was found of the rest was read
rest_read : (n : ℕ) (p : Place) (g : Found) → rest_found n p ≡ Some g → (r : Elements × Place) × (elements_by read n p ≡ Some r)
rest_read n p g e = let a = bind_some (elements_by read n p) (λ r. ended r.1 (elements_found r.0)) g e in (a.0, a.1)

abbrev runs_on : ℕ → Item × Place → ℕ → Option (Elements × Place)
runs_on n x at = item_by read at x.0 >>= λ t. elements_by read n x.1 >>= λ ts. Some (element t ts.0, ts.1)

pub record Next (n : ℕ) (p : Place) (x : Item) (q : Place) (r : Elements × Place) : Type 0 where
  pub tree : Tree
  pub more : Elements × Place
  pub reads : item_tree p.at x ≡ Some tree
  pub goes_on : elements_by read n q ≡ Some more
  pub whole : ◌≡◌ {A = Elements × Place} (element tree more.0, more.1) r

next_read : (n : ℕ) (p q : Place) (x : Item) (r : Elements × Place) → Some (x, q) ≡ item_at p → elements_by read (suc n) p ≡ Some r → Next n p x q r
unfolding elements_by
next_read n p q x r e h =
    let s : runs_on n (x, q) p.at ≡ Some r = ap (λ (o : Option (Item × Place)). o >>= λ y. runs_on n y p.at) e ∙ h in
    let b = bind_some (item_by read p.at x) (λ t. elements_by read n q >>= λ ts. Some (element t ts.0, ts.1)) r s in
    let c = bind_some (elements_by read n q) (λ ts. Some (element b.0 ts.0, ts.1)) r b.2 in
    record { tree = b.0; more = c.0; reads = b.1; goes_on = c.1; whole = some_is (element b.0 c.0.0, c.0.1) r c.2 }

-- each value has an entry word
values_words : (n : ℕ) (p : Place) (r : Elements × Place) → elements_by read n p ≡ Some r → 4 * n ≤ length p.words
unfolding elements_by
values_words zero p r e = omega arith
values_words (suc n) p r e =
    let a = bind_some (item_at p) (λ y. runs_on n y p.at) r e in
    let x = next_read n p a.0.1 a.0.0 r (sym a.1) e in
    omega (arith, (item_takes p a.0.1 a.0.0 a.1).words, values_words n a.0.1 x.more x.goes_on)

-- where there are fewer entry words than values, what is left can not be read
pub few_values : (n : ℕ) (p : Place) → length p.words / 4 < n → rest_found n p ≡ None
few_values n p few = go (rest_found n p) refl
  where
    go : (g : Option Found) → rest_found n p ≡ g → g ≡ None
    go None e = refl
    go (Some g) e = let r = rest_read n p g e in absurd (omega (arith, few, values_words n p r.0 r.1))

-- a value is left of n from p on: x, with q behind it
pub record Left (n : ℕ) (p : Place) (x : Item) (q : Place) : Type 0 where
  pub some : 0 < n
  pub reads : Some (x, q) ≡ item_at p

module _ {n : ℕ} {p q : Place} {x : Item} (left : Left n p x q) (g : Found) (there : rest_found n p ≡ Some g) (flat : Flat n p) where
  next_flat : (r : Elements × Place) × Next (n - 1) p x q r × (nest_elements r.0 ≡ 0)
  next_flat =
      let r = rest_read n p g there in
      let h : elements_by read (suc (n - 1)) p ≡ Some r.0 = ap (λ (k : ℕ). elements_by read k p) (less_one n left.some) ∙ r.1 in
      (r.0, next_read (n - 1) p q x r.0 left.reads h, flat r.0 r.1)

  -- what is left is flat too
  pub stays_flat : Flat (n - 1) q
  stays_flat r h =
      let f = next_flat in
      let same : f.1.more ≡ r = some_is f.1.more r (sym f.1.goes_on ∙ h) in
      let z : max (nest f.1.tree) (nest_elements f.1.more.0) ≡ 0 = ap (λ (y : Elements × Place). nest_elements y.0) f.1.whole ∙ f.2 in
      subst (λ (y : Elements × Place). nest_elements y.0 ≡ 0) same (max_zero (nest f.1.tree) (nest_elements f.1.more.0) z).1

  -- so no container stands there
  pub no_inside : IsInside p.at x → ⊥
  no_inside inside =
      let f = next_flat in
      let z : max (nest f.1.tree) (nest_elements f.1.more.0) ≡ 0 = ap (λ (y : Elements × Place). nest_elements y.0) f.1.whole ∙ f.2 in
      go f.1.tree (max_zero (nest f.1.tree) (nest_elements f.1.more.0) z).0 f.1.reads
    where
      go : (t : Tree) → nest t ≡ 0 → item_tree p.at x ≡ Some t → ⊥
      go (scalar s) z h = inside s h
      go (array ts) z h = omega arith
      go (object ms) z h = omega arith

-- ---- frames

pub frames-append : (fs : List Frame) (f : Frame) → frames_found (fs ++ f ∷ []) ≡ combine (frame_found f) (frames_found fs)
frames-append [] f = refl
frames-append (g ∷ fs) f =
    ap (combine (frame_found g)) (frames-append fs f)
    ∙ sym (combine_assoc (frame_found g) (frame_found f) (frames_found fs))
    ∙ ap (λ (a : Option Found). combine a (frames_found fs)) (combine_comm (frame_found g) (frame_found f))
    ∙ combine_assoc (frame_found f) (frame_found g) (frames_found fs)

pub weight-append : (fs : List Frame) (f : Frame) → frames_weight (fs ++ f ∷ []) ≡ frame_weight f + frames_weight fs
weight-append [] f = omega arith
weight-append (g ∷ fs) f = omega (arith, weight-append fs f)

-- a frame put off behind others
pub put_off : (fs all : List Frame) (f : Frame) → all ≡ fs ++ f ∷ []
    → (frames_found all ≡ combine (frame_found f) (frames_found fs)) × (frames_weight all ≡ frame_weight f + frames_weight fs)
put_off fs all f e = (ap frames_found e ∙ frames-append fs f, ap frames_weight e ∙ weight-append fs f)

-- ---- the code's values

-- a container that was opened, by its form
pub opened_as : {f g : Form} {c : ℕ} {p : Place} (b : List ℕ) → f ≡ g → Some (f, c, p) ≡ opened b → Some (g, c, p) ≡ opened b
opened_as {c = c} {p = p} b is e = subst (λ (u : Form). Some (u, c, p) ≡ opened b) is e

pub record KeysRead (r : Option (List (List ℕ) × Place)) (f : Found) (q : Place) : Type 0 where
  pub names : List (List ℕ)
  pub reads : Some (names, q) ≡ r
  pub found : keys_found names ≡ f

-- the keys in which something was found, as they are read
pub keys_read : (r : Option (List (List ℕ) × Place)) (f : Found) (q : Place) → Some (f, q) ≡ keys_after nothing r → KeysRead r f q
keys_read None f q e = absurd cc
keys_read (Some k) f q e =
    let same : ◌≡◌ {A = Found × Place} (keys_found k.0, k.1) (f, q) = some_is (keys_found k.0, k.1) (f, q) (sym e) in
    let at : k.1 ≡ q = ap (λ (x : Found × Place). x.1) same in
    record {
      names = k.0;
      reads = ap (λ (x : Place). let y : Option (List (List ℕ) × Place) = Some (k.0, x) in y) (sym at);
      found = ap (λ (x : Found × Place). x.0) same;
    }

-- where nothing can be told of keys, they can not be read
pub none_read : (r : Option (List (List ℕ) × Place)) → None ≡ keys_after nothing r → None ≡ r
none_read None e = refl
none_read (Some k) e = absurd cc
