-- A container's tree is made of those of the containers in it.
use Rattle.std.proofs.Common.{◌≡◌, ℕ, zero, suc, ◌+◌, ◌<◌, ◌≤◌, Bool, true, false, cond, eqb, List, length, Option, Some, None, refl, arith}
use Rattle.json_model.specs.Tree.{Tree, scalar, object, Elements, element}
use Rattle.jsonb_layout.specs.Layout.{Item}
use Rattle.jsonb_layout.specs.declared.form.Form.{Form}
use Rattle.jsonb_layout.specs.declared.form.Form.TheVariants.{Array, Object, Lone}
use Rattle.jsonb_layout.specs.Options.{◌>>=◌}
use Rattle.jsonb_layout.specs.inner.Reading.{Place, item_at, unpadded, scalar_of, size, keys_at, opened, ended}
use Rattle.jsonb_layout.specs.inner.Trees.{item_by, elements_by, members, held_by, container_of, read}
use Rattle.jsonb_layout.proofs.Sizes.{item_size, unpadded_size, keys_size, opened_size}

abbrev step_by : (List ℕ → Option Tree) → ℕ → Place → Option (Item × Place) → Option (Elements × Place)
step_by f c p r = r >>= λ x. item_by f p.at x.0 >>= λ t. elements_by f c x.1 >>= λ ts. Some (element t ts.0, ts.1)

abbrev objects_by : (List ℕ → Option Tree) → ℕ → Option (List (List ℕ) × Place) → Option Tree
objects_by f c r = r >>= λ k. elements_by f c k.1 >>= λ r. ended r.1 (object (members k.0 r.0))

abbrev held_all : (List ℕ → Option Tree) → Option (Form × ℕ × Place) → Option Tree
held_all f r = r >>= λ o. held_by f o.0 o.1 o.2

module _ (f g : List ℕ → Option Tree) (n : ℕ) (same : (c : List ℕ) → length c < n → f c ≡ g c) where
  item_same : (at : ℕ) (x : Item) → length x.piece < n → item_by f at x ≡ item_by g at x
  item_same at x lt = go (eqb x.kind 5) (unpadded at x.piece) (λ k e. unpadded_size at x.piece k e)
    where
      go : (b : Bool) (r : Option (List ℕ)) → ((k : List ℕ) → r ≡ Some k → length k ≤ length x.piece)
          → cond b (r >>= f) (scalar_of at x >>= λ s. Some (scalar s)) ≡ cond b (r >>= g) (scalar_of at x >>= λ s. Some (scalar s))
      go true None len = refl
      go true (Some k) len = same k (omega (arith, len k refl))
      go false r len = refl

  step_same : (p : Place) (c : ℕ) → ((q : Place) → size q ≤ n → elements_by f c q ≡ elements_by g c q) → size p ≤ n → (r : Option (Item × Place))
      → ((x : Item) (q : Place) → r ≡ Some (x, q) → size q + length x.piece + 4 ≤ size p)
      → step_by f c p r ≡ step_by g c p r
  step_same p c more le None len = refl
  step_same p c more le (Some (x, q)) len =
      let l = len x q refl in
      rw (item_same p.at x (omega (arith, l)), more q (omega (arith, l))) refl

  elements_same : (c : ℕ) (p : Place) → size p ≤ n → elements_by f c p ≡ elements_by g c p
  unfolding elements_by
  elements_same zero p le = refl
  elements_same (suc c) p le = step_same p c (elements_same c) le (item_at p) (λ x q e. item_size p q x e)

  held_same : (k : Form) (c : ℕ) (p : Place) → size p ≤ n → held_by f k c p ≡ held_by g k c p
  held_same Array c p le = rw (elements_same c p le) refl
  held_same Object c p le = go (keys_at c None p) (λ r e. keys_size c None p r e)
    where
      go : (r : Option (List (List ℕ) × Place)) → ((k : List (List ℕ) × Place) → r ≡ Some k → size k.1 ≤ size p) → objects_by f c r ≡ objects_by g c r
      go None len = refl
      go (Some k) len = rw (elements_same c k.1 (omega (arith, len k refl))) refl
  held_same Lone c p le = refl

opened_same : (f g : List ℕ → Option Tree) (n : ℕ) → ((c : List ℕ) → length c < n → f c ≡ g c) → (r : Option (Form × ℕ × Place))
    → ((o : Form × ℕ × Place) → r ≡ Some o → size o.2 + 4 ≤ n) → held_all f r ≡ held_all g r
opened_same f g n same None len = refl
opened_same f g n same (Some o) len = held_same f g n same o.0 o.1 o.2 (omega (arith, len o refl))

container_same : (f g : ℕ) (b : List ℕ) → length b < f → length b < g → container_of f b ≡ container_of g b
unfolding container_of
container_same zero g b h k = absurd (omega arith)
container_same (suc f) zero b h k = absurd (omega arith)
container_same (suc f) (suc g) b h k =
    opened_same (container_of f) (container_of g) (length b) (λ c lt. container_same f g c (omega arith) (omega arith)) (opened b) (opened_size b)

-- A container is one level of containers.
pub read_unroll : (b : List ℕ) → read b ≡ (opened b >>= λ o. held_by read o.0 o.1 o.2)
unfolding read container_of
read_unroll b =
    opened_same (container_of (length b)) read (length b) (λ c lt. container_same (length b) (suc (length c)) c lt (omega arith)) (opened b)
    (opened_size b)
