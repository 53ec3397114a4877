-- How many elements and keys are read, that keys rise, and that a container is no scalar.
use Rattle.std.proofs.Common.{◌≡◌, ℕ, zero, suc, true, List, [], length, Option, Some, None, sym, ap, ◌∙◌}
use Rattle.json_model.specs.Tree.{Scalar, Tree, scalar, array, object, Elements, no_elements, element}
use Rattle.json_model.specs.Keys.{rises}
use Rattle.jsonb_layout.specs.declared.form.Form.{Form}
use Rattle.jsonb_layout.specs.declared.form.Form.TheVariants.{Array, Object, Lone}
use Rattle.jsonb_layout.specs.Options.{◌>>=◌}
use Rattle.jsonb_layout.specs.inner.Reading.{Place, item_at, keys_at, opened, ended}
use Rattle.jsonb_layout.specs.inner.Trees.{item_by, elements_by, members, held_by, container_of, read}
use Rattle.jsonb_layout.proofs.Tools.{bind_some, some_is}
use Rattle.jsonb_layout.proofs.KeyRuns.{rises_after, rises_more, starts}
use Rattle.jsonb_layout.proofs.Openings.{ended_is}
use Rattle.jsonb_layout.proofs.Containers.{count}
use Rattle.jsonb_layout.proofs.NextKey.{next_key}

-- as many elements are read as are asked for
pub elements_count : (inside : List ℕ → Option Tree) (n : ℕ) (p : Place) (r : Elements × Place) → elements_by inside n p ≡ Some r → count r.0 ≡ n
unfolding elements_by
elements_count inside zero p r e = ap (λ (y : Elements × Place). count y.0) (sym (some_is (no_elements, p) r e))
elements_count inside (suc n) p r e =
    let a = bind_some (item_at p) (λ x. item_by inside p.at x.0 >>= λ t. elements_by inside n x.1 >>= λ ts. Some (element t ts.0, ts.1)) r e in
    let b = bind_some (item_by inside p.at a.0.0) (λ t. elements_by inside n a.0.1 >>= λ ts. Some (element t ts.0, ts.1)) r a.2 in
    let c = bind_some (elements_by inside n a.0.1) (λ ts. Some (element b.0 ts.0, ts.1)) r b.2 in
    ap (λ (y : Elements × Place). count y.0) (sym (some_is (element b.0 c.0.0, c.0.1) r c.2)) ∙ ap suc (elements_count inside n a.0.1 c.0 c.1)

-- how many keys, and that they rise
abbrev RisingKeys : ℕ → Option (List ℕ) → List (List ℕ) → Type 0
RisingKeys n before ks = (length ks ≡ n) × (rises_after before ks ≡ true)

keys_rising : (n : ℕ) (before : Option (List ℕ)) (p : Place) (r : List (List ℕ) × Place) → keys_at n before p ≡ Some r → RisingKeys n before r.0
unfolding keys_at
keys_rising zero before p r e =
    let same = some_is ([], p) r e in (
      ap (λ (y : List (List ℕ) × Place). length y.0) (sym same),
      ap (λ (y : List (List ℕ) × Place). rises_after before y.0) (sym same) ∙ starts before,
    )
keys_rising (suc n) before p r e =
    let k = next_key n before p r e in
    let more = keys_rising n (Some k.key.piece) k.behind k.others k.more in (
      ap (λ (y : List (List ℕ) × Place). length y.0) (sym k.whole) ∙ ap suc more.0,
      ap (λ (y : List (List ℕ) × Place). rises_after before y.0) (sym k.whole) ∙ rises_more before k.key.piece k.others.0 k.rises more.1,
    )

-- as many keys are read as are asked for
pub keys_count : (n : ℕ) (p : Place) (r : List (List ℕ) × Place) → keys_at n None p ≡ Some r → length r.0 ≡ n
keys_count n p r e = (keys_rising n None p r e).0

-- keys that are read rise
pub keys_rise : (n : ℕ) (p : Place) (r : List (List ℕ) × Place) → keys_at n None p ≡ Some r → rises r.0 ≡ true
keys_rise n p r e = (keys_rising n None p r e).1

held_no_scalar : (inside : List ℕ → Option Tree) (f : Form) (c : ℕ) (p : Place) (s : Scalar) → held_by inside f c p ≡ Some (scalar s) → ⊥
held_no_scalar inside Array c p s e =
    let a = bind_some (elements_by inside c p) (λ r. ended r.1 (array r.0)) (scalar s) e in
    let d = ended_is a.0.1 (array a.0.0) (scalar s) a.2 in
    let k : array a.0.0 ≡ scalar s = d.1 in absurd cc
held_no_scalar inside Object c p s e =
    let k = bind_some (keys_at c None p) (λ k. elements_by inside c k.1 >>= λ r. ended r.1 (object (members k.0 r.0))) (scalar s) e in
    let a = bind_some (elements_by inside c k.0.1) (λ r. ended r.1 (object (members k.0.0 r.0))) (scalar s) k.2 in
    let d = ended_is a.0.1 (object (members k.0.0 a.0.0)) (scalar s) a.2 in
    let m : object (members k.0.0 a.0.0) ≡ scalar s = d.1 in absurd cc
held_no_scalar inside Lone c p s e = absurd cc

no_scalar : (fuel : ℕ) (b : List ℕ) (s : Scalar) → container_of fuel b ≡ Some (scalar s) → ⊥
unfolding container_of
no_scalar zero b s e = absurd cc
no_scalar (suc fuel) b s e =
    let a = bind_some (opened b) (λ o. held_by (container_of fuel) o.0 o.1 o.2) (scalar s) e in
    held_no_scalar (container_of fuel) a.0.0 a.0.1 a.0.2 s a.2

-- A container is no scalar.
pub read_no_scalar : (b : List ℕ) (s : Scalar) → read b ≡ Some (scalar s) → ⊥
unfolding read
read_no_scalar b s e = no_scalar (suc (length b)) b s e
