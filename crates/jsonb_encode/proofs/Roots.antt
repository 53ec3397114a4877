-- A value as the root of a slice.
use Rattle.std.proofs.Common.{◌≡◌, ℕ, ◌⊎◌, Bool, true, false, List, [], ◌∷◌, ◌++◌, Result, Ok, Err, refl, sym, ap, subst, ◌∙◌, arith, inl, inr}
use Rattle.std.specs.Prelude.{IfOk, IfErr, ◌↔◌}
use Rattle.std.proofs.lemmas.Bool.{and_from}
use Rattle.std.proofs.lemmas.Result.{IfOk-weaker, IfErr-weaker}
use Rattle.json_model.specs.Tree.{Scalar, null, boolean, number, string, Tree, scalar, array, object, Elements, no_elements, element, Members, no_members, member}
use Rattle.std.proofs.lemmas.List.{length-append}
use Rattle.json_model.specs.Decimal.{Decimal}
use Rattle.jsonb_layout.specs.Layout.{Item}
use Rattle.jsonb_layout.specs.declared.form.Form.TheVariants.{Lone}
use Rattle.jsonb_encode.specs.Encoded.{item, encoded}
use Rattle.jsonb_encode.specs.Limits.{scalar_fits, all_fit, elements_fit, members_fit}
use Rattle.jsonb_encode.specs.Number.{fits}
use Rattle.jsonb_encode.specs.declared.error.EncodeError.{EncodeError}
use Rattle.jsonb_encode.specs.declared.error.EncodeError.TheVariants.{DoesNotFit}
use Rattle.jsonb_encode.specs.declared.number_form.NumericForm.{NumericForm}
use Rattle.jsonb_encode.specs.declared.number_form.NumericForm.TheVariants.{Short, Long}
use Rattle.jsonb_encode.specs.inner.Writing.{item_of, IsOpen, IsWritten, IsWhole, IsUnwritten, IsLone, IsNotLone, IsRoot, IsNoRoot}
use Rattle.jsonb_encode.proofs.Opened.{opened_whole}

-- the one item is written, and its word is set
pub lone_is : (f : NumericForm) (t : Tree) (at kind : ℕ) (base mid old new : List ℕ) → at ≡ 0 → IsWritten f t at mid old kind
    → IsOpen Lone 1 1 ([] ++ item_of kind (item f t at).piece ∷ []) base new → IsLone f t base new
lone_is f t at kind base mid old new e w h =
    let same : item_of kind (item f t at).piece ≡ item f t 0 = ap (λ (k : ℕ). item_of k (item f t at).piece) (sym w.kind_is) ∙ ap
    (λ (n : ℕ). item f t n) e in
    let o = subst (λ (x : Item). IsOpen Lone 1 1 (x ∷ []) base new) same h in
    record {
      bytes = o.bytes ∙ ap (λ (xs : List ℕ). base ++ xs) (opened_whole Lone 1 1 (item f t 0 ∷ []) refl);
      within = omega (arith, o.small, length-append (item f t 0).piece []);
      value = w.value;
    }

pub root_of_scalar : (f : NumericForm) (s : Scalar) (base new : List ℕ) → IsLone f (scalar s) base new → IsRoot f (scalar s) base new
unfolding item encoded
root_of_scalar f s base new h = record { bytes = h.bytes; within = h.within; value = h.value }

pub no_root_of_scalar : (f : NumericForm) (s : Scalar) (e : EncodeError) → IsNotLone f (scalar s) e → IsNoRoot f (scalar s) e
unfolding item
no_root_of_scalar f s e (inl (inl h)) = inl h
no_root_of_scalar f s e (inl (inr h)) = absurd (h.1 tt)
no_root_of_scalar f s e (inr h) = inr (h.0, λ w. let l = h.1 in omega arith)

-- the answers for a value whose tree is a scalar
pub scalar_ok : (f : NumericForm) (t : Tree) (s : Scalar) (r : Result Unit EncodeError) (base new : List ℕ) → t ≡ scalar s
    → IfOk r (λ _. IsLone f t base new) → IfOk r (λ _. IsRoot f t base new)
scalar_ok f t s r base new e h =
    subst (λ (u : Tree). IfOk r (λ _. IsRoot f u base new)) (sym e)
    (IfOk-weaker r (λ _. IsLone f (scalar s) base new) (λ _. IsRoot f (scalar s) base new) (λ _ k. root_of_scalar f s base new k)
    (subst (λ (u : Tree). IfOk r (λ _. IsLone f u base new)) e h))

pub scalar_err : (f : NumericForm) (t : Tree) (s : Scalar) (r : Result Unit EncodeError) → t ≡ scalar s
    → IfErr r (λ x. IsNotLone f t x) → IfErr r (λ x. IsNoRoot f t x)
scalar_err f t s r e h =
    subst (λ (u : Tree). IfErr r (λ x. IsNoRoot f u x)) (sym e)
    (IfErr-weaker r (λ x. IsNotLone f (scalar s) x) (λ x. IsNoRoot f (scalar s) x) (λ x k. no_root_of_scalar f s x k)
    (subst (λ (u : Tree). IfErr r (λ x. IsNotLone f u x)) e h))

pub array_ok : (f : NumericForm) (t : Tree) (ts : Elements) (r : Result Unit EncodeError) (base new : List ℕ) → t ≡ array ts
    → IfOk r (λ _. IsWhole f (array ts) base new) → IfOk r (λ _. IsRoot f t base new)
array_ok f t ts r base new e h =
    subst (λ (u : Tree). IfOk r (λ _. IsRoot f u base new)) (sym e)
    (IfOk-weaker r (λ _. IsWhole f (array ts) base new) (λ _. IsRoot f (array ts) base new)
    (λ _ k. record { bytes = k.bytes; within = k.small; value = k.value }) h)

pub array_err : (f : NumericForm) (t : Tree) (ts : Elements) (r : Result Unit EncodeError) → t ≡ array ts
    → IfErr r (λ x. IsUnwritten f (array ts) x) → IfErr r (λ x. IsNoRoot f t x)
array_err f t ts r e h = subst (λ (u : Tree). IfErr r (λ x. IsNoRoot f u x)) (sym e) h

pub object_ok : (f : NumericForm) (t : Tree) (ms : Members) (r : Result Unit EncodeError) (base new : List ℕ) → t ≡ object ms
    → IfOk r (λ _. IsWhole f (object ms) base new) → IfOk r (λ _. IsRoot f t base new)
object_ok f t ms r base new e h =
    subst (λ (u : Tree). IfOk r (λ _. IsRoot f u base new)) (sym e)
    (IfOk-weaker r (λ _. IsWhole f (object ms) base new) (λ _. IsRoot f (object ms) base new)
    (λ _ k. record { bytes = k.bytes; within = k.small; value = k.value }) h)

pub object_err : (f : NumericForm) (t : Tree) (ms : Members) (r : Result Unit EncodeError) → t ≡ object ms
    → IfErr r (λ x. IsUnwritten f (object ms) x) → IfErr r (λ x. IsNoRoot f t x)
object_err f t ms r e h = subst (λ (u : Tree). IfErr r (λ x. IsNoRoot f u x)) (sym e) h

-- ---- forms that each number has

scalar_always : (f : NumericForm) (s : Scalar) → ((d : Decimal) → fits f d ≡ true) → scalar_fits f s ≡ true
scalar_always f null h = refl
scalar_always f (boolean b) h = refl
scalar_always f (number d) h = h d
scalar_always f (string s) h = refl

mutual
  always : (f : NumericForm) (t : Tree) → ((d : Decimal) → fits f d ≡ true) → all_fit f t ≡ true
  always f (scalar s) h = scalar_always f s h
  always f (array ts) h = elements_always f ts h
  always f (object ms) h = members_always f ms h

  elements_always : (f : NumericForm) (ts : Elements) → ((d : Decimal) → fits f d ≡ true) → elements_fit f ts ≡ true
  elements_always f no_elements h = refl
  elements_always f (element t ts) h = and_from (all_fit f t) (elements_fit f ts) (always f t h) (elements_always f ts h)

  members_always : (f : NumericForm) (ms : Members) → ((d : Decimal) → fits f d ≡ true) → members_fit f ms ≡ true
  members_always f no_members h = refl
  members_always f (member k t ms) h = and_from (all_fit f t) (members_fit f ms) (always f t h) (members_always f ms h)

pub short_always : (t : Tree) → all_fit Short t ≡ true
unfolding fits
short_always t = always Short t (λ d. refl)

pub short_members : (ms : Members) → members_fit Short ms ≡ true
unfolding fits
short_members ms = members_always Short ms (λ d. refl)

pub long_always : (t : Tree) → all_fit Long t ≡ true
unfolding fits
long_always t = always Long t (λ d. refl)

-- where each number has the form, none does not fit
pub no_misfit : {T : Type 0} (r : Result T EncodeError) (b : Bool) (Q : EncodeError → Type 0) → b ≡ true → ((r ≡ Err DoesNotFit) ↔ (b ≡ false))
    → IfErr r (λ e. (e ≡ DoesNotFit) ⊎ Q e) → IfErr r Q
no_misfit (Ok x) b Q t h k = tt
no_misfit (Err e) b Q t h (inl k) = absurd (let f : b ≡ false = h.0 (ap (λ (x : EncodeError). Err x) k) in cc)
no_misfit (Err e) b Q t h (inr k) = k
