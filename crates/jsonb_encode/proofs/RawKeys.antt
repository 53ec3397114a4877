-- An object of one key that is any bytes, with null under it, and an array of containers.
use Rattle.std.proofs.Common.{◌≡◌, ℕ, suc, ◌+◌, ◌^◌, ◌<◌, ◌≤◌, ◌⊎◌, List, [], ◌∷◌, length, map, refl, sym, ap, subst, ◌∙◌, arith, inl, inr, Global, Vec}
use Rattle.std.specs.Borrow.{Bor}
use Rattle.std.specs.List.{AllByRecursion}
use Rattle.std.proofs.lemmas.Bool.{cases_lt}
use Rattle.std.proofs.lemmas.List.{length-append}
use Rattle.json_model.specs.Tree.{Tree, scalar, null, array, object, Elements, no_elements, element, member, no_members}
use Rattle.jsonb_layout.specs.Layout.{Item, Laid}
use Rattle.jsonb_layout.specs.Stands.{IsItem, AreElements, Stands}
use Rattle.jsonb_layout.specs.declared.form.Form.TheVariants.{Array}
use Rattle.jsonb_encode.specs.Children.{child_item, child_items, StandsAsContainer, AreContainers}
use Rattle.jsonb_encode.specs.Encoded.{container, item, encoded, canonical}
use Rattle.jsonb_encode.specs.Limits.{IsSmall, IsWithinLimits}
use Rattle.jsonb_encode.specs.declared.contents.Contents.TheVariants.{Containers, KeyAndNull}
use Rattle.jsonb_encode.specs.declared.error.EncodeError.{EncodeError}
use Rattle.jsonb_encode.specs.declared.error.EncodeError.TheVariants.{TooLarge, OutOfMemory}
use Rattle.jsonb_encode.specs.declared.number_form.NumericForm.{NumericForm}
use Rattle.jsonb_encode.specs.declared.number_form.NumericForm.TheVariants.{Short}
use Rattle.jsonb_encode.specs.inner.Contents.{Placed, placed, IsWrittenOf, IsEncodedOf, IsNotEncodedOf}
use Rattle.jsonb_encode.proofs.TreeStands.{tree_stands}

within : (key : List ℕ) → length key < 2 ^ 28 → IsWithinLimits Short (object (member key (scalar null) no_members))
unfolding item
within key lt = ((omega arith, omega (arith, length-append key [])), (tt, tt))

-- the bytes of the object, and that they stand for it
pub record IsKeyAlone (key b : List ℕ) : Type 0 where
  pub bytes : b ≡ canonical (object (member key (scalar null) no_members))
  pub stands : Stands b (object (member key (scalar null) no_members))
  pub few : length key < 2 ^ 28

pub key_alone : (k : Bor (List ℕ)) (b : List ℕ) → IsEncodedOf Short (KeyAndNull k) b → IsKeyAlone k.now b
unfolding item encoded
key_alone k b h =
    let s = subst (λ (gs : List Placed). IsWrittenOf (KeyAndNull k) gs [] b) h.are h.whole in
    let t = object (member k.now (scalar null) no_members) in
    let bytes : b ≡ canonical t = s.bytes in
    let few : length k.now < 2 ^ 28 = (let l = s.small.1 in omega (arith, length-append k.now [])) in
    record {
      bytes = bytes;
      stands = subst (λ (x : List ℕ). Stands x t) (sym bytes)
          (tree_stands Short t (record { rise = (refl, (tt, tt)); exact = (tt, tt) }) refl (within k.now few));
      few = few;
    }

-- a key that is not written is long
key_long : (k : Bor (List ℕ)) (e : EncodeError) → IsNotEncodedOf Short (KeyAndNull k) e
    → (e ≡ OutOfMemory) ⊎ ((e ≡ TooLarge) × (2 ^ 28 ≤ length k.now))
key_long k e (inl r) = absurd r
key_long k e (inr (gs, are, inl m)) = inl m
key_long k e (inr (gs, are, inr (l, big))) = inr (
  l,
  elim (cases_lt (length k.now) (2 ^ 28)) [
    | inr le ↦ le
    | inl lt ↦ absurd (big (subst (λ (hs : List Placed). IsSmall 1 (placed hs 0)) (sym are) (omega arith, omega (arith, length-append k.now []))))
  ],
)

pub key_large : (k : Bor (List ℕ)) → IsNotEncodedOf Short (KeyAndNull k) TooLarge → 2 ^ 28 ≤ length k.now
key_large k h = elim (key_long k TooLarge h) [ inl m ↦ absurd (apart m) | inr l ↦ l.1 ]
  where
    apart : TooLarge ≡ OutOfMemory → ⊥
    apart e = cc

pub key_causes : (k : Bor (List ℕ)) (e : EncodeError) → IsNotEncodedOf Short (KeyAndNull k) e → (e ≡ TooLarge) ⊎ (e ≡ OutOfMemory)
key_causes k e h = elim (key_long k e h) [ inl m ↦ inr m | inr l ↦ inl l.0 ]

-- ---- containers

pub children_placed : (cs : List (Vec ℕ Global)) (at : ℕ) → placed (map (λ c. child_item c.items) cs) at ≡ child_items (map (λ c. c.items) cs) at
children_placed [] at = refl
children_placed (c ∷ cs) at = ap (λ (xs : List Item). child_item c.items at ∷ xs) (children_placed cs (at + length (child_item c.items at).piece))

children_kinds : (cs : List (List ℕ)) (at : ℕ) → AllByRecursion (λ x. x.kind < 8) (child_items cs at)
children_kinds [] at = tt
children_kinds (c ∷ cs) at = (omega arith, children_kinds cs (at + length (child_item c at).piece))

children_count : (cs : List (Vec ℕ Global)) (at : ℕ) → length (child_items (map (λ c. c.items) cs) at) ≡ length cs
children_count [] at = refl
children_count (c ∷ cs) at = ap (λ (n : ℕ). suc n) (children_count cs (at + length (child_item c.items at).piece))

-- the bytes are laid out of the containers
pub children_laid : (form : NumericForm) (cs : Bor (List (Vec ℕ Global))) (b : List ℕ) → IsEncodedOf form (Containers cs) b
    → Laid b Array (child_items (map (λ c. c.items) cs.now) 0)
children_laid form cs b h =
    let s = subst (λ (gs : List Placed). IsWrittenOf (Containers cs) gs [] b) h.are h.whole in
    let e = children_placed cs.now 0 in
    record {
      count = length cs.now;
      counted = children_count cs.now 0;
      count_fits = s.small.0;
      kinds = children_kinds (map (λ c. c.items) cs.now) 0;
      pieces_fit = (subst (λ (xs : List Item). IsSmall (length cs.now) xs) e s.small).1;
      bytes = s.bytes ∙ ap (λ (xs : List Item). container Array (length cs.now) xs) e;
    }

child_stands : (t : Tree) (c : List ℕ) (at : ℕ) → StandsAsContainer t c → IsItem t at (child_item c at)
child_stands (scalar s) c at h = absurd (h.1 s refl)
child_stands (array ts) c at h = (refl, (c, refl, h.0))
child_stands (object ms) c at h = (refl, (c, refl, h.0))

children_stand : (ts : Elements) (cs : List (List ℕ)) (at : ℕ) → AreContainers ts cs → AreElements ts at (child_items cs at)
children_stand no_elements [] at h = tt
children_stand no_elements (c ∷ cs) at h = absurd h
children_stand (element t ts) [] at h = absurd h
children_stand (element t ts) (c ∷ cs) at h = (child_stands t c at h.0, children_stand ts cs (at + length (child_item c at).piece) h.1)

-- where each of them stands for an array or an object, they stand for the array of these
pub array_stands : (form : NumericForm) (cs : Bor (List (Vec ℕ Global))) (b : List ℕ) → IsEncodedOf form (Containers cs) b
    → (ts : Elements) → AreContainers ts (map (λ c. c.items) cs.now) → Stands b (array ts)
array_stands form cs b h ts good =
    (child_items (map (λ c. c.items) cs.now) 0, children_laid form cs b h, children_stand ts (map (λ c. c.items) cs.now) 0 good)

-- where they are not, they are too large, or there is no memory
children_unlaid : (form : NumericForm) (cs : Bor (List (Vec ℕ Global))) (e : EncodeError) → IsNotEncodedOf form (Containers cs) e
    → (e ≡ OutOfMemory) ⊎ ((e ≡ TooLarge) × ¬ IsSmall (length cs.now) (child_items (map (λ c. c.items) cs.now) 0))
children_unlaid form cs e (inl r) = absurd r
children_unlaid form cs e (inr (gs, are, inl m)) = inl m
children_unlaid form cs e (inr (gs, are, inr (l, big))) = inr (
  l,
  λ small. big (subst (λ (hs : List Placed). IsSmall (length cs.now) (placed hs 0)) (sym are)
      (subst (λ (xs : List Item). IsSmall (length cs.now) xs) (sym (children_placed cs.now 0)) small)),
)

pub children_large : (form : NumericForm) (cs : Bor (List (Vec ℕ Global))) → IsNotEncodedOf form (Containers cs) TooLarge
    → ¬ IsSmall (length cs.now) (child_items (map (λ c. c.items) cs.now) 0)
children_large form cs h = elim (children_unlaid form cs TooLarge h) [ inl m ↦ absurd (apart m) | inr l ↦ l.1 ]
  where
    apart : TooLarge ≡ OutOfMemory → ⊥
    apart e = cc

pub children_causes : (form : NumericForm) (cs : Bor (List (Vec ℕ Global))) (e : EncodeError) → IsNotEncodedOf form (Containers cs) e
    → (e ≡ TooLarge) ⊎ (e ≡ OutOfMemory)
children_causes form cs e h = elim (children_unlaid form cs e h) [ inl m ↦ inr m | inr l ↦ inl l.0 ]
