-- Decimals are equal where their fields are.
use Rattle.std.proofs.Common.{◌≡◌, ℕ, Bool, true, false, List, refl, sym, ap, ◌∙◌, ℤ, eqb}
use Rattle.std.specs.Ordering.{int_eq}
use Rattle.std.specs.Prelude.{Decides}
use mathlib.Core.Bool.{beq}
use Rattle.std.specs.Cmp.Lexicographic.{pointwise}
use Rattle.std.proofs.lemmas.Bool.Decides.{Decides-int_eq, Decides-eqb}
use Rattle.std.proofs.lemmas.Slice.Eq.{slice_eq-Decides}
use Rattle.json_exact.specs.inner.DecimalFields.{parts_of, IsFields}
use Rattle.json_exact.specs.inner.DecimalInverseLaws.{fields_of, fields_of-parts_of}
use Rattle.json_exact.specs.declared.decimal.Decimal.TheInside.{Inside}

pub differ : (x y : ℤ) → (x ≡ y → ⊥) → int_eq x y ≡ false
differ x y h = go (int_eq x y) refl
  where
    go : (t : Bool) → int_eq x y ≡ t → int_eq x y ≡ false
    go true e = absurd (h ((Decides-int_eq x y).0 e))
    go false e = e

-- the fields, and the parts that they are
pub record Seen (a : Inside) (x : ℤ) : Type 0 where
  pub fields : IsFields a
  pub view_is : parts_of a ≡ x

same : (a b : Inside) (x y : ℤ) → Seen a x → Seen b y → x ≡ y → a ≡ b
same a b x y s t e = sym (fields_of-parts_of a s.fields) ∙ ap fields_of (s.view_is ∙ e ∙ sym t.view_is) ∙ fields_of-parts_of b t.fields

-- fields that differ make values that differ
pub unequal : (a b : Inside) (x y : ℤ) → Seen a x → Seen b y → (a ≡ b → ⊥) → int_eq x y ≡ false
unequal a b x y s t h = differ x y (λ e. h (same a b x y s t e))

-- where the sign and the place are the same, the groups tell
pub tested : (a b : Inside) (x y : ℤ) (r : Bool) → Seen a x → Seen b y → a.negative ≡ b.negative → a.top ≡ b.top
    → r ≡ pointwise eqb a.groups b.groups → r ≡ int_eq x y
tested a b x y r s u n p e = go r refl
  where
    d : Decides r (a.groups ≡ b.groups)
    d = slice_eq-Decides Decides-eqb a.groups b.groups r e

    all : a.groups ≡ b.groups → a ≡ b
    all f = ap (λ (n : Bool). record { negative = n; groups = a.groups; top = a.top }) n
        ∙ ap (λ (ds : List ℕ). record { negative = b.negative; groups = ds; top = a.top }) f
        ∙ ap (λ (t : ℕ). record { negative = b.negative; groups = b.groups; top = t }) p

    not_both : r ≡ true → r ≡ false → ⊥
    not_both u v = cc

    go : (t : Bool) → r ≡ t → r ≡ int_eq x y
    go true f = f ∙ sym ((Decides-int_eq x y).1 (sym s.view_is ∙ ap parts_of (all (d.0 f)) ∙ u.view_is))
    go false f = f ∙ sym (unequal a b x y s u (λ g. not_both (d.1 (ap (λ (i : Inside). i.groups) g)) f))

pub beq_same : (a b : Bool) → beq a b ≡ true → a ≡ b
beq_same true true e = refl
beq_same true false e = cc
beq_same false true e = cc
beq_same false false e = refl

pub beq_other : (a b : Bool) → beq a b ≡ false → a ≡ b → ⊥
beq_other true true e f = cc
beq_other true false e f = cc
beq_other false true e f = cc
beq_other false false e f = cc
