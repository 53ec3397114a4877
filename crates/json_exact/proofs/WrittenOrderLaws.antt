-- Values are in the order of what they are written as. For the callers of `Decimal` and `Number`.
use Rattle.std.proofs.Common.{◌≡◌, ℕ, zero, suc, ◌-◌, ◌*◌, ◌^◌, ◌<◌, sym, ap, subst, ◌∙◌, arith, ℤ, pos, negsuc, neg_ℤ, lt→ltb, ◌⊎◌, inl, inr}
use Rattle.std.specs.Prelude.{◌*ℤ◌, ◌<ℤ◌, ◌↔◌}
use Rattle.std.specs.Int.Signed.{<ℤ_irrefl}
use Rattle.std.specs.Ordering.{MatchOrdering, int_cmp}
use Rattle.std.specs.Cmp.{int_ranks, int_chain}
use Rattle.std.specs.declared.cmp.Ordering.{Ordering}
use Rattle.std.specs.declared.cmp.Ordering.TheVariants.{Less, Equal, Greater}
use Rattle.std.proofs.Math.Dec.{ltb→lt}
use Rattle.std.proofs.Math.Nat.{mul-lt-mul_of_pos_right}
use Rattle.std.proofs.Math.IntN.{negsuc-*ℤ-pos}
use Rattle.json_model.specs.Decimal.{Decimal as Written, IsBelow, IsSameValue}
use Rattle.json_exact.specs.Exact.{IsWorth, parts}
use Rattle.json_exact.specs.inner.DecimalInverseLaws.{ten_pos}
use Rattle.json_exact.proofs.SignLaws.{turn}
use Rattle.json_exact.proofs.WorthLaws.{parts_pos}

-- a product of a value below 0
minus_times : (m p : ℕ) → 0 < p → negsuc m *ℤ pos p ≡ negsuc (suc m * p - 1)
minus_times m p some = negsuc-*ℤ-pos m p ∙ ap (λ (k : ℕ). neg_ℤ (pos k)) (some_product p some)
  where
    some_product : (p : ℕ) → 0 < p → suc m * p ≡ suc (suc m * p - 1)
    some_product zero h = absurd (omega arith)
    some_product (suc p) h = omega arith

-- a factor above 0 keeps the order
pub up : (x y : ℤ) (p : ℕ) → 0 < p → x <ℤ y → (x *ℤ pos p) <ℤ (y *ℤ pos p)
up (pos m) (pos n) p some h = let l : m * p < n * p = mul-lt-mul_of_pos_right (ltb→lt m n h.lt) some in omega (arith, lt→ltb)
up (pos m) (negsuc n) p some h = absurd (omega arith)
up (negsuc m) (pos n) p some h = subst (λ (z : ℤ). z <ℤ pos (n * p)) (sym (minus_times m p some)) (omega arith)
up (negsuc m) (negsuc n) p some h =
    let b : n < m = ltb→lt n m h.lt in
    let l : suc n * p < suc m * p = mul-lt-mul_of_pos_right (omega arith) some in
    let i : suc n * p - 1 < suc m * p - 1 = omega arith in
    subst (λ (z : ℤ). z <ℤ (negsuc n *ℤ pos p)) (sym (minus_times m p some))
    (subst (λ (z : ℤ). negsuc (suc m * p - 1) <ℤ z) (sym (minus_times n p some)) (omega (arith, lt→ltb)))

-- and tells it
pub down : (x y : ℤ) (p : ℕ) → 0 < p → (x *ℤ pos p) <ℤ (y *ℤ pos p) → x <ℤ y
down x y p some h = go (int_cmp x y) (int_ranks x y)
  where
    go : (o : Ordering) → MatchOrdering o (x <ℤ y) (x ≡ y) (y <ℤ x) → x <ℤ y
    go Less l = l
    go Equal e = absurd (<ℤ_irrefl (subst (λ (z : ℤ). (z *ℤ pos p) <ℤ (y *ℤ pos p)) e h))
    go Greater g = absurd (<ℤ_irrefl (int_chain (x *ℤ pos p) (y *ℤ pos p) (x *ℤ pos p) h (up y x p some g)))

-- both sides of the order, each times the other's power and the parts
scaled : (d : ℤ) (w : Written) (q : ℕ) → IsWorth d w → (d *ℤ pos (10 ^ w.places)) *ℤ pos q ≡ (w.digits *ℤ pos q) *ℤ pos parts
scaled d w q f = ap (λ (z : ℤ). z *ℤ pos q) f ∙ turn w.digits parts q

-- values are in the order of what they are written as
pub below_as_written : (d e : ℤ) (w v : Written) → IsWorth d w → IsWorth e v → (d <ℤ e) ↔ IsBelow w v
below_as_written d e w v f g =
    let p = 10 ^ w.places in
    let q = 10 ^ v.places in
    let left : (d *ℤ pos p) *ℤ pos q ≡ (w.digits *ℤ pos q) *ℤ pos parts = scaled d w q f in
    let right : (e *ℤ pos p) *ℤ pos q ≡ (v.digits *ℤ pos p) *ℤ pos parts = turn e p q ∙ scaled e v p g in (
      λ h. down (w.digits *ℤ pos q) (v.digits *ℤ pos p) parts parts_pos
          (subst (λ (z : ℤ). z <ℤ ((v.digits *ℤ pos p) *ℤ pos parts)) left (subst (λ (z : ℤ). ((d *ℤ pos p) *ℤ pos q) <ℤ z) right
          (up (d *ℤ pos p) (e *ℤ pos p) q (ten_pos v.places) (up d e p (ten_pos w.places) h)))),
      λ h. down d e p (ten_pos w.places) (down (d *ℤ pos p) (e *ℤ pos p) q (ten_pos v.places)
          (subst (λ (z : ℤ). z <ℤ ((e *ℤ pos p) *ℤ pos q)) (sym left) (subst (λ (z : ℤ). ((w.digits *ℤ pos q) *ℤ pos parts) <ℤ z) (sym right)
          (up (w.digits *ℤ pos q) (v.digits *ℤ pos p) parts parts_pos h)))),
    )

-- of two written numbers one is below the other, or they have one value
pub written_total : (a b : Written) → IsBelow a b ⊎ (IsSameValue a b ⊎ IsBelow b a)
written_total a b =
    go (int_cmp (a.digits *ℤ pos (10 ^ b.places)) (b.digits *ℤ pos (10 ^ a.places)))
    (int_ranks (a.digits *ℤ pos (10 ^ b.places)) (b.digits *ℤ pos (10 ^ a.places)))
  where
    go : (o : Ordering) → MatchOrdering o (IsBelow a b) (IsSameValue a b) (IsBelow b a) → IsBelow a b ⊎ (IsSameValue a b ⊎ IsBelow b a)
    go Less h = inl h
    go Equal h = inr (inl h)
    go Greater h = inr (inr h)
