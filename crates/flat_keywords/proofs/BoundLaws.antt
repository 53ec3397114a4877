-- What compiled limits ask of numbers and of counts.
use Rattle.std.proofs.Common.{◌≡◌, ◌⊎◌, inl, inr, ℕ, ◌*◌, ◌^◌, ◌<◌, ◌≤◌, Bool, true, false, sym, ap, subst, ◌∙◌, ℤ, pos, is_lt, arith}
use Rattle.std.proofs.lemmas.Int.{ints}
use Rattle.std.specs.Prelude.{◌*ℤ◌, ◌<ℤ◌, ◌↔◌, IsTrue}
use Rattle.std.specs.Int.Signed.{<ℤ_irrefl}
use Rattle.std.specs.Ordering.{MatchOrdering, int_cmp}
use Rattle.std.specs.Cmp.{int_ranks, int_chain}
use Rattle.std.specs.declared.cmp.Ordering.{Ordering}
use Rattle.std.specs.declared.cmp.Ordering.TheVariants.{Less, Equal, Greater}
use Rattle.std.proofs.Math.IntN.{*ℤ-one, pos-*ℤ-pos}
use Rattle.json_model.specs.Decimal.{Decimal as Written, IsBelow, IsWhole}
use Rattle.json_exact.specs.Exact.{IsWorth, exactly, parts}
use Rattle.json_exact.specs.inner.DecimalInverseLaws.{ten_pos}
use Rattle.json_exact.proofs.SignLaws.{turn}
use Rattle.json_exact.proofs.WorthLaws.{parts_pos, whole_as_written}
use Rattle.json_exact.proofs.WrittenOrderLaws.{up, down, below_as_written}
use Rattle.json_semantics.specs.Bounds.{IsAtMost, Keeps}
use Rattle.json_semantics.specs.declared.numeric_check.BoundOp.{BoundOp}
use Rattle.json_semantics.specs.declared.numeric_check.BoundOp.TheVariants.{Lt, Lte, Gt, Gte}
use Rattle.json_semantics.specs.declared.numeric_check.CompiledBound.{CompiledBound}
use Rattle.json_traits.specs.Numbers.{whole}
use Rattle.flat_keywords.specs.inner.Passes.{IsBoundOf, IsLimitOf}
use Rattle.flat_keywords.specs.declared.limits.Limit.TheVariants.{Small, Large}
use Rattle.flat_keywords.specs.Validity.{IsCount}
use Rattle.flat_keywords.specs.Verdict.{Reaches, IsUpTo}

-- at most is not above
pub at_most : (x y : ℤ) → ((x <ℤ y) ⊎ (x ≡ y)) ↔ (y <ℤ x → ⊥)
at_most x y = (
  λ h g. elim h [
    | inl l ↦ <ℤ_irrefl (int_chain x y x l g)
    | inr e ↦ <ℤ_irrefl (subst (λ (z : ℤ). y <ℤ z) e g)
  ],
  λ h. go (int_cmp x y) (int_ranks x y) h,
)
  where
    go : (o : Ordering) → MatchOrdering o (x <ℤ y) (x ≡ y) (y <ℤ x) → (y <ℤ x → ⊥) → (x <ℤ y) ⊎ (x ≡ y)
    go Less l h = inl l
    go Equal e h = inr e
    go Greater g h = absurd (h g)

-- a number is below a limit exactly where it is below what the limit is written as
below_limit : (d : ℤ) (m x : Written) → IsWorth d m → IsBelow x (exactly d) ↔ IsBelow x m
unfolding exactly parts
below_limit d m x f =
    let p = 10 ^ m.places in
    let q = 10 ^ x.places in
    let left : (x.digits *ℤ pos parts) *ℤ pos p ≡ (x.digits *ℤ pos p) *ℤ pos parts = turn x.digits parts p in
    let right : (d *ℤ pos q) *ℤ pos p ≡ (m.digits *ℤ pos q) *ℤ pos parts = turn d q p ∙ ap (λ (z : ℤ). z *ℤ pos q) f ∙ turn m.digits parts q in (
      λ h. down (x.digits *ℤ pos p) (m.digits *ℤ pos q) parts parts_pos
          (subst (λ (z : ℤ). z <ℤ ((m.digits *ℤ pos q) *ℤ pos parts)) left (subst (λ (z : ℤ). ((x.digits *ℤ pos parts) *ℤ pos p) <ℤ z) right
          (up (x.digits *ℤ pos parts) (d *ℤ pos q) p (ten_pos m.places) h))),
      λ h. down (x.digits *ℤ pos parts) (d *ℤ pos q) p (ten_pos m.places)
          (subst (λ (z : ℤ). z <ℤ ((d *ℤ pos q) *ℤ pos p)) (sym left) (subst (λ (z : ℤ). ((x.digits *ℤ pos p) *ℤ pos parts) <ℤ z) (sym right)
          (up (x.digits *ℤ pos p) (m.digits *ℤ pos q) parts parts_pos h))),
    )

-- and above it exactly where it is above that
limit_below : (d : ℤ) (m x : Written) → IsWorth d m → IsBelow (exactly d) x ↔ IsBelow m x
unfolding exactly parts
limit_below d m x f =
    let p = 10 ^ m.places in
    let q = 10 ^ x.places in
    let left : (d *ℤ pos q) *ℤ pos p ≡ (m.digits *ℤ pos q) *ℤ pos parts = turn d q p ∙ ap (λ (z : ℤ). z *ℤ pos q) f ∙ turn m.digits parts q in
    let right : (x.digits *ℤ pos parts) *ℤ pos p ≡ (x.digits *ℤ pos p) *ℤ pos parts = turn x.digits parts p in (
      λ h. down (m.digits *ℤ pos q) (x.digits *ℤ pos p) parts parts_pos
          (subst (λ (z : ℤ). z <ℤ ((x.digits *ℤ pos p) *ℤ pos parts)) left (subst (λ (z : ℤ). ((d *ℤ pos q) *ℤ pos p) <ℤ z) right
          (up (d *ℤ pos q) (x.digits *ℤ pos parts) p (ten_pos m.places) h))),
      λ h. down (d *ℤ pos q) (x.digits *ℤ pos parts) p (ten_pos m.places)
          (subst (λ (z : ℤ). z <ℤ ((x.digits *ℤ pos parts) *ℤ pos p)) (sym left)
          (subst (λ (z : ℤ). ((m.digits *ℤ pos q) *ℤ pos parts) <ℤ z) (sym right)
          (up (m.digits *ℤ pos q) (x.digits *ℤ pos p) parts parts_pos h))),
    )

-- a number is at least a limit exactly where it is at least what that is written as
at_least_limit : (d : ℤ) (m x : Written) → IsWorth d m → IsAtMost (exactly d) x ↔ IsAtMost m x
at_least_limit d m x f =
    let a = at_most ((exactly d).digits *ℤ pos (10 ^ x.places)) (x.digits *ℤ pos (10 ^ (exactly d).places)) in
    let z = at_most (m.digits *ℤ pos (10 ^ x.places)) (x.digits *ℤ pos (10 ^ m.places)) in
    let b = below_limit d m x f in
    (λ h. z.1 (λ g. a.0 h (b.1 g)), λ h. a.1 (λ g. z.0 h (b.0 g)))

-- and at most one exactly where it is at most that
at_most_limit : (d : ℤ) (m x : Written) → IsWorth d m → IsAtMost x (exactly d) ↔ IsAtMost x m
at_most_limit d m x f =
    let a = at_most (x.digits *ℤ pos (10 ^ (exactly d).places)) ((exactly d).digits *ℤ pos (10 ^ x.places)) in
    let z = at_most (x.digits *ℤ pos (10 ^ m.places)) (m.digits *ℤ pos (10 ^ x.places)) in
    let b = limit_below d m x f in
    (λ h. z.1 (λ g. a.0 h (b.1 g)), λ h. a.1 (λ g. z.0 h (b.0 g)))

-- a compiled bound asks what its keyword asks
pub is_bound : (op : BoundOp) (b : CompiledBound) (m : Written) → b.op ≡ op → IsWorth b.limit m → IsBoundOf op b m
is_bound op b m e f = (e, λ x. subst (λ (o : BoundOp). Keeps o x (exactly b.limit) ↔ Keeps op x m) (sym e) (go op x))
  where
    go : (o : BoundOp) (x : Written) → Keeps o x (exactly b.limit) ↔ Keeps o x m
    go Lt x = below_limit b.limit m x f
    go Lte x = at_most_limit b.limit m x f
    go Gt x = limit_below b.limit m x f
    go Gte x = at_least_limit b.limit m x f

-- ---- counts

-- a count in parts is worth the whole number
count_worth : (n : ℕ) → IsWorth (pos (n * parts)) (whole (pos n))
unfolding lib.IntN.one
count_worth n = *ℤ-one (pos (n * parts)) ∙ sym (pos-*ℤ-pos n parts)

-- a count reaches a limit exactly where it is not below it in parts
reaches : (d : ℤ) (m : Written) → IsWorth d m → (n : ℕ) → (pos (n * parts) <ℤ d → ⊥) ↔ Reaches m n
reaches d m f n =
    let b = below_as_written (pos (n * parts)) d (whole (pos n)) m (count_worth n) f in
    (λ h g. h (b.1 g), λ h g. h (b.0 g))

-- and is up to one exactly where that is not below it
up_to : (d : ℤ) (m : Written) → IsWorth d m → (n : ℕ) → (d <ℤ pos (n * parts) → ⊥) ↔ IsUpTo m n
up_to d m f n =
    let b = below_as_written d (pos (n * parts)) m (whole (pos n)) f (count_worth n) in
    (λ h g. h (b.1 g), λ h g. h (b.0 g))

-- what is below 0 is written so
below_zero : (d : ℤ) (m : Written) → IsWorth d m → (d <ℤ pos (0 * parts)) ↔ IsBelow m (whole (pos 0))
below_zero d m f = below_as_written d (pos (0 * parts)) m (whole (pos 0)) f (count_worth 0)

-- what `<` answers
below_is : (x y : ℤ) → is_lt (int_cmp x y) ≡ true → x <ℤ y
below_is x y h = go (int_cmp x y) (int_ranks x y) h
  where
    go : (o : Ordering) → MatchOrdering o (x <ℤ y) (x ≡ y) (y <ℤ x) → is_lt o ≡ true → x <ℤ y
    go Less l h = l
    go Equal e h = absurd cc
    go Greater g h = absurd cc

not_below : (x y : ℤ) → is_lt (int_cmp x y) ≡ false → x <ℤ y → ⊥
not_below x y h l = go (int_cmp x y) (int_ranks x y) h
  where
    go : (o : Ordering) → MatchOrdering o (x <ℤ y) (x ≡ y) (y <ℤ x) → is_lt o ≡ false → ⊥
    go Less m h = cc
    go Equal e h = <ℤ_irrefl (subst (λ (z : ℤ). z <ℤ y) e l)
    go Greater g h = <ℤ_irrefl (int_chain x y x l g)

-- a number that is not whole is no count
pub not_whole : (d : ℤ) (m : Written) (b : Bool) → IsWorth d m → b ≡ false → (IsTrue b ↔ IsWhole (exactly d)) → IsCount m → ⊥
not_whole d m b f e h count = let t : b ≡ true = h.1 ((whole_as_written d m f).1 count.0) in cc

-- nor is one below 0
pub no_count : (d : ℤ) (m : Written) (z : ℤ) → IsWorth d m → z ≡ pos (0 * parts) → is_lt (int_cmp d z) ≡ true → IsCount m → ⊥
no_count d m z f e h count = count.1 ((below_zero d m f).0 (subst (λ (y : ℤ). d <ℤ y) e (below_is d z h)))

-- the others are
pub is_count : (d : ℤ) (m : Written) (b : Bool) (z : ℤ) → IsWorth d m → b ≡ true → (IsTrue b ↔ IsWhole (exactly d)) → z ≡ pos (0 * parts)
    → is_lt (int_cmp d z) ≡ false → IsCount m
is_count d m b z f e h zero below =
    ((whole_as_written d m f).0 (h.0 e), λ g. not_below d z below (subst (λ (y : ℤ). d <ℤ y) (sym zero) ((below_zero d m f).1 g)))

-- a limit that is kept as it stands
pub is_large : (d : ℤ) (m : Written) → IsWorth d m → IsLimitOf (Large d) m
is_large d m f n = (reaches d m f n, up_to d m f n)

-- counts stand to each other as they do in parts
below_in_parts : (a b : ℕ) → (pos (a * parts) <ℤ pos (b * parts)) ↔ (a < b)
below_in_parts a b = (
  λ h. number (down (pos a) (pos b) parts parts_pos (in_parts h)),
  λ h. of_parts (up (pos a) (pos b) parts parts_pos (whole_number h)),
)
  where
    number : pos a <ℤ pos b → a < b
    number h = omega (arith, ints, h)

    whole_number : a < b → pos a <ℤ pos b
    whole_number h = omega (arith, ints, h)

    in_parts : pos (a * parts) <ℤ pos (b * parts) → (pos a *ℤ pos parts) <ℤ (pos b *ℤ pos parts)
    in_parts h = rw (pos-*ℤ-pos a parts, pos-*ℤ-pos b parts) h

    of_parts : (pos a *ℤ pos parts) <ℤ (pos b *ℤ pos parts) → pos (a * parts) <ℤ pos (b * parts)
    of_parts h = rw (← pos-*ℤ-pos a parts, ← pos-*ℤ-pos b parts) h

-- a limit that is kept as a word
pub is_small : (l : ℕ) (d : ℤ) (m : Written) → d ≡ pos (l * parts) → IsWorth d m → IsLimitOf (Small l) m
is_small l d m e f n =
    let p : IsWorth (pos (l * parts)) m = subst (λ (z : ℤ). IsWorth z m) e f in
    let r = reaches (pos (l * parts)) m p n in
    let u = up_to (pos (l * parts)) m p n in
    let least = below_in_parts n l in
    let most = below_in_parts l n in (
      (λ h. r.0 (λ g. above (least.0 g) h), λ h. not_above (λ g. r.1 h (least.1 g))),
      (λ h. u.0 (λ g. above (most.0 g) h), λ h. not_above (λ g. u.1 h (most.1 g))),
    )
  where
    above : {a b : ℕ} → a < b → b ≤ a → ⊥
    above h g = omega (arith, h, g)

    not_above : {a b : ℕ} → (a < b → ⊥) → b ≤ a
    not_above h = omega (arith, h)
