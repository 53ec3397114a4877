-- What is decided: it holds, or it does not. Of lists and options of what is decided, of numbers, of byte lists, of the seven
-- types and of decimals.
use Rattle.std.proofs.Common.{◌≡◌, ◌⊎◌, inl, inr, ℕ, ◌*◌, ◌/◌, ◌^◌, ◌<◌, List, [], ◌∷◌, length, Bool, true, false, Option, Some, None, refl, sym, ap, subst, ◌∙◌, arith, ℤ, pos, nat_abs}
use Rattle.std.specs.Prelude.{◌↔◌, ◌*ℤ◌, ◌<ℤ◌, IsTrue, IsSome, IfSome, IsSomeAnd, bytes_eq, int_lt, is_some}
use Rattle.std.specs.Cmp.{int_ranks}
use Rattle.std.specs.Int.Signed.{<ℤ_irrefl, clash_ℤ}
use Rattle.std.specs.List.{AllByRecursion}
use Rattle.std.specs.Ordering.{MatchOrdering, int_cmp}
use Rattle.std.specs.declared.cmp.Ordering.{Ordering}
use Rattle.std.specs.declared.cmp.Ordering.TheVariants.{Less, Equal, Greater}
use Rattle.std.proofs.Math.Nat.{mul-div_cancel}
use Rattle.std.proofs.lemmas.Bool.{false≢true}
use Rattle.std.proofs.lemmas.Bool.Decides.{eqb_tells, leb_tells}
use Rattle.std.proofs.lemmas.Int.{by_lt_z}
use Rattle.std.proofs.lemmas.Slice.Eq.{bytes_eq-Decides}
use Rattle.json_exact.proofs.SignLaws.{abs_times}
use Rattle.json_exact.specs.inner.DecimalInverseLaws.{ten_pos}
use Rattle.json_exact.specs.inner.NumberInverseLaws.{divided_times}
use Rattle.json_model.specs.Decimal.{Decimal, IsBelow, IsWhole, signed}
use Rattle.json_traits.specs.Weights.{same}
use Rattle.json_traits.specs.declared.types.json_type.JsonType.{JsonType}
use Rattle.json_traits.specs.declared.types.json_type.JsonType.TheVariants.{Null, Boolean, Integer, Number, String, Array, Object}
use Rattle.literal_patterns.proofs.DecidedPatterns.{Decided}
use Rattle.flat_keywords.proofs.TypeLists.{same_is, same_refl}

pub truth_of : {P : Type 0} → Decided P → (b : Bool) × (IsTrue b ↔ P)
truth_of (inl p) = (true, (λ _. p, λ _. refl))
truth_of (inr n) = (false, (λ h. absurd (false≢true h), λ p. absurd (n p)))

pub decided_not : {P : Type 0} → Decided P → Decided (P → ⊥)
decided_not (inl p) = inr (λ n. n p)
decided_not (inr n) = inl n

pub decided_both : {P Q : Type 0} → Decided P → Decided Q → Decided (P × Q)
decided_both (inl p) (inl q) = inl (p, q)
decided_both (inl p) (inr m) = inr (λ h. m h.1)
decided_both (inr n) q = inr (λ h. n h.0)

pub decided_either : {P Q : Type 0} → Decided P → Decided Q → Decided (P ⊎ Q)
decided_either (inl p) q = inl (inl p)
decided_either (inr n) (inl q) = inl (inr q)
decided_either (inr n) (inr m) = inr (λ h. elim h [ inl p ↦ n p | inr q ↦ m q ])

pub decided_then : {P Q : Type 0} → Decided P → Decided Q → Decided (P → Q)
decided_then (inl p) (inl q) = inl (λ _. q)
decided_then (inl p) (inr n) = inr (λ h. n (h p))
decided_then (inr n) q = inl (λ p. absurd (n p))

pub decided_true : (b : Bool) → Decided (IsTrue b)
decided_true true = inl refl
decided_true false = inr (λ h. false≢true h)

-- ---- lists and options

pub decided_all : {A : Type 0} (P : A → Type 0) → ((a : A) → Decided (P a)) → (xs : List A) → Decided (AllByRecursion P xs)
decided_all P h [] = inl tt
decided_all P h (x ∷ xs) = decided_both (h x) (decided_all P h xs)

pub decided_if : {A : Type 0} (P : A → Type 0) → ((a : A) → Decided (P a)) → (o : Option A) → Decided (IfSome o P)
decided_if P h None = inl tt
decided_if P h (Some a) = h a

pub decided_and : {A : Type 0} (P : A → Type 0) → ((a : A) → Decided (P a)) → (o : Option A) → Decided (IsSomeAnd o P)
decided_and P h None = inr (λ n. n)
decided_and P h (Some a) = h a

pub decided_some : {A : Type 0} (o : Option A) → Decided (IsSome o)
decided_some o = decided_true (is_some o)

pub decided_filled : {A : Type 0} (xs : List A) → Decided (0 < length xs)
decided_filled [] = inr (λ h. omega (arith, h))
decided_filled (x ∷ xs) = inl (omega arith)

-- ---- numbers

pub decided_less : (a b : ℕ) → Decided (a < b)
decided_less a b = elim (leb_tells b a) [ inl within ↦ inr (λ lt. let le = within.1 in omega arith) | inr past ↦ inl past.1 ]

pub same_integers : (x y : ℤ) → Decided (x ≡ y)
same_integers x y = go (int_cmp x y) (int_ranks x y)
  where
    go : (o : Ordering) → MatchOrdering o (x <ℤ y) (x ≡ y) (y <ℤ x) → Decided (x ≡ y)
    go Less l = inr (λ e. <ℤ_irrefl (subst (λ (z : ℤ). x <ℤ z) (sym e) l))
    go Equal e = inl e
    go Greater g = inr (λ e. <ℤ_irrefl (subst (λ (z : ℤ). y <ℤ z) e g))

pub same_counts : (a b : ℕ) → Decided (a ≡ b)
same_counts a b = elim (eqb_tells a b) [ inl hit ↦ inl hit.1 | inr miss ↦ inr miss.1 ]

pub same_truths : (a b : Bool) → Decided (a ≡ b)
same_truths true true = inl refl
same_truths true false = inr (λ e. cc)
same_truths false true = inr (λ e. cc)
same_truths false false = inl refl

-- ---- byte lists

pub same_bytes : (a b : List ℕ) → Decided (a ≡ b)
same_bytes a b = go (bytes_eq a b) refl
  where
    go : (t : Bool) → bytes_eq a b ≡ t → Decided (a ≡ b)
    go true e = inl ((bytes_eq-Decides a b).0 e)
    go false e = inr (λ i. false≢true (sym e ∙ (bytes_eq-Decides a b).1 i))

pub same_texts : (o p : Option (List ℕ)) → Decided (o ≡ p)
same_texts None None = inl refl
same_texts None (Some b) = inr (λ e. cc)
same_texts (Some a) None = inr (λ e. cc)
same_texts (Some a) (Some b) = elim (same_bytes a b) [
  | inl i ↦ inl (ap (λ (x : List ℕ). let o : Option (List ℕ) = Some x in o) i)
  | inr n ↦ inr (λ e. n (let i : a ≡ b = cc in i))
]

-- ---- the seven types

pub same_type : (t u : JsonType) → Decided (t ≡ u)
same_type t u = go (same t u) refl
  where
    go : (b : Bool) → same t u ≡ b → Decided (t ≡ u)
    go true e = inl (same_is t u e)
    go false e = inr (λ i. false≢true (sym e ∙ sym (ap (same t) i) ∙ same_refl t))

module _ (P : JsonType → Type 0) where
  none_of : (P Null → ⊥) → (P Boolean → ⊥) → (P Integer → ⊥) → (P Number → ⊥) → (P String → ⊥) → (P Array → ⊥) → (P Object → ⊥)
      → (t : JsonType) → P t → ⊥
  none_of a b c d e f g Null h = a h
  none_of a b c d e f g Boolean h = b h
  none_of a b c d e f g Integer h = c h
  none_of a b c d e f g Number h = d h
  none_of a b c d e f g String h = e h
  none_of a b c d e f g Array h = f h
  none_of a b c d e f g Object h = g h

  -- some type is P, or none is
  by_seven : Decided (P Null) → Decided (P Boolean) → Decided (P Integer) → Decided (P Number) → Decided (P String)
      → Decided (P Array) → Decided (P Object) → Decided ((t : JsonType) × P t)
  by_seven (inl p) b c d e f g = inl (Null, p)
  by_seven (inr a) (inl p) c d e f g = inl (Boolean, p)
  by_seven (inr a) (inr b) (inl p) d e f g = inl (Integer, p)
  by_seven (inr a) (inr b) (inr c) (inl p) e f g = inl (Number, p)
  by_seven (inr a) (inr b) (inr c) (inr d) (inl p) f g = inl (String, p)
  by_seven (inr a) (inr b) (inr c) (inr d) (inr e) (inl p) g = inl (Array, p)
  by_seven (inr a) (inr b) (inr c) (inr d) (inr e) (inr f) (inl p) = inl (Object, p)
  by_seven (inr a) (inr b) (inr c) (inr d) (inr e) (inr f) (inr g) = inr (λ h. none_of a b c d e f g h.0 h.1)

  pub decided_type : ((t : JsonType) → Decided (P t)) → Decided ((t : JsonType) × P t)
  decided_type h = by_seven (h Null) (h Boolean) (h Integer) (h Number) (h String) (h Array) (h Object)

-- ---- decimals

pub decided_below : (a b : Decimal) → Decided (IsBelow a b)
decided_below a b = by_lt_z (a.digits *ℤ pos (10 ^ b.places)) (b.digits *ℤ pos (10 ^ a.places)) inl (λ le. inr (λ lt. clash_ℤ lt le))

-- a whole number's digits are a multiple of the power of ten, which the quotient tells
quotient_is : (d k : ℤ) (p : ℕ) → 0 < p → d ≡ k *ℤ pos p → nat_abs d ≡ nat_abs d / p * p
quotient_is d k p some e =
    let f : nat_abs d ≡ nat_abs k * p = ap nat_abs e ∙ abs_times k p in
    f ∙ ap (λ (x : ℕ). x * p) (sym (ap (λ (x : ℕ). x / p) f ∙ mul-div_cancel (nat_abs k) some))

pub decided_whole : (a : Decimal) → Decided (IsWhole a)
decided_whole a = elim (eqb_tells (nat_abs a.digits) (nat_abs a.digits / 10 ^ a.places * 10 ^ a.places)) [
  | inl hit ↦ inl (
    signed (int_lt a.digits (pos 0)) (nat_abs a.digits / 10 ^ a.places),
    sym (divided_times a.digits (nat_abs a.digits / 10 ^ a.places) (10 ^ a.places) (ten_pos a.places) hit.1),
  )
  | inr miss ↦ inr (λ h. miss.1 (quotient_is a.digits h.0 (10 ^ a.places) (ten_pos a.places) h.1))
]

-- ---- truth values

pub same_truth_values : (o p : Option Bool) → Decided (o ≡ p)
same_truth_values None None = inl refl
same_truth_values None (Some b) = inr (λ e. cc)
same_truth_values (Some a) None = inr (λ e. cc)
same_truth_values (Some a) (Some b) = elim (same_truths a b) [
  | inl i ↦ inl (ap (λ (x : Bool). let o : Option Bool = Some x in o) i)
  | inr n ↦ inr (λ e. n (let i : a ≡ b = cc in i))
]
