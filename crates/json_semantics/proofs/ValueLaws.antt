-- The values of numbers compare as what is written does.
use Rattle.std.proofs.Common.{◌≡◌, Bool, refl, sym, subst, inl, inr, ◌⊎◌, ℤ}
use Rattle.std.specs.Prelude.{◌<ℤ◌, ◌↔◌, IsTrue}
use Rattle.std.specs.Cmp.{int_ranks, int_chain}
use Rattle.std.specs.Int.Signed.{<ℤ_irrefl}
use Rattle.std.specs.Ordering.{MatchOrdering, int_eq, int_cmp, is_lt, is_le, is_gt, is_ge}
use Rattle.std.specs.declared.cmp.Ordering.{Ordering}
use Rattle.std.specs.declared.cmp.Ordering.TheVariants.{Less, Equal, Greater}
use Rattle.json_model.specs.Decimal.{Decimal as Written, IsSameValue, IsBelow}
use Rattle.json_model.specs.Tree.{Tree, scalar, number}
use Rattle.json_exact.specs.Exact.{IsWorth, exactly, parts}
use Rattle.json_exact.proofs.WorthLaws.{same_as_written}
use Rattle.json_exact.proofs.WrittenOrderLaws.{below_as_written}
use Rattle.json_semantics.specs.Bounds.{IsAtMost}
use Rattle.json_traits.proofs.EqualityLaws.{same_value}
use Rattle.json_traits.specs.Numbers.{decimal_in}

-- o is the order of d and e
abbrev Ranked : Ordering → ℤ → ℤ → Type 0
Ranked o d e = MatchOrdering o (d <ℤ e) (d ≡ e) (e <ℤ d)

-- of two values only one is below the other
not_both : (d e : ℤ) → d <ℤ e → e <ℤ d → ⊥
not_both d e l g = <ℤ_irrefl (int_chain d e d l g)

-- equal values are not below each other
not_one : (d e : ℤ) → d ≡ e → d <ℤ e → ⊥
not_one d e same l = <ℤ_irrefl (subst (λ (z : ℤ). z <ℤ e) same l)

not_one_either : (d e : ℤ) → d ≡ e → e <ℤ d → ⊥
not_one_either d e same g = <ℤ_irrefl (subst (λ (z : ℤ). e <ℤ z) same g)

-- what each test of an order tells
tells_lt : (o : Ordering) (d e : ℤ) → Ranked o d e → IsTrue (is_lt o) ↔ (d <ℤ e)
tells_lt Less d e h = (λ _. h, λ _. refl)
tells_lt Equal d e h = (λ t. absurd cc, λ l. absurd (not_one d e h l))
tells_lt Greater d e h = (λ t. absurd cc, λ l. absurd (not_both d e l h))

tells_gt : (o : Ordering) (d e : ℤ) → Ranked o d e → IsTrue (is_gt o) ↔ (e <ℤ d)
tells_gt Less d e h = (λ t. absurd cc, λ g. absurd (not_both d e h g))
tells_gt Equal d e h = (λ t. absurd cc, λ g. absurd (not_one_either d e h g))
tells_gt Greater d e h = (λ _. h, λ _. refl)

tells_le : (o : Ordering) (d e : ℤ) → Ranked o d e → IsTrue (is_le o) ↔ ((d <ℤ e) ⊎ (d ≡ e))
tells_le Less d e h = (λ _. inl h, λ _. refl)
tells_le Equal d e h = (λ _. inr h, λ _. refl)
tells_le Greater d e h = (λ t. absurd cc, λ s. absurd (elim s [ inl l ↦ not_both d e l h | inr same ↦ not_one_either d e same h ]))

tells_ge : (o : Ordering) (d e : ℤ) → Ranked o d e → IsTrue (is_ge o) ↔ ((e <ℤ d) ⊎ (e ≡ d))
tells_ge Less d e h = (λ t. absurd cc, λ s. absurd (elim s [ inl g ↦ not_both d e h g | inr same ↦ not_one d e (sym same) h ]))
tells_ge Equal d e h = (λ _. inr (sym h), λ _. refl)
tells_ge Greater d e h = (λ _. inl h, λ _. refl)

-- a limit is worth what it is written as exactly
exact_worth : (e : ℤ) → IsWorth e (exactly e)
unfolding exactly parts
exact_worth e = refl

both : (P Q R : Type 0) → P ↔ Q → Q ↔ R → P ↔ R
both P Q R f g = (λ p. g.0 (f.0 p), λ r. f.1 (g.1 r))

either : (P Q R S : Type 0) → P ↔ R → Q ↔ S → (P ⊎ Q) ↔ (R ⊎ S)
either P Q R S f g = (λ s. elim s [ inl p ↦ inl (f.0 p) | inr q ↦ inr (g.0 q) ], λ s. elim s [ inl r ↦ inl (f.1 r) | inr t ↦ inr (g.1 t) ])

-- a number of a tree, beside a limit: d is what the number is worth
module _ (t : Tree) (w : Written) (d e : ℤ) (r : Bool) (is : t ≡ scalar (number w)) (worth : IsWorth d w) where
  moved : (P : Written → Type 0) → IsTrue r ↔ P w → IsTrue r ↔ P (decimal_in t)
  moved P h = subst (λ (u : Tree). IsTrue r ↔ P (decimal_in u)) (sym is) h

  pub lt_limit : r ≡ is_lt (int_cmp d e) → IsTrue r ↔ IsBelow (decimal_in t) (exactly e)
  lt_limit f = moved (λ v. IsBelow v (exactly e)) (both (IsTrue r) (d <ℤ e) (IsBelow w (exactly e))
      (subst (λ (b : Bool). IsTrue b ↔ (d <ℤ e)) (sym f) (tells_lt (int_cmp d e) d e (int_ranks d e)))
      (below_as_written d e w (exactly e) worth (exact_worth e)))

  pub gt_limit : r ≡ is_gt (int_cmp d e) → IsTrue r ↔ IsBelow (exactly e) (decimal_in t)
  gt_limit f = moved (λ v. IsBelow (exactly e) v) (both (IsTrue r) (e <ℤ d) (IsBelow (exactly e) w)
      (subst (λ (b : Bool). IsTrue b ↔ (e <ℤ d)) (sym f) (tells_gt (int_cmp d e) d e (int_ranks d e)))
      (below_as_written e d (exactly e) w (exact_worth e) worth))

  pub le_limit : r ≡ is_le (int_cmp d e) → IsTrue r ↔ IsAtMost (decimal_in t) (exactly e)
  le_limit f = moved (λ v. IsAtMost v (exactly e)) (both (IsTrue r) ((d <ℤ e) ⊎ (d ≡ e)) (IsAtMost w (exactly e))
      (subst (λ (b : Bool). IsTrue b ↔ ((d <ℤ e) ⊎ (d ≡ e))) (sym f) (tells_le (int_cmp d e) d e (int_ranks d e)))
      (either (d <ℤ e) (d ≡ e) (IsBelow w (exactly e)) (IsSameValue w (exactly e))
      (below_as_written d e w (exactly e) worth (exact_worth e)) (same_as_written d e w (exactly e) worth (exact_worth e))))

  pub ge_limit : r ≡ is_ge (int_cmp d e) → IsTrue r ↔ IsAtMost (exactly e) (decimal_in t)
  ge_limit f = moved (λ v. IsAtMost (exactly e) v) (both (IsTrue r) ((e <ℤ d) ⊎ (e ≡ d)) (IsAtMost (exactly e) w)
      (subst (λ (b : Bool). IsTrue b ↔ ((e <ℤ d) ⊎ (e ≡ d))) (sym f) (tells_ge (int_cmp d e) d e (int_ranks d e)))
      (either (e <ℤ d) (e ≡ d) (IsBelow (exactly e) w) (IsSameValue (exactly e) w)
      (below_as_written e d (exactly e) w (exact_worth e) worth) (same_as_written e d (exactly e) w (exact_worth e) worth)))

  pub eq_number : (v : Written) → IsWorth e v → r ≡ int_eq d e → IsTrue r ↔ IsSameValue (decimal_in t) v
  eq_number v g f = moved (λ u. IsSameValue u v) (same_value d e w v r f worth g)

  pub eq_limit : r ≡ int_eq d e → IsTrue r ↔ IsSameValue (decimal_in t) (exactly e)
  eq_limit f = eq_number (exactly e) (exact_worth e) f
