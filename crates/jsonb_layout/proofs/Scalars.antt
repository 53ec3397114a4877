-- A scalar that is read is the one that its item stands for.
use Rattle.std.proofs.Common.{◌≡◌, ℕ, zero, suc, ◌≤◌, true, false, eqb, leb, List, [], ◌∷◌, ◌++◌, length, take, drop, replicate, Some, refl, sym, ap, subst, ◌∙◌, arith, inl, inr}
use Rattle.std.specs.Prelude.{◌&&◌}
use Rattle.std.specs.List.{list_all}
use Rattle.std.proofs.lemmas.Bool.{le-leb, leb-true, eqb-true, and_parts}
use Rattle.std.proofs.lemmas.List.{take_at, drop_at, take-append-drop, length-append, length-take-le, length-replicate, nil_from_length}
use Rattle.json_model.specs.Tree.{Scalar, null, boolean, number, string}
use Rattle.jsonb_layout.specs.Layout.{Item, pad}
use Rattle.jsonb_layout.specs.Stands.{padding, IsScalar}
use Rattle.jsonb_layout.specs.Options.{◌>>=◌, only_if}
use Rattle.jsonb_layout.specs.inner.Reading.{unpadded, numeric_of, scalar_of}
use Rattle.jsonb_layout.proofs.Tools.{chosen, guard, bind_some, some_is, IsBytes, IsBytes-drop}
use Rattle.jsonb_layout.proofs.Numbers.{numeric_takes, numeric_again}

all_zero_is : (xs : List ℕ) → list_all (λ b. eqb b 0) xs ≡ true → xs ≡ replicate (length xs) 0
all_zero_is [] e = refl
all_zero_is (x ∷ xs) e =
    let g = and_parts (eqb x 0) (list_all (λ b. eqb b 0) xs) e in
    rw (eqb-true x 0 g.0, ← all_zero_is xs g.1) refl

all_zero_again : (n : ℕ) → list_all (λ b. eqb b 0) (replicate n 0) ≡ true
all_zero_again zero = refl
all_zero_again (suc n) = all_zero_again n

-- what is read without padding has it in front
pub unpadded_takes : (at : ℕ) (piece q : List ℕ) → unpadded at piece ≡ Some q → (piece ≡ padding at ++ q) × (q ≡ drop (pad at) piece)
unfolding unpadded
unpadded_takes at piece q e =
    let g = guard (leb (pad at) (length piece) && list_all (λ b. eqb b 0) (take (pad at) piece)) (Some (drop (pad at) piece)) q e in
    let t = and_parts (leb (pad at) (length piece)) (list_all (λ b. eqb b 0) (take (pad at) piece)) g.0 in
    let rest : drop (pad at) piece ≡ q = some_is _ _ g.1 in
    let len : length (take (pad at) piece) ≡ pad at = length-take-le (pad at) piece (leb-true _ _ t.0) in
    let front : take (pad at) piece ≡ padding at = all_zero_is (take (pad at) piece) t.1 ∙ ap (λ (n : ℕ). replicate n 0) len in (
      sym (take-append-drop (pad at) piece) ∙ ap (λ (f : List ℕ). f ++ drop (pad at) piece) front ∙ ap (λ (r : List ℕ). padding at ++ r) rest,
      sym rest,
    )

-- what has padding in front is read without it
pub unpadded_again : (at : ℕ) (piece q : List ℕ) → piece ≡ padding at ++ q → unpadded at piece ≡ Some q
unfolding unpadded
unpadded_again at piece q e =
    let len : length (padding at) ≡ pad at = length-replicate (pad at) 0 in
    let front : take (pad at) piece ≡ padding at = ap (take (pad at)) e ∙ take_at (padding at) q (pad at) len in
    let back : drop (pad at) piece ≡ q = ap (drop (pad at)) e ∙ drop_at (padding at) q (pad at) len in
    let long : pad at ≤ length piece = omega (arith, ap length e, length-append (padding at) q, len) in
    rw (le-leb (pad at) (length piece) long, front, all_zero_again (pad at), back) refl

empty_takes : (c : List ℕ) (r s : Scalar) → only_if (eqb (length c) 0) (Some r) ≡ Some s → (c ≡ []) × (r ≡ s)
empty_takes c r s e =
    let g = guard (eqb (length c) 0) (Some r) s e in
    (nil_from_length c (eqb-true _ _ g.0), some_is r s g.1)

-- a scalar that is read is the one its item stands for
pub scalar_takes : (at : ℕ) (x : Item) (s : Scalar) → IsBytes x.piece → scalar_of at x ≡ Some s → IsScalar s at x
unfolding scalar_of
scalar_takes at x s fits e = elim (chosen (eqb x.kind 0) (Some (string x.piece)) _ (Some s) e) [
  | inl g ↦ subst (λ (y : Scalar). IsScalar y at x) (some_is (string x.piece) s g.1) (eqb-true x.kind 0 g.0, refl)
  | inr g0 ↦ elim (chosen (eqb x.kind 1) (unpadded at x.piece >>= λ q. numeric_of q >>= λ d. Some (number d)) _ (Some s) g0.1) [
    | inl g ↦
        let a = bind_some (unpadded at x.piece) (λ q. numeric_of q >>= λ d. Some (number d)) s g.1 in
        let b = bind_some (numeric_of a.0) (λ d. Some (number d)) s a.2 in
        let u = unpadded_takes at x.piece a.0 a.1 in
        subst (λ (y : Scalar). IsScalar y at x) (some_is (number b.0) s b.2)
        (eqb-true x.kind 1 g.0, (a.0, u.0, numeric_takes a.0 b.0 (rw u.1 (IsBytes-drop (pad at) x.piece fits)) b.1))
    | inr g1 ↦ elim (chosen (eqb x.kind 2) (only_if (eqb (length x.piece) 0) (Some (boolean false))) _ (Some s) g1.1) [
      | inl g ↦ let h = empty_takes x.piece (boolean false) s g.1 in subst (λ (y : Scalar). IsScalar y at x) h.1 (eqb-true x.kind 2 g.0, h.0)
      | inr g2 ↦ elim (chosen (eqb x.kind 3) (only_if (eqb (length x.piece) 0) (Some (boolean true))) _ (Some s) g2.1) [
        | inl g ↦ let h = empty_takes x.piece (boolean true) s g.1 in subst (λ (y : Scalar). IsScalar y at x) h.1 (eqb-true x.kind 3 g.0, h.0)
        | inr g3 ↦
            let g = guard (eqb x.kind 4) (only_if (eqb (length x.piece) 0) (Some null)) s g3.1 in
            let h = empty_takes x.piece null s g.1 in subst (λ (y : Scalar). IsScalar y at x) h.1 (eqb-true x.kind 4 g.0, h.0)
      ]
    ]
  ]
]

-- a scalar that an item stands for is read
pub scalar_again : (at : ℕ) (x : Item) (s : Scalar) → IsScalar s at x → scalar_of at x ≡ Some s
unfolding scalar_of
scalar_again at x null h = rw (h.0, h.1) refl
scalar_again at x (boolean true) h = rw (h.0, h.1) refl
scalar_again at x (boolean false) h = rw (h.0, h.1) refl
scalar_again at x (number d) h = rw (h.0, unpadded_again at x.piece h.1.0 h.1.1, numeric_again h.1.0 d h.1.2) refl
scalar_again at x (string s) h = rw (h.0, h.1) refl
