-- Whether a text is hit by an analysis is decided.
use Rattle.std.proofs.Common.{◌≡◌, ℕ, zero, suc, ◌+◌, ◌<◌, Bool, true, false, List, [], ◌∷◌, ◌++◌, length, take, drop, refl, ap, sym, ◌∙◌, arith, inl, inr, ◌⊎◌}
use Rattle.std.specs.Prelude.{Contains, not, slice_index_or}
use Rattle.std.specs.List.{list_any, AllPass}
use Rattle.std.proofs.lemmas.Bool.{false≢true}
use Rattle.std.proofs.lemmas.List.{take-append-drop}
use Rattle.std.proofs.Math.Seq.{take-append_seam}
use Rattle.pattern_model.specs.Text.{Text}
use Rattle.pattern_model.specs.Members.{is_space}
use Rattle.pattern_model.specs.Literals.{Analysis, Hits}
use Rattle.literal_patterns.proofs.DecidedPatterns.{Decided, decided_text}
use Rattle.literal_patterns.proofs.HitLaws.{none_pass}

decided_front : (w y : Text) → Decided ((rest : Text) × (y ≡ w ++ rest))
decided_front w y = elim (decided_text (take (length w) y) w) [
  | inl e ↦ inl (drop (length w) y, sym (take-append-drop (length w) y) ∙ ap (λ z. z ++ drop (length w) y) e)
  | inr n ↦ inr (λ (rest, e). n (ap (take (length w)) e ∙ take-append_seam w rest))
]

decided_contains : (ws : List Text) (y : Text) → Decided (Contains ws y)
decided_contains [] y = inr (λ (k, l, e). let no : k < 0 = l in omega (arith, no))
decided_contains (w ∷ ws) y = elim (decided_text w y) [
  | inl e ↦ inl (0, omega arith, e)
  | inr n ↦ elim (decided_contains ws y) [
    | inl (k, l, e) ↦ inl (suc k, omega (arith, l), e)
    | inr m ↦ inr (λ (k, l, e). elsewhere n (λ j i f. m (j, i, f)) k l e)
  ]
]
  where
    elsewhere : (w ≡ y → ⊥) → ((j : ℕ) → j < length ws → slice_index_or ws j y ≡ y → ⊥) → (k : ℕ) → k < length (w ∷ ws) →
        slice_index_or (w ∷ ws) k y ≡ y → ⊥
    elsewhere n m zero l e = n e
    elsewhere n m (suc k) l e = let less : suc k < suc (length ws) = l in m k (omega (arith, less)) e

pub decided_hits : (a : Analysis) (y : Text) → Decided (Hits a y)
decided_hits (Analysis.prefix w) y = decided_front w y
decided_hits (Analysis.exact w) y = decided_text y w
decided_hits (Analysis.alternation ws) y = decided_contains ws y
decided_hits Analysis.no_whitespace y = go (not (list_any is_space y)) (none_pass is_space y).0 (none_pass is_space y).1
  where
    go : (b : Bool) → (b ≡ true → AllPass (λ c. not (is_space c)) y) → (AllPass (λ c. not (is_space c)) y → b ≡ true) →
        Decided (AllPass (λ c. not (is_space c)) y)
    go true f g = inl (f refl)
    go false f g = inr (λ h. false≢true (g h))
