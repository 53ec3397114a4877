-- What the counters tell of the tokens read so far, and the tests at the end.
use Rattle.std.proofs.Common.{◌≡◌, ℕ, ◌+◌, Bool, ◌&&◌, List, [], ◌∷◌, ◌++◌, map, refl, ap, sym, ◌∙◌, arith, append-nil}
use Rattle.std.specs.Prelude.{nat_le, string_bytes}
use Rattle.std.proofs.lemmas.List.Folds.{list_all-append}
use Rattle.std.specs.Option.{is_some}
use Rattle.std.specs.Prelude.{Some}
use Rattle.std.specs.List.{list_all}
use Rattle.pattern_tree.specs.declared.counters.Counters.{Counters}
use Rattle.pattern_tree.specs.declared.places.Places.{Places}
use Rattle.pattern_model.specs.Tree.{Tree, Token, tokens_of}
use Rattle.pattern_tree.specs.Machine.{State, finished, spelled}
use Rattle.pattern_model.specs.SharedNames.{is_in, names}
use Rattle.pattern_model.specs.BackReferences.{captures, numbers, references, in_number, in_names}
use Rattle.pattern_tree.specs.TokenTests.{captures_in, numbers_in, references_in, token_captures, token_numbers, token_references}
use Rattle.pattern_tree.specs.Places.{Placed, place_of, has_all}
use Rattle.pattern_tree.proofs.TestLaws.{captures_append, numbers_append, references_append, captures_tokens, numbers_tokens, references_tokens}
use Rattle.pattern_tree.proofs.PlaceLaws.{state_names}

pub record Told (c : Counters) (ts : List Token) : Type 0 where
  pub groups : c.groups ≡ captures_in ts
  pub numbers : (m : ℕ) → in_number m (numbers_in ts) ≡ nat_le c.highest m
  pub references : map string_bytes c.references.items ≡ references_in ts

pub told_more : (old new : Counters) (ts us : List Token) (t : Token) → us ≡ ts ++ (t ∷ []) → Told old ts →
    new.groups ≡ old.groups + token_captures t →
    ((m : ℕ) → nat_le new.highest m ≡ nat_le old.highest m && in_number m (token_numbers t)) →
    map string_bytes new.references.items ≡ map string_bytes old.references.items ++ token_references t → Told new us
told_more old new ts us t e h g n r = record {
  groups = let a = captures_append ts (t ∷ []) in let b = h.groups in let k : captures_in us ≡ captures_in (ts ++ (t ∷ [])) =
      ap captures_in e in omega arith;
  numbers = λ m. ap (λ z. in_number m (numbers_in z)) e
      ∙ (ap (in_number m) (numbers_append ts (t ∷ []) ∙ ap (λ z. numbers_in ts ++ z) (append-nil (token_numbers t)))
      ∙ (list_all-append (λ z. nat_le z m) (numbers_in ts) (token_numbers t) ∙ (ap (λ z. z && in_number m (token_numbers t)) (h.numbers m)
      ∙ sym (n m))));
  references = r ∙ (ap (λ z. z ++ token_references t) h.references
      ∙ (sym (ap (λ z. references_in ts ++ z) (append-nil (token_references t)))
      ∙ (sym (references_append ts (t ∷ [])) ∙ ap references_in (sym e))));
}

same_all : {A : Type 0} (p q : A → Bool) (xs : List A) → ((x : A) → p x ≡ q x) → list_all p xs ≡ list_all q xs
same_all p q [] h = refl
same_all p q (x ∷ xs) h = ap (λ z. z && list_all p xs) (h x) ∙ ap (λ z. q x && z) (same_all p q xs h)

-- the tests at the end are those of the tree
pub met : (c : Counters) (p : Places) (s : State) (at : ℕ) (t : Tree) → Told c (spelled s) → Placed p s at →
    finished s.here s.outer ≡ Some t → tokens_of t ≡ spelled s →
    nat_le c.highest c.groups && has_all p (map string_bytes c.references.items) ≡ in_number (captures t) (numbers t) && in_names (names t)
    (references t)
met c p s at t h k fin e =
    let g : c.groups ≡ captures t = h.groups ∙ (ap captures_in (sym e) ∙ captures_tokens t) in
    let n : numbers_in (spelled s) ≡ numbers t = ap numbers_in (sym e) ∙ numbers_tokens t in
    let r : map string_bytes c.references.items ≡ references t = h.references ∙ (ap references_in (sym e) ∙ references_tokens t) in
    ap (λ z. nat_le c.highest z && has_all p (map string_bytes c.references.items)) g
    ∙ (ap (λ z. z && has_all p (map string_bytes c.references.items)) (sym (h.numbers (captures t)) ∙ ap (in_number (captures t)) n)
    ∙ ap (λ z. in_number (captures t) (numbers t) && z) (ap (has_all p) r
    ∙ same_all (λ q. is_some (place_of p q)) (λ q. is_in q (names t)) (references t) (λ q. state_names p s at t k fin q)))
