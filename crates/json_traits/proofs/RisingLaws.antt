-- Keys rise at each level of a tree where they do in its parts.
use Rattle.std.proofs.Common.{◌≡◌, ◌+◌, ◌≤◌, ℕ, true, List, [], ◌∷◌, Some, None, drop, length, map, refl, ap, subst, sym, ◌∙◌}
use Rattle.std.proofs.lemmas.List.{drop_all}
use Rattle.json_model.specs.Keys.{rises}
use Rattle.json_model.specs.Parts.{elements_from, elements_of, if_array, if_object, members_from, pairs_of}
use Rattle.json_model.specs.Rising.{KeysRise, KeysRiseInElements, KeysRiseInMembers}
use Rattle.json_model.specs.Tree.{Tree, scalar, array, object, keys}
use Rattle.json_traits.proofs.ShapeLaws.{object_shape, array_shape}

-- the keys of pairs
pub keys_from : (ps : List (List ℕ × Tree)) → keys (members_from ps) ≡ map (λ p. p.0) ps
keys_from [] = refl
keys_from (p ∷ ps) = ap (λ (ks : List (List ℕ)). p.0 ∷ ks) (keys_from ps)

-- a value that is neither array nor object has no keys
pub scalar_rises : (u : Tree) → None ≡ if_array u → None ≡ if_object u → KeysRise u
scalar_rises (scalar x) e f = tt
scalar_rises (array ts) e f = cc
scalar_rises (object ms) e f = cc

pub array_rises : (t u : Tree) → Some t ≡ if_array u → KeysRiseInElements (elements_from (elements_of t)) → KeysRise u
array_rises t u e h = subst KeysRise (sym (array_shape t u e)) h

pub object_rises : (t u : Tree) → Some t ≡ if_object u → KeysRise (object (members_from (pairs_of t))) → KeysRise u
object_rises t u e h = subst KeysRise (sym (object_shape t u e)) h

module _ (ts : List Tree) (k : ℕ) (left : KeysRiseInElements (elements_from (drop k ts)) → KeysRiseInElements (elements_from ts)) where
  -- the next element rises, so what is left without it is all that is wanted
  pub next_element : (t : Tree) → drop k ts ≡ t ∷ drop (k + 1) ts → KeysRise t → KeysRiseInElements (elements_from (drop (k + 1) ts)) →
      KeysRiseInElements (elements_from ts)
  next_element t back h r = left (subst (λ (xs : List Tree). KeysRiseInElements (elements_from xs)) (sym back) (h, r))

  pub no_element : length ts ≤ k → KeysRiseInElements (elements_from ts)
  no_element le = left (subst (λ (xs : List Tree). KeysRiseInElements (elements_from xs)) (sym (drop_all k ts le)) tt)

module _ (ps : List (List ℕ × Tree)) (k : ℕ) (left : KeysRiseInMembers (members_from (drop k ps)) → KeysRiseInMembers (members_from ps)) where
  -- the next member's value rises, so what is left without it is all that is wanted
  pub next_member : (p : List ℕ × Tree) → drop k ps ≡ p ∷ drop (k + 1) ps → KeysRise p.1 → KeysRiseInMembers (members_from (drop (k + 1) ps)) →
      KeysRiseInMembers (members_from ps)
  next_member p back h r = left (subst (λ (xs : List (List ℕ × Tree)). KeysRiseInMembers (members_from xs)) (sym back) (h, r))

  pub no_member : length ps ≤ k → rises (map (λ (p : List ℕ × Tree). p.0) ps) ≡ true → KeysRise (object (members_from ps))
  no_member le e =
      (ap rises (keys_from ps) ∙ e, left (subst (λ (xs : List (List ℕ × Tree)). KeysRiseInMembers (members_from xs)) (sym (drop_all k ps le)) tt))
