-- Whether two trees are equal by JSON equality is decided.
use Rattle.std.proofs.Common.{inl, inr, ◌^◌, length, pos}
use Rattle.std.specs.Prelude.{◌*ℤ◌}
use Rattle.json_model.specs.Parts.{lookup, pairs_in}
use Rattle.json_model.specs.Same.{Same, SameElements, SameMembers, SameScalar}
use Rattle.json_model.specs.Tree.{Scalar, null, boolean, number, string, Tree, scalar, array, object, Elements, no_elements, element, Members, no_members, member}
use Rattle.literal_patterns.proofs.DecidedPatterns.{Decided}
use Rattle.flat_keywords.proofs.Decided.{decided_and, decided_both, same_bytes, same_counts, same_integers, same_truths}

decided_scalars : (a b : Scalar) → Decided (SameScalar a b)
decided_scalars null null = inl tt
decided_scalars null (boolean b) = inr (λ h. h)
decided_scalars null (number b) = inr (λ h. h)
decided_scalars null (string b) = inr (λ h. h)
decided_scalars (boolean a) null = inr (λ h. h)
decided_scalars (boolean a) (boolean b) = same_truths a b
decided_scalars (boolean a) (number b) = inr (λ h. h)
decided_scalars (boolean a) (string b) = inr (λ h. h)
decided_scalars (number a) null = inr (λ h. h)
decided_scalars (number a) (boolean b) = inr (λ h. h)
decided_scalars (number a) (number b) = same_integers (a.digits *ℤ pos (10 ^ b.places)) (b.digits *ℤ pos (10 ^ a.places))
decided_scalars (number a) (string b) = inr (λ h. h)
decided_scalars (string a) null = inr (λ h. h)
decided_scalars (string a) (boolean b) = inr (λ h. h)
decided_scalars (string a) (number b) = inr (λ h. h)
decided_scalars (string a) (string b) = same_bytes a b

mutual
  pub decided_same : (t u : Tree) → Decided (Same t u)
  decided_same (scalar a) (scalar b) = decided_scalars a b
  decided_same (scalar a) (array us) = inr (λ h. h)
  decided_same (scalar a) (object ns) = inr (λ h. h)
  decided_same (array ts) (scalar b) = inr (λ h. h)
  decided_same (array ts) (array us) = decided_elements ts us
  decided_same (array ts) (object ns) = inr (λ h. h)
  decided_same (object ms) (scalar b) = inr (λ h. h)
  decided_same (object ms) (array us) = inr (λ h. h)
  decided_same (object ms) (object ns) = decided_both (same_counts (length (pairs_in ms)) (length (pairs_in ns))) (decided_members ms ns)

  decided_elements : (ts us : Elements) → Decided (SameElements ts us)
  decided_elements no_elements no_elements = inl tt
  decided_elements no_elements (element u us) = inr (λ h. h)
  decided_elements (element t ts) no_elements = inr (λ h. h)
  decided_elements (element t ts) (element u us) = decided_both (decided_same t u) (decided_elements ts us)

  decided_members : (ms ns : Members) → Decided (SameMembers ms ns)
  decided_members no_members ns = inl tt
  decided_members (member k t ms) ns =
      decided_both (decided_and (λ u. Same t u) (λ u. decided_same t u) (lookup k (pairs_in ns))) (decided_members ms ns)
