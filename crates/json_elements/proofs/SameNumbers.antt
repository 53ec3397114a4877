-- Trees that are the same have the same number.
use Rattle.std.proofs.Common.{◌≡◌, ℕ, Bool, List, ◌+◌, ◌%◌, ◌^◌, ◌∷◌, ◌++◌, refl, ap, ◌∙◌}
use Rattle.json_model.specs.Rising.{KeysRise, KeysRiseInElements, KeysRiseInMembers}
use Rattle.json_model.specs.Same.{Same, SameScalar, SameElements}
use Rattle.json_model.specs.Tree.{Scalar, null, boolean, number, string, Tree, scalar, array, object, Elements, no_elements, element, Members, no_members, member}
use Rattle.json_traits.proofs.PlaceLaws.{SameAtPlaces, same_places}
use Rattle.json_elements.proofs.DecimalLaws.{same_bytes}
use Rattle.json_elements.specs.Number.{hash, word, scalar_bytes, element_number, elements_bytes, member_number, members_sum}

scalar_number : (a b : Scalar) → SameScalar a b → hash (scalar_bytes a) ≡ hash (scalar_bytes b)
scalar_number null null h = refl
scalar_number null (boolean b) h = absurd h
scalar_number null (number b) h = absurd h
scalar_number null (string b) h = absurd h
scalar_number (boolean a) null h = absurd h
scalar_number (boolean a) (boolean b) h = ap (λ (x : Bool). hash (scalar_bytes (boolean x))) h
scalar_number (boolean a) (number b) h = absurd h
scalar_number (boolean a) (string b) h = absurd h
scalar_number (number a) null h = absurd h
scalar_number (number a) (boolean b) h = absurd h
scalar_number (number a) (number b) h = ap (λ (bytes : List ℕ). hash (3 ∷ bytes)) (same_bytes a b h)
scalar_number (number a) (string b) h = absurd h
scalar_number (string a) null h = absurd h
scalar_number (string a) (boolean b) h = absurd h
scalar_number (string a) (number b) h = absurd h
scalar_number (string a) (string b) h = ap (λ (bytes : List ℕ). hash (4 ∷ bytes)) h

mutual
  pub same_number : (t u : Tree) → KeysRise t → KeysRise u → Same t u → element_number t ≡ element_number u
  same_number (scalar a) (scalar b) e f s = scalar_number a b s
  same_number (scalar a) (array us) e f s = absurd s
  same_number (scalar a) (object ns) e f s = absurd s
  same_number (array ts) (scalar b) e f s = absurd s
  same_number (array ts) (array us) e f s = ap (λ (bytes : List ℕ). hash (5 ∷ bytes)) (same_elements ts us e f s)
  same_number (array ts) (object ns) e f s = absurd s
  same_number (object ms) (scalar b) e f s = absurd s
  same_number (object ms) (array us) e f s = absurd s
  same_number (object ms) (object ns) e f s =
      ap (λ (n : ℕ). hash (7 ∷ word n)) (same_members ms ns e.1 f.1 (same_places ms ns e.0 f.0 s.0 s.1))

  same_elements : (ts us : Elements) → KeysRiseInElements ts → KeysRiseInElements us → SameElements ts us → elements_bytes ts ≡ elements_bytes us
  same_elements no_elements no_elements e f s = refl
  same_elements no_elements (element u us) e f s = absurd s
  same_elements (element t ts) no_elements e f s = absurd s
  same_elements (element t ts) (element u us) e f s =
      ap (λ (n : ℕ). word n ++ elements_bytes ts) (same_number t u e.0 f.0 s.0)
      ∙ ap (λ (bytes : List ℕ). word (element_number u) ++ bytes) (same_elements ts us e.1 f.1 s.1)

  same_members : (ms ns : Members) → KeysRiseInMembers ms → KeysRiseInMembers ns → SameAtPlaces ms ns → members_sum ms ≡ members_sum ns
  same_members no_members no_members e f s = refl
  same_members no_members (member l u ns) e f s = absurd s
  same_members (member k t ms) no_members e f s = absurd s
  same_members (member k t ms) (member l u ns) e f s =
      ap (λ (x : List ℕ). (member_number x (element_number t) + members_sum ms) % 2 ^ 64) s.0
      ∙ ap (λ (n : ℕ). (member_number l n + members_sum ms) % 2 ^ 64) (same_number t u e.0 f.0 s.1)
      ∙ ap (λ (n : ℕ). (member_number l (element_number u) + n) % 2 ^ 64) (same_members ms ns e.1 f.1 s.2)
