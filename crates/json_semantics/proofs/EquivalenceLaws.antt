-- JSON equality is reflexive, symmetric and transitive where keys rise.
use Rattle.std.proofs.Common.{◌^◌, refl, sym, ap, ◌∙◌, ℤ, pos}
use Rattle.std.specs.Prelude.{◌*ℤ◌}
use Rattle.json_model.specs.Decimal.{Decimal, IsSameValue}
use Rattle.json_model.specs.Rising.{KeysRise, KeysRiseInElements, KeysRiseInMembers}
use Rattle.json_model.specs.Same.{Same, SameScalar, SameElements}
use Rattle.json_model.specs.Tree.{Scalar, null, boolean, number, string, Tree, scalar, array, object, Elements, no_elements, element, Members, no_members, member}
use Rattle.json_exact.proofs.SignLaws.{turn, cancel}
use Rattle.json_exact.specs.inner.DecimalInverseLaws.{ten_pos}
use Rattle.json_traits.proofs.PlaceLaws.{SameAtPlaces, same_places, all_found}

-- a tree is the same as itself
scalar_self : (s : Scalar) → SameScalar s s
scalar_self null = tt
scalar_self (boolean b) = refl
scalar_self (number d) = refl
scalar_self (string s) = refl

mutual
  pub same_self : (t : Tree) → KeysRise t → Same t t
  same_self (scalar s) h = scalar_self s
  same_self (array ts) h = elements_self ts h
  same_self (object ms) h = (refl, all_found ms ms h.0 (places_self ms h.1))

  elements_self : (ts : Elements) → KeysRiseInElements ts → SameElements ts ts
  elements_self no_elements h = tt
  elements_self (element t ts) h = (same_self t h.0, elements_self ts h.1)

  places_self : (ms : Members) → KeysRiseInMembers ms → SameAtPlaces ms ms
  places_self no_members h = tt
  places_self (member k t ms) h = (refl, same_self t h.0, places_self ms h.1)

-- what is the same one way is the same the other way
scalar_turned : (a b : Scalar) → SameScalar a b → SameScalar b a
scalar_turned null null h = tt
scalar_turned null (boolean b) h = absurd h
scalar_turned null (number b) h = absurd h
scalar_turned null (string b) h = absurd h
scalar_turned (boolean a) null h = absurd h
scalar_turned (boolean a) (boolean b) h = sym h
scalar_turned (boolean a) (number b) h = absurd h
scalar_turned (boolean a) (string b) h = absurd h
scalar_turned (number a) null h = absurd h
scalar_turned (number a) (boolean b) h = absurd h
scalar_turned (number a) (number b) h = sym h
scalar_turned (number a) (string b) h = absurd h
scalar_turned (string a) null h = absurd h
scalar_turned (string a) (boolean b) h = absurd h
scalar_turned (string a) (number b) h = absurd h
scalar_turned (string a) (string b) h = sym h

mutual
  pub same_turned : (t u : Tree) → KeysRise t → KeysRise u → Same t u → Same u t
  same_turned (scalar a) (scalar b) e f s = scalar_turned a b s
  same_turned (scalar a) (array us) e f s = absurd s
  same_turned (scalar a) (object ns) e f s = absurd s
  same_turned (array ts) (scalar b) e f s = absurd s
  same_turned (array ts) (array us) e f s = elements_turned ts us e f s
  same_turned (array ts) (object ns) e f s = absurd s
  same_turned (object ms) (scalar b) e f s = absurd s
  same_turned (object ms) (array us) e f s = absurd s
  same_turned (object ms) (object ns) e f s =
      (sym s.0, all_found ns ms f.0 (places_turned ms ns e.1 f.1 (same_places ms ns e.0 f.0 s.0 s.1)))

  elements_turned : (ts us : Elements) → KeysRiseInElements ts → KeysRiseInElements us → SameElements ts us → SameElements us ts
  elements_turned no_elements no_elements e f s = tt
  elements_turned no_elements (element u us) e f s = absurd s
  elements_turned (element t ts) no_elements e f s = absurd s
  elements_turned (element t ts) (element u us) e f s = (same_turned t u e.0 f.0 s.0, elements_turned ts us e.1 f.1 s.1)

  places_turned : (ms ns : Members) → KeysRiseInMembers ms → KeysRiseInMembers ns → SameAtPlaces ms ns → SameAtPlaces ns ms
  places_turned no_members no_members e f s = tt
  places_turned no_members (member l u ns) e f s = absurd s
  places_turned (member k t ms) no_members e f s = absurd s
  places_turned (member k t ms) (member l u ns) e f s = (sym s.0, same_turned t u e.0 f.0 s.1, places_turned ms ns e.1 f.1 s.2)

-- what is worth as much as something of the same worth is worth as much
pub same_value_chain : (a b c : Decimal) → IsSameValue a b → IsSameValue b c → IsSameValue a c
same_value_chain a b c s r =
    cancel (a.digits *ℤ pos (10 ^ c.places)) (c.digits *ℤ pos (10 ^ a.places)) (10 ^ b.places) (ten_pos b.places)
    (turn a.digits (10 ^ c.places) (10 ^ b.places) ∙ ap (λ (z : ℤ). z *ℤ pos (10 ^ c.places)) s ∙ turn b.digits (10 ^ a.places) (10 ^ c.places)
    ∙ ap (λ (z : ℤ). z *ℤ pos (10 ^ a.places)) r ∙ turn c.digits (10 ^ b.places) (10 ^ a.places))

scalar_chain : (a b c : Scalar) → SameScalar a b → SameScalar b c → SameScalar a c
scalar_chain null null c s r = r
scalar_chain null (boolean b) c s r = absurd s
scalar_chain null (number b) c s r = absurd s
scalar_chain null (string b) c s r = absurd s
scalar_chain (boolean a) null c s r = absurd s
scalar_chain (boolean a) (boolean b) null s r = absurd r
scalar_chain (boolean a) (boolean b) (boolean c) s r = s ∙ r
scalar_chain (boolean a) (boolean b) (number c) s r = absurd r
scalar_chain (boolean a) (boolean b) (string c) s r = absurd r
scalar_chain (boolean a) (number b) c s r = absurd s
scalar_chain (boolean a) (string b) c s r = absurd s
scalar_chain (number a) null c s r = absurd s
scalar_chain (number a) (boolean b) c s r = absurd s
scalar_chain (number a) (number b) null s r = absurd r
scalar_chain (number a) (number b) (boolean c) s r = absurd r
scalar_chain (number a) (number b) (number c) s r = same_value_chain a b c s r
scalar_chain (number a) (number b) (string c) s r = absurd r
scalar_chain (number a) (string b) c s r = absurd s
scalar_chain (string a) null c s r = absurd s
scalar_chain (string a) (boolean b) c s r = absurd s
scalar_chain (string a) (number b) c s r = absurd s
scalar_chain (string a) (string b) null s r = absurd r
scalar_chain (string a) (string b) (boolean c) s r = absurd r
scalar_chain (string a) (string b) (number c) s r = absurd r
scalar_chain (string a) (string b) (string c) s r = s ∙ r

mutual
  pub same_chain : (t u v : Tree) → KeysRise t → KeysRise u → KeysRise v → Same t u → Same u v → Same t v
  same_chain (scalar a) (scalar b) (scalar c) e f g s r = scalar_chain a b c s r
  same_chain (scalar a) (scalar b) (array vs) e f g s r = absurd r
  same_chain (scalar a) (scalar b) (object os) e f g s r = absurd r
  same_chain (scalar a) (array us) v e f g s r = absurd s
  same_chain (scalar a) (object ns) v e f g s r = absurd s
  same_chain (array ts) (scalar b) v e f g s r = absurd s
  same_chain (array ts) (array us) (scalar c) e f g s r = absurd r
  same_chain (array ts) (array us) (array vs) e f g s r = elements_chain ts us vs e f g s r
  same_chain (array ts) (array us) (object os) e f g s r = absurd r
  same_chain (array ts) (object ns) v e f g s r = absurd s
  same_chain (object ms) (scalar b) v e f g s r = absurd s
  same_chain (object ms) (array us) v e f g s r = absurd s
  same_chain (object ms) (object ns) (scalar c) e f g s r = absurd r
  same_chain (object ms) (object ns) (array vs) e f g s r = absurd r
  same_chain (object ms) (object ns) (object os) e f g s r =
      (s.0 ∙ r.0, all_found ms os e.0 (places_chain ms ns os e.1 f.1 g.1 (same_places ms ns e.0 f.0 s.0 s.1) (same_places ns os f.0 g.0 r.0 r.1)))

  elements_chain : (ts us vs : Elements) → KeysRiseInElements ts → KeysRiseInElements us → KeysRiseInElements vs → SameElements ts us →
      SameElements us vs → SameElements ts vs
  elements_chain no_elements no_elements vs e f g s r = r
  elements_chain no_elements (element u us) vs e f g s r = absurd s
  elements_chain (element t ts) no_elements vs e f g s r = absurd s
  elements_chain (element t ts) (element u us) no_elements e f g s r = absurd r
  elements_chain (element t ts) (element u us) (element v vs) e f g s r =
      (same_chain t u v e.0 f.0 g.0 s.0 r.0, elements_chain ts us vs e.1 f.1 g.1 s.1 r.1)

  places_chain : (ms ns os : Members) → KeysRiseInMembers ms → KeysRiseInMembers ns → KeysRiseInMembers os → SameAtPlaces ms ns → SameAtPlaces ns os →
      SameAtPlaces ms os
  places_chain no_members no_members os e f g s r = r
  places_chain no_members (member l u ns) os e f g s r = absurd s
  places_chain (member k t ms) no_members os e f g s r = absurd s
  places_chain (member k t ms) (member l u ns) no_members e f g s r = absurd r
  places_chain (member k t ms) (member l u ns) (member m v os) e f g s r =
      (s.0 ∙ r.0, same_chain t u v e.0 f.0 g.0 s.1 r.1, places_chain ms ns os e.1 f.1 g.1 s.2 r.2)
