-- What a tree of one kind has, and a tree of another lacks.
use Rattle.std.proofs.Common.{◌≡◌, ℕ, List, [], ◌∷◌, Some, None, refl, ap}
use Rattle.std.specs.Prelude.{IsTrue, ◌↔◌}
use Rattle.json_model.specs.Tree.{Tree, scalar, null, boolean, number, string, array, object}
use Rattle.json_model.specs.Parts.{is_null, as_array, as_object, elements_of, pairs_of, as_number, pairs_in, members_from, trees_in, elements_from, if_object, if_array, if_number}
use Rattle.json_model.specs.Decimal.{Decimal}

pub if_object_is : {t : Tree} (u : Tree) → Some t ≡ if_object u → t ≡ u
if_object_is (scalar null) h = cc
if_object_is (scalar (boolean b)) h = cc
if_object_is (scalar (number d)) h = cc
if_object_is (scalar (string s)) h = cc
if_object_is (array ts) h = cc
if_object_is (object ms) h = cc

pub if_array_is : {t : Tree} (u : Tree) → Some t ≡ if_array u → t ≡ u
if_array_is (scalar null) h = cc
if_array_is (scalar (boolean b)) h = cc
if_array_is (scalar (number d)) h = cc
if_array_is (scalar (string s)) h = cc
if_array_is (array ts) h = cc
if_array_is (object ms) h = cc

pub pairs_in_from : (ps : List (List ℕ × Tree)) → pairs_in (members_from ps) ≡ ps
pairs_in_from [] = refl
pairs_in_from (p ∷ ps) = ap (λ r. p ∷ r) (pairs_in_from ps)

pub trees_in_from : (ts : List Tree) → trees_in (elements_from ts) ≡ ts
trees_in_from [] = refl
trees_in_from (t ∷ ts) = ap (λ r. t ∷ r) (trees_in_from ts)

pub number_some : {x : Decimal} {t : Tree} (u : Tree) → scalar (number x) ≡ t → Some t ≡ if_number u → as_number u ≡ Some x
number_some (scalar null) e h = cc
number_some (scalar (boolean b)) e h = cc
number_some (scalar (number d)) e h = cc
number_some (scalar (string s)) e h = cc
number_some (array ts) e h = cc
number_some (object ms) e h = cc

pub number_none : (u : Tree) → None ≡ if_number u → as_number u ≡ None
number_none (scalar null) h = refl
number_none (scalar (boolean b)) h = refl
number_none (scalar (number d)) h = cc
number_none (scalar (string s)) h = refl
number_none (array ts) h = refl
number_none (object ms) h = refl

pub array_some : {t : Tree} (u : Tree) → Some t ≡ if_array u → as_array u ≡ Some (elements_of t)
array_some (scalar null) h = cc
array_some (scalar (boolean b)) h = cc
array_some (scalar (number d)) h = cc
array_some (scalar (string s)) h = cc
array_some (array ts) h = let e : _ ≡ array ts = if_array_is (array ts) h in rw e refl
array_some (object ms) h = cc

pub array_none : (u : Tree) → None ≡ if_array u → as_array u ≡ None
array_none (scalar null) h = refl
array_none (scalar (boolean b)) h = refl
array_none (scalar (number d)) h = refl
array_none (scalar (string s)) h = refl
array_none (array ts) h = cc
array_none (object ms) h = refl

pub object_some : {t : Tree} (u : Tree) → Some t ≡ if_object u → as_object u ≡ Some (pairs_of t)
object_some (scalar null) h = cc
object_some (scalar (boolean b)) h = cc
object_some (scalar (number d)) h = cc
object_some (scalar (string s)) h = cc
object_some (array ts) h = cc
object_some (object ms) h = let e : _ ≡ object ms = if_object_is (object ms) h in rw e refl

pub object_none : (u : Tree) → None ≡ if_object u → as_object u ≡ None
object_none (scalar null) h = refl
object_none (scalar (boolean b)) h = refl
object_none (scalar (number d)) h = refl
object_none (scalar (string s)) h = refl
object_none (array ts) h = refl
object_none (object ms) h = cc

pub null_some : (u : Tree) → IsTrue (is_null u) ↔ (u ≡ scalar null)
null_some (scalar null) = (λ _. refl, λ _. refl)
null_some (scalar (boolean b)) = (λ h. cc, λ h. cc)
null_some (scalar (number d)) = (λ h. cc, λ h. cc)
null_some (scalar (string s)) = (λ h. cc, λ h. cc)
null_some (array ts) = (λ h. cc, λ h. cc)
null_some (object ms) = (λ h. cc, λ h. cc)
