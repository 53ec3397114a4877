-- The trees of values of `serde_json`, a part at a time.
use Rattle.std.proofs.Common.{◌≡◌, ℕ, zero, suc, ◌<◌, Bool, true, false, List, [], ◌∷◌, ◌++◌, length, map, get_or, Option, Some, None, option_map, String, Global, string_bytes, refl, sym, ap, ◌∙◌, arith}
use Rattle.std.specs.Prelude.{option_and_then, is_some, not, ◌||◌, Result, Ok, Err, IsErrAnd}
use Rattle.key_map.specs.Pairs.{key_of}
use Rattle.json_exact.specs.Trees.{tree, member_pair}
use Rattle.key_map.specs.declared.map.Member.{Member}
use Rattle.json_exact.specs.declared.value.Value.{Value}
use Rattle.json_exact.specs.declared.from_serde.FromSerdeError.{FromSerdeError}
use Rattle.json_exact.specs.declared.from_serde.FromSerdeError.TheVariants.{Float}
use Rattle.serde_json.specs.Data as serde
use Rattle.serde_json.specs.View.{view, items_view, members_view}
use Rattle.serde_json.specs.Written.{has_float, items_have_float, members_have_float}
use Rattle.serde_json.specs.declared.value.Value.{Value as SerdeValue}
use Rattle.json_model.specs.Tree.{Tree, array, object, Elements, element}
use Rattle.json_model.specs.Parts.{elements_from, members_from}
use Rattle.json_exact.specs.Serde.{tree_of, elements_of, pairs_of, in_key_order}

-- ---- the elements of an array

next_element : (o : Option Tree) (r : Option Elements) (t : Tree) (s : Elements) → o ≡ Some t → r ≡ Some s
    → option_and_then (λ u. option_map (element u) r) o ≡ Some (element t s)
next_element o r t s e f = rw (e, f) refl

heads : {A : Type 0} (o : Option A) (a : A) (os : List (Option A)) (bs : List A) → o ∷ os ≡ Some a ∷ map Some bs → (o ≡ Some a) × (os ≡ map Some bs)
heads o a os bs e = (cc, cc)

-- where each element has a tree, the array has them in order
pub all_elements : (vs : List SerdeValue) (ts : List Tree) → map (λ (v : SerdeValue). tree_of (view v)) vs ≡ map Some ts
    → elements_of (items_view vs) ≡ Some (elements_from ts)
all_elements [] [] e = refl
all_elements [] (t ∷ ts) e = absurd cc
all_elements (v ∷ vs) [] e = absurd cc
all_elements (v ∷ vs) (t ∷ ts) e =
    let h = heads (tree_of (view v)) t (map (λ (v : SerdeValue). tree_of (view v)) vs) ts e in
    next_element (tree_of (view v)) (elements_of (items_view vs)) t (elements_from ts) h.0 (all_elements vs ts h.1)

no_element : (o : Option Tree) (r : Option Elements) → r ≡ None → option_and_then (λ t. option_map (element t) r) o ≡ None
no_element None r e = refl
no_element (Some t) r e = rw e refl

-- where one element has no tree, the array has none
pub one_element_missing : (vs : List SerdeValue) (i : ℕ) (d : SerdeValue) → i < length vs → tree_of (view (get_or vs i d)) ≡ None
    → elements_of (items_view vs) ≡ None
one_element_missing [] i d lt e = absurd (omega arith)
one_element_missing (v ∷ vs) zero d lt e = rw e refl
one_element_missing (v ∷ vs) (suc i) d lt e =
    no_element (tree_of (view v)) (elements_of (items_view vs)) (one_element_missing vs i d (omega arith) e)

-- ---- the members of an object

abbrev pub Entry : Type 0
Entry = String Global × SerdeValue

abbrev pub Pairs : Type 0
Pairs = List (List ℕ × Tree)

-- the pair of an entry, where its value has a tree
abbrev pub entry_pair : Entry → Option (List ℕ × Tree)
entry_pair e = option_map (λ t. (string_bytes e.0, t)) (tree_of (view e.1))

next_pair : (k : List ℕ) (o : Option Tree) (r : Option Pairs) (p : List ℕ × Tree) (ps : Pairs) → option_map (λ t. (k, t)) o ≡ Some p → r ≡ Some ps
    → option_and_then (λ t. option_map (λ qs. (k, t) ∷ qs) r) o ≡ Some (p ∷ ps)
next_pair k None r p ps e f = absurd cc
next_pair k (Some t) r p ps e f = let g : (k, t) ≡ p = cc in rw f (ap (λ (q : List ℕ × Tree). Some (q ∷ ps)) g)

-- where the value of each entry has a tree, the object has the pairs of all
pub all_pairs : (es : List Entry) (ps : Pairs) → map entry_pair es ≡ map Some ps → pairs_of (members_view es) ≡ Some ps
all_pairs [] [] e = refl
all_pairs [] (p ∷ ps) e = absurd cc
all_pairs (x ∷ es) [] e = absurd cc
all_pairs (x ∷ es) (p ∷ ps) e =
    let h = heads (entry_pair x) p (map entry_pair es) ps e in
    next_pair (string_bytes x.0) (tree_of (view x.1)) (pairs_of (members_view es)) p ps h.0 (all_pairs es ps h.1)

-- one entry more, with its member
pub pair_added : (es : List Entry) (ms : List (Member Value)) (x : Entry) (m : Member Value) → map entry_pair es ≡ map Some (map member_pair ms)
    → key_of m ≡ string_bytes x.0 → tree_of (view x.1) ≡ Some (tree m.value)
    → map entry_pair (es ++ x ∷ []) ≡ map Some (map member_pair (ms ++ m ∷ []))
pair_added [] [] x m e f g = rw (f, g) refl
pair_added [] (n ∷ ms) x m e f g = absurd cc
pair_added (y ∷ es) [] x m e f g = absurd cc
pair_added (y ∷ es) (n ∷ ms) x m e f g =
    let h = heads (entry_pair y) (member_pair n) (map entry_pair es) (map member_pair ms) e in
    ap (λ (o : Option (List ℕ × Tree)). o ∷ map entry_pair (es ++ x ∷ [])) h.0
    ∙ ap (λ (os : List (Option (List ℕ × Tree))). Some (member_pair n) ∷ os) (pair_added es ms x m h.1 f g)

no_pair : (k : List ℕ) (o : Option Tree) (r : Option Pairs) → r ≡ None → option_and_then (λ t. option_map (λ qs. (k, t) ∷ qs) r) o ≡ None
no_pair k None r e = refl
no_pair k (Some t) r e = rw e refl

-- where the value of one entry has no tree, the object has none
pub one_pair_missing : (done : List Entry) (x : Entry) (left : List Entry) → tree_of (view x.1) ≡ None
    → pairs_of (members_view (done ++ x ∷ left)) ≡ None
one_pair_missing [] x left e = rw e refl
one_pair_missing (y ∷ done) x left e =
    no_pair (string_bytes y.0) (tree_of (view y.1)) (pairs_of (members_view (done ++ x ∷ left))) (one_pair_missing done x left e)

-- the object has the pairs in key order
pub sorted_pairs : (es : List Entry) (ps qs : Pairs) → map entry_pair es ≡ map Some ps → in_key_order ps ≡ qs
    → option_map in_key_order (pairs_of (members_view es)) ≡ Some qs
sorted_pairs es ps qs e f = rw (all_pairs es ps e, f) refl

-- an error that was handed on is `Float` only where it was before
pub handed_on : {T : Type 0} (r : Result T FromSerdeError) (error : FromSerdeError) → IsErrAnd r (λ x. x ≡ error) → r ≡ Err Float → error ≡ Float
handed_on (Ok v) error h e = absurd cc
handed_on (Err x) error h e = cc

-- ---- floats

is_some_map : {A B : Type 0} (f : A → B) (o : Option A) → is_some (option_map f o) ≡ is_some o
is_some_map f None = refl
is_some_map f (Some a) = refl

is_some_then : {A B : Type 0} (f : A → Option B) (o : Option A) (x y : Bool) → is_some o ≡ not x → ((a : A) → is_some (f a) ≡ not y)
    → is_some (option_and_then f o) ≡ not (x || y)
is_some_then f None true y e h = refl
is_some_then f None false y e h = absurd cc
is_some_then f (Some a) true y e h = absurd cc
is_some_then f (Some a) false y e h = h a

number_shows : (n : serde.Num) → is_some (tree_of (serde.number n)) ≡ not (has_float (serde.number n))
number_shows (serde.unsigned n) = refl
number_shows (serde.negative z) = refl
number_shows (serde.float x) = refl

mutual
  shows : (d : serde.Data) → is_some (tree_of d) ≡ not (has_float d)
  shows serde.null = refl
  shows (serde.boolean b) = refl
  shows (serde.number n) = number_shows n
  shows (serde.string s) = refl
  shows (serde.array ds) = is_some_map array (elements_of ds) ∙ items_show ds
  shows (serde.object ms) = is_some_map (λ (ps : Pairs). object (members_from (in_key_order ps))) (pairs_of ms) ∙ members_show ms

  items_show : (ds : serde.Items) → is_some (elements_of ds) ≡ not (items_have_float ds)
  items_show serde.no_items = refl
  items_show (serde.item d ds) =
      is_some_then (λ (t : Tree). option_map (element t) (elements_of ds)) (tree_of d) (has_float d) (items_have_float ds) (shows d)
      (λ t. is_some_map (element t) (elements_of ds) ∙ items_show ds)

  members_show : (ms : serde.Members) → is_some (pairs_of ms) ≡ not (members_have_float ms)
  members_show serde.no_members = refl
  members_show (serde.member k d ms) =
      is_some_then (λ (t : Tree). option_map (λ (ps : Pairs). (k, t) ∷ ps) (pairs_of ms)) (tree_of d) (has_float d) (members_have_float ms) (shows d)
      (λ t. is_some_map (λ (ps : Pairs). (k, t) ∷ ps) (pairs_of ms) ∙ members_show ms)

-- no float stands in what has a tree
pub no_float : (d : serde.Data) (t : Tree) → tree_of d ≡ Some t → has_float d ≡ false
no_float d t e = go (has_float d) (sym (shows d) ∙ ap is_some e)
  where
    go : (b : Bool) → not b ≡ true → b ≡ false
    go true f = sym f
    go false f = refl

-- a float stands in what has no tree
pub some_float : (d : serde.Data) → tree_of d ≡ None → has_float d ≡ true
some_float d e = go (has_float d) (sym (shows d) ∙ ap is_some e)
  where
    go : (b : Bool) → not b ≡ false → b ≡ true
    go true f = refl
    go false f = sym f
