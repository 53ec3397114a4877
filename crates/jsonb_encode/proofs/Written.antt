-- Trees whose items are written one after another.
use Rattle.std.proofs.Common.{◌≡◌, ℕ, zero, suc, ◌+◌, ◌-◌, ◌*◌, ◌^◌, ◌<◌, ◌≤◌, Bool, true, List, [], ◌∷◌, ◌++◌, length, take, drop, get_or, map, Result, Err, refl, sym, ap, subst, ◌∙◌, append_assoc, arith, inl, inr, rules, Global}
use Rattle.std.specs.Prelude.{IfErr, IsTrue, ◌&&◌, string_bytes, if◌then◌else◌, String as Text}
use Rattle.std.proofs.lemmas.List.{append-nil, length-append}
use Rattle.std.proofs.lemmas.Bool.{and_parts}
use Rattle.json_model.specs.Keys.{rises}
use Rattle.json_model.specs.Parts.{elements_from, members_from}
use Rattle.json_model.specs.Rising.{KeysRiseInElements, KeysRiseInMembers}
use Rattle.json_model.specs.Tree.{null, boolean, number, string, Tree, scalar, array, object, Elements, Members, keys}
use Rattle.json_exact.specs.Trees.{Pairs, tree}
use Rattle.json_exact.specs.declared.value.Value.{Value, Null, Bool as OfBool, String as OfString, Number as OfNumber, the_lemmas}
use Rattle.json_model.specs.Decimal.{Decimal}
use Rattle.jsonb_layout.specs.Layout.{Item, pieces}
use Rattle.jsonb_layout.specs.Stands.{key_item, padding}
use Rattle.jsonb_layout.specs.declared.form.Form.{Form}
use Rattle.jsonb_layout.specs.declared.form.Form.TheVariants.{Array, Object}
use Rattle.jsonb_encode.specs.Encoded.{container, item, element_items, value_items, object_items, key_items, count_elements, count_members, encoded}
use Rattle.jsonb_encode.specs.Limits.{all_fit, elements_fit, members_fit, AreSmall, ElementsAreSmall, MembersAreSmall, ElementsHaveExactNumbers, MembersHaveExactNumbers, IsStorable}
use Rattle.jsonb_encode.specs.declared.error.EncodeError.{EncodeError}
use Rattle.jsonb_encode.specs.declared.error.EncodeError.TheVariants.{TooLarge}
use Rattle.jsonb_encode.specs.declared.number_form.NumericForm.{NumericForm}
use Rattle.jsonb_encode.specs.inner.Writing.{item_of, pair_keys, listed, IsOpen, Keyed, IsUnkeyed, IsWritten, IsWhole, IsUnwritten, AreGood}
use Rattle.jsonb_encode.proofs.Opened.{pieces_more, opened_whole, open_length}

-- an error that is handed on
pub err_as : {T : Type 0} (r : Result T EncodeError) (e : EncodeError) (P : EncodeError → Type 0) → r ≡ Err e → P e → IfErr r P
err_as r e P h p = rw h p

-- ---- items of lists of trees

pub items_more : (f : NumericForm) (us vs : List Tree) (at : ℕ)
    → element_items f (elements_from (us ++ vs)) at
    ≡ element_items f (elements_from us) at ++ element_items f (elements_from vs) (at + length (pieces (element_items f (elements_from us) at)))
unfolding element_items
items_more f [] vs at = ap (λ (k : ℕ). element_items f (elements_from vs) k) (let e : at ≡ at + 0 = omega arith in e)
items_more f (t ∷ us) vs at =
    let x = item f t at in
    let next = at + length x.piece in
    let xs = element_items f (elements_from us) next in
    let e : next + length (pieces xs) ≡ at + length (x.piece ++ pieces xs) = omega (arith, length-append x.piece (pieces xs)) in
    ap (λ (ys : List Item). x ∷ ys)
    (items_more f us vs next ∙ ap (λ (k : ℕ). xs ++ element_items f (elements_from vs) k) e)

pub items_count : (f : NumericForm) (us : List Tree) (at : ℕ) → length (element_items f (elements_from us) at) ≡ length us
unfolding element_items
items_count f [] at = refl
items_count f (t ∷ us) at = ap (λ (n : ℕ). suc n) (items_count f us (at + length (item f t at).piece))

pub count_is : (us : List Tree) → count_elements (elements_from us) ≡ length us
count_is [] = refl
count_is (t ∷ us) = omega (arith, count_is us)

-- the items of values are those of a list of trees
pub values_are : (f : NumericForm) (ps : Pairs) (at : ℕ) → value_items f (members_from ps) at ≡ element_items f (elements_from (map (λ p. p.1) ps)) at
unfolding element_items
values_are f [] at = refl
values_are f (p ∷ ps) at = ap (λ (ys : List Item). item f p.1 at ∷ ys) (values_are f ps (at + length (item f p.1 at).piece))

pub members_count : (ps : Pairs) → count_members (members_from ps) ≡ length ps
members_count [] = refl
members_count (p ∷ ps) = omega (arith, members_count ps)

pub keys_are : (ps : Pairs) → key_items (members_from ps) ≡ pair_keys ps
keys_are [] = refl
keys_are (p ∷ ps) = ap (λ (ks : List Item). key_item p.0 ∷ ks) (keys_are ps)

pub names_are : (ps : Pairs) → keys (members_from ps) ≡ map (λ p. p.0) ps
names_are [] = refl
names_are (p ∷ ps) = ap (λ (ks : List (List ℕ)). p.0 ∷ ks) (names_are ps)

pub pairs_more : (ps qs : Pairs) → map {A = List ℕ × Tree} {B = Tree} (λ p. p.1) (ps ++ qs) ≡ map (λ p. p.1) ps ++ map (λ p. p.1) qs
pairs_more [] qs = refl
pairs_more (p ∷ ps) qs = ap (λ (ts : List Tree). p.1 ∷ ts) (pairs_more ps qs)

pub pairs_count : (ps : Pairs) → length (map {A = List ℕ × Tree} {B = Tree} (λ p. p.1) ps) ≡ length ps
pairs_count [] = refl
pairs_count (p ∷ ps) = ap (λ (n : ℕ). suc n) (pairs_count ps)

pub keys_count : (ps : Pairs) → length (pair_keys ps) ≡ length ps
keys_count [] = refl
keys_count (p ∷ ps) = ap (λ (n : ℕ). suc n) (keys_count ps)

-- all items of an object
pub object_listed : (f : NumericForm) (ps : Pairs) → object_items f (members_from ps) ≡ listed f (pair_keys ps) (map (λ p. p.1) ps)
object_listed f ps =
    ap (λ (ks : List Item). ks ++ value_items f (members_from ps) (length (pieces ks))) (keys_are ps)
    ∙ ap (λ (xs : List Item). pair_keys ps ++ xs) (values_are f ps (length (pieces (pair_keys ps))))

-- ---- one tree more

item_parts : (x : Item) (kind : ℕ) → x.kind ≡ kind → x ≡ item_of kind x.piece
item_parts x kind e = ap (λ (k : ℕ). item_of k x.piece) e

listed_size : (f : NumericForm) (ks : List Item) (us : List Tree)
    → length (pieces (listed f ks us)) ≡ length (pieces ks) + length (pieces (element_items f (elements_from us) (length (pieces ks))))
listed_size f ks us =
    let xs = element_items f (elements_from us) (length (pieces ks)) in
    ap length (pieces_more ks xs) ∙ length-append (pieces ks) (pieces xs)

pub listed_more : (f : NumericForm) (ks : List Item) (us vs : List Tree)
    → listed f ks (us ++ vs) ≡ listed f ks us ++ element_items f (elements_from vs) (length (pieces (listed f ks us)))
listed_more f ks us vs =
    let at = length (pieces ks) in
    let xs = element_items f (elements_from us) at in
    ap (λ (ys : List Item). ks ++ ys) (items_more f us vs at)
    ∙ sym (append_assoc ks xs (element_items f (elements_from vs) (at + length (pieces xs))))
    ∙ ap (λ (k : ℕ). (ks ++ xs) ++ element_items f (elements_from vs) k) (sym (listed_size f ks us))

one_item : (f : NumericForm) (t : Tree) (at : ℕ) → element_items f (elements_from (t ∷ [])) at ≡ item f t at ∷ []
unfolding element_items
one_item f t at = refl

-- the item that was written is the next
pub listed_last : (f : NumericForm) (ks : List Item) (us : List Tree) (t : Tree) (at kind : ℕ) → at ≡ length (pieces (listed f ks us))
    → (item f t at).kind ≡ kind
    → listed f ks us ++ item_of kind (item f t at).piece ∷ [] ≡ listed f ks (us ++ t ∷ [])
listed_last f ks us t at kind e k =
    ap (λ (x : Item). listed f ks us ++ x ∷ []) (sym (item_parts (item f t at) kind k))
    ∙ ap (λ (n : ℕ). listed f ks us ++ item f t n ∷ []) e
    ∙ ap (λ (xs : List Item). listed f ks us ++ xs) (sym (one_item f t (length (pieces (listed f ks us)))))
    ∙ sym (listed_more f ks us (t ∷ []))

-- all pieces are at least as many bytes as the first ones
pub not_smaller : (f : NumericForm) (ks : List Item) (us vs : List Tree) (t : Tree) (at : ℕ) → at ≡ length (pieces (listed f ks us))
    → length (pieces (listed f ks us)) + length (item f t at).piece ≤ length (pieces (listed f ks (us ++ t ∷ vs)))
unfolding element_items
not_smaller f ks us vs t at e =
    let n = length (pieces (listed f ks us)) in
    let x = item f t n in
    let rest = element_items f (elements_from vs) (n + length x.piece) in
    let whole = listed_more f ks us (t ∷ vs) in
    let size = ap (λ (xs : List Item). length (pieces xs)) whole ∙ ap length (pieces_more (listed f ks us) (x ∷ rest)) ∙ length-append
    (pieces (listed f ks us)) (x.piece ++ pieces rest) in
    let last = length-append x.piece (pieces rest) in
    let same : length (item f t at).piece ≡ length x.piece = ap (λ (k : ℕ). length (item f t k).piece) e in
    omega arith

-- ---- what is known of them

pub good_last : (f : NumericForm) (us : List Tree) (t : Tree) → AreGood f (elements_from us) → AreSmall f t → IsStorable t
    → AreGood f (elements_from (us ++ t ∷ []))
good_last f [] t g small value = record { small = (small, tt); rise = (value.rise, tt); exact = (value.exact, tt) }
good_last f (u ∷ us) t g small value =
    let more = good_last f us t (record { small = g.small.1; rise = g.rise.1; exact = g.exact.1 }) small value in
    record { small = (g.small.0, more.small); rise = (g.rise.0, more.rise); exact = (g.exact.0, more.exact) }

pub small_inside : (f : NumericForm) (us vs : List Tree) (t : Tree) → ElementsAreSmall f (elements_from (us ++ t ∷ vs)) → AreSmall f t
small_inside f [] vs t h = h.0
small_inside f (u ∷ us) vs t h = small_inside f us vs t h.1

pub fits_inside : (f : NumericForm) (us vs : List Tree) (t : Tree) → IsTrue (elements_fit f (elements_from (us ++ t ∷ vs))) → IsTrue (all_fit f t)
fits_inside f [] vs t h = (and_parts (all_fit f t) (elements_fit f (elements_from vs)) h).0
fits_inside f (u ∷ us) vs t h = fits_inside f us vs t (and_parts (all_fit f u) (elements_fit f (elements_from (us ++ t ∷ vs))) h).1

pub members_fit_are : (f : NumericForm) (ps : Pairs) → members_fit f (members_from ps) ≡ elements_fit f (elements_from (map (λ p. p.1) ps))
members_fit_are f [] = refl
members_fit_are f (p ∷ ps) = ap (λ (b : Bool). all_fit f p.1 && b) (members_fit_are f ps)

small_members : (f : NumericForm) (ps : Pairs) → ElementsAreSmall f (elements_from (map (λ p. p.1) ps)) → MembersAreSmall f (members_from ps)
small_members f [] h = tt
small_members f (p ∷ ps) h = (h.0, small_members f ps h.1)

pub members_small : (f : NumericForm) (ps : Pairs) → MembersAreSmall f (members_from ps) → ElementsAreSmall f (elements_from (map (λ p. p.1) ps))
members_small f [] h = tt
members_small f (p ∷ ps) h = (h.0, members_small f ps h.1)

rising_members : (ps : Pairs) → KeysRiseInElements (elements_from (map (λ p. p.1) ps)) → KeysRiseInMembers (members_from ps)
rising_members [] h = tt
rising_members (p ∷ ps) h = (h.0, rising_members ps h.1)

exact_members : (ps : Pairs) → ElementsHaveExactNumbers (elements_from (map (λ p. p.1) ps)) → MembersHaveExactNumbers (members_from ps)
exact_members [] h = tt
exact_members (p ∷ ps) h = (h.0, exact_members ps h.1)

-- ---- whole arrays and objects

pub array_whole : (f : NumericForm) (ts : List Tree) (n : ℕ) (before after : List ℕ) → length ts ≡ n → n < 2 ^ 28
    → IsOpen Array n n (listed f [] ts) before after → AreGood f (elements_from ts) → IsWhole f (array (elements_from ts)) before after
unfolding encoded
array_whole f ts n before after e lt open_is good = record {
  bytes = open_is.bytes
      ∙ ap (λ (xs : List ℕ). before ++ xs) (opened_whole Array n n (listed f [] ts) (items_count f ts 0 ∙ e)
      ∙ ap (λ (k : ℕ). container Array k (listed f [] ts)) (sym e ∙ sym (count_is ts)));
  small = ((omega (arith, count_is ts), open_is.small), good.small);
  value = record { rise = good.rise; exact = good.exact };
}

pub object_whole : (f : NumericForm) (ps : Pairs) (before after : List ℕ) → length ps < 2 ^ 28 → rises (map (λ p. p.0) ps) ≡ true
    → IsOpen Object (length ps) (2 * length ps) (listed f (pair_keys ps) (map (λ p. p.1) ps)) before after
    → AreGood f (elements_from (map (λ p. p.1) ps)) → IsWhole f (object (members_from ps)) before after
unfolding encoded
object_whole f ps before after lt rise open_is good =
    let n = length ps in
    let xs = listed f (pair_keys ps) (map (λ p. p.1) ps) in
    let count : length xs ≡ 2 * n =
    omega (
      arith,
      length-append (pair_keys ps) (element_items f (elements_from (map (λ p. p.1) ps)) (length (pieces (pair_keys ps)))),
      keys_count ps,
      items_count f (map (λ p. p.1) ps) (length (pieces (pair_keys ps))),
      pairs_count ps,
    ) in
    let small : length (pieces (object_items f (members_from ps))) < 2 ^ 28 =
    subst (λ (ys : List Item). length (pieces ys) < 2 ^ 28) (sym (object_listed f ps)) open_is.small in
    record {
      bytes = open_is.bytes
          ∙ ap (λ (ys : List ℕ). before ++ ys) (opened_whole Object n (2 * n) xs count
          ∙ ap (λ (k : ℕ). container Object k xs) (sym (members_count ps))
          ∙ ap (λ (ys : List Item). container Object (count_members (members_from ps)) ys) (sym (object_listed f ps)));
      small = ((omega (arith, members_count ps), small), small_members f ps good.small);
      value = record { rise = (ap rises (names_are ps) ∙ rise, rising_members ps good.rise); exact = exact_members ps good.exact };
    }

-- why no array is written
pub many_elements : (f : NumericForm) (ts : List Tree) → 2 ^ 28 ≤ length ts → IsUnwritten f (array (elements_from ts)) TooLarge
many_elements f ts le = inr (refl, λ h. let s = h.0.0 in omega (arith, count_is ts))

pub element_large : (f : NumericForm) (us vs : List Tree) (t : Tree) (e : EncodeError) → IsUnwritten f t e → IsUnwritten f
    (array (elements_from (us ++ t ∷ vs))) e
element_large f us vs t e (inl h) = inl h
element_large f us vs t e (inr h) = inr (h.0, λ s. h.1 (small_inside f us vs t s.1))

pub elements_large : (f : NumericForm) (us vs : List Tree) (t : Tree) (at : ℕ) (e : EncodeError) → at ≡ length (pieces (listed f [] us)) →
    e ≡ TooLarge
    → 2 ^ 28 ≤ length (pieces (listed f [] us)) + length (item f t at).piece → IsUnwritten f (array (elements_from (us ++ t ∷ vs))) e
elements_large f us vs t at e a h le = inr (h, λ s. let k = s.0.1 in let n = not_smaller f [] us vs t at a in omega arith)

-- why no object is
pub unkeyed : (f : NumericForm) (ps : Pairs) (e : EncodeError) → IsUnkeyed ps e → IsUnwritten f (object (members_from ps)) e
unkeyed f ps e (inl h) = inl h
unkeyed f ps e (inr h) = inr (
  h.0,
  λ s. elim h.1 [
    | inl many ↦ let k = s.0.0 in absurd (omega (arith, members_count ps))
    | inr long ↦
        let k : length (pieces (listed f (pair_keys ps) (map (λ p. p.1) ps))) < 2 ^ 28 =
        subst (λ (ys : List Item). length (pieces ys) < 2 ^ 28) (object_listed f ps) s.0.1 in
        absurd (omega (arith, listed_size f (pair_keys ps) (map (λ p. p.1) ps)))
  ],
)

pub member_large : (f : NumericForm) (ps : Pairs) (us vs : List Tree) (t : Tree) (e : EncodeError) → map (λ p. p.1) ps ≡ us ++ t ∷ vs →
    IsUnwritten f t e
    → IsUnwritten f (object (members_from ps)) e
member_large f ps us vs t e split (inl h) = inl h
member_large f ps us vs t e split (inr h) = inr (
  h.0,
  λ s. h.1 (small_inside f us vs t (subst (λ (ts : List Tree). ElementsAreSmall f (elements_from ts)) split (members_small f ps s.1))),
)

pub members_large : (f : NumericForm) (ps : Pairs) (us vs : List Tree) (t : Tree) (at : ℕ) (e : EncodeError) → map (λ p. p.1) ps ≡ us ++ t ∷ vs
    → at ≡ length (pieces (listed f (pair_keys ps) us)) → e ≡ TooLarge
    → 2 ^ 28 ≤ length (pieces (listed f (pair_keys ps) us)) + length (item f t at).piece → IsUnwritten f (object (members_from ps)) e
members_large f ps us vs t at e split a h le = inr (
  h,
  λ s.
      let k : length (pieces (listed f (pair_keys ps) (us ++ t ∷ vs))) < 2 ^ 28 =
      subst (λ (ts : List Tree). length (pieces (listed f (pair_keys ps) ts)) < 2 ^ 28) split
      (subst (λ (ys : List Item). length (pieces ys) < 2 ^ 28) (object_listed f ps) s.0.1) in
      let n = not_smaller f (pair_keys ps) us vs t at a in
      omega arith,
)

-- ---- one value

pub wrote_null : (f : NumericForm) (at : ℕ) (before : List ℕ) → IsWritten f (scalar null) at before before 4
unfolding item
wrote_null f at before = record { kind_is = refl; bytes = sym (append-nil before); small = tt; value = record { rise = tt; exact = tt } }

pub wrote_boolean : (f : NumericForm) (b : Bool) (at kind : ℕ) (before : List ℕ) → kind ≡ (if b then 3 else 2)
    → IsWritten f (scalar (boolean b)) at before before kind
unfolding item
wrote_boolean f b at kind before e = record { kind_is = sym e; bytes = sym (append-nil before); small = tt; value = record { rise = tt; exact = tt } }

pub tree-null : tree Null ≡ scalar null
tree-null = search (rules, the_lemmas)

pub tree-bool : (b : Bool) → tree (OfBool b) ≡ scalar (boolean b)
tree-bool b = search (rules, the_lemmas)

pub tree-string : (s : Text Global) → tree (OfString s) ≡ scalar (string (string_bytes s))
tree-string s = search (rules, the_lemmas)

pub tree-number : (w : Decimal) → tree (OfNumber w) ≡ scalar (number w)
tree-number w = search (rules, the_lemmas)

pub wrote_string : (f : NumericForm) (s : List ℕ) (at : ℕ) (before after : List ℕ) → after ≡ before ++ s → IsWritten f (scalar (string s))
    at before after 0
unfolding item
wrote_string f s at before after e = record { kind_is = refl; bytes = e; small = tt; value = record { rise = tt; exact = tt } }

pub wrote_array : (f : NumericForm) (ts : Elements) (at : ℕ) (before mid after : List ℕ) → mid ≡ before ++ padding at → IsWhole f (array ts) mid after
    → IsWritten f (array ts) at before after 5
unfolding item encoded
wrote_array f ts at before mid after e w = record {
  kind_is = refl;
  bytes = w.bytes ∙ ap (λ (xs : List ℕ). xs ++ encoded f (array ts)) e ∙ append_assoc before (padding at) (encoded f (array ts));
  small = w.small;
  value = w.value;
}

pub wrote_object : (f : NumericForm) (ms : Members) (at : ℕ) (before mid after : List ℕ) → mid ≡ before ++ padding at → IsWhole f
    (object ms) mid after
    → IsWritten f (object ms) at before after 5
unfolding item encoded
wrote_object f ms at before mid after e w = record {
  kind_is = refl;
  bytes = w.bytes ∙ ap (λ (xs : List ℕ). xs ++ encoded f (object ms)) e ∙ append_assoc before (padding at) (encoded f (object ms));
  small = w.small;
  value = w.value;
}

-- ---- the loops

pub listed_none : (f : NumericForm) (ks : List Item) → listed f ks [] ≡ ks
unfolding element_items
listed_none f ks = append-nil ks

pub listed_count : (f : NumericForm) (ks : List Item) (us : List Tree) → length (listed f ks us) ≡ length ks + length us
listed_count f ks us =
    omega (arith, length-append ks (element_items f (elements_from us) (length (pieces ks))), items_count f us (length (pieces ks)))

-- the values before a place, the one there, and those behind it
pub split_at : (vs : List Value) (i : ℕ) (v : Value) → i < length vs → v ≡ get_or vs i v
    → map tree vs ≡ map tree (take i vs) ++ tree v ∷ map tree (drop (suc i) vs)
split_at [] i v lt e = absurd (omega arith)
split_at (x ∷ vs) zero v lt e = ap (λ (w : Value). tree w ∷ map tree vs) (sym e)
split_at (x ∷ vs) (suc i) v lt e = ap (λ (ts : List Tree). tree x ∷ ts) (split_at vs i v (omega arith) e)

pub taken : (vs : List Value) (i : ℕ) (v : Value) → i < length vs → v ≡ get_or vs i v
    → map tree (take i vs) ++ tree v ∷ [] ≡ map tree (take (i + 1) vs)
taken vs i v lt e = go vs i v lt e ∙ ap (λ (n : ℕ). map tree (take n vs)) (let n : suc i ≡ i + 1 = omega arith in n)
  where
    go : (vs : List Value) (i : ℕ) (v : Value) → i < length vs → v ≡ get_or vs i v → map tree (take i vs) ++ tree v ∷ [] ≡ map tree (take (suc i) vs)
    go [] i v lt e = absurd (omega arith)
    go (x ∷ vs) zero v lt e = ap (λ (w : Value). tree w ∷ []) e
    go (x ∷ vs) (suc i) v lt e = ap (λ (ts : List Tree). tree x ∷ ts) (go vs i v (omega arith) e)

pub taken_count : (vs : List Value) (i : ℕ) → i ≤ length vs → length (map tree (take i vs)) ≡ i
taken_count vs zero le = refl
taken_count [] (suc i) le = absurd (omega arith)
taken_count (x ∷ vs) (suc i) le = ap (λ (n : ℕ). suc n) (taken_count vs i (omega arith))

pub taken_all : (vs : List Value) (i : ℕ) → length vs ≤ i → map tree (take i vs) ≡ map tree vs
taken_all [] zero le = refl
taken_all [] (suc i) le = refl
taken_all (x ∷ vs) zero le = absurd (omega arith)
taken_all (x ∷ vs) (suc i) le = ap (λ (ts : List Tree). tree x ∷ ts) (taken_all vs i (omega arith))

pub trees_count : (vs : List Value) → length (map tree vs) ≡ length vs
trees_count [] = refl
trees_count (x ∷ vs) = ap (λ (n : ℕ). suc n) (trees_count vs)

pub pair_keys_last : (done : Pairs) (p : List ℕ × Tree) → pair_keys done ++ key_item p.0 ∷ [] ≡ pair_keys (done ++ p ∷ [])
pair_keys_last [] p = refl
pair_keys_last (q ∷ done) p = ap (λ (ks : List Item). key_item q.0 ∷ ks) (pair_keys_last done p)

-- one key more
pub key_last : (done : Pairs) (p : List ℕ × Tree) (n m : ℕ) (base new piece : List ℕ) → piece ≡ p.0
    → IsOpen Object n m (pair_keys done ++ item_of 0 piece ∷ []) base new → IsOpen Object n m (pair_keys (done ++ p ∷ [])) base new
key_last done p n m base new piece e h =
    subst (λ (xs : List Item). IsOpen Object n m xs base new)
    (ap (λ (k : List ℕ). pair_keys done ++ item_of 0 k ∷ []) e ∙ pair_keys_last done p) h

pub keys_more : (ps qs : Pairs) → pair_keys (ps ++ qs) ≡ pair_keys ps ++ pair_keys qs
keys_more [] qs = refl
keys_more (p ∷ ps) qs = ap (λ (ks : List Item). key_item p.0 ∷ ks) (keys_more ps qs)

-- where the keys so far are too long, all are
pub keys_long : (done left ps : Pairs) (p : List ℕ × Tree) (piece : List ℕ) → ps ≡ done ++ p ∷ left → piece ≡ p.0
    → 2 ^ 28 ≤ length (pieces (pair_keys done)) + length piece → 2 ^ 28 ≤ length (pieces (pair_keys ps))
keys_long done left ps p piece split e le =
    let a = ap (λ (qs : Pairs). length (pieces (pair_keys qs))) split in
    let b = ap (λ (xs : List Item). length (pieces xs)) (keys_more done (p ∷ left)) in
    let c = ap length (pieces_more (pair_keys done) (pair_keys (p ∷ left))) in
    let d = length-append (pieces (pair_keys done)) (pieces (pair_keys (p ∷ left))) in
    let g = length-append p.0 (pieces (pair_keys left)) in
    let h = ap length e in
    omega arith

-- no value is written yet
pub begin_values : (f : NumericForm) (ps : Pairs) (n : ℕ) (base mid : List ℕ) → n ≡ length ps → Keyed ps base mid
    → IsOpen Object n (2 * n) (listed f (pair_keys ps) []) base mid
begin_values f ps n base mid e k =
    subst (λ (xs : List Item). IsOpen Object n (2 * n) xs base mid) (sym (listed_none f (pair_keys ps)))
    (subst (λ (m : ℕ). IsOpen Object m (2 * m) (pair_keys ps) base mid) (sym e) k.open_is)

-- one item more
pub next_item : (f : NumericForm) (ks : List Item) (us : List Tree) (t : Tree) (g : Form) (n m at kind : ℕ) (base mid old new : List ℕ)
    → at ≡ length (pieces (listed f ks us)) → IsWritten f t at mid old kind
    → IsOpen g n m (listed f ks us ++ item_of kind (item f t at).piece ∷ []) base new → IsOpen g n m (listed f ks (us ++ t ∷ [])) base new
next_item f ks us t g n m at kind base mid old new e w h =
    subst (λ (xs : List Item). IsOpen g n m xs base new) (listed_last f ks us t at kind e w.kind_is) h

pub next_good : (f : NumericForm) (us : List Tree) (t : Tree) (at kind : ℕ) (mid old : List ℕ) → AreGood f (elements_from us) → IsWritten f
    t at mid old kind
    → AreGood f (elements_from (us ++ t ∷ []))
next_good f us t at kind mid old g w = good_last f us t g w.small w.value

-- where the next item is to be
pub place_is : (f : NumericForm) (ks : List Item) (us : List Tree) (g : Form) (n m payload : ℕ) (base mid : List ℕ) → length ks + length us ≤ m
    → IsOpen g n m (listed f ks us) base mid → payload ≡ length base + 4 * m + 4
    → (payload ≤ length mid) × (length mid - payload ≡ length (pieces (listed f ks us)))
place_is f ks us g n m payload base mid le h e =
    let l = open_length g n m (listed f ks us) base mid (omega (arith, listed_count f ks us)) h in
    (omega arith, omega arith)

pub pairs_next : (done before left ps : Pairs) (p : List ℕ × Tree) → ps ≡ done ++ before → before ≡ p ∷ left → ps ≡ (done ++ p ∷ []) ++ left
pairs_next done before left ps p e h = e ∙ ap (λ (qs : Pairs). done ++ qs) h ∙ sym (append_assoc done (p ∷ []) left)

-- the trees of pairs, split at one
pub pairs_split : (done before left ps : Pairs) (p : List ℕ × Tree) → ps ≡ done ++ before → before ≡ p ∷ left
    → map (λ p. p.1) ps ≡ map (λ p. p.1) done ++ p.1 ∷ map (λ p. p.1) left
pairs_split done before left ps p e h =
    ap (λ (qs : Pairs). map {A = List ℕ × Tree} {B = Tree} (λ p. p.1) qs) (e ∙ ap (λ (qs : Pairs). done ++ qs) h) ∙ pairs_more done (p ∷ left)

pub done_count : (done before left ps : Pairs) (p : List ℕ × Tree) → ps ≡ done ++ before → before ≡ p ∷ left → suc (length done) ≤ length ps
done_count done before left ps p e h =
    let a = ap length e in
    let b = ap length h in
    omega (arith, length-append done before)
