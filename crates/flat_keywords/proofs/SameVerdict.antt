-- Documents that are equal by JSON equality have one verdict: what one of them meets, the other meets, as 1 and 1.0 do.
use Rattle.std.proofs.Common.{◌≡◌, inl, inr, ℕ, suc, ◌^◌, List, [], ◌∷◌, length, Bool, true, false, Option, Some, None, refl, sym, subst, ap, ◌∙◌, ℤ, pos}
use Rattle.std.specs.Prelude.{◌↔◌, ◌*ℤ◌, ◌<ℤ◌, IfSome, IsSome, IsSomeAnd, bytes_eq, if◌then◌else◌, option_map}
use Rattle.std.specs.List.{AllByRecursion}
use Rattle.std.proofs.lemmas.Bool.{false≢true}
use Rattle.std.proofs.lemmas.Option.{IfSome_then}
use Rattle.std.proofs.lemmas.Slice.Eq.{bytes_eq-Decides}
use Rattle.json_exact.proofs.SignLaws.{cancel, turn}
use Rattle.json_exact.proofs.WrittenOrderLaws.{down, up}
use Rattle.json_exact.specs.inner.DecimalInverseLaws.{ten_pos}
use Rattle.json_model.specs.Decimal.{Decimal, IsBelow, IsSameValue, IsWhole}
use Rattle.json_model.specs.Parts.{as_number, as_string, elements_of, lookup, pairs_in, pairs_of, points, trees_in}
use Rattle.json_model.specs.Rising.{KeysRise, KeysRiseInElements, KeysRiseInMembers}
use Rattle.json_model.specs.Same.{Same, SameElements, SameMembers}
use Rattle.json_model.specs.Tree.{null, boolean, number, string, Tree, scalar, array, object, Elements, no_elements, element, Members, no_members, member}
use Rattle.json_semantics.proofs.EquivalenceLaws.{same_chain, same_turned, same_value_chain}
use Rattle.json_traits.specs.Allowed.{IsInteger, IsOfType}
use Rattle.json_traits.specs.Kinds.{type_of}
use Rattle.json_traits.specs.declared.types.json_type.JsonType.{JsonType}
use Rattle.flat_keywords.proofs.KeywordNames.{never_written}
use Rattle.flat_keywords.proofs.UniqueLaws.{unique_on}
use Rattle.flat_keywords.specs.Names.{keyword_of}
use Rattle.flat_keywords.specs.Patterns.{Finds}
use Rattle.flat_keywords.specs.Verdict.{Holds, HoldsAt, IsKeyOf, IsOneOf, IsUpTo, Reaches, Verdict, count_of}
use Rattle.flat_keywords.specs.declared.keyword.Keyword.{Keyword}
use Rattle.flat_keywords.specs.declared.keyword.Keyword.TheVariants.{«Type», Enum, Const, Bound, Least, Greatest, Pattern, Required, UniqueItems, Silent, WrittenType}
use Rattle.flat_keywords.specs.declared.keyword.Measure.{Measure}
use Rattle.flat_keywords.specs.declared.keyword.Measure.TheVariants as counted_as
use Rattle.json_semantics.specs.Bounds.{Keeps}
use Rattle.json_semantics.specs.declared.numeric_check.BoundOp.{BoundOp}
use Rattle.json_semantics.specs.declared.numeric_check.BoundOp.TheVariants.{Lt, Lte, Gt, Gte}

-- ---- numbers of one value

-- what x is below, y is below
below_on : (m x y : Decimal) → IsSameValue x y → IsBelow x m → IsBelow y m
below_on m x y s h =
    let p = 10 ^ m.places in
    let q = 10 ^ x.places in
    let r = 10 ^ y.places in
    let left : (x.digits *ℤ pos p) *ℤ pos r ≡ (y.digits *ℤ pos p) *ℤ pos q = turn x.digits p r ∙ ap (λ (z : ℤ). z *ℤ pos p) s ∙ turn y.digits q p in
    let right : (m.digits *ℤ pos q) *ℤ pos r ≡ (m.digits *ℤ pos r) *ℤ pos q = turn m.digits q r in
    down (y.digits *ℤ pos p) (m.digits *ℤ pos r) q (ten_pos x.places)
    (subst (λ (z : ℤ). z <ℤ ((m.digits *ℤ pos r) *ℤ pos q)) left (subst (λ (z : ℤ). ((x.digits *ℤ pos p) *ℤ pos r) <ℤ z) right
    (up (x.digits *ℤ pos p) (m.digits *ℤ pos q) r (ten_pos y.places) h)))

-- what is below x is below y
above_on : (m x y : Decimal) → IsSameValue x y → IsBelow m x → IsBelow m y
above_on m x y s h =
    let p = 10 ^ m.places in
    let q = 10 ^ x.places in
    let r = 10 ^ y.places in
    let left : (m.digits *ℤ pos q) *ℤ pos r ≡ (m.digits *ℤ pos r) *ℤ pos q = turn m.digits q r in
    let right : (x.digits *ℤ pos p) *ℤ pos r ≡ (y.digits *ℤ pos p) *ℤ pos q = turn x.digits p r ∙ ap (λ (z : ℤ). z *ℤ pos p) s ∙ turn y.digits q p in
    down (m.digits *ℤ pos r) (y.digits *ℤ pos p) q (ten_pos x.places)
    (subst (λ (z : ℤ). z <ℤ ((y.digits *ℤ pos p) *ℤ pos q)) left (subst (λ (z : ℤ). ((m.digits *ℤ pos q) *ℤ pos r) <ℤ z) right
    (up (m.digits *ℤ pos q) (x.digits *ℤ pos p) r (ten_pos y.places) h)))

-- what x equals, y equals
same_on : (m x y : Decimal) → IsSameValue x y → IsSameValue x m → IsSameValue y m
same_on m x y s h = same_value_chain y x m (sym s) h

-- where x is whole, y is
whole_on : (x y : Decimal) → IsSameValue x y → IsWhole x → IsWhole y
whole_on x y s h = (
  h.0,
  cancel y.digits (h.0 *ℤ pos (10 ^ y.places)) (10 ^ x.places) (ten_pos x.places)
      (sym s ∙ ap (λ (z : ℤ). z *ℤ pos (10 ^ y.places)) h.1 ∙ turn h.0 (10 ^ x.places) (10 ^ y.places)),
)

-- ---- trees that are the same

-- what holds of two trees of one kind with the same content holds of two trees that are the same
module _ (P : Tree → Tree → Type 0) where
  by_kind : P (scalar null) (scalar null) → ((a b : Bool) → a ≡ b → P (scalar (boolean a)) (scalar (boolean b)))
      → ((x y : Decimal) → IsSameValue x y → P (scalar (number x)) (scalar (number y)))
      → ((a b : List ℕ) → a ≡ b → P (scalar (string a)) (scalar (string b)))
      → ((ts us : Elements) → SameElements ts us → P (array ts) (array us))
      → ((ms ns : Members) → length (pairs_in ms) ≡ length (pairs_in ns) → SameMembers ms ns → P (object ms) (object ns))
      → (d e : Tree) → Same d e → P d e
  by_kind z b n t l o (scalar null) (scalar null) s = z
  by_kind z b n t l o (scalar null) (scalar (boolean y)) s = absurd s
  by_kind z b n t l o (scalar null) (scalar (number y)) s = absurd s
  by_kind z b n t l o (scalar null) (scalar (string y)) s = absurd s
  by_kind z b n t l o (scalar (boolean x)) (scalar null) s = absurd s
  by_kind z b n t l o (scalar (boolean x)) (scalar (boolean y)) s = b x y s
  by_kind z b n t l o (scalar (boolean x)) (scalar (number y)) s = absurd s
  by_kind z b n t l o (scalar (boolean x)) (scalar (string y)) s = absurd s
  by_kind z b n t l o (scalar (number x)) (scalar null) s = absurd s
  by_kind z b n t l o (scalar (number x)) (scalar (boolean y)) s = absurd s
  by_kind z b n t l o (scalar (number x)) (scalar (number y)) s = n x y s
  by_kind z b n t l o (scalar (number x)) (scalar (string y)) s = absurd s
  by_kind z b n t l o (scalar (string x)) (scalar null) s = absurd s
  by_kind z b n t l o (scalar (string x)) (scalar (boolean y)) s = absurd s
  by_kind z b n t l o (scalar (string x)) (scalar (number y)) s = absurd s
  by_kind z b n t l o (scalar (string x)) (scalar (string y)) s = t x y s
  by_kind z b n t l o (scalar x) (array us) s = absurd s
  by_kind z b n t l o (scalar x) (object ns) s = absurd s
  by_kind z b n t l o (array ts) (scalar y) s = absurd s
  by_kind z b n t l o (array ts) (array us) s = l ts us s
  by_kind z b n t l o (array ts) (object ns) s = absurd s
  by_kind z b n t l o (object ms) (scalar y) s = absurd s
  by_kind z b n t l o (object ms) (array us) s = absurd s
  by_kind z b n t l o (object ms) (object ns) s = o ms ns s.0 s.1

one_type : (d e : Tree) → Same d e → type_of d ≡ type_of e
one_type = by_kind (λ d e. type_of d ≡ type_of e) refl (λ a b s. refl) (λ x y s. refl) (λ a b s. refl) (λ ts us s. refl) (λ ms ns n s. refl)

one_string : (d e : Tree) → Same d e → as_string d ≡ as_string e
one_string =
    by_kind (λ d e. as_string d ≡ as_string e) refl (λ a b s. refl) (λ x y s. refl)
    (λ a b s. ap (λ (t : List ℕ). let o : Option (List ℕ) = Some t in o) s) (λ ts us s. refl) (λ ms ns n s. refl)

-- there are as many elements
as_many : (ts us : Elements) → SameElements ts us → length (trees_in ts) ≡ length (trees_in us)
as_many no_elements no_elements s = refl
as_many no_elements (element u us) s = absurd s
as_many (element t ts) no_elements s = absurd s
as_many (element t ts) (element u us) s = ap suc (as_many ts us s.1)

abbrev counted : ℕ → Option ℕ
counted n = Some n

-- and as many of whatever is counted
one_count : (measure : Measure) (d e : Tree) → Same d e → count_of measure d ≡ count_of measure e
one_count counted_as.CodePoints d e s =
    ap (λ (o : Option (List ℕ)). option_map (λ (t : List ℕ). length (points t)) o) (one_string d e s)
one_count counted_as.Elements d e s = by_kind (λ d e. count_of counted_as.Elements d ≡ count_of counted_as.Elements e)
    refl (λ a b s. refl) (λ x y s. refl) (λ a b s. refl) (λ ts us s. ap counted (as_many ts us s)) (λ ms ns n s. refl) d e s
one_count counted_as.Members d e s = by_kind (λ d e. count_of counted_as.Members d ≡ count_of counted_as.Members e)
    refl (λ a b s. refl) (λ x y s. refl) (λ a b s. refl) (λ ts us s. refl) (λ ms ns n s. ap counted n) d e s

-- the same as a whole number is a whole number
integer_on : (d e : Tree) → Same d e → IsInteger d → IsInteger e
integer_on =
    by_kind (λ d e. IsInteger d → IsInteger e) (λ h. h) (λ a b s h. h) (λ x y s h. (refl, whole_on x y s h.1)) (λ a b s h. h)
    (λ ts us s h. h) (λ ms ns n s h. h)

-- and of the same types
type_on : (d e : Tree) (t : JsonType) → Same d e → IsOfType d t → IsOfType e t
type_on d e t s (inl h) = inl (h ∙ one_type d e s)
type_on d e t s (inr h) = inr (h.0, integer_on d e s h.1)

-- ---- members

-- what is found with P is found
some_of : (o : Option Tree) (P : Tree → Type 0) → IsSomeAnd o P → IsSome o
some_of None P h = absurd h
some_of (Some t) P h = refl

-- a key of the first is a key of the second
found_on : (k : List ℕ) (ms ns : Members) → SameMembers ms ns → IsSome (lookup k (pairs_in ms)) → IsSome (lookup k (pairs_in ns))
found_on k no_members ns s h = absurd (false≢true h)
found_on k (member l t ms) ns s h = go (bytes_eq k l) refl h (found_on k ms ns s.1)
  where
    first : k ≡ l → IsSome (lookup k (pairs_in ns))
    first e = subst (λ (j : List ℕ). IsSome (lookup j (pairs_in ns))) (sym e) (some_of (lookup l (pairs_in ns)) (λ u. Same t u) s.0)

    go : (b : Bool) → bytes_eq k l ≡ b → IsSome (if b then Some t else lookup k (pairs_in ms))
        → (IsSome (lookup k (pairs_in ms)) → IsSome (lookup k (pairs_in ns))) → IsSome (lookup k (pairs_in ns))
    go true e h f = first ((bytes_eq-Decides k l).0 e)
    go false e h f = f h

-- what follows for each follows for all
all_on : (P Q : Tree → Type 0) → ((v : Tree) → P v → Q v) → (vs : List Tree) → AllByRecursion P vs → AllByRecursion Q vs
all_on P Q f [] h = tt
all_on P Q f (v ∷ vs) h = (f v h.0, all_on P Q f vs h.1)

-- the required keys of the first are keys of the second
required_on : (v d e : Tree) → Same d e → Holds Required v d → Holds Required v e
required_on v = by_kind (λ d e. Holds Required v d → Holds Required v e) (λ h. h) (λ a b s h. h) (λ x y s h. h) (λ a b s h. h) (λ ts us s h. h)
    (λ ms ns n s h. all_on (IsKeyOf (pairs_in ms)) (IsKeyOf (pairs_in ns))
    (λ u g. IfSome_then (as_string u) g (λ k f. found_on k ms ns s f)) (elements_of v) h)

-- ---- each keyword

-- what passes from a number to each of its value passes from the number of one tree to that of the other
bound_on : (R : Decimal → Decimal → Type 0) → ((m x y : Decimal) → IsSameValue x y → R m x → R m y) → (v d e : Tree) → Same d e
    → IfSome (as_number v) (λ m. IfSome (as_number d) (R m)) → IfSome (as_number v) (λ m. IfSome (as_number e) (R m))
bound_on R f v d e s h = IfSome_then (as_number v) h
    (λ m. by_kind (λ d e. IfSome (as_number d) (R m) → IfSome (as_number e) (R m)) (λ g. g) (λ a b s g. g)
    (λ x y s g. f m x y s g) (λ a b s g. g) (λ ts us s g. g) (λ ms ns n s g. g) d e s)

-- what holds of a count holds of an equal count
limit_on : (R : Decimal → ℕ → Type 0) (v : Tree) (o p : Option ℕ) → o ≡ p → IfSome (as_number v) (λ m. IfSome o (R m))
    → IfSome (as_number v) (λ m. IfSome p (R m))
limit_on R v o p e h = subst (λ (q : Option ℕ). IfSome (as_number v) (λ m. IfSome q (R m))) e h

-- a number stands to a limit as each number of its value does
keeps_on : (op : BoundOp) (m x y : Decimal) → IsSameValue x y → Keeps op x m → Keeps op y m
keeps_on Lt m x y s h = below_on m x y s h
keeps_on Lte m x y s (inl h) = inl (below_on m x y s h)
keeps_on Lte m x y s (inr h) = inr (same_on m x y s h)
keeps_on Gt m x y s h = above_on m x y s h
keeps_on Gte m x y s (inl h) = inl (above_on m x y s h)
keeps_on Gte m x y s (inr h) = inr (sym (same_on m x y s (sym h)))

-- ---- values

-- the keys in each element rise, where they rise in the array
in_elements : (ts : Elements) → KeysRiseInElements ts → AllByRecursion KeysRise (trees_in ts)
in_elements no_elements h = tt
in_elements (element t ts) h = (h.0, in_elements ts h.1)

elements_rise : (v : Tree) → KeysRise v → AllByRecursion KeysRise (elements_of v)
elements_rise (scalar x) h = tt
elements_rise (array ts) h = in_elements ts h
elements_rise (object ms) h = tt

abbrev ValueRises : List ℕ × Tree → Type 0
ValueRises p = KeysRise p.1

-- and in each member's value, where they rise in the object
in_members : (ms : Members) → KeysRiseInMembers ms → AllByRecursion ValueRises (pairs_in ms)
in_members no_members h = tt
in_members (member k t ms) h = (h.0, in_members ms h.1)

members_rise : (k : Tree) → KeysRise k → AllByRecursion ValueRises (pairs_of k)
members_rise (scalar x) h = tt
members_rise (array ts) h = tt
members_rise (object ms) h = in_members ms h.1

-- ---- two equal trees

module _ (d e : Tree) (f : KeysRise d) (g : KeysRise e) (s : Same d e) where
  -- what d is equal to, e is equal to
  equal_on : (v : Tree) → KeysRise v → Same d v → Same e v
  equal_on v r h = same_chain e d v g f r (same_turned d e f g s) h

  one_of_on : (vs : List Tree) → AllByRecursion KeysRise vs → IsOneOf d vs → IsOneOf e vs
  one_of_on [] r h = h
  one_of_on (v ∷ vs) r (inl h) = inl (equal_on v r.0 h)
  one_of_on (v ∷ vs) r (inr h) = inr (one_of_on vs r.1 h)

  -- a keyword that d meets, e meets, but for draft 4's `type`
  holds_on : (w : Keyword) (v : Tree) → KeysRise v → (w ≡ WrittenType → ⊥) → Holds w v d → Holds w v e
  holds_on «Type» v r other h = (h.0, h.1, type_on d e h.0 s h.2)
  holds_on Enum v r other h = one_of_on (elements_of v) (elements_rise v r) h
  holds_on Const v r other h = equal_on v r h
  holds_on (Bound op) v r other h = bound_on (λ m x. Keeps op x m) (keeps_on op) v d e s h
  holds_on (Least measure) v r other h = limit_on Reaches v (count_of measure d) (count_of measure e) (one_count measure d e s) h
  holds_on (Greatest measure) v r other h = limit_on IsUpTo v (count_of measure d) (count_of measure e) (one_count measure d e s) h
  holds_on Pattern v r other h = subst (λ (o : Option (List ℕ)). IfSome (as_string v) (λ p. IfSome o (Finds p))) (one_string d e s) h
  holds_on UniqueItems v r other h = λ asks. unique_on d e f g s (h asks)
  holds_on Required v r other h = required_on v d e s h
  holds_on (Silent form) v r other h = h
  holds_on WrittenType v r other h = absurd (other refl)

  -- what d meets, e meets, in whatever order their members stand
  verdict_on : (ps : List (List ℕ × Tree)) → AllByRecursion ValueRises ps → AllByRecursion (HoldsAt d) ps → AllByRecursion (HoldsAt e) ps
  verdict_on [] r h = tt
  verdict_on (p ∷ ps) r h = (at_pair (keyword_of p.0) refl h.0, verdict_on ps r.1 h.1)
    where
      at_pair : (o : Option Keyword) → keyword_of p.0 ≡ o → IfSome o (λ w. Holds w p.1 d) → IfSome o (λ w. Holds w p.1 e)
      at_pair None is k = tt
      at_pair (Some w) is k = holds_on w p.1 r.0 (λ same. never_written p.0 (is ∙ ap (λ (u : Keyword). let o : Option Keyword = Some u in o) same)) k

-- the other way needs keys that rise: {"a": 1, "a": 1} is the same as {"a": 1, "b": 1} and has no b
pub same_verdict : (k d e : Tree) → KeysRise k → KeysRise d → KeysRise e → Same d e → Verdict k d ↔ Verdict k e
same_verdict k d e r f g s = (
  verdict_on d e f g s (pairs_of k) (members_rise k r),
  verdict_on e d g f (same_turned d e f g s) (pairs_of k) (members_rise k r),
)
