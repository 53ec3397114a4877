-- A walk over a tree ends in one way alone: so a tree has at most one fault as a schema.
use Rattle.std.proofs.Common.{◌≡◌, ◌+◌, ℕ, List, Option, Some, None, refl, sym, ap, subst, ◌∙◌}
use Rattle.std.specs.Prelude.{Err, ⊤, IsSomeAnd}
use Rattle.json_model.specs.Tree.{Tree, null, boolean, number, string, scalar, array, object, Elements, no_elements, element, Members, no_members, member}
use Rattle.flat_keywords.proofs.Answering.{err_is}
use Rattle.flat_keywords.proofs.OneAnswer.{one_on_trees}
use Rattle.flat_keywords.specs.Names.{keyword_of}
use Rattle.flat_keywords.specs.Validity as flat
use Rattle.flat_keywords.specs.declared.draft.Draft.TheVariants as drafts
use Rattle.flat_keywords.specs.declared.errors.KeywordError.{KeywordError}
use Rattle.flat_keywords.specs.declared.errors.KeywordError.TheVariants as keyword
use Rattle.judge_tree.specs.Applicators.{Lines, applicator_of, line_of}
use Rattle.flat_keywords.specs.Validity.{IsBad, IsBadPattern, IsNotLiteral, IsUnknown}
use Rattle.judge_tree.specs.Walks.{Outcome, went, stopped, Continues, FlatFault, Walks, WalksEach, WalksElements, WalksFlat, WalksList, WalksProperties, WalksValues}
use Rattle.judge_tree.specs.inner.Built.{flat_error}
use Rattle.judge_tree.specs.declared.applicator.Applicator.{Applicator}
use Rattle.judge_tree.specs.declared.applicator.Applicator.TheVariants.{Properties, AdditionalProperties, Items, AllOf, AnyOf, Not}
use Rattle.judge_tree.specs.declared.errors.SchemaError.{SchemaError}
use Rattle.judge_tree.specs.declared.errors.SchemaError.TheVariants.{SchemaTooDeep, NotASchema, UnknownKeyword, BadKeyword, BadPattern, PatternNotLiteral, OutOfMemory}

-- ---- flat members

abbrev single : List ℕ × Tree → Tree
single p = object (member p.0 p.1 no_members)

-- the fault of the member as that of a keyword object which has it alone
abbrev kind : SchemaError → KeywordError
kind SchemaTooDeep = keyword.OutOfMemory
kind (NotASchema i) = keyword.OutOfMemory
kind (UnknownKeyword i j) = keyword.UnknownKeyword 0
kind (BadKeyword i j) = keyword.BadKeyword 0
kind (BadPattern i j) = keyword.BadPattern 0
kind (PatternNotLiteral i j) = keyword.PatternNotLiteral 0
kind OutOfMemory = keyword.OutOfMemory

first : (p : List ℕ × Tree) (P : List ℕ × Tree → Type 0) → P p → flat.IsFirst (single p) 0 P
first p P h = record { object = refl; before = tt; here = h }

has_kind : (n m : ℕ) (p : List ℕ × Tree) (e : SchemaError) → FlatFault n m p e → flat.HasFaultBy drafts.Draft2020 (single p) (Some (kind e))
has_kind n m p SchemaTooDeep h = absurd h
has_kind n m p (NotASchema i) h = absurd h
has_kind n m p (UnknownKeyword i j) h = first p IsUnknown h.2
has_kind n m p (BadKeyword i j) h = first p IsBad h.2
has_kind n m p (BadPattern i j) h = first p IsBadPattern h.2
has_kind n m p (PatternNotLiteral i j) h = first p IsNotLiteral h.2
has_kind n m p OutOfMemory h = absurd h

by_kind : (n m : ℕ) (p : List ℕ × Tree) (e : SchemaError) → FlatFault n m p e → e ≡ flat_error n m (kind e)
by_kind n m p SchemaTooDeep h = absurd h
by_kind n m p (NotASchema i) h = absurd h
by_kind n m p (UnknownKeyword i j) h = let a = h.0 in let b = h.1 in cc
by_kind n m p (BadKeyword i j) h = let a = h.0 in let b = h.1 in cc
by_kind n m p (BadPattern i j) h = let a = h.0 in let b = h.1 in cc
by_kind n m p (PatternNotLiteral i j) h = let a = h.0 in let b = h.1 in cc
by_kind n m p OutOfMemory h = absurd h

both : {A : Type 0} (o : Option A) (P Q : A → Type 0) → ((a : A) → P a → Q a → ⊥) → IsSomeAnd o P → IsSomeAnd o Q → ⊥
both None P Q never h k = h
both (Some a) P Q never h k = never a h k

none_there : {A : Type 0} (o : Option A) (P : A → Type 0) → o ≡ None → IsSomeAnd o P → ⊥
none_there None P e h = h
none_there (Some a) P e h = cc

-- a member with no fault has none
fair_alone : (n m : ℕ) (p : List ℕ × Tree) (e : SchemaError) → flat.IsFair p → FlatFault n m p e → ⊥
fair_alone n m p SchemaTooDeep f h = h
fair_alone n m p (NotASchema i) f h = h
fair_alone n m p (UnknownKeyword i j) f h = none_there (keyword_of p.0) (λ w. flat.Suits w p.1 × ⊤) h.2 f
fair_alone n m p (BadKeyword i j) f h =
    both (keyword_of p.0) (λ w. flat.Suits w p.1 × ⊤) (λ w. (flat.HasForm w p.1 × ⊤ → ⊥)) (λ w s b. b (s.0.form, s.1)) f h.2
fair_alone n m p (BadPattern i j) f h = both (keyword_of p.0) (λ w. flat.Suits w p.1 × ⊤) (λ w. flat.IsNoPattern w p.1) (λ w s b. s.0.pattern b) f h.2
fair_alone n m p (PatternNotLiteral i j) f h =
    both (keyword_of p.0) (λ w. flat.Suits w p.1 × ⊤) (λ w. flat.NeedsEngine w p.1) (λ w s b. s.0.literal b) f h.2
fair_alone n m p OutOfMemory f h = h

flat_once : (n m i : ℕ) (p : List ℕ × Tree) (w v : Outcome) → WalksFlat n m i p w → WalksFlat n m i p v → w ≡ v
flat_once n m i p (went a) (went b) h k = ap went (h.1 ∙ sym k.1)
flat_once n m i p (went a) (stopped f) h k = absurd (fair_alone n m p f h.0 k)
flat_once n m i p (stopped e) (went b) h k = absurd (fair_alone n m p e k.0 h)
flat_once n m i p (stopped e) (stopped f) h k =
    let same = err_is (kind e) (kind f) (one_on_trees (single p) (single p) (Err (kind e)) (Err (kind f)) (has_kind n m p e h)
    (has_kind n m p f k)) in
    ap stopped (by_kind n m p e h ∙ ap (flat_error n m) same ∙ sym (by_kind n m p f k))

-- ---- members and schemas

-- what follows of each line of two follows of the lines of a name
two_lines : (a : Option Applicator) (l m : Lines) (Q : Type 0) → (l.flat → m.flat → Q) → (l.properties → m.properties → Q)
    → (l.others → m.others → Q) → (l.items → m.items → Q) → (l.all → m.all → Q) → (l.any → m.any → Q) → (l.negated → m.negated → Q)
    → line_of a l → line_of a m → Q
two_lines None l m Q f p o i a b n x y = f x y
two_lines (Some Properties) l m Q f p o i a b n x y = p x y
two_lines (Some AdditionalProperties) l m Q f p o i a b n x y = o x y
two_lines (Some Items) l m Q f p o i a b n x y = i x y
two_lines (Some AllOf) l m Q f p o i a b n x y = a x y
two_lines (Some AnyOf) l m Q f p o i a b n x y = b x y
two_lines (Some Not) l m Q f p o i a b n x y = n x y

abbrev lines : ℕ → ℕ → ℕ → List ℕ → Tree → Outcome → Lines
lines n m i k v w = record {
  flat = WalksFlat n m i (k, v) w;
  properties = WalksProperties v n m i w;
  others = Walks v i w;
  items = Walks v i w;
  all = WalksList v n m i w;
  any = WalksList v n m i w;
  negated = Walks v i w;
}

-- a step that ends in one way, and then the rest, which does
then_once : (on : ℕ → Outcome → Type 0) (w v o q : Outcome) → w ≡ v → ((j : ℕ) → on j o → on j q → o ≡ q)
    → Continues w (λ j. on j o) o → Continues v (λ j. on j q) q → o ≡ q
then_once on w v o q same once h k = go w h (subst (λ (u : Outcome). Continues u (λ j. on j q) q) (sym same) k)
  where
    go : (w : Outcome) → Continues w (λ j. on j o) o → Continues w (λ j. on j q) q → o ≡ q
    go (went j) h k = once j h k
    go (stopped e) h k = h ∙ sym k

mutual
  pub walks_once : (t : Tree) (n : ℕ) (o q : Outcome) → Walks t n o → Walks t n q → o ≡ q
  walks_once (scalar null) n o q h k = h ∙ sym k
  walks_once (scalar (boolean b)) n o q h k = h ∙ sym k
  walks_once (scalar (number x)) n o q h k = h ∙ sym k
  walks_once (scalar (string s)) n o q h k = h ∙ sym k
  walks_once (array ts) n o q h k = h ∙ sym k
  walks_once (object ms) n o q h k = each_once ms n 0 (n + 1) o q h k

  each_once : (ms : Members) (n m i : ℕ) (o q : Outcome) → WalksEach ms n m i o → WalksEach ms n m i q → o ≡ q
  each_once no_members n m i o q h k = h ∙ sym k
  each_once (member name v ms) n m i o q h k =
      let same = two_lines (applicator_of name) (lines n m i name v h.0) (lines n m i name v k.0) (h.0 ≡ k.0)
      (flat_once n m i (name, v) h.0 k.0) (properties_once v n m i h.0 k.0) (walks_once v i h.0 k.0) (walks_once v i h.0 k.0)
      (list_once v n m i h.0 k.0) (list_once v n m i h.0 k.0) (walks_once v i h.0 k.0) h.1 k.1 in
      then_once (WalksEach ms n (m + 1)) h.0 k.0 o q same (λ j. each_once ms n (m + 1) j o q) h.2 k.2

  properties_once : (v : Tree) (n m i : ℕ) (o q : Outcome) → WalksProperties v n m i o → WalksProperties v n m i q → o ≡ q
  properties_once (scalar s) n m i o q h k = h ∙ sym k
  properties_once (array ts) n m i o q h k = h ∙ sym k
  properties_once (object us) n m i o q h k = values_once us i o q h k

  values_once : (us : Members) (i : ℕ) (o q : Outcome) → WalksValues us i o → WalksValues us i q → o ≡ q
  values_once no_members i o q h k = h ∙ sym k
  values_once (member name u us) i o q h k =
      then_once (WalksValues us) h.0 k.0 o q (walks_once u i h.0 k.0 h.1 k.1) (λ j. values_once us j o q) h.2 k.2

  list_once : (v : Tree) (n m i : ℕ) (o q : Outcome) → WalksList v n m i o → WalksList v n m i q → o ≡ q
  list_once (scalar s) n m i o q h k = h ∙ sym k
  list_once (array no_elements) n m i o q h k = h ∙ sym k
  list_once (array (element u us)) n m i o q h k =
      then_once (WalksElements us) h.0 k.0 o q (walks_once u i h.0 k.0 h.1 k.1) (λ j. elements_once us j o q) h.2 k.2
  list_once (object ms) n m i o q h k = h ∙ sym k

  elements_once : (us : Elements) (i : ℕ) (o q : Outcome) → WalksElements us i o → WalksElements us i q → o ≡ q
  elements_once no_elements i o q h k = h ∙ sym k
  elements_once (element u us) i o q h k =
      then_once (WalksElements us) h.0 k.0 o q (walks_once u i h.0 k.0 h.1 k.1) (λ j. elements_once us j o q) h.2 k.2
