-- What a schema is, and the first fault of what is none: JSON Schema Core 2020-12, section 4.3, for schemas and their truth values,
-- and the 2020-12 meta-schemas for the forms of `properties`, `allOf` and `anyOf`. That the first fault in key order counts, and how
-- schemas are numbered, is this project's own: the root has the number 0, and each schema in it the number one above that of the
-- schema that was entered last, where the members of a schema are taken in key order, and the schemas in a member one after the
-- other, each whole before the next.
use Rattle.std.specs.Prelude.{ℕ, ◌+◌, ◌≡◌, List}
use Rattle.json_model.specs.Tree.{null, boolean, number, string, Tree, scalar, array, object, Elements, no_elements, element, Members, no_members, member}
use Rattle.flat_keywords.specs.Validity.{IsBad, IsBadPattern, IsFair, IsNotLiteral, IsUnknown}
use Rattle.judge_tree.specs.Applicators.{applicator_of, line_of}
use Rattle.judge_tree.specs.declared.errors.SchemaError.{SchemaError}
use Rattle.judge_tree.specs.declared.errors.SchemaError.TheVariants.{SchemaTooDeep, NotASchema, UnknownKeyword, BadKeyword, BadPattern, PatternNotLiteral, OutOfMemory}

-- how a walk ends: without a fault, with the number that the next schema would have, or with the first fault
pub data Outcome : Type 0 where
  went : ℕ → Outcome
  stopped : SchemaError → Outcome

-- after a walk that ended as w, the rest goes on from the number of the next schema; or the fault stays
abbrev pub Continues : Outcome → (ℕ → Type 0) → Outcome → Type 0
Continues (went i) on o = on i
Continues (stopped e) on o = o ≡ stopped e

-- the fault of the flat member p, which is member number m of schema number n
abbrev pub FlatFault : ℕ → ℕ → List ℕ × Tree → SchemaError → Type 0
FlatFault n m p SchemaTooDeep = ⊥
FlatFault n m p (NotASchema i) = ⊥
FlatFault n m p (UnknownKeyword i j) = (i ≡ n) × (j ≡ m) × IsUnknown p
FlatFault n m p (BadKeyword i j) = (i ≡ n) × (j ≡ m) × IsBad p
FlatFault n m p (BadPattern i j) = (i ≡ n) × (j ≡ m) × IsBadPattern p
FlatFault n m p (PatternNotLiteral i j) = (i ≡ n) × (j ≡ m) × IsNotLiteral p
FlatFault n m p OutOfMemory = ⊥

-- A flat member has no schemas inside. No value of a tree that nests at most 128 containers is too deep for `IsFair`.
abbrev pub WalksFlat : ℕ → ℕ → ℕ → List ℕ × Tree → Outcome → Type 0
WalksFlat n m next p (went i) = IsFair p × (i ≡ next)
WalksFlat n m next p (stopped e) = FlatFault n m p e

abbrev mutual
  -- the walk over the tree as schema number n ends as o
  pub Walks : Tree → ℕ → Outcome → Type 0
  Walks (scalar null) n o = o ≡ stopped (NotASchema n)
  Walks (scalar (boolean b)) n o = o ≡ went (n + 1)
  Walks (scalar (number x)) n o = o ≡ stopped (NotASchema n)
  Walks (scalar (string s)) n o = o ≡ stopped (NotASchema n)
  Walks (array ts) n o = o ≡ stopped (NotASchema n)
  Walks (object ms) n o = WalksEach ms n 0 (n + 1) o

  -- over members of schema number n, of which the first is its member number m; the next schema has the number `next`
  pub WalksEach : Members → ℕ → ℕ → ℕ → Outcome → Type 0
  WalksEach no_members n m next o = o ≡ went next
  WalksEach (member k v ms) n m next o = (w : Outcome) × line_of (applicator_of k) (record {
    flat = WalksFlat n m next (k, v) w;
    properties = WalksProperties v n m next w;
    others = Walks v next w;
    items = Walks v next w;
    all = WalksList v n m next w;
    any = WalksList v n m next w;
    negated = Walks v next w;
  }) × Continues w (λ i. WalksEach ms n (m + 1) i o) o

  -- over the value of `properties`, which is an object
  pub WalksProperties : Tree → ℕ → ℕ → ℕ → Outcome → Type 0
  WalksProperties (scalar s) n m next o = o ≡ stopped (BadKeyword n m)
  WalksProperties (array ts) n m next o = o ≡ stopped (BadKeyword n m)
  WalksProperties (object us) n m next o = WalksValues us next o

  pub WalksValues : Members → ℕ → Outcome → Type 0
  WalksValues no_members next o = o ≡ went next
  WalksValues (member k u us) next o = (w : Outcome) × Walks u next w × Continues w (λ i. WalksValues us i o) o

  -- over the value of `allOf` or `anyOf`, which is an array of one element at least
  pub WalksList : Tree → ℕ → ℕ → ℕ → Outcome → Type 0
  WalksList (scalar s) n m next o = o ≡ stopped (BadKeyword n m)
  WalksList (array no_elements) n m next o = o ≡ stopped (BadKeyword n m)
  WalksList (array (element u us)) n m next o = (w : Outcome) × Walks u next w × Continues w (λ i. WalksElements us i o) o
  WalksList (object ms) n m next o = o ≡ stopped (BadKeyword n m)

  pub WalksElements : Elements → ℕ → Outcome → Type 0
  WalksElements no_elements next o = o ≡ went next
  WalksElements (element u us) next o = (w : Outcome) × Walks u next w × Continues w (λ i. WalksElements us i o) o
