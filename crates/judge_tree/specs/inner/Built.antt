-- What the parts of a schema are compiled to. The code's own words.
use Rattle.std.specs.Prelude.{ℕ, ◌≡◌, ◌↔◌, ◌⊎◌, List, map}
use Rattle.json_model.specs.Tree.{Tree, no_members, member}
use Rattle.flat_keywords.specs.declared.errors.KeywordError.{KeywordError}
use Rattle.flat_keywords.specs.declared.errors.KeywordError.TheVariants as keyword
use Rattle.judge_tree.specs.Applicators.{applicator_of, line_of}
use Rattle.judge_tree.specs.Unique.{NoMemberAsks, NoneInListAsks}
use Rattle.judge_tree.specs.Verdict.{MeetsAll, MeetsAny, MeetsEach}
use Rattle.judge_tree.specs.Walks.{Outcome, went, stopped, Walks, WalksFlat, WalksList, WalksProperties}
use Rattle.judge_tree.specs.inner.Asked.{IsFrugal, Means, all_of, any_of, asked}
use Rattle.judge_tree.specs.declared.compiled.Compiled.{Compiled}
use Rattle.judge_tree.specs.declared.compiled.CompiledList.{CompiledList}
use Rattle.judge_tree.specs.declared.errors.SchemaError.{SchemaError}
use Rattle.judge_tree.specs.declared.errors.SchemaError.TheVariants.{UnknownKeyword, BadKeyword, BadPattern, PatternNotLiteral, OutOfMemory}
use Rattle.judge_tree.specs.declared.formula.Formula.{Formula}

-- the formula asks for P
abbrev pub AsksFor : (Tree → Type 0) → Formula → Type 0
AsksFor P f = (d : Tree) → Means (asked f) d ↔ P d

-- d meets the member p of a schema
abbrev pub MeetsMember : List (List ℕ) → List ℕ × Tree → Tree → Type 0
MeetsMember ns p d = MeetsEach ns (member p.0 p.1 no_members) d

-- no schema in the member p asks for unique elements
abbrev pub MemberNeverAsks : List ℕ × Tree → Type 0
MemberNeverAsks p = NoMemberAsks (member p.0 p.1 no_members)

-- the walk over the member p, as in `WalksEach`
abbrev pub WalksMember : ℕ → ℕ → ℕ → List ℕ × Tree → Outcome → Type 0
WalksMember n m next p w = line_of (applicator_of p.0) (record {
  flat = WalksFlat n m next p w;
  properties = WalksProperties p.1 n m next w;
  others = Walks p.1 next w;
  items = Walks p.1 next w;
  all = WalksList p.1 n m next w;
  any = WalksList p.1 n m next w;
  negated = Walks p.1 next w;
})

-- the formula asks for P, needs no memory where Free holds, and the walk W went on to the number of the next schema
pub record IsBuilt (P : Tree → Type 0) (Free : Type 0) (W : Outcome → Type 0) (c : Compiled) : Type 0 where
  pub asks : AsksFor P c.formula
  pub memory : Free → IsFrugal (asked c.formula)
  pub walk : W (went c.next)

-- the formulas ask for the elements of v, all of them and one of them, and the walk W went on
pub record AreBuilt (v : Tree) (W : Outcome → Type 0) (c : CompiledList) : Type 0 where
  pub all : (d : Tree) → Means (all_of (map asked c.formulas.items)) d ↔ MeetsAll v d
  pub any : (d : Tree) → Means (any_of (map asked c.formulas.items)) d ↔ MeetsAny v d
  pub all_memory : NoneInListAsks v → IsFrugal (all_of (map asked c.formulas.items))
  pub any_memory : NoneInListAsks v → IsFrugal (any_of (map asked c.formulas.items))
  pub walk : W (went c.next)

-- the walk W ended with the error, or memory is wanting
abbrev pub Stops : (Outcome → Type 0) → SchemaError → Type 0
Stops W e = (e ≡ OutOfMemory) ⊎ W (stopped e)

-- the error of a flat keyword, which is member number m of schema number n; of one that is too deep and stands in a schema that is
-- not, and of no object, there is none
abbrev pub flat_error : ℕ → ℕ → KeywordError → SchemaError
flat_error n m keyword.NotAnObject = OutOfMemory
flat_error n m (keyword.UnknownKeyword i) = UnknownKeyword n m
flat_error n m (keyword.BadKeyword i) = BadKeyword n m
flat_error n m (keyword.BadPattern i) = BadPattern n m
flat_error n m (keyword.PatternNotLiteral i) = PatternNotLiteral n m
flat_error n m (keyword.TooDeep i) = OutOfMemory
flat_error n m keyword.OutOfMemory = OutOfMemory
