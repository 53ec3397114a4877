-- What compiling gives: a schema that a document passes exactly where it is valid, or the first fault. This project's own. What it is
-- to pass a compiled schema is said by the clauses that cite these words, and nowhere else.
use Rattle.std.specs.Prelude.{ℕ, ◌≡◌, ◌↔◌, ◌⊎◌, ◌≤◌, List, Ok, Option, Some, None}
use Rattle.json_model.specs.Nest.{nest}
use Rattle.json_model.specs.Tree.{Tree}
use Rattle.jsonb.specs.Root.{IsRead}
use Rattle.judge_tree.specs.Unique.{NeverAsks}
use Rattle.judge_tree.specs.Verdict.{IsValidUnder}
use Rattle.judge_tree.specs.Walks.{went, stopped, Walks}
use Rattle.judge_tree.specs.inner.Asked.{IsFrugal, Means, asked}
use Rattle.judge_tree.specs.declared.errors.SchemaError.{SchemaError}
use Rattle.judge_tree.specs.declared.errors.SchemaError.TheVariants.{SchemaTooDeep, OutOfMemory}
use Rattle.judge_tree.specs.declared.schema.Schema.{Schema}

-- a document passes the compiled schema
abbrev pub Passes : Schema → Tree → Type 0
Passes s d = Means (asked s.formula) d

-- no document takes memory to check
abbrev pub NeedsNoMemory : Schema → Type 0
NeedsNoMemory s = IsFrugal (asked s.formula)

-- at most 128 containers stand in each other, the tree itself counted. This limit is this project's own.
abbrev pub IsShallow : Tree → Type 0
IsShallow t = nest t ≤ 128

-- the tree is a schema
pub record IsSchema (t : Tree) : Type 0 where
  pub shallow : IsShallow t
  pub walk : (next : ℕ) × Walks t 0 (went next)

-- the tree t is a schema, and a document passes the compiled schema s exactly where it is valid under t; where t never asks for
-- unique elements, s needs no memory
pub record IsCompiled (t : Tree) (s : Schema) : Type 0 where
  pub valid : IsSchema t
  pub passes : (d : Tree) → Passes s d ↔ IsValidUnder t d
  pub memory : NeverAsks t → NeedsNoMemory s

-- the slice stands for a schema, and s is compiled of it
pub record IsCompiledOf (schema : List ℕ) (s : Schema) : Type 0 where
  pub tree : Tree
  pub read : IsRead schema (Ok tree)
  pub compiled : IsCompiled tree s

-- the fault of a tree as a schema, or none: that it nests too deep comes first, and then the fault with which the walk ends
abbrev pub HasFault : Tree → Option SchemaError → Type 0
HasFault t None = IsSchema t
HasFault t (Some e) = ((e ≡ SchemaTooDeep) × (IsShallow t → ⊥)) ⊎ (IsShallow t × Walks t 0 (stopped e))

-- memory is wanting, or the tree has the fault
abbrev pub IsRefused : Tree → SchemaError → Type 0
IsRefused t e = (e ≡ OutOfMemory) ⊎ HasFault t (Some e)
