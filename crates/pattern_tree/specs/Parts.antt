-- The nodes that are added where terms and alternatives are joined. This project's own.
use Rattle.std.specs.Prelude.{ℕ, List, [], ◌∷◌, ◌++◌, length, Option, Some, None}
use Rattle.pattern_tree.specs.declared.node.Node.{Node}
use Rattle.pattern_tree.specs.declared.node.Shape.{Shape}
use Rattle.pattern_tree.specs.declared.node.Shape.TheVariants as shapes
use Rattle.pattern_tree.specs.declared.part.Part.{Part}
use Rattle.pattern_tree.specs.declared.span.Span.{Span}
use Rattle.pattern_tree.specs.Nodes.{span_at}

abbrev pub with_node : List Node → Shape → Span → List Node × ℕ
with_node ns shape span = (ns ++ ((record { shape = shape; span = span }) ∷ []), length ns)

-- from the start of one node to the end of another
abbrev pub between_nodes : List Node → ℕ → ℕ → Span
between_nodes ns i j = record { start = (span_at ns i).start; end = (span_at ns j).end }

-- one term more
abbrev pub with_term : List Node → Option ℕ → ℕ → List Node × ℕ
with_term ns None last = (ns, last)
with_term ns (Some left) last = with_node ns (shapes.Sequence left last) (between_nodes ns left last)

-- an alternative that ends at this place
abbrev pub with_alternative : List Node → Option ℕ → Option ℕ → ℕ → List Node × ℕ
with_alternative ns before None end = with_node ns shapes.Empty (record { start = end; end = end })
with_alternative ns before (Some last) end = with_term ns before last

-- the alternatives before the last bar, and one more
abbrev pub with_either : Option ℕ → List Node × ℕ → List Node × ℕ
with_either None p = p
with_either (Some left) p = with_node p.0 (shapes.Either left p.1) (between_nodes p.0 left p.1)

abbrev pub with_disjunction : List Node → Part → ℕ → List Node × ℕ
with_disjunction ns part end = with_either part.done (with_alternative ns part.before part.last end)

abbrev pub with_last : List Node → Option ℕ → Option ℕ → List Node × Option ℕ
with_last ns before None = (ns, before)
with_last ns before (Some last) = let p = with_term ns before last in (p.0, Some p.1)
