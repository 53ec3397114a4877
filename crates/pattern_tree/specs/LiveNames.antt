-- Which names a group may not have where it opens, as tokens are read. This project's own.
use Rattle.std.specs.Prelude.{Bool, List, None, Option, Some, [], if◌then◌else◌, option_and_then, true, ◌++◌, ◌∷◌}
use Rattle.pattern_model.specs.SharedNames.{disjoint, mark_names, names}
use Rattle.pattern_model.specs.Tree.{Name, Tree, Token}
use Rattle.pattern_tree.specs.Machine.{Frame, Outer, State, step, finished}

abbrev pub opt_names : Option Tree → List Name
opt_names None = []
opt_names (Some t) = names t

abbrev pub live_frame : Frame → List Name
live_frame f = opt_names f.before ++ opt_names f.last

-- the names that a group that opens here cannot have
abbrev pub live_outer : List Outer → List Name
live_outer [] = []
live_outer (o ∷ os) = live_outer os ++ (live_frame o.frame ++ mark_names o.mark)

abbrev pub live : State → List Name
live s = live_outer s.outer ++ live_frame s.here

abbrev pub allowed : Token → State → Bool
allowed (Token.opens m) s = disjoint (mark_names m) (live s)
allowed _ s = true

unfoldable pub run_named : List Token → State → Option Tree
run_named [] s = finished s.here s.outer
run_named (t ∷ ts) s = if allowed t s then option_and_then (λ n. run_named ts n) (step t s) else None
