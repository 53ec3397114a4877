-- The reading of tokens with a list of open groups.
use Rattle.std.specs.Prelude.{Bool, false, not, List, [], ◌∷◌, ◌++◌, Option, Some, None, option_map, option_and_then, if◌then◌else◌}
use Rattle.pattern_model.specs.Tree.{Mark, Bounds, Tree, empty, leaf, group, repeat, sequence, either, Token, tokens_of, is_assertion, is_look}

-- What is read of one group: the alternatives before the last bar, and the terms after it but for the last, and the last.
pub record Frame : Type 0 where
  pub done : Option Tree
  pub before : Option Tree
  pub last : Option Tree

pub record Outer : Type 0 where
  pub mark : Mark
  pub frame : Frame

pub record State : Type 0 where
  pub here : Frame
  pub outer : List Outer

abbrev pub fresh : Frame
fresh = record { done = None; before = None; last = None }

abbrev pub joined : Option Tree → Tree → Tree
joined None t = t
joined (Some s) t = sequence s t

abbrev pub pushed_before : Option Tree → Option Tree → Option Tree
pushed_before b None = b
pushed_before b (Some t) = Some (joined b t)

abbrev pub push : Tree → Frame → Frame
push t f = record { done = f.done; before = pushed_before f.before f.last; last = Some t }

abbrev pub alternative_of : Option Tree → Option Tree → Tree
alternative_of b None = empty
alternative_of b (Some t) = joined b t

abbrev pub with_done : Option Tree → Tree → Tree
with_done None t = t
with_done (Some d) t = either d t

abbrev pub whole : Frame → Tree
whole f = with_done f.done (alternative_of f.before f.last)

abbrev pub barred : Frame → Frame
barred f = record { done = Some (whole f); before = None; last = None }

abbrev pub can_repeat : Tree → Bool
can_repeat (leaf l) = not (is_assertion l)
can_repeat (group m t) = not (is_look m)
can_repeat _ = false

abbrev pub repeated : Bounds → Frame → Option Tree → Option Frame
repeated b f None = None
repeated b f (Some t) = if can_repeat t then Some (record f { last = Some (repeat t b) }) else None

abbrev pub with_here : List Outer → Frame → State
with_here o f = record { here = f; outer = o }

abbrev pub closed : Frame → List Outer → Option State
closed f [] = None
closed f (o ∷ os) = Some (record { here = push (group o.mark (whole f)) o.frame; outer = os })

abbrev pub step : Token → State → Option State
step (Token.leaf l) s = Some (with_here s.outer (push (leaf l) s.here))
step (Token.opens m) s = Some (record { here = fresh; outer = record { mark = m; frame = s.here } ∷ s.outer })
step Token.closes s = closed s.here s.outer
step Token.bar s = Some (with_here s.outer (barred s.here))
step (Token.times b) s = option_map (with_here s.outer) (repeated b s.here s.here.last)

abbrev pub finished : Frame → List Outer → Option Tree
finished f [] = Some (whole f)
finished f (o ∷ os) = None

unfoldable pub run : List Token → State → Option Tree
run [] s = finished s.here s.outer
run (t ∷ ts) s = option_and_then (λ n. run ts n) (step t s)

abbrev pub begin : State
begin = record { here = fresh; outer = [] }

abbrev pub tree_of_tokens : List Token → Option Tree
tree_of_tokens ts = run ts begin

-- the tokens that were read so far
abbrev pub spelled_option : Option Tree → List Token
spelled_option None = []
spelled_option (Some t) = tokens_of t

abbrev pub spelled_done : Option Tree → List Token
spelled_done None = []
spelled_done (Some t) = tokens_of t ++ (Token.bar ∷ [])

abbrev pub spelled_frame : Frame → List Token
spelled_frame f = spelled_done f.done ++ (spelled_option f.before ++ spelled_option f.last)

abbrev pub spelled_outer : List Outer → List Token
spelled_outer [] = []
spelled_outer (o ∷ os) = spelled_outer os ++ (spelled_frame o.frame ++ (Token.opens o.mark ∷ []))

abbrev pub spelled : State → List Token
spelled s = spelled_outer s.outer ++ spelled_frame s.here
