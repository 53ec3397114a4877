-- The trees that nodes stand for.
use Rattle.std.specs.Prelude.{◌≡◌, ℕ, ◌+◌, ◌<◌, ◌≤◌, List, [], ◌∷◌, ◌++◌, length, slice_index_or, Option, Some, None, option_map, map, Bool, true, false, string_bytes}
use Rattle.pattern_tree.specs.declared.node.Mark as rust_mark
use Rattle.pattern_tree.specs.declared.node.Mark.TheVariants as marks
use Rattle.pattern_tree.specs.declared.class_item.ClassEscape.{ClassEscape}
use Rattle.pattern_tree.specs.declared.class_item.ClassEscape.TheVariants as escapes
use Rattle.pattern_tree.specs.declared.class_item.ClassForm.{ClassForm}
use Rattle.pattern_tree.specs.declared.class_item.ClassForm.TheVariants as class_forms
use Rattle.pattern_tree.specs.declared.class_item.ClassItem.{ClassItem}
use Rattle.pattern_tree.specs.declared.class.Atom as rust_atom
use Rattle.pattern_tree.specs.declared.class.Atom.TheVariants as atoms
use Rattle.pattern_tree.specs.declared.form.Count as rust_count
use Rattle.pattern_tree.specs.declared.form.Count.TheVariants as counts
use Rattle.pattern_tree.specs.declared.node.Counts.{Counts}
use Rattle.pattern_tree.specs.declared.node.Single.{Single}
use Rattle.pattern_tree.specs.declared.node.Single.TheVariants as singles
use Rattle.pattern_tree.specs.declared.node.Shape.{Shape}
use Rattle.pattern_tree.specs.declared.node.Shape.TheVariants as shapes
use Rattle.pattern_tree.specs.declared.node.Node.{Node}
use Rattle.pattern_tree.specs.declared.span.Span.{Span}
use Rattle.pattern_tree.specs.declared.part.Part.{Part}
use Rattle.pattern_tree.specs.declared.reader.Open.{Open}
use Rattle.pattern_tree.specs.declared.reader.Reader.{Reader}
use Rattle.pattern_tree.specs.declared.token.Token as rust
use Rattle.pattern_tree.specs.declared.token.Token.TheVariants as tokens
use Rattle.pattern_model.specs.Tree.{Token, Escape, Item, Leaf, Mark, Count, Bounds, Tree, empty, leaf, group, repeat, sequence, either}
use Rattle.pattern_model.specs.Classes.{Atom}
use Rattle.pattern_model.specs.Text.{Text}
use Rattle.pattern_tree.specs.Machine.{Frame, Outer, State, step}

abbrev pub escape_of : ClassEscape → Escape
escape_of escapes.Digit = Escape.digit
escape_of escapes.NotDigit = Escape.not_digit
escape_of escapes.Space = Escape.space
escape_of escapes.NotSpace = Escape.not_space
escape_of escapes.Word = Escape.word
escape_of escapes.NotWord = Escape.not_word

abbrev pub form_item : ClassForm → Item
form_item (class_forms.Code c) = Item.one c
form_item (class_forms.Range c d) = Item.range c d
form_item (class_forms.Escape e) = Item.escape (escape_of e)
form_item (class_forms.Property b) = Item.property b

abbrev pub item_of : ClassItem → Item
item_of i = form_item i.form

abbrev pub atom_of : rust_atom.Atom → Atom
atom_of (atoms.Code c) = Atom.code c
atom_of (atoms.Escape e) = Atom.escape (escape_of e)
atom_of (atoms.Property b) = Atom.property b

abbrev pub mark_of : rust_mark.Mark → Mark
mark_of marks.Capture = Mark.capture
mark_of (marks.Named s) = Mark.named (string_bytes s)
mark_of marks.Plain = Mark.plain
mark_of marks.Modified = Mark.modified
mark_of marks.Ahead = Mark.ahead
mark_of marks.NotAhead = Mark.not_ahead
mark_of marks.Behind = Mark.behind
mark_of marks.NotBehind = Mark.not_behind

abbrev pub count_in : rust_count.Count → Count
count_in (counts.Number n) = Count.number n
count_in counts.Wide = Count.wide

abbrev pub bounds_of : Counts → Bounds
bounds_of c = record { least = count_in c.least; most = option_map count_in c.most; lazy = c.lazy }

abbrev pub leaf_of : Single → Leaf
leaf_of (singles.Code c) = Leaf.code c
leaf_of singles.Dot = Leaf.dot
leaf_of singles.Start = Leaf.start
leaf_of singles.End = Leaf.end
leaf_of singles.Boundary = Leaf.boundary
leaf_of singles.NotBoundary = Leaf.not_boundary
leaf_of (singles.Escape e) = Leaf.escape (escape_of e)
leaf_of (singles.Class b items) = Leaf.class b (map item_of items.items)
leaf_of (singles.Property b) = Leaf.property b
leaf_of (singles.BackNumber n) = Leaf.back_number n
leaf_of (singles.BackName s) = Leaf.back_name (string_bytes s)

abbrev pub tree_at : List Tree → ℕ → Tree
tree_at ts i = slice_index_or ts i empty

-- what a node stands for, over the trees before it
abbrev pub built : List Tree → Shape → Tree
built ts shapes.Empty = empty
built ts (shapes.Single l) = leaf (leaf_of l)
built ts (shapes.Group m i) = group (mark_of m) (tree_at ts i)
built ts (shapes.Repeat i c) = repeat (tree_at ts i) (bounds_of c)
built ts (shapes.Sequence i j) = sequence (tree_at ts i) (tree_at ts j)
built ts (shapes.Either i j) = either (tree_at ts i) (tree_at ts j)

abbrev pub grown : List Tree → List Node → List Tree
grown ts [] = ts
grown ts (n ∷ ns) = grown (ts ++ (built ts n.shape ∷ [])) ns

-- the tree at each node
unfoldable pub trees_of : List Node → List Tree
trees_of ns = grown [] ns

-- the place of a node in the source
abbrev pub span_at : List Node → ℕ → Span
span_at ns i = (slice_index_or ns i (record { shape = shapes.Empty; span = record { start = 0; end = 0 } })).span

abbrev pub opt_tree : List Tree → Option ℕ → Option Tree
opt_tree ts o = option_map (λ i. tree_at ts i) o

abbrev pub frame_of : List Tree → Part → Frame
frame_of ts p = record { done = opt_tree ts p.done; before = opt_tree ts p.before; last = opt_tree ts p.last }

abbrev pub InOption : ℕ → Option ℕ → Type 0
InOption n None = Unit {0}
InOption n (Some i) = i < n

pub record InPart (n : ℕ) (p : Part) : Type 0 where
  pub done : InOption n p.done
  pub before : InOption n p.before
  pub last : InOption n p.last

-- new is old with more trees at its end
abbrev pub Adds : List Tree → List Tree → Type 0
Adds old new = (more : List Tree) × (new ≡ old ++ more)

abbrev pub outer1 : List Tree → Open → Outer
outer1 ts o = record { mark = mark_of o.mark; frame = frame_of ts o.part }

-- the innermost first
abbrev pub outer_of : List Tree → List Open → List Outer
outer_of ts [] = []
outer_of ts (o ∷ os) = outer_of ts os ++ (outer1 ts o ∷ [])

abbrev pub InOuter : ℕ → List Open → Type 0
InOuter n [] = Unit {0}
InOuter n (o ∷ os) = InPart n o.part × InOuter n os

abbrev pub state_of : Reader → State
state_of r = record { here = frame_of (trees_of r.nodes.items) r.here; outer = outer_of (trees_of r.nodes.items) r.outer.items }

-- the nodes that are named are there
pub record InReader (r : Reader) : Type 0 where
  pub here : InPart (length r.nodes.items) r.here
  pub outer : InOuter (length r.nodes.items) r.outer.items

abbrev pub token_of : rust.Token → Token
token_of (tokens.Single l) = Token.leaf (leaf_of l)
token_of (tokens.Opens m) = Token.opens (mark_of m)
token_of tokens.Closes = Token.closes
token_of tokens.Bar = Token.bar
token_of (tokens.Times c) = Token.times (bounds_of c)

-- the token leads from one state to the other
pub record StepsTo (token : Token) (old new : Reader) : Type 0 where
  pub step : step token (state_of old) ≡ Some (state_of new)
  pub inside : InReader new
  pub few : length new.nodes.items ≤ length old.nodes.items + 4

-- whether the token leads on
abbrev pub Moves : Token → Reader → Reader → Bool → Type 0
Moves t old new true = StepsTo t old new
Moves t old new false = step t (state_of old) ≡ None

-- no token stands here, or a back-reference whose number no group of a text can have
abbrev pub IsHigh : Token → Type 0
IsHigh (Token.leaf (Leaf.back_number n)) = 4294967296 ≤ n
IsHigh _ = ⊥

abbrev pub IsRefused : Option (Token × Text) → Type 0
IsRefused None = Unit {0}
IsRefused (Some p) = IsHigh p.0
