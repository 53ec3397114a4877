-- Where the nodes of a pattern stand in its source. This project's own.
use Rattle.std.specs.Prelude.{◌≡◌, ℕ, ◌+◌, ◌-◌, ◌<◌, Bool, true, false, List, [], ◌∷◌, length, map, slice_index_or, Option, Some, None}
use lib.Utf8.{encodes}
use Rattle.pattern_model.specs.Text.{Text}
use Rattle.pattern_model.specs.Tree.{Token}
use Rattle.pattern_model.specs.Spans.{IsAfter, TokenStands, PlacedItem, ItemsStand}
use Rattle.pattern_tree.specs.declared.class_item.ClassItem.{ClassItem}
use Rattle.pattern_tree.specs.declared.node.Single.{Single}
use Rattle.pattern_tree.specs.declared.node.Single.TheVariants as singles
use Rattle.pattern_tree.specs.declared.token.Token as rust
use Rattle.pattern_tree.specs.declared.token.Token.TheVariants as tokens
use Rattle.pattern_tree.specs.declared.node.Node.{Node}
use Rattle.pattern_tree.specs.declared.node.Shape.{Shape}
use Rattle.pattern_tree.specs.declared.node.Shape.TheVariants as shapes
use Rattle.pattern_tree.specs.declared.part.Part.{Part}
use Rattle.pattern_tree.specs.declared.reader.Open.{Open}
use Rattle.pattern_tree.specs.declared.reader.Reader.{Reader}
use Rattle.pattern_tree.specs.declared.span.Span.{Span}
use Rattle.pattern_tree.specs.Below.{all_below}
use Rattle.pattern_tree.specs.Nodes.{span_at, item_of, leaf_of, mark_of, bounds_of, token_of}

-- a node stands from one place to another
pub record NodeStands (ns : List Node) (i : ℕ) (start end : ℕ) : Type 0 where
  pub from : (span_at ns i).start ≡ start
  pub to : (span_at ns i).end ≡ end

abbrev pub placed_of : ClassItem → PlacedItem
placed_of i = record { item = item_of i; start = i.span.start; end = i.span.end }

-- where the items of a class begin that begins at this place: after its bracket, and `^` where it is negated
abbrev pub inside : Bool → ℕ → ℕ
inside true start = start + 2
inside false start = start + 1

-- the items of a class stand side by side, up to its closing bracket
abbrev pub ItemsFit : Text → Single → ℕ → ℕ → Type 0
ItemsFit x (singles.Class negated items) start end =
    (last : ℕ) × ItemsStand x (inside negated start) (map placed_of items.items) last × (end ≡ last + 1)
ItemsFit x _ start end = Unit {0}

abbrev pub TokenItems : Text → rust.Token → ℕ → ℕ → Type 0
TokenItems x (tokens.Single l) start end = ItemsFit x l start end
TokenItems x _ start end = Unit {0}

-- in each source of so many bytes in which the token begins the text y, and so many bytes are left after it
abbrev pub PlacesItems : ℕ → Text → rust.Token → ℕ → Type 0
PlacesItems total y t left = (x : Text) (start : ℕ) → IsAfter x start y → length (encodes x) ≡ total → TokenItems x t start (total - left)

module _ (wide : Bool) (x : Text) where
  -- The place is right for the shape, over the places of its parts. What stands by itself is one token, and a
  -- class has its items inside. A group is a token
  -- that opens it, its inside, and a parenthesis; a repeat is its inside and a quantifier. The parts of a sequence stand side
  -- by side, and those of an either have a bar between them.
  abbrev pub FitsShape : List Node → Shape → Span → Type 0
  FitsShape ns shapes.Empty s = s.start ≡ s.end
  FitsShape ns (shapes.Single l) s = TokenStands wide x s.start (Token.leaf (leaf_of l)) s.end × ItemsFit x l s.start s.end
  FitsShape ns (shapes.Group m i) s =
      TokenStands wide x s.start (Token.opens (mark_of m)) (span_at ns i).start × TokenStands wide x (span_at ns i).end Token.closes s.end
  FitsShape ns (shapes.Repeat i c) s =
      (s.start ≡ (span_at ns i).start) × TokenStands wide x (span_at ns i).end (Token.times (bounds_of c)) s.end
  FitsShape ns (shapes.Sequence i j) s =
      (s.start ≡ (span_at ns i).start) × ((span_at ns i).end ≡ (span_at ns j).start) × (s.end ≡ (span_at ns j).end)
  FitsShape ns (shapes.Either i j) s =
      (s.start ≡ (span_at ns i).start) × TokenStands wide x (span_at ns i).end Token.bar (span_at ns j).start × (s.end ≡ (span_at ns j).end)

  abbrev pub AllFit : List Node → Type 0
  AllFit ns = (i : ℕ) (d : Node) → i < length ns → FitsShape ns (slice_index_or ns i d).shape (slice_index_or ns i d).span

  pub record NodesStand (ns : List Node) : Type 0 where
    pub below : all_below 0 ns ≡ true
    pub fit : AllFit ns

  -- the terms of the alternative that is open stand from one place to another
  abbrev pub TermsStand : List Node → Option ℕ → Option ℕ → ℕ → ℕ → Type 0
  TermsStand ns None None start end = start ≡ end
  TermsStand ns (Some i) None start end = ⊥
  TermsStand ns None (Some last) start end = NodeStands ns last start end
  TermsStand ns (Some i) (Some last) start end = (middle : ℕ) × NodeStands ns i start middle × NodeStands ns last middle end

  abbrev pub AlternativesStand : List Node → Option ℕ → Option ℕ → Option ℕ → ℕ → ℕ → Type 0
  AlternativesStand ns None before last start end = TermsStand ns before last start end
  AlternativesStand ns (Some i) before last start end =
      (bar after : ℕ) × NodeStands ns i start bar × TokenStands wide x bar Token.bar after × TermsStand ns before last after end

  abbrev pub PartStands : List Node → Part → ℕ → ℕ → Type 0
  PartStands ns p start end = AlternativesStand ns p.done p.before p.last start end

  -- the groups that are open, the outermost first: their insides begin at the first place, and the innermost's at the second
  abbrev pub OuterStands : List Node → List Open → ℕ → ℕ → Type 0
  OuterStands ns [] first begin = first ≡ begin
  OuterStands ns (o ∷ os) first begin =
      PartStands ns o.part first o.start × ((inside : ℕ) × TokenStands wide x o.start (Token.opens (mark_of o.mark)) inside ×
      OuterStands ns os inside begin)

  -- what was read up to a place stands where the nodes say
  pub record ReaderStands (r : Reader) (at : ℕ) : Type 0 where
    pub nodes : NodesStand r.nodes.items
    pub begin : ℕ
    pub outer : OuterStands r.nodes.items r.outer.items 0 begin
    pub here : PartStands r.nodes.items r.here begin at

-- a token between two places leads from one state to the other
abbrev pub StandsOn : rust.Token → ℕ → ℕ → Reader → Reader → Type 0
StandsOn t start end old new = (wide : Bool) (x : Text) → ReaderStands wide x old start → TokenStands wide x start (token_of t) end →
    TokenItems x t start end → ReaderStands wide x new end
