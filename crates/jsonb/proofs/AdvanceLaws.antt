-- One step of the reader, by what became of the frame.
use Rattle.std.proofs.Common.{◌≡◌, ℕ, zero, suc, ◌+◌, ◌-◌, ◌<◌, ◌≤◌, List, [], ◌∷◌, ◌++◌, length, take, Option, Some, None, refl, sym, ap, subst, ◌∙◌, arith, length-append}
use Rattle.std.specs.Prelude.{Err, option_map, IfSome}
use Rattle.std.proofs.lemmas.List.{append-nil}
use Rattle.json_model.specs.Tree.{Tree}
use Rattle.json_model.specs.Nest.{nest}
use Rattle.jsonb_layout.specs.Layout.{Item}
use Rattle.jsonb_layout.specs.inner.Reading.{Place, size, item_at}
use Rattle.jsonb_layout.specs.inner.Trees.{read, item_tree, elements_by}
use Rattle.jsonb_layout.proofs.Sizes.{item_size}
use Rattle.jsonb.specs.declared.found.Found.{Found}
use Rattle.jsonb.specs.declared.frame.Frame.{Frame}
use Rattle.jsonb.specs.declared.error.JsonbError.{JsonbError}
use Rattle.jsonb.specs.declared.error.JsonbError.TheVariants as errors
use Rattle.jsonb.specs.Found.{nothing, both, tree_found}
use Rattle.jsonb.specs.inner.Frames.{combine, container_found, rest_found, frame_found, frames_found, next_found, HoldsScalars, frame_weight, frames_weight, next_weight, IsInside, SuspendCause, StaysFlat, Moves, AdvanceCause, Searched}
use Rattle.jsonb.specs.inner.Views.{place}
use Rattle.jsonb.proofs.FoundLaws.{combine_none, combine_assoc, combine_nothing, nothing_combine, combine_some}
use Rattle.jsonb.proofs.FrameLaws.{at_end, rest_none, rest_some, Left, stays_flat, no_inside, put_off}

-- ---- a frame of which nothing is left

module _ (frame : Frame) (old new : List Frame) (none : frame.left ≡ 0) (over : length (place frame.start).rest ≡ 0) where
  ended_frame : frame_found frame ≡ Some nothing
  ended_frame = at_end frame.left (place frame.start) none over

  popped_from : (next : Option Frame) → frames_found old ≡ combine (next_found next) (frames_found new)
      → next_weight next + frames_weight new ≡ frames_weight old → (next ≡ None → new ≡ []) → StaysFlat frame old new next
      → Moves frame old new nothing next
  popped_from next e w last flat = record {
    so_far = ap (λ (a : Option Found). combine a (frames_found old)) ended_frame ∙ ap (combine (Some nothing)) e;
    smaller = omega (arith, w);
    last = last;
    flat = flat;
  }

  -- a frame that is ended, and none was put off
  pub popped_none : (len : ℕ) → old ≡ new ++ [] → new ≡ take (len - 1) old → (0 < len → ⊥) → Moves frame old new nothing None
  popped_none len e rest none_left =
      let same : old ≡ new = e ∙ append-nil new in
      let gone : new ≡ [] = rest ∙ ap (λ (k : ℕ). take k old) (less_is len none_left) in
      popped_from None (ap frames_found same ∙ sym (nothing_combine (frames_found new))) (omega (arith, ap frames_weight same)) (λ _. gone)
      (λ g h f o. (gone, tt))
    where
      less_is : (n : ℕ) → (0 < n → ⊥) → n - 1 ≡ 0
      less_is zero h = refl
      less_is (suc n) h = absurd (h (omega arith))

  -- the one that was put off last is next
  pub popped_some : (f : Frame) → old ≡ new ++ f ∷ [] → Moves frame old new nothing (Some f)
  popped_some f e =
      let p = put_off new old f e in
      popped_from (Some f) p.0 (sym p.1) (λ h. absurd cc) (λ g h s o. absurd (omega (arith, ap length (sym e ∙ o), length-append new (f ∷ []))))

-- ---- a frame of which something is left

-- the next value of a frame: an item, and the place behind it
pub record NextItem (frame : Frame) : Type 0 where
  pub item : Item
  pub behind : Place
  pub some : frame.left ≡ 0 → ⊥
  pub reads : Some (item, behind) ≡ item_at (place frame.start)

abbrev pub item_there : (frame : Frame) (x : Item) (q : Place) → (frame.left ≡ 0 → ⊥) → Some (x, q) ≡ item_at (place frame.start) → NextItem frame
item_there frame x q some e = record { item = x; behind = q; some = some; reads = e }

-- what is found in it, and the frame inside, if it is a container
pub record NextValue {frame : Frame} (next : NextItem frame) : Type 0 where
  pub found : Found
  pub inner : Option Frame
  pub is : option_map tree_found (item_tree (place frame.start).at next.item) ≡ combine (Some found) (next_found inner)

module _ {frame : Frame} (next : NextItem frame) where
  abbrev here : Place
  here = place frame.start

  abbrev others : Option Found
  others = rest_found (frame.left - 1) next.behind

  more : 0 < frame.left
  more = let some = next.some in omega arith

  left : Left frame.left here next.item next.behind
  left = record { some = more; reads = next.reads }

  size_left : size next.behind + length next.item.piece + 4 ≤ size here
  size_left = item_size here next.behind next.item (sym next.reads)

  no_inside_there : (g : Found) → frame_found frame ≡ Some g → HoldsScalars frame → IsInside here.at next.item → ⊥
  no_inside_there g there flat inside = no_inside left g there flat inside

  -- a value that can not be read
  pub refused_item : option_map tree_found (item_tree (place frame.start).at next.item) ≡ None → frame_found frame ≡ None
  refused_item e =
      rest_some frame.left here more next.item next.behind next.reads
      ∙ ap (λ (a : Option Found). combine a others) e

  module _ (value : NextValue next) where
    value_is : frame_found frame ≡ combine (Some value.found) (combine (next_found value.inner) others)
    value_is =
        rest_some frame.left here more next.item next.behind next.reads
        ∙ ap (λ (a : Option Found). combine a others) value.is
        ∙ combine_assoc (Some value.found) (next_found value.inner) others

    -- a scalar was taken: the rest of the frame is next
    module _ (rest : Frame) (left_is : rest.left ≡ frame.left - 1) (at : place rest.start ≡ next.behind) (none : value.inner ≡ None) where
      rest_is : others ≡ frame_found rest
      rest_is = ap (λ (n : ℕ). rest_found n next.behind) (sym left_is) ∙ ap (rest_found rest.left) (sym at)

      pub took_is : frame_found frame ≡ combine (Some value.found) (frame_found rest)
      took_is =
          value_is
          ∙ ap (λ (i : Option Frame). combine (Some value.found) (combine (next_found i) others)) none
          ∙ ap (combine (Some value.found)) (nothing_combine others ∙ rest_is)

      pub took_scalar : (old : List Frame) → Moves frame old old value.found (Some rest)
      took_scalar old =
          let elements_are : elements_by read (frame.left - 1) next.behind ≡ elements_by read rest.left (place rest.start) =
          ap (λ (n : ℕ). elements_by read n next.behind) (sym left_is) ∙ ap (elements_by read rest.left) (sym at) in
          record {
            so_far =
                ap (λ (a : Option Found). combine a (frames_found old)) took_is
                ∙ combine_assoc (Some value.found) (frame_found rest) (frames_found old);
            smaller = omega (arith, ap size at, size_left);
            last = λ h. absurd cc;
            flat = λ g there flat o. (o, λ r h. stays_flat left g there flat r (elements_are ∙ h));
          }

    -- a container was entered: its frame is next, and the rest is put off
    pub took_inside : (old new : List Frame) (i : Frame) → value.inner ≡ Some i → IsInside (place frame.start).at next.item
        → frame_weight i ≤ length next.item.piece → frames_found new ≡ combine (rest_found (frame.left - 1) next.behind) (frames_found old)
        → frames_weight new ≤ size next.behind + 1 + frames_weight old → Moves frame old new value.found (Some i)
    took_inside old new i is_there inside weight e w = record {
      so_far =
          ap (λ (a : Option Found). combine a (frames_found old)) value_is
          ∙ combine_assoc (Some value.found) (combine (next_found value.inner) others) (frames_found old)
          ∙ ap (combine (Some value.found))
          (combine_assoc (next_found value.inner) others (frames_found old)
          ∙ ap (combine (next_found value.inner)) (sym e)
          ∙ ap (λ (j : Option Frame). combine (next_found j) (frames_found new)) is_there);
      smaller = omega (arith, size_left, weight, w);
      last = λ h. absurd cc;
      flat = λ g there flat o. absurd (no_inside_there g there flat inside);
    }

  -- why the rest could not be put off
  pub not_put_off : (e : JsonbError) → IsInside here.at next.item → SuspendCause others e → AdvanceCause frame e
  not_put_off errors.Malformed inside h =
      rest_some frame.left here more next.item next.behind next.reads
      ∙ ap (combine (option_map tree_found (item_tree here.at next.item))) h
      ∙ combine_none (option_map tree_found (item_tree here.at next.item))
  not_put_off errors.NotText inside h = h
  not_put_off errors.NumberTooWide inside h = h
  not_put_off errors.OutOfMemory inside h = λ g there flat. no_inside_there g there flat inside

-- a frame without its next item can not be read
pub no_item : (frame : Frame) → (frame.left ≡ 0 → ⊥) → None ≡ item_at (place frame.start) → frame_found frame ≡ None
no_item frame some e = rest_none frame.left (place frame.start) (omega arith) e

-- ---- all steps

-- f is found so far; current is read next, and then what is suspended
pub record SoFar (b : List ℕ) (found : Found) (current : Option Frame) (suspended : List Frame) : Type 0 where
  pub so_far : combine (Some found) (combine (next_found current) (frames_found suspended)) ≡ container_found b
  pub last : current ≡ None → suspended ≡ []
  pub flat : (t : Tree) → read b ≡ Some t → nest t ≤ 1 → (suspended ≡ []) × IfSome current HoldsScalars

-- before the first step
pub starts : (b : List ℕ) (f : Found) (top : Frame) (none : List Frame) → none ≡ [] → container_found b ≡ combine (Some f) (frame_found top)
    → ((t : Tree) → read b ≡ Some t → nest t ≤ 1 → HoldsScalars top) → SoFar b f (Some top) none
starts b f top none empty e flat = record {
  so_far =
      ap (λ (fs : List Frame). combine (Some f) (combine (frame_found top) (frames_found fs))) empty
      ∙ ap (combine (Some f)) (combine_nothing (frame_found top))
      ∙ sym e;
  last = λ h. empty;
  flat = λ t is low. (empty, flat t is low);
}

module _ {b : List ℕ} {found : Found} {frame : Frame} {current : Option Frame} {old : List Frame}
    (now : current ≡ Some frame) (s : SoFar b found current old) where
  at_frame : combine (Some found) (combine (frame_found frame) (frames_found old)) ≡ container_found b
  at_frame = ap (λ (n : Option Frame). combine (Some found) (combine (next_found n) (frames_found old))) (sym now) ∙ s.so_far

  -- what is read can be read from the frame on
  there : (t : Tree) → read b ≡ Some t → (g : Found) × (frame_found frame ≡ Some g)
  there t is = go (combine (frame_found frame) (frames_found old)) refl (at_frame ∙ ap (option_map tree_found) is)
    where
      go : (a : Option Found) → combine (frame_found frame) (frames_found old) ≡ a → combine (Some found) a ≡ Some (tree_found t)
          → (g : Found) × (frame_found frame ≡ Some g)
      go None e h = absurd cc
      go (Some g) e h = combine_some (frame_found frame) (frames_found old) g e

  flat_frame : (t : Tree) → read b ≡ Some t → nest t ≤ 1 → (old ≡ []) × HoldsScalars frame
  flat_frame t is low = let f = s.flat t is low in (f.0, subst (λ (n : Option Frame). IfSome n HoldsScalars) now f.1)

  -- a step more
  pub goes_on : (new : List Frame) (f : Found) (next : Option Frame) → Moves frame old new f next → SoFar b (both found f) next new
  goes_on new f next step = record {
    so_far =
        combine_assoc (Some found) (Some f) (combine (next_found next) (frames_found new))
        ∙ ap (combine (Some found)) (sym step.so_far)
        ∙ at_frame;
    last = step.last;
    flat = λ t is low. let o = flat_frame t is low in let g = there t is in step.flat g.0 g.1 o.1 o.0;
  }

  -- each step leaves less
  pub goes_down : (new : List Frame) (f : Found) (next : Option Frame) → Moves frame old new f next
      → next_weight next + frames_weight new < next_weight current + frames_weight old
  goes_down new f next step = omega (arith, step.smaller, ap next_weight now)

  -- why the reading stops
  pub stops : (e : JsonbError) → AdvanceCause frame e → Searched b (Err e)
  stops errors.Malformed h = sym at_frame ∙ ap (λ (a : Option Found). combine (Some found) (combine a (frames_found old))) h
  stops errors.NotText h = h
  stops errors.NumberTooWide h = h
  stops errors.OutOfMemory h = λ t is low. let g = there t is in h g.0 g.1 (flat_frame t is low).1

-- where nothing is left, all is found
pub ends : (b : List ℕ) (found : Found) (current : Option Frame) (suspended : List Frame) → current ≡ None → SoFar b found current suspended
    → container_found b ≡ Some found
ends b found current suspended none s =
    sym s.so_far
    ∙ ap (λ (n : Option Frame). combine (Some found) (combine (next_found n) (frames_found suspended))) none
    ∙ ap (λ (fs : List Frame). combine (Some found) (combine (Some nothing) (frames_found fs))) (s.last none)
    ∙ combine_nothing (Some found)

-- what is no frame is none
pub none_of : (n : Option Frame) → ((f : Frame) → n ≡ Some f → ⊥) → n ≡ None
none_of None h = refl
none_of (Some f) h = absurd (h f refl)
