-- What the reader has still to do: frames, each so many values from a place on, to the end of a container's payload.
use Rattle.std.specs.Prelude.{◌≡◌, ℕ, ◌+◌, ◌<◌, ◌≤◌, Bool, true, false, List, [], ◌∷◌, Option, Some, None, Result, Ok, Err, IfSome, option_map}
use Rattle.json_model.specs.Tree.{Scalar, Tree, scalar, Elements}
use Rattle.json_model.specs.Nest.{nest, nest_elements}
use Rattle.jsonb_layout.specs.Options.{◌>>=◌}
use Rattle.jsonb_layout.specs.inner.Reading.{Place, size, ended}
use Rattle.jsonb_layout.specs.Layout.{Item}
use Rattle.jsonb_layout.specs.inner.Trees.{read, item_tree, elements_by}
use Rattle.jsonb.specs.Found.{nothing, both, keys_after, tree_found, elements_found}
use Rattle.jsonb.specs.inner.Views.{place}
use Rattle.jsonb.specs.declared.found.Found.{Found}
use Rattle.jsonb.specs.declared.frame.Frame.{Frame}
use Rattle.jsonb.specs.declared.error.JsonbError.{JsonbError}
use Rattle.jsonb.specs.declared.error.JsonbError.TheVariants as errors

-- both, where both are there
abbrev pub combine : Option Found → Option Found → Option Found
combine None g = None
combine (Some f) None = None
combine (Some f) (Some g) = Some (both f g)

-- what is found in a container
abbrev pub container_found : List ℕ → Option Found
container_found b = option_map tree_found (read b)

-- what is found in so many values from a place on, which end with the payload
abbrev pub rest_found : ℕ → Place → Option Found
rest_found n p = elements_by read n p >>= λ r. ended r.1 (elements_found r.0)

abbrev pub frame_found : Frame → Option Found
frame_found f = rest_found f.left (place f.start)

abbrev pub frames_found : List Frame → Option Found
frames_found [] = Some nothing
frames_found (f ∷ fs) = combine (frame_found f) (frames_found fs)

abbrev pub next_found : Option Frame → Option Found
next_found None = Some nothing
next_found (Some f) = frame_found f

-- the frame that is next, where there is one
abbrev pub next_of : Frame → Bool → Option Frame
next_of f true = Some f
next_of f false = None

abbrev pub turned : Frame → Result Bool JsonbError → Result (Option Frame) JsonbError
turned f (Ok b) = Ok (next_of f b)
turned f (Err e) = Err e

-- the values of a frame are scalars, where they can be read
abbrev pub HoldsScalars : Frame → Type 0
HoldsScalars f = (r : Elements × Place) → elements_by read f.left (place f.start) ≡ Some r → nest_elements r.0 ≡ 0

-- ---- how much is left to do

abbrev pub frame_weight : Frame → ℕ
frame_weight f = size (place f.start) + 1

abbrev pub frames_weight : List Frame → ℕ
frames_weight [] = 0
frames_weight (f ∷ fs) = frame_weight f + frames_weight fs

abbrev pub next_weight : Option Frame → ℕ
next_weight None = 0
next_weight (Some f) = frame_weight f

-- what is left of a frame whose first values were read
pub record Shortens (frame rest : Frame) : Type 0 where
  pub lighter : frame_weight rest ≤ frame_weight frame
  pub flat : (g : Found) → frame_found frame ≡ Some g → HoldsScalars frame → HoldsScalars rest

-- ---- what code answers

-- an item that is no scalar
abbrev pub IsInside : ℕ → Item → Type 0
IsInside at x = (s : Scalar) → item_tree at x ≡ Some (scalar s) → ⊥

-- of keys, whether they were read: what is found in them is added, and the place is where they end
abbrev pub AreKeysFound : Option (List (List ℕ) × Place) → Found → Found → Place → Bool → Type 0
AreKeysFound r before after end true = (g : Found) × (after ≡ both before g) × (keys_after nothing r ≡ Some (g, end))
AreKeysFound r before after end false = keys_after nothing r ≡ None

-- r is found in all, a part of which was read: what is found in the part is added, and the frame is what is left; or it can not be read
abbrev pub IsAdded : Option Found → Found → Found → Frame → Bool → Type 0
IsAdded r before after frame true = (g : Found) × (after ≡ both before g) × (r ≡ combine (Some g) (frame_found frame))
IsAdded r before after frame false = r ≡ None

-- why what is left is not put off, where r is what is found in it
abbrev pub SuspendCause : Option Found → JsonbError → Type 0
SuspendCause r errors.Malformed = r ≡ None
SuspendCause r errors.NotText = ⊥
SuspendCause r errors.NumberTooWide = ⊥
SuspendCause r errors.OutOfMemory = Unit {0}

-- where a frame that can be read holds only scalars and nothing is put off, nothing is put off then
abbrev pub StaysFlat : Frame → List Frame → List Frame → Option Frame → Type 0
StaysFlat frame old new next = (g : Found) → frame_found frame ≡ Some g → HoldsScalars frame → old ≡ [] → (new ≡ []) × IfSome next HoldsScalars

-- found was found, and next and new are what is left of frame and old
pub record Moves (frame : Frame) (old new : List Frame) (found : Found) (next : Option Frame) : Type 0 where
  pub so_far : combine (frame_found frame) (frames_found old) ≡ combine (Some found) (combine (next_found next) (frames_found new))
  pub smaller : next_weight next + frames_weight new < frame_weight frame + frames_weight old
  pub last : next ≡ None → new ≡ []
  pub flat : StaysFlat frame old new next

-- why a frame can not be read on: memory is wanted only where a container stands in it
abbrev pub AdvanceCause : Frame → JsonbError → Type 0
AdvanceCause frame errors.Malformed = frame_found frame ≡ None
AdvanceCause frame errors.NotText = ⊥
AdvanceCause frame errors.NumberTooWide = ⊥
AdvanceCause frame errors.OutOfMemory = (g : Found) → frame_found frame ≡ Some g → HoldsScalars frame → ⊥

-- what is found is added to what was found before
abbrev pub MovesTo : Frame → List Frame → Found → List Frame → Found → Result (Option Frame) JsonbError → Type 0
MovesTo frame old before new after (Ok next) = (g : Found) × (after ≡ both before g) × Moves frame old new g next
MovesTo frame old before new after (Err e) = AdvanceCause frame e

-- of a container
abbrev pub Searched : List ℕ → Result Found JsonbError → Type 0
Searched b (Ok f) = container_found b ≡ Some f
Searched b (Err errors.Malformed) = container_found b ≡ None
Searched b (Err errors.NotText) = ⊥
Searched b (Err errors.NumberTooWide) = ⊥
Searched b (Err errors.OutOfMemory) = (t : Tree) → read b ≡ Some t → nest t ≤ 1 → ⊥
