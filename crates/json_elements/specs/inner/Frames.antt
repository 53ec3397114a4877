-- What is left of containers while their numbers are computed.
use Rattle.std.specs.Prelude.{◌≡◌, ◌<◌, ℕ, ◌+◌, ◌%◌, ◌^◌, List, [], ◌∷◌, ⊤, Option, Some, None}
use Rattle.json_model.specs.Parts.{elements_from, members_from}
use Rattle.json_model.specs.Rising.{KeysRise, KeysRiseInElements, KeysRiseInMembers}
use Rattle.json_model.specs.Tree.{Tree}
use Rattle.json_elements.specs.Number.{fed, hash, word, element_number, elements_bytes, members_sum}
use Rattle.json_elements.specs.inner.Weights.{weight, elements_weight, members_weight}
use Rattle.json_elements.specs.declared.numbering.Frame.{Frame}
use Rattle.json_elements.specs.declared.numbering.Frame.TheVariants.{Array, Object}
use Rattle.json_elements.specs.declared.numbering.Opened.{Opened}
use Rattle.json_elements.specs.declared.numbering.Opened.TheVariants.{Numbered, Inside}
use Rattle.json_elements.specs.declared.step.Step.{Step}
use Rattle.json_elements.specs.declared.step.Step.TheVariants.{Next, Done}

module _ {E M : Type 0} where
  -- the container with the number of the last value that was taken
  abbrev pub added : Frame E M → ℕ → Frame E M
  added (Array e s) n = Array e (fed s (word n))
  added (Object m sum key) n = Object m ((sum + fed key (word n)) % 2 ^ 64) key

  -- its number, if nothing is left
  abbrev pub closed : Frame E M → ℕ
  closed (Array e s) = s
  closed (Object m sum key) = hash (7 ∷ word (sum % 2 ^ 64))

module _ {E M : Type 0} (trees : E → List Tree) (pairs : M → List (List ℕ × Tree)) where
  -- its number, with what is left
  abbrev pub finished : Frame E M → ℕ
  finished (Array e s) = fed s (elements_bytes (elements_from (trees e)))
  finished (Object m sum key) = hash (7 ∷ word ((sum + members_sum (members_from (pairs m))) % 2 ^ 64))

  -- the number of the first of containers of which each stands in the one before, where the value that was taken of the last has the
  -- number n
  abbrev pub around : List (Frame E M) → ℕ → ℕ
  around [] n = n
  around (f ∷ fs) n = finished (added f (around fs n))

  -- the keys rise in what is left
  abbrev pub Rise : Frame E M → Type 0
  Rise (Array e s) = KeysRiseInElements (elements_from (trees e))
  Rise (Object m sum key) = KeysRiseInMembers (members_from (pairs m))

  abbrev pub AllRise : List (Frame E M) → Type 0
  AllRise [] = ⊤
  AllRise (f ∷ fs) = Rise f × AllRise fs

  -- what is left to do for one container, and for those around it
  abbrev pub frame_weight : Frame E M → ℕ
  frame_weight (Array e s) = 1 + elements_weight (elements_from (trees e))
  frame_weight (Object m sum key) = 1 + members_weight (members_from (pairs m))

  abbrev pub frames_weight : List (Frame E M) → ℕ
  frames_weight [] = 0
  frames_weight (f ∷ fs) = frame_weight f + frames_weight fs

  -- what a look at a value tells
  abbrev pub IsOpened : Tree → Opened E M → Type 0
  IsOpened t (Numbered n) = (n ≡ element_number t) × KeysRise t
  IsOpened t (Inside f) = (finished f ≡ element_number t) × (frame_weight f < weight t) × (Rise f → KeysRise t)

  -- the next value of a container
  abbrev pub IsNextIn : {N : Type 0} → (N → Tree) → Frame E M → Option N → Frame E M → Type 0
  IsNextIn tree before None after = (closed after ≡ finished before) × Rise before
  IsNextIn tree before (Some n) after =
      (finished (added after (element_number (tree n))) ≡ finished before)
      × (frame_weight before ≡ weight (tree n) + frame_weight after)
      × (KeysRise (tree n) → Rise after → Rise before)

  -- one step: what is left gives the same number, and is less
  abbrev pub AdvancesFrames : Frame E M → List (Frame E M) → Step (Frame E M) ℕ → List (Frame E M) → Type 0
  AdvancesFrames f fs (Done n) after = (n ≡ around fs (finished f)) × Rise f × AllRise fs
  AdvancesFrames f fs (Next g) after =
      (around after (finished g) ≡ around fs (finished f))
      × (frame_weight g + frames_weight after < frame_weight f + frames_weight fs)
      × (Rise g → AllRise after → Rise f × AllRise fs)
