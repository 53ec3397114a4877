-- What is left of containers while their numbers are computed.
use Rattle.std.proofs.Common.{◌≡◌, ◌<◌, ℕ, ◌+◌, ◌%◌, ◌^◌, List, [], ◌∷◌, ◌++◌, refl, sym, ap, subst, ◌∙◌, arith}
use Rattle.std.specs.Prelude.{◌↔◌, Option, Some, None}
use Rattle.json_model.specs.Parts.{elements_from, members_from}
use Rattle.json_model.specs.Rising.{KeysRise, KeysRiseInElements, KeysRiseInMembers}
use Rattle.json_model.specs.Keys.{rises}
use Rattle.json_model.specs.Tree.{Tree, scalar, array, object, Members, no_members, member}
use Rattle.json_traits.proofs.RisingLaws.{keys_from}
use Rattle.json_elements.proofs.HashLaws.{fed_append}
use Rattle.json_elements.specs.Number.{fed, hash, word, element_number, elements_bytes, member_number, members_sum}
use Rattle.json_elements.specs.Parts.{keys_rise, IsNextTree}
use Rattle.json_elements.specs.declared.numbering.Frame.{Frame}
use Rattle.json_elements.specs.declared.numbering.Frame.TheVariants.{Array, Object}
use Rattle.json_elements.specs.declared.step.Step.TheVariants.{Next}
use Rattle.json_elements.specs.inner.Frames.{added, closed, finished, around, Rise, AllRise, frame_weight, frames_weight, AdvancesFrames, IsNextIn}
use Rattle.json_elements.specs.inner.Weights.{weight, elements_weight, members_weight}

-- ---- numbers of what is left

-- the next element's number is fed before those of the rest
element_fed : (s : ℕ) (t : Tree) (ts us : List Tree) → us ≡ t ∷ ts
    → fed (fed s (word (element_number t))) (elements_bytes (elements_from ts)) ≡ fed s (elements_bytes (elements_from us))
element_fed s t ts us e =
    sym (fed_append s (word (element_number t)) (elements_bytes (elements_from ts)))
    ∙ ap (λ (xs : List Tree). fed s (elements_bytes (elements_from xs))) (sym e)

-- sums of three, whatever is added first
added_first : (s x r : ℕ) → ((s + x) % 2 ^ 64 + r) % 2 ^ 64 ≡ (s + (x + r) % 2 ^ 64) % 2 ^ 64
added_first s x r = omega arith

member_fed : (k : List ℕ) (h n : ℕ) → h ≡ hash (6 ∷ k ++ 255 ∷ []) → fed h (word n) ≡ member_number k n
member_fed k h n e =
    ap (λ (x : ℕ). fed x (word n)) (e ∙ fed_append 14695981039346656037 (6 ∷ k) (255 ∷ []))
    ∙ sym (fed_append 14695981039346656037 (6 ∷ k) (255 ∷ word n))

sum_small : (ms : Members) → members_sum ms < 2 ^ 64
sum_small no_members = omega arith
sum_small (member k t ms) = omega arith

no_sum : (s : ℕ) → s < 2 ^ 64 → (0 + s) % 2 ^ 64 ≡ s
no_sum s lt = omega (arith, lt)

-- an object, of which nothing is taken yet
pub object_opened : (ps : List (List ℕ × Tree)) (t : Tree) → object (members_from ps) ≡ t → keys_rise ps
    → (hash (7 ∷ word ((0 + members_sum (members_from ps)) % 2 ^ 64)) ≡ element_number t) × (1 + members_weight (members_from ps) < weight t)
    × (KeysRiseInMembers (members_from ps) → KeysRise t)
object_opened ps t e rise =
    subst (λ (u : Tree). (hash (7 ∷ word ((0 + members_sum (members_from ps)) % 2 ^ 64)) ≡ element_number u)
    × (1 + members_weight (members_from ps) < weight u)
    × (KeysRiseInMembers (members_from ps) → KeysRise u)) e (
      ap (λ (x : ℕ). hash (7 ∷ word x)) (no_sum (members_sum (members_from ps)) (sum_small (members_from ps))),
      omega arith,
      λ h.
          (ap rises (keys_from ps) ∙ rise, h),
    )

module _ {E M : Type 0} (trees : E → List Tree) (pairs : M → List (List ℕ × Tree)) where
  -- the next element of an array
  pub element_next : (a b : E) (s : ℕ) (t : Tree) → trees a ≡ t ∷ trees b
      → (finished trees pairs (added (Array b s) (element_number t)) ≡ finished trees pairs (Array a s))
      × (frame_weight trees pairs (Array a s) ≡ weight t + frame_weight trees pairs (Array b s))
      × (KeysRise t → Rise trees pairs (Array b s) → Rise trees pairs (Array a s))
  element_next a b s t e = (
    element_fed s t (trees b) (trees a) e,
    ap (λ (xs : List Tree). 1 + elements_weight (elements_from xs)) e ∙ omega arith,
    λ h r. subst (λ (xs : List Tree). KeysRiseInElements (elements_from xs)) (sym e) (h, r),
  )

  -- the next member of an object
  pub member_next : (a b : M) (sum before key : ℕ) (k : List ℕ) (t : Tree) → pairs a ≡ (k, t) ∷ pairs b → key ≡ hash (6 ∷ k ++ 255 ∷ [])
      → (finished trees pairs (added (Object b sum key) (element_number t)) ≡ finished trees pairs (Object a sum before))
      × (frame_weight trees pairs (Object a sum before) ≡ weight t + frame_weight trees pairs (Object b sum key))
      × (KeysRise t → Rise trees pairs (Object b sum key) → Rise trees pairs (Object a sum before))
  member_next a b sum before key k t e f = (
    ap (λ (x : ℕ). hash (7 ∷ word (((sum + x) % 2 ^ 64 + members_sum (members_from (pairs b))) % 2 ^ 64))) (member_fed k key (element_number t) f)
        ∙ ap (λ (x : ℕ). hash (7 ∷ word x)) (added_first sum (member_number k (element_number t)) (members_sum (members_from (pairs b))))
        ∙ ap (λ (ps : List (List ℕ × Tree)). hash (7 ∷ word ((sum + members_sum (members_from ps)) % 2 ^ 64))) (sym e),
    ap (λ (ps : List (List ℕ × Tree)). 1 + members_weight (members_from ps)) e ∙ omega arith,
    λ h r. subst (λ (ps : List (List ℕ × Tree)). KeysRiseInMembers (members_from ps)) (sym e) (h, r),
  )

  -- an object of which nothing is left
  pub member_none : (a b : M) (sum key before : ℕ) → pairs a ≡ []
      → (closed {E = E} {M = M} (Object b sum key) ≡ finished trees pairs (Object a sum before)) × Rise trees pairs (Object a sum before)
  member_none a b sum key before e = (
    ap (λ (x : ℕ). hash (7 ∷ word (x % 2 ^ 64))) (let h : sum ≡ sum + 0 = omega arith in h)
        ∙ ap (λ (ps : List (List ℕ × Tree)). hash (7 ∷ word ((sum + members_sum (members_from ps)) % 2 ^ 64))) (sym e),
    subst (λ (ps : List (List ℕ × Tree)). KeysRiseInMembers (members_from ps)) (sym e) tt,
  )

  module _ {N : Type 0} (tree : N → Tree) where
    -- the next element, or none
    pub elements_next : (a b : E) (s : ℕ) (r : Option N) → IsNextTree tree (trees a) r (trees b) → IsNextIn trees pairs tree (Array a s) r (Array b s)
    elements_next a b s (Some n) e = element_next a b s (tree n) e
    elements_next a b s None e = (
      ap (λ (xs : List Tree). fed s (elements_bytes (elements_from xs))) (sym e),
      subst (λ (xs : List Tree). KeysRiseInElements (elements_from xs)) (sym e) tt,
    )

  -- ---- one more container around the others

  around_more : (fs : List (Frame E M)) (f : Frame E M) (n : ℕ)
      → around trees pairs (fs ++ f ∷ []) n ≡ around trees pairs fs (finished trees pairs (added f n))
  around_more [] f n = refl
  around_more (g ∷ fs) f n = ap (λ (x : ℕ). finished trees pairs (added g x)) (around_more fs f n)

  all_more : (fs : List (Frame E M)) (f : Frame E M) → AllRise trees pairs (fs ++ f ∷ []) ↔ (Rise trees pairs f × AllRise trees pairs fs)
  all_more [] f = (λ h. h, λ h. h)
  all_more (g ∷ fs) f = let more = all_more fs f in (λ h. let m = more.0 h.1 in (m.0, (h.0, m.1)), λ h. (h.1.0, more.1 (h.0, h.1.1)))

  weight_more : (fs : List (Frame E M)) (f : Frame E M)
      → frames_weight trees pairs (fs ++ f ∷ []) ≡ frame_weight trees pairs f + frames_weight trees pairs fs
  weight_more [] f = refl
  weight_more (g ∷ fs) f = let more = weight_more fs f in omega arith

  -- a number that is added changes neither what is left
  same_weight : (f : Frame E M) (n : ℕ) → frame_weight trees pairs (added f n) ≡ frame_weight trees pairs f
  same_weight (Array e s) n = refl
  same_weight (Object m sum key) n = refl

  -- nor its keys
  same_rise : (f : Frame E M) (n : ℕ) → Rise trees pairs (added f n) → Rise trees pairs f
  same_rise (Array e s) n h = h
  same_rise (Object m sum key) n h = h

  some_weight : (f : Frame E M) → 0 < frame_weight trees pairs f
  some_weight (Array e s) = omega arith
  some_weight (Object m sum key) = omega arith

  some_value : (t : Tree) → 0 < weight t
  some_value (scalar s) = omega arith
  some_value (array ts) = omega arith
  some_value (object ms) = omega arith

  module _ (f : Frame E M) (fs : List (Frame E M)) where
    -- the next value has a number at once
    pub goes_on : (after : Frame E M) (t : Tree) (n : ℕ)
        → (finished trees pairs (added after (element_number t)) ≡ finished trees pairs f)
        × (frame_weight trees pairs f ≡ weight t + frame_weight trees pairs after)
        × (KeysRise t → Rise trees pairs after → Rise trees pairs f)
        → (n ≡ element_number t) × KeysRise t
        → AdvancesFrames trees pairs f fs (Next (added after n)) fs
    goes_on after t n next is =
        let same = same_weight after n in
        let some = some_value t in
        let less = next.1 in (
          ap (around trees pairs fs) (ap (λ (x : ℕ). finished trees pairs (added after x)) is.0 ∙ next.0),
          omega (arith, same, some, less),
          λ r all. (next.2 is.1 (same_rise after n r), all),
        )

    -- the next value is a container, and what is left around it is put off
    pub goes_in : (g after : Frame E M) (t : Tree) (new : List (Frame E M)) → new ≡ fs ++ after ∷ []
        → (finished trees pairs (added after (element_number t)) ≡ finished trees pairs f)
        × (frame_weight trees pairs f ≡ weight t + frame_weight trees pairs after)
        × (KeysRise t → Rise trees pairs after → Rise trees pairs f)
        → (finished trees pairs g ≡ element_number t) × (frame_weight trees pairs g < weight t) × (Rise trees pairs g → KeysRise t)
        → AdvancesFrames trees pairs f fs (Next g) new
    goes_in g after t new e next inside =
        subst (AdvancesFrames trees pairs f fs (Next g)) (sym e)
        (let same = weight_more fs after in
        let less = next.1 in
        let low = inside.1 in (
          around_more fs after (finished trees pairs g)
              ∙ ap (around trees pairs fs) (ap (λ (x : ℕ). finished trees pairs (added after x)) inside.0 ∙ next.0),
          omega (arith, same, less, low),
          λ r all. let m = (all_more fs after).0 all in (next.2 (inside.2 r) m.0, m.1),
        ))

    -- nothing is left, and the number is added to what was put off last
    pub goes_out : (g : Frame E M) (n : ℕ) (new : List (Frame E M)) → fs ≡ new ++ g ∷ [] → n ≡ finished trees pairs f → Rise trees pairs f
        → AdvancesFrames trees pairs f fs (Next (added g n)) new
    goes_out g n new e is rise =
        subst (λ (old : List (Frame E M)). AdvancesFrames trees pairs f old (Next (added g n)) new) (sym e)
        (let same = weight_more new g in
        let kept = same_weight g n in
        let some = some_weight f in (
          ap (λ (x : ℕ). around trees pairs new (finished trees pairs (added g x))) is ∙ sym (around_more new g (finished trees pairs f)),
          omega (arith, same, kept, some),
          λ r all. (rise, (all_more new g).1 (same_rise g n r, all)),
        ))
