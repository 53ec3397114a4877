-- Reading the scalars of a frame one after the other, as a loop does.
use Rattle.std.proofs.Common.{◌≡◌, true, ℕ, ◌+◌, ◌-◌, ◌*◌, ◌/◌, ◌<◌, ◌≤◌, length, Option, Some, None, refl, sym, ap, subst, ◌∙◌, arith, List}
use Rattle.std.specs.Prelude.{option_map, Result, Ok, Err}
use Rattle.jsonb_layout.specs.Layout.{Item}
use Rattle.jsonb_layout.specs.inner.Reading.{Place, size, item_at, scalar_of}
use Rattle.jsonb_layout.specs.inner.Trees.{item_tree}
use Rattle.jsonb_layout.proofs.Sizes.{item_size, item_takes}
use Rattle.jsonb.specs.declared.error.JsonbError.{JsonbError}
use Rattle.jsonb.specs.declared.error.JsonbError.TheVariants as errors
use Rattle.jsonb.specs.declared.found.Found.{Found}
use Rattle.jsonb.specs.declared.frame.Frame.{Frame}
use Rattle.jsonb.specs.Found.{nothing, both, scalar_found, tree_found}
use Rattle.jsonb.specs.inner.Frames.{combine, rest_found, frame_found, frames_found, Moves, IsAdded, MovesTo, Shortens, AdvanceCause}
use Rattle.jsonb.specs.inner.Views.{place}
use Rattle.jsonb.specs.inner.Widths.{IsPlain}
use Rattle.jsonb.proofs.PlainLaws.{plain_other}
use Rattle.jsonb.proofs.FoundLaws.{both_nothing, both_assoc, combine_assoc, combine_comm, combine_nothing, nothing_combine, combine_some}
use Rattle.jsonb.proofs.FrameLaws.{Flat, Left, rest_none, rest_some, scalar_none, scalar_some, stays_flat}

-- where what is found is f and the rest, something is found in the rest
rest_there : (f g : Found) (a b : Option Found) → a ≡ combine (Some f) b → a ≡ Some g → (h : Found) × (b ≡ Some h)
rest_there f g a b e there = combine_some b (Some f) g (combine_comm b (Some f) ∙ sym e ∙ there)

-- of n values from start on, i scalars are read and f is found in them; the reading stands at p
pub record ScalarsSoFar (f : Found) (n i : ℕ) (p start : Place) : Type 0 where
  pub few : i ≤ n
  pub same : rest_found n start ≡ combine (Some f) (rest_found (n - i) p)
  pub lighter : size p ≤ size start
  pub flat : (g : Found) → rest_found n start ≡ Some g → Flat n start → Flat (n - i) p

-- before the first
pub scalars_begin : (n : ℕ) (p start : Place) → p ≡ start → ScalarsSoFar nothing n 0 p start
scalars_begin n p start e =
    let k : n ≡ n - 0 = omega arith in
    let same : rest_found n start ≡ rest_found (n - 0) p = ap (λ (m : ℕ). rest_found m start) k ∙ ap (rest_found (n - 0)) (sym e) in
    record {
      few = omega arith;
      same = same ∙ sym (nothing_combine (rest_found (n - 0) p));
      lighter = omega (arith, ap size e);
      flat = λ g there flat. subst (λ (q : Place). Flat (n - 0) q) (sym e) (subst (λ (m : ℕ). Flat m start) k flat);
    }

module _ {f : Found} {n i : ℕ} {p start : Place} (so_far : ScalarsSoFar f n i p start) (lt : i < n) where
  -- where no item is, the values can not be read
  pub scalars_miss : None ≡ item_at p → rest_found n start ≡ None
  scalars_miss e = so_far.same ∙ ap (combine (Some f)) (rest_none (n - i) p (omega arith) e)

  module _ (q : Place) (x : Item) (e : Some (x, q) ≡ item_at p) (other : x.kind ≡ 5 → ⊥) where
    here_is : rest_found (n - i) p ≡ combine (option_map tree_found (item_tree p.at x)) (rest_found (n - i - 1) q)
    here_is = rest_some (n - i) p (omega arith) x q e

    -- where an item is no scalar, neither
    pub scalars_stop : None ≡ option_map scalar_found (scalar_of p.at x) → rest_found n start ≡ None
    scalars_stop h =
        so_far.same
        ∙ ap (combine (Some f)) (here_is ∙ ap (λ (a : Option Found). combine a (rest_found (n - i - 1) q)) (scalar_none p.at x other h))

    -- one scalar more
    pub scalars_go_on : (g : Found) → Some g ≡ option_map scalar_found (scalar_of p.at x) → ScalarsSoFar (both f g) n (i + 1) q start
    scalars_go_on g h =
        let k : n - i - 1 ≡ n - (i + 1) = omega arith in
        let one : rest_found (n - i) p ≡ combine (Some g) (rest_found (n - (i + 1)) q) =
        here_is
        ∙ ap (λ (a : Option Found). combine a (rest_found (n - i - 1) q)) (scalar_some p.at x g other h ∙ combine_nothing (Some g))
        ∙ ap (λ (m : ℕ). combine (Some g) (rest_found m q)) k in
        let left : Left (n - i) p x q = record { some = omega arith; reads = e } in
        record {
          few = omega arith;
          same = so_far.same ∙ ap (combine (Some f)) one ∙ sym (combine_assoc (Some f) (Some g) (rest_found (n - (i + 1)) q));
          lighter = omega (arith, so_far.lighter, item_size p q x (sym e));
          flat = λ a there flat.
              let r = rest_there f a (rest_found n start) (rest_found (n - i) p) so_far.same there in
              subst (λ (m : ℕ). Flat m q) k (stays_flat left r.0 r.1 (so_far.flat a there flat));
        }

-- where `left` of n values are left, n - left were read, and the entry words of the others are there
pub record ScalarsLeft (f : Found) (n left : ℕ) (p start : Place) : Type 0 where
  pub so_far : ScalarsSoFar f n (n - left) p start
  pub few : left ≤ n
  pub room : 4 * left ≤ length p.words

-- before the first
pub scalars_left : (n : ℕ) (start : Place) → n ≤ length start.words / 4 → ScalarsLeft nothing n n start start
scalars_left n start room =
    let z : 0 ≡ n - n = omega arith in
    record {
      so_far = subst (λ (i : ℕ). ScalarsSoFar nothing n i start start) z (scalars_begin n start start refl);
      few = omega arith;
      room = omega (arith, room);
    }

module _ {f : Found} {n left : ℕ} {p start : Place} (so_far : ScalarsLeft f n left p start) (some : 0 < left)
    (q : Place) (x : Item) (e : Some (x, q) ≡ item_at p) where
  -- one scalar more is read
  pub scalars_one_more : (x.kind ≡ 5 → ⊥) → (g h : Found) → h ≡ both f g → Some g ≡ option_map scalar_found (scalar_of p.at x)
      → ScalarsLeft h n (left - 1) q start
  scalars_one_more other g h is there =
      let few = so_far.few in
      let i : n - left + 1 ≡ n - (left - 1) = omega (arith, few, some) in
      let more = scalars_go_on so_far.so_far (omega (arith, few, some)) q x e other g there in
      record {
        so_far = subst (λ (a : Found). ScalarsSoFar a n (n - (left - 1)) q start) (sym is)
            (subst (λ (j : ℕ). ScalarsSoFar (both f g) n j q start) i more);
        few = omega (arith, few);
        room = omega (arith, (item_takes p q x (sym e)).words, so_far.room);
      }

  -- and nothing is found in a plain one
  pub scalars_plain : IsPlain p.at x → ScalarsLeft f n (left - 1) q start
  scalars_plain plain = scalars_one_more (plain_other p.at x plain) nothing f (sym (both_nothing f)) (sym plain)

-- the same, where what is found is added to what was found before
pub record AddedLeft (before now : Found) (n left : ℕ) (p start : Place) : Type 0 where
  pub more : Found
  pub is : now ≡ both before more
  pub read : ScalarsLeft more n left p start

pub added_left : (before : Found) (n : ℕ) (start : Place) → n ≤ length start.words / 4 → AddedLeft before before n n start start
added_left before n start room = record { more = nothing; is = sym (both_nothing before); read = scalars_left n start room }

module _ {before now : Found} {n left : ℕ} {p start : Place} (so_far : AddedLeft before now n left p start) (some : 0 < left) where
  pub added_miss : None ≡ item_at p → rest_found n start ≡ None
  added_miss e = scalars_miss so_far.read.so_far (omega (arith, so_far.read.few, some)) e

  pub added_stop : (q : Place) (x : Item) → Some (x, q) ≡ item_at p → (x.kind ≡ 5 → ⊥) → None ≡ option_map scalar_found (scalar_of p.at x)
      → rest_found n start ≡ None
  added_stop q x e other h = scalars_stop so_far.read.so_far (omega (arith, so_far.read.few, some)) q x e other h

  pub added_more : (q : Place) (x : Item) → Some (x, q) ≡ item_at p → (x.kind ≡ 5 → ⊥) → (g h : Found) → h ≡ both now g
      → Some g ≡ option_map scalar_found (scalar_of p.at x) → AddedLeft before h n (left - 1) q start
  added_more q x e other g h is there = record {
    more = both so_far.more g;
    is = is ∙ ap (λ (f : Found). both f g) so_far.is ∙ both_assoc before so_far.more g;
    read = scalars_one_more so_far.read some q x e other g (both so_far.more g) refl there;
  }

-- what is left of a frame
module _ {f : Found} {n left : ℕ} {p : Place} (frame rest : Frame) (so_far : ScalarsLeft f n left p (place frame.start))
    (all : frame.left ≡ n) (count : rest.left ≡ left) (at : place rest.start ≡ p) where
  whole : rest_found frame.left (place frame.start) ≡ rest_found n (place frame.start)
  whole = ap (λ (m : ℕ). rest_found m (place frame.start)) all

  back : n - (n - left) ≡ rest.left
  back = omega (arith, so_far.few, count)

  rest_is : rest_found (n - (n - left)) p ≡ frame_found rest
  rest_is = ap (λ (m : ℕ). rest_found m p) back ∙ ap (rest_found rest.left) (sym at)

  pub scalars_done : frame_found frame ≡ combine (Some f) (frame_found rest)
  scalars_done = whole ∙ so_far.so_far.same ∙ ap (combine (Some f)) rest_is

  pub scalars_shorten : Shortens frame rest
  scalars_shorten = record {
    lighter = omega (arith, so_far.so_far.lighter, ap size at);
    flat = λ g there flat.
        let some : Flat (n - (n - left)) p =
        so_far.so_far.flat g (sym whole ∙ there) (subst (λ (m : ℕ). Flat m (place frame.start)) all flat) in
        subst (λ (q : Place). Flat rest.left q) (sym at) (subst (λ (m : ℕ). Flat m p) back some);
  }

-- what was added to what was found before
module _ {before now : Found} {n left : ℕ} {p : Place} (frame rest : Frame) (so_far : AddedLeft before now n left p (place frame.start))
    (all : frame.left ≡ n) (count : rest.left ≡ left) (at : place rest.start ≡ p) where
  pub added_done : IsAdded (frame_found frame) before now rest true
  added_done = (so_far.more, so_far.is, scalars_done frame rest so_far.read all count at)

-- a scalar was taken, and then others
module _ {frame middle rest : Frame} (f g : Found) (first : frame_found frame ≡ combine (Some f) (frame_found middle)) where
  pub others_there : (old : List Frame) → Moves frame old old f (Some middle) → frame_found middle ≡ combine (Some g) (frame_found rest)
      → Shortens middle rest → Moves frame old old (both f g) (Some rest)
  others_there old m is shorter = record {
    so_far =
        ap (λ (a : Option Found). combine a (frames_found old)) (first ∙ ap (combine (Some f)) is)
        ∙ ap (λ (a : Option Found). combine a (frames_found old)) (sym (combine_assoc (Some f) (Some g) (frame_found rest)))
        ∙ combine_assoc (Some (both f g)) (frame_found rest) (frames_found old);
    smaller = omega (arith, m.smaller, shorter.lighter);
    last = λ h. absurd cc;
    flat = λ h there flat o.
        let a = m.flat h there flat o in
        let r = rest_there f h (frame_found frame) (frame_found middle) first there in
        (a.0, shorter.flat r.0 r.1 a.1);
  }

pub others_refused : (frame middle : Frame) (f : Found) → frame_found frame ≡ combine (Some f) (frame_found middle) → frame_found middle ≡ None
    → frame_found frame ≡ None
others_refused frame middle f first h = first ∙ ap (combine (Some f)) h

-- a step from what is left of a frame is a step from the frame
module _ {frame rest : Frame} (same : frame_found frame ≡ frame_found rest) (shorter : Shortens frame rest) where
  moves_from : (old new : List Frame) (g : Found) (next : Option Frame) → Moves rest old new g next → Moves frame old new g next
  moves_from old new g next m = record {
    so_far = ap (λ (a : Option Found). combine a (frames_found old)) same ∙ m.so_far;
    smaller = omega (arith, m.smaller, shorter.lighter);
    last = m.last;
    flat = λ h there flat o. m.flat h (sym same ∙ there) (shorter.flat h there flat) o;
  }

  cause_from : (e : JsonbError) → AdvanceCause rest e → AdvanceCause frame e
  cause_from errors.Malformed h = same ∙ h
  cause_from errors.NotText h = h
  cause_from errors.NumberTooWide h = h
  cause_from errors.OutOfMemory h = λ g there flat. h g (sym same ∙ there) (shorter.flat g there flat)

  pub moves_on : (old new : List Frame) (before after : Found) (r : Result (Option Frame) JsonbError) → MovesTo rest old before new after r
      → MovesTo frame old before new after r
  moves_on old new before after (Ok next) m = (m.0, m.1, moves_from old new m.0 next m.2)
  moves_on old new before after (Err e) h = cause_from e h
