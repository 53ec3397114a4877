-- Opening a container: what is found in its keys, and the frame of its values.
use Rattle.std.proofs.Common.{◌≡◌, ℕ, ◌≤◌, Bool, true, false, List, length, Some, None, sym, ap, ◌∙◌, arith}
use Rattle.json_model.specs.Tree.{Tree}
use Rattle.json_model.specs.Nest.{nest}
use Rattle.jsonb_layout.specs.declared.form.Form.TheVariants.{Array, Object}
use Rattle.jsonb_layout.specs.inner.Reading.{Place, keys_at, opened}
use Rattle.jsonb_layout.specs.inner.Trees.{read}
use Rattle.jsonb_layout.proofs.Sizes.{keys_size, opened_size}
use Rattle.jsonb.specs.declared.found.Found.{Found}
use Rattle.jsonb.specs.declared.frame.Frame.{Frame}
use Rattle.jsonb.specs.Found.{nothing}
use Rattle.jsonb.specs.inner.Frames.{combine, container_found, rest_found, frame_weight, HoldsScalars, AreKeysFound, IsAdded}
use Rattle.jsonb.specs.inner.Views.{place}
use Rattle.jsonb.proofs.FoundLaws.{both_nothing}
use Rattle.jsonb.proofs.FrameLaws.{KeysRead, none_read, keys_read, array_found, no_keys, object_found, object_flat}

-- an array has no keys
module _ (b : List ℕ) (frame : Frame) (e : Some (Array, frame.left, place frame.start) ≡ opened b) where
  pub array_entered : (f : Found) → IsAdded (container_found b) f f frame true
  array_entered f = (nothing, sym (both_nothing f), array_found b frame.left (place frame.start) e)

  pub array_weight : frame_weight frame ≤ length b
  array_weight = omega (arith, opened_size b _ (sym e))

-- an object has keys in front of its values
module _ (b : List ℕ) (p : Place) (frame : Frame) (before after : Found) (e : Some (Object, frame.left, p) ≡ opened b) where
  pub object_entered : (is : Bool) → AreKeysFound (keys_at frame.left None p) before after (place frame.start) is
      → IsAdded (container_found b) before after frame is
  object_entered false h = no_keys b frame.left p e (none_read _ (sym h))
  object_entered true h =
      let k = keys_read _ h.0 (place frame.start) (sym h.2) in (
        h.0,
        h.1,
        object_found b frame.left p e (k.names, place frame.start) k.reads
            ∙ ap (λ (f : Found). combine (Some f) (rest_found frame.left (place frame.start))) k.found,
      )

  names : (is : Bool) → is ≡ true → AreKeysFound (keys_at frame.left None p) before after (place frame.start) is
      → (f : Found) × KeysRead (keys_at frame.left None p) f (place frame.start)
  names true e h = (h.0, keys_read _ h.0 (place frame.start) (sym h.2))
  names false e h = absurd cc

  module _ (is : Bool) (all : is ≡ true) (h : AreKeysFound (keys_at frame.left None p) before after (place frame.start) is) where
    pub object_weight : frame_weight frame ≤ length b
    object_weight =
        let k = (names is all h).1 in
        let keys = keys_size frame.left None p (k.names, place frame.start) (sym k.reads) in
        omega (arith, opened_size b _ (sym e), keys)

    pub object_scalars : (t : Tree) → read b ≡ Some t → nest t ≤ 1 → HoldsScalars frame
    object_scalars t there low =
        let k = (names is all h).1 in
        object_flat b t there low frame.left p e (k.names, place frame.start) k.reads
