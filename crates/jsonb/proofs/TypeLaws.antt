-- The type of the tree of bytes of a kind, and the length of a string's.
use Rattle.std.proofs.Common.{◌≡◌, ℕ, List, Option, Some, None, refl, sym, ap, subst, ◌∙◌, length, count_by, Bool, true, false, cond}
use Rattle.std.specs.Prelude.{option_map}
use Rattle.std.proofs.lemmas.Str.{IsUtf8-from_is_utf8}
use Rattle.json_model.specs.Tree.{Tree}
use Rattle.json_model.specs.Parts.{as_string, points}
use Rattle.json_traits.specs.Kinds.{type_of}
use Rattle.json_traits.specs.declared.types.json_type.JsonType.TheVariants as types
use Rattle.bytecount.specs.Bytes.{begins_char}
use Rattle.bytecount.proofs.CharLaws.{text_begins}
use Rattle.jsonb_layout.specs.inner.Trees.{read}
use Rattle.jsonb.specs.inner.Values.{value_of, or_null, IsJsonTree, says_object}
use Rattle.jsonb.specs.declared.kind.Kind.{Kind}
use Rattle.jsonb.specs.declared.kind.Kind.TheVariants as kinds
use Rattle.jsonb.proofs.KindLaws.{TreeIs, tree_is, no_string, string_text, container_stands}
use Rattle.jsonb_layout.specs.declared.form.Form.{Form}
use Rattle.jsonb_layout.specs.declared.form.Form.TheVariants.{Array, Object, Lone}
use Rattle.jsonb_layout.specs.inner.Reading.{Place, form_at, opened}
use Rattle.jsonb_layout.proofs.Openings.{opened_form}
use Rattle.jsonb.proofs.MemberLaws.{array_read, object_read, not_lone, opens}

container_type : (b : List ℕ) → IsJsonTree (read b) → cond (says_object (form_at b)) types.Object types.Array ≡ type_of (or_null (read b))
container_type b json = go (opened b) refl
  where
    said : (f : Form) (c : ℕ) (p : Place) → opened b ≡ Some (f, c, p)
        → cond (says_object (form_at b)) types.Object types.Array ≡ cond (says_object (Some (f, c))) types.Object types.Array
    said f c p e = ap (λ (r : Option (Form × ℕ)). cond (says_object r) types.Object types.Array) (opened_form b f c p e)

    by_form : (f : Form) (c : ℕ) (p : Place) → opened b ≡ Some (f, c, p)
        → cond (says_object (Some (f, c))) types.Object types.Array ≡ type_of (or_null (read b))
    by_form Array c p e = ap (λ (r : Option Tree). type_of (or_null r)) (sym (array_read b json c p (sym e)).1)
    by_form Object c p e = ap (λ (r : Option Tree). type_of (or_null r)) (sym (object_read b json c p (sym e)).1)
    by_form Lone c p e = absurd (not_lone b json (sym e))

    go : (o : Option (Form × ℕ × Place)) → opened b ≡ o → cond (says_object (form_at b)) types.Object types.Array ≡ type_of (or_null (read b))
    go None e = absurd (opens b json (sym e))
    go (Some o) e = said o.0 o.1 o.2 e ∙ by_form o.0 o.1 o.2 e

module _ (k : Kind) (b : List ℕ) (stands : IsJsonTree (value_of k b)) where
  -- the type of a number
  pub number_type : k ≡ kinds.Number → types.Number ≡ type_of (or_null (value_of k b))
  number_type e = go (or_null (value_of k b)) (subst (λ (j : Kind). TreeIs j (or_null (value_of k b))) e (tree_is k b stands))
    where
      go : (t : Tree) → TreeIs kinds.Number t → types.Number ≡ type_of t
      go t h = ap type_of (sym h.1)

  -- a container has the type that its header word says
  typed : k ≡ kinds.Container → (r : Bool) → r ≡ says_object (form_at b) → cond r types.Object types.Array ≡ type_of (or_null (value_of k b))
  typed e r h =
      let json = container_stands k b stands e in
      ap (λ (t : Bool). cond t types.Object types.Array) h ∙ container_type b json ∙ ap (λ (j : Kind). type_of (or_null (value_of j b))) (sym e)

  -- the type of a container whose header word says object
  pub object_type : k ≡ kinds.Container → true ≡ says_object (form_at b) → types.Object ≡ type_of (or_null (value_of k b))
  object_type e h = typed e true h

  -- and of one whose header word says array
  pub array_type : k ≡ kinds.Container → false ≡ says_object (form_at b) → types.Array ≡ type_of (or_null (value_of k b))
  array_type e h = typed e false h

  -- only a string has a length
  pub no_length : (k ≡ kinds.String → ⊥) → None ≡ option_map (λ s. length (points s)) (as_string (or_null (value_of k b)))
  no_length h = ap (option_map (λ s. length (points s))) (no_string k b stands h)

  -- a string has as many code points as bytes that begin one
  pub string_points : k ≡ kinds.String → (n : ℕ) → n ≡ count_by begins_char b
      → Some n ≡ option_map (λ s. length (points s)) (as_string (or_null (value_of k b)))
  string_points e n counted =
      let one : n ≡ length (points b) = counted ∙ text_begins b (IsUtf8-from_is_utf8 b (string_text k b stands e)) in
      ap (λ (m : ℕ). Some m) one ∙ ap (λ (j : Kind). option_map (λ s. length (points s)) (as_string (or_null (value_of j b)))) (sym e)
