-- What was found in a tree says whether it is JSON.
use Rattle.std.proofs.Common.{◌≡◌, Bool, true, false, refl, ap, ◌∙◌}
use Rattle.std.specs.Prelude.{◌||◌, ◌&&◌, not}
use Rattle.std.specs.Str.{is_utf8}
use Rattle.std.proofs.lemmas.Str.{is_utf8-from_IsUtf8, IsUtf8-from_is_utf8}
use Rattle.json_model.specs.Json.{ScalarIsText, ScalarIsNarrow, IsText, AreText, MembersAreText, HasNarrow, HaveNarrow, MembersHaveNarrow, IsJson}
use Rattle.json_model.specs.Tree.{Scalar, null, boolean, number, string, Tree, scalar, array, object, Elements, no_elements, element, Members, no_members, member}
use Rattle.jsonb_layout.proofs.Narrow.{narrow_takes, narrow_again}
use Rattle.jsonb.specs.Found.{scalar_found, tree_found, elements_found, members_found}
use Rattle.jsonb.specs.inner.Values.{is_clean}
use Rattle.jsonb.specs.declared.found.Found.{Found}

neither : (a b : Bool) → (a || b) ≡ false → (a ≡ false) × (b ≡ false)
neither true b e = absurd cc
neither false b e = (refl, e)

not_false : (b : Bool) → not b ≡ false → b ≡ true
not_false true e = refl
not_false false e = absurd cc

text_is : (s : Scalar) → (scalar_found s).not_text ≡ false → ScalarIsText s
text_is null e = tt
text_is (boolean b) e = tt
text_is (number d) e = tt
text_is (string s) e = IsUtf8-from_is_utf8 s (not_false (is_utf8 s) e)

is_text : (s : Scalar) → ScalarIsText s → (scalar_found s).not_text ≡ false
is_text null h = refl
is_text (boolean b) h = refl
is_text (number d) h = refl
is_text (string s) h = ap not (is_utf8-from_IsUtf8 s h)

narrow_is : (s : Scalar) → (scalar_found s).wide ≡ false → ScalarIsNarrow s
narrow_is null e = tt
narrow_is (boolean b) e = tt
narrow_is (number d) e = narrow_takes d (not_false _ e)
narrow_is (string s) e = tt

is_narrow_scalar : (s : Scalar) → ScalarIsNarrow s → (scalar_found s).wide ≡ false
is_narrow_scalar null h = refl
is_narrow_scalar (boolean b) h = refl
is_narrow_scalar (number d) h = ap not (narrow_again d h)
is_narrow_scalar (string s) h = refl

mutual
  -- a tree in which no bad text is found is text
  pub text_of : (t : Tree) → (tree_found t).not_text ≡ false → IsText t
  text_of (scalar s) e = text_is s e
  text_of (array ts) e = texts_of ts e
  text_of (object ms) e = member_texts_of ms e

  texts_of : (ts : Elements) → (elements_found ts).not_text ≡ false → AreText ts
  texts_of no_elements e = tt
  texts_of (element t ts) e = let n = neither (tree_found t).not_text (elements_found ts).not_text e in (text_of t n.0, texts_of ts n.1)

  member_texts_of : (ms : Members) → (members_found ms).not_text ≡ false → MembersAreText ms
  member_texts_of no_members e = tt
  member_texts_of (member k t ms) e =
      let n = neither (not (is_utf8 k) || (tree_found t).not_text) (members_found ms).not_text e in
      let m = neither (not (is_utf8 k)) (tree_found t).not_text n.0 in
      (IsUtf8-from_is_utf8 k (not_false (is_utf8 k) m.0), text_of t m.1, member_texts_of ms n.1)

mutual
  -- and back
  pub of_text : (t : Tree) → IsText t → (tree_found t).not_text ≡ false
  of_text (scalar s) h = is_text s h
  of_text (array ts) h = of_texts ts h
  of_text (object ms) h = of_member_texts ms h

  of_texts : (ts : Elements) → AreText ts → (elements_found ts).not_text ≡ false
  of_texts no_elements h = refl
  of_texts (element t ts) h = ap (λ (b : Bool). b || (elements_found ts).not_text) (of_text t h.0) ∙ of_texts ts h.1

  of_member_texts : (ms : Members) → MembersAreText ms → (members_found ms).not_text ≡ false
  of_member_texts no_members h = refl
  of_member_texts (member k t ms) h =
      ap (λ (b : Bool). (not b || (tree_found t).not_text) || (members_found ms).not_text) (is_utf8-from_IsUtf8 k h.0)
      ∙ ap (λ (b : Bool). b || (members_found ms).not_text) (of_text t h.1)
      ∙ of_member_texts ms h.2

mutual
  pub narrow_of : (t : Tree) → (tree_found t).wide ≡ false → HasNarrow t
  narrow_of (scalar s) e = narrow_is s e
  narrow_of (array ts) e = narrows_of ts e
  narrow_of (object ms) e = member_narrows_of ms e

  narrows_of : (ts : Elements) → (elements_found ts).wide ≡ false → HaveNarrow ts
  narrows_of no_elements e = tt
  narrows_of (element t ts) e = let n = neither (tree_found t).wide (elements_found ts).wide e in (narrow_of t n.0, narrows_of ts n.1)

  member_narrows_of : (ms : Members) → (members_found ms).wide ≡ false → MembersHaveNarrow ms
  member_narrows_of no_members e = tt
  member_narrows_of (member k t ms) e = let n = neither (tree_found t).wide (members_found ms).wide e in (narrow_of t n.0, member_narrows_of ms n.1)

mutual
  -- in a narrow tree no wide number is found
  pub of_narrow : (t : Tree) → HasNarrow t → (tree_found t).wide ≡ false
  of_narrow (scalar s) h = is_narrow_scalar s h
  of_narrow (array ts) h = of_narrows ts h
  of_narrow (object ms) h = of_member_narrows ms h

  of_narrows : (ts : Elements) → HaveNarrow ts → (elements_found ts).wide ≡ false
  of_narrows no_elements h = refl
  of_narrows (element t ts) h = ap (λ (b : Bool). b || (elements_found ts).wide) (of_narrow t h.0) ∙ of_narrows ts h.1

  of_member_narrows : (ms : Members) → MembersHaveNarrow ms → (members_found ms).wide ≡ false
  of_member_narrows no_members h = refl
  of_member_narrows (member k t ms) h = ap (λ (b : Bool). b || (members_found ms).wide) (of_narrow t h.0) ∙ of_member_narrows ms h.1

-- ---- a tree that is JSON

clean_parts : (f : Found) → is_clean f ≡ true → (f.not_text ≡ false) × (f.wide ≡ false)
clean_parts f e = go f.not_text f.wide e
  where
    go : (a b : Bool) → (not a && not b) ≡ true → (a ≡ false) × (b ≡ false)
    go true b e = absurd cc
    go false true e = absurd cc
    go false false e = (refl, refl)

-- a tree in which nothing is found is JSON
pub json_of : (t : Tree) → is_clean (tree_found t) ≡ true → IsJson t
json_of t e = let p = clean_parts (tree_found t) e in (text_of t p.0, narrow_of t p.1)

-- nothing is both
pub differ : (b : Bool) → b ≡ true → b ≡ false → ⊥
differ b e h = absurd cc
