-- What the tree of bytes of a kind has, and lacks.
use Rattle.std.proofs.Common.{◌≡◌, ℕ, List, Bool, true, false, Option, Some, None, refl, sym, ap, subst, ◌∙◌, ◌⊎◌, inl, inr}
use Rattle.std.specs.Prelude.{not, ◌&&◌}
use Rattle.std.specs.Str.{is_utf8}
use Rattle.json_model.specs.Decimal.{Decimal}
use Rattle.json_model.specs.Tree.{Scalar, null, boolean, number, string, Tree, scalar, array, object, Elements, Members}
use Rattle.json_model.specs.Parts.{as_string, as_boolean, is_null, is_number, is_string, if_object, if_array, if_number}
use Rattle.json_traits.specs.Identities.{if_container}
use Rattle.jsonb_layout.specs.Options.{◌>>=◌}
use Rattle.jsonb_layout.specs.inner.Reading.{numeric_of}
use Rattle.jsonb_layout.specs.inner.Trees.{read}
use Rattle.jsonb_layout.proofs.Shapes.{read_no_scalar}
use Rattle.jsonb.specs.Found.{text_found}
use Rattle.jsonb.specs.inner.Values.{value_of, or_null, is_clean, IsJsonTree}
use Rattle.jsonb.specs.declared.kind.Kind.{Kind}
use Rattle.jsonb.specs.declared.kind.Kind.TheVariants as kinds

-- trees of a kind
abbrev pub TreeIs : Kind → Tree → Type 0
TreeIs kinds.String t = (s : List ℕ) × (t ≡ scalar (string s))
TreeIs kinds.Number t = (d : Decimal) × (t ≡ scalar (number d))
TreeIs kinds.False t = t ≡ scalar (boolean false)
TreeIs kinds.True t = t ≡ scalar (boolean true)
TreeIs kinds.Null t = t ≡ scalar null
TreeIs kinds.Container t = ((ts : Elements) × (t ≡ array ts)) ⊎ ((ms : Members) × (t ≡ object ms))

-- the tree of bytes of a kind is of that kind
pub tree_is : (k : Kind) (b : List ℕ) → IsJsonTree (value_of k b) → TreeIs k (or_null (value_of k b))
tree_is kinds.String b h = (b, refl)
tree_is kinds.Number b h = go (numeric_of b) h
  where
    go : (r : Option Decimal) → IsJsonTree (r >>= λ d. Some (scalar (number d))) → TreeIs kinds.Number (or_null (r >>= λ d. Some (scalar (number d))))
    go None h = absurd cc
    go (Some d) h = (d, refl)
tree_is kinds.False b h = refl
tree_is kinds.True b h = refl
tree_is kinds.Null b h = refl
tree_is kinds.Container b h = go (read b) (read_no_scalar b) h
  where
    go : (r : Option Tree) → ((s : Scalar) → r ≡ Some (scalar s) → ⊥) → IsJsonTree r → TreeIs kinds.Container (or_null r)
    go None never h = absurd cc
    go (Some (scalar s)) never h = absurd (never s refl)
    go (Some (array ts)) never h = inl (ts, refl)
    go (Some (object ms)) never h = inr (ms, refl)

-- a reading gives x for each tree of the kind
record GivesAll {A : Type 0} (f : Tree → A) (x : A) (k : Kind) : Type 0 where
  string_is : k ≡ kinds.String → (s : List ℕ) → x ≡ f (scalar (string s))
  number_is : k ≡ kinds.Number → (d : Decimal) → x ≡ f (scalar (number d))
  false_is : k ≡ kinds.False → x ≡ f (scalar (boolean false))
  true_is : k ≡ kinds.True → x ≡ f (scalar (boolean true))
  null_is : k ≡ kinds.Null → x ≡ f (scalar null)
  array_is : k ≡ kinds.Container → (ts : Elements) → x ≡ f (array ts)
  object_is : k ≡ kinds.Container → (ms : Members) → x ≡ f (object ms)

-- so it gives x
by_kind : {A : Type 0} (f : Tree → A) (x : A) (k : Kind) (t : Tree) → TreeIs k t → GivesAll f x k → x ≡ f t
by_kind f x kinds.String t h g = g.string_is refl h.0 ∙ ap f (sym h.1)
by_kind f x kinds.Number t h g = g.number_is refl h.0 ∙ ap f (sym h.1)
by_kind f x kinds.False t h g = g.false_is refl ∙ ap f (sym h)
by_kind f x kinds.True t h g = g.true_is refl ∙ ap f (sym h)
by_kind f x kinds.Null t h g = g.null_is refl ∙ ap f (sym h)
by_kind f x kinds.Container t (inl h) g = g.array_is refl h.0 ∙ ap f (sym h.1)
by_kind f x kinds.Container t (inr h) g = g.object_is refl h.0 ∙ ap f (sym h.1)

-- a text in which nothing is found is UTF-8
pub text_clean : (b : List ℕ) → is_clean (text_found b) ≡ true → is_utf8 b ≡ true
text_clean b h = go (is_utf8 b) h
  where
    go : (c : Bool) → (not (not c) && not false) ≡ true → c ≡ true
    go true h = refl
    go false h = absurd cc

module _ (k : Kind) (b : List ℕ) (stands : IsJsonTree (value_of k b)) where
  is : TreeIs k (or_null (value_of k b))
  is = tree_is k b stands

  -- only a container is an object
  pub no_object : (k ≡ kinds.Container → ⊥) → None ≡ if_object (or_null (value_of k b))
  no_object h =
      by_kind if_object None k _ is (record {
        string_is = λ _ _. refl;
        number_is = λ _ _. refl;
        false_is = λ _. refl;
        true_is = λ _. refl;
        null_is = λ _. refl;
        array_is = λ e _. absurd (h e);
        object_is = λ e _. absurd (h e);
      })

  -- only a container is an array
  pub no_array : (k ≡ kinds.Container → ⊥) → None ≡ if_array (or_null (value_of k b))
  no_array h =
      by_kind if_array None k _ is (record {
        string_is = λ _ _. refl;
        number_is = λ _ _. refl;
        false_is = λ _. refl;
        true_is = λ _. refl;
        null_is = λ _. refl;
        array_is = λ e _. absurd (h e);
        object_is = λ e _. absurd (h e);
      })

  -- only a number has a number
  pub no_number : (k ≡ kinds.Number → ⊥) → None ≡ if_number (or_null (value_of k b))
  no_number h =
      by_kind if_number None k _ is (record {
        string_is = λ _ _. refl;
        number_is = λ e _. absurd (h e);
        false_is = λ _. refl;
        true_is = λ _. refl;
        null_is = λ _. refl;
        array_is = λ _ _. refl;
        object_is = λ _ _. refl;
      })

  -- only a string has a text
  pub no_string : (k ≡ kinds.String → ⊥) → None ≡ as_string (or_null (value_of k b))
  no_string h =
      by_kind as_string None k _ is (record {
        string_is = λ e _. absurd (h e);
        number_is = λ _ _. refl;
        false_is = λ _. refl;
        true_is = λ _. refl;
        null_is = λ _. refl;
        array_is = λ _ _. refl;
        object_is = λ _ _. refl;
      })

  -- only true and false are booleans
  pub no_boolean : (k ≡ kinds.True → ⊥) → (k ≡ kinds.False → ⊥) → None ≡ as_boolean (or_null (value_of k b))
  no_boolean h g =
      by_kind as_boolean None k _ is (record {
        string_is = λ _ _. refl;
        number_is = λ _ _. refl;
        false_is = λ e. absurd (g e);
        true_is = λ e. absurd (h e);
        null_is = λ _. refl;
        array_is = λ _ _. refl;
        object_is = λ _ _. refl;
      })

  -- nothing else is null
  pub not_null : (k ≡ kinds.Null → ⊥) → false ≡ is_null (or_null (value_of k b))
  not_null h =
      by_kind is_null false k _ is (record {
        string_is = λ _ _. refl;
        number_is = λ _ _. refl;
        false_is = λ _. refl;
        true_is = λ _. refl;
        null_is = λ e. absurd (h e);
        array_is = λ _ _. refl;
        object_is = λ _ _. refl;
      })

  -- nothing else is a number
  pub not_number : (k ≡ kinds.Number → ⊥) → false ≡ is_number (or_null (value_of k b))
  not_number h =
      by_kind is_number false k _ is (record {
        string_is = λ _ _. refl;
        number_is = λ e _. absurd (h e);
        false_is = λ _. refl;
        true_is = λ _. refl;
        null_is = λ _. refl;
        array_is = λ _ _. refl;
        object_is = λ _ _. refl;
      })

  -- nothing else is a string
  pub not_string : (k ≡ kinds.String → ⊥) → false ≡ is_string (or_null (value_of k b))
  not_string h =
      by_kind is_string false k _ is (record {
        string_is = λ e _. absurd (h e);
        number_is = λ _ _. refl;
        false_is = λ _. refl;
        true_is = λ _. refl;
        null_is = λ _. refl;
        array_is = λ _ _. refl;
        object_is = λ _ _. refl;
      })

  -- the bytes of a container are read
  pub container_stands : k ≡ kinds.Container → IsJsonTree (read b)
  container_stands e = subst (λ (j : Kind). IsJsonTree (value_of j b)) e stands

  -- null is null
  pub null_is : k ≡ kinds.Null → true ≡ is_null (or_null (value_of k b))
  null_is e = ap is_null (sym (ap (λ (j : Kind). or_null (value_of j b)) e))

  -- a string is one
  pub string_is : k ≡ kinds.String → true ≡ is_string (or_null (value_of k b))
  string_is e = ap is_string (sym (ap (λ (j : Kind). or_null (value_of j b)) e))

  -- the bytes of a string are UTF-8
  pub string_text : k ≡ kinds.String → is_utf8 b ≡ true
  string_text e = text_clean b (subst (λ (j : Kind). IsJsonTree (value_of j b)) e stands)

  -- a number is one
  pub number_is : k ≡ kinds.Number → true ≡ is_number (or_null (value_of k b))
  number_is e = go (or_null (value_of k b)) (subst (λ (j : Kind). TreeIs j (or_null (value_of k b))) e is)
    where
      go : (t : Tree) → TreeIs kinds.Number t → true ≡ is_number t
      go t h = ap is_number (sym h.1)

  -- nothing else has the identity of a container
  pub no_container : {A : Type 0} (x : Option A) → (k ≡ kinds.Container → ⊥) → None ≡ if_container (or_null (value_of k b)) x
  no_container x h =
      by_kind (λ t. if_container t x) None k _ is (record {
        string_is = λ _ _. refl;
        number_is = λ _ _. refl;
        false_is = λ _. refl;
        true_is = λ _. refl;
        null_is = λ _. refl;
        array_is = λ e _. absurd (h e);
        object_is = λ e _. absurd (h e);
      })

  -- a container has its identity
  pub container_is : {A : Type 0} (x : Option A) → k ≡ kinds.Container → x ≡ if_container (or_null (value_of k b)) x
  container_is {A = A} x e = go (or_null (value_of k b)) (subst (λ (j : Kind). TreeIs j (or_null (value_of k b))) e is)
    where
      go : (t : Tree) → TreeIs kinds.Container t → x ≡ if_container t x
      go t (inl h) = ap (λ (u : Tree). if_container {A = A} u x) (sym h.1)
      go t (inr h) = ap (λ (u : Tree). if_container {A = A} u x) (sym h.1)
