-- Each line of the command `encode` has one answer.
use Rattle.std.proofs.Common.{◌≡◌, inl, inr, ℕ, List, Bool, true, false, Option, Some, None, refl, sym, ap, ◌∙◌}
use Rattle.std.specs.Prelude.{IsUtf8, codes}
use Rattle.std.specs.Str.{is_utf8}
use Rattle.std.proofs.lemmas.Bool.{false≢true}
use Rattle.std.proofs.lemmas.Str.{IsUtf8-from_is_utf8, is_utf8-from_IsUtf8}
use Rattle.hex.specs.Hex.{encode_lower}
use Rattle.json_exact.specs.Serde.{Writes, tree_of}
use Rattle.json_exact.proofs.SerdeTreeLaws.{no_float, some_float}
use Rattle.json_model.specs.Tree.{Tree, scalar, array, object, Elements, no_elements, element, Members, no_members, member}
use Rattle.jsonb_encode.specs.Encoded.{array_items, canonical, object_items}
use Rattle.jsonb_encode.specs.Limits.{AreSmall, ElementsAreSmall, IsSmall, IsWithinLimits, MembersAreSmall}
use Rattle.jsonb_encode.specs.declared.number_form.NumericForm.TheVariants.{Short}
use Rattle.jsonb_layout.specs.Layout.{Item}
use Rattle.serde_json.specs.Data.{Data}
use Rattle.serde_json.specs.Read.{read}
use Rattle.serde_json.specs.Written.{has_float}
use Rattle.judge.specs.Codes.{CodeAnswer}
use Rattle.literal_patterns.proofs.DecidedPatterns.{Decided}
use Rattle.flat_keywords.proofs.Decided.{decided_both, decided_less}

-- ---- what is decided

decided_utf8 : (bytes : List ℕ) → Decided (IsUtf8 bytes)
decided_utf8 bytes = go (is_utf8 bytes) refl
  where
    go : (b : Bool) → is_utf8 bytes ≡ b → Decided (IsUtf8 bytes)
    go true e = inl (IsUtf8-from_is_utf8 bytes e)
    go false e = inr (λ u. false≢true (sym e ∙ is_utf8-from_IsUtf8 bytes u))

decided_small : (count : ℕ) (items : List Item) → Decided (IsSmall count items)
decided_small count items = decided_both (decided_less _ _) (decided_less _ _)

mutual
  decided_are_small : (t : Tree) → Decided (AreSmall Short t)
  decided_are_small (scalar s) = inl tt
  decided_are_small (array ts) = decided_both (decided_small _ (array_items Short ts)) (decided_elements ts)
  decided_are_small (object ms) = decided_both (decided_small _ (object_items Short ms)) (decided_members ms)

  decided_elements : (ts : Elements) → Decided (ElementsAreSmall Short ts)
  decided_elements no_elements = inl tt
  decided_elements (element t ts) = decided_both (decided_are_small t) (decided_elements ts)

  decided_members : (ms : Members) → Decided (MembersAreSmall Short ms)
  decided_members no_members = inl tt
  decided_members (member k t ms) = decided_both (decided_are_small t) (decided_members ms)

decided_within : (t : Tree) → Decided (IsWithinLimits Short t)
decided_within (scalar s) = decided_less _ _
decided_within (array ts) = decided_are_small (array ts)
decided_within (object ms) = decided_are_small (object ms)

-- ---- the answer, by what is decided of the line

abbrev by_limits : {P : Type 0} → Tree → Decided P → List ℕ
by_limits t (inl within) = encode_lower (canonical t)
by_limits t (inr over) = codes "TooLarge"

abbrev by_tree : Option Tree → List ℕ
by_tree None = codes "Float"
by_tree (Some t) = by_limits t (decided_within t)

abbrev by_read : Option Data → List ℕ
by_read None = codes "NotJson"
by_read (Some d) = by_tree (tree_of d)

abbrev by_text : {P : Type 0} → Decided P → Option Data → List ℕ
by_text (inl text) r = by_read r
by_text (inr none) r = codes "NotJson"

abbrev code : List ℕ → List ℕ
code line = by_text (decided_utf8 line) (read line)

-- ---- each answer is that one

within_is : {P : Type 0} (t : Tree) (d : Decided P) → P → by_limits t d ≡ encode_lower (canonical t)
within_is t (inl p) q = refl
within_is t (inr n) q = absurd (n q)

over_is : {P : Type 0} (t : Tree) (d : Decided P) → (P → ⊥) → by_limits t d ≡ codes "TooLarge"
over_is t (inl p) n = absurd (n p)
over_is t (inr n) m = refl

text_is : {P : Type 0} (d : Decided P) (r : Option Data) → P → by_text d r ≡ by_read r
text_is (inl p) r q = refl
text_is (inr n) r q = absurd (n q)

no_text_is : {P : Type 0} (d : Decided P) (r : Option Data) → (P → ⊥) → by_text d r ≡ codes "NotJson"
no_text_is (inl p) r n = absurd (n p)
no_text_is (inr n) r m = refl

none_read_is : {P : Type 0} (d : Decided P) (r : Option Data) → r ≡ None → by_text d r ≡ codes "NotJson"
none_read_is (inl p) r e = ap by_read e
none_read_is (inr n) r e = refl

-- a value in which a float stands has no tree
float_is : (d : Data) → has_float d ≡ true → by_tree (tree_of d) ≡ codes "Float"
float_is d e = go (tree_of d) refl
  where
    go : (o : Option Tree) → tree_of d ≡ o → by_tree o ≡ codes "Float"
    go None is = refl
    go (Some t) is = absurd (false≢true (sym (no_float d t is) ∙ e))

-- what is read of a line that is text
read_is : (line : List ℕ) (d : Data) → IsUtf8 line → read line ≡ Some d → code line ≡ by_tree (tree_of d)
read_is line d text reads = text_is (decided_utf8 line) (read line) text ∙ ap by_read reads

tree_is : (line : List ℕ) (d : Data) (t : Tree) → IsUtf8 line → read line ≡ Some d → tree_of d ≡ Some t
    → code line ≡ by_limits t (decided_within t)
tree_is line d t text reads writes = read_is line d text reads ∙ ap by_tree writes

code_is : (line answer : List ℕ) → CodeAnswer line answer → answer ≡ code line
code_is line answer (inl e) =
    e.is ∙ sym (tree_is line e.writes.0 e.tree e.utf8 e.writes.1 e.writes.2 ∙ within_is e.tree (decided_within e.tree) e.within)
code_is line answer (inr (inl n)) = elim n.cause [
  | inl none ↦ n.named ∙ sym (no_text_is (decided_utf8 line) (read line) none)
  | inr none ↦ n.named ∙ sym (none_read_is (decided_utf8 line) (read line) none)
]
code_is line answer (inr (inr (inl f))) = f.named ∙ sym (read_is line f.value f.utf8 f.reads ∙ float_is f.value f.float)
code_is line answer (inr (inr (inr l))) =
    l.named ∙ sym (tree_is line l.writes.0 l.tree l.utf8 l.writes.1 l.writes.2 ∙ over_is l.tree (decided_within l.tree) l.over)

pub one_code : (line a b : List ℕ) → CodeAnswer line a → CodeAnswer line b → a ≡ b
one_code line a b h g = code_is line a h ∙ sym (code_is line b g)

-- ---- there is one

pub not_text_code : (line : List ℕ) → (IsUtf8 line → ⊥) → CodeAnswer line (codes "NotJson")
not_text_code line none = inr (inl (record { cause = inl none; named = refl }))

pub not_json_code : (line : List ℕ) → read line ≡ None → CodeAnswer line (codes "NotJson")
not_json_code line none = inr (inl (record { cause = inr none; named = refl }))

pub float_code : (line : List ℕ) → IsUtf8 line → (d : Data) → read line ≡ Some d → has_float d ≡ true → CodeAnswer line (codes "Float")
float_code line text d reads float =
    inr (inr (inl (record { utf8 = text; value = d; reads = reads; float = float; named = refl })))

pub too_large_code : (line : List ℕ) → IsUtf8 line → (t : Tree) → Writes line t → (IsWithinLimits Short t → ⊥) → CodeAnswer line (codes "TooLarge")
too_large_code line text t writes over =
    inr (inr (inr (record { utf8 = text; tree = t; writes = writes; over = over; named = refl })))

pub encoded_code : (line answer : List ℕ) → IsUtf8 line → (t : Tree) → Writes line t → IsWithinLimits Short t → answer ≡ encode_lower (canonical t)
    → CodeAnswer line answer
encoded_code line answer text t writes within is =
    inl (record { utf8 = text; tree = t; writes = writes; within = within; is = is })

pub some_code : (line : List ℕ) → (answer : List ℕ) × CodeAnswer line answer
some_code line = by_utf8 (decided_utf8 line)
  where
    Code : Type 0
    Code = (answer : List ℕ) × CodeAnswer line answer

    by_size : IsUtf8 line → (t : Tree) → Writes line t → Decided (IsWithinLimits Short t) → Code
    by_size text t writes (inl within) = (encode_lower (canonical t), encoded_code line (encode_lower (canonical t)) text t writes within refl)
    by_size text t writes (inr over) = (codes "TooLarge", too_large_code line text t writes over)

    by_value : IsUtf8 line → (d : Data) → read line ≡ Some d → (o : Option Tree) → tree_of d ≡ o → Code
    by_value text d reads None is = (codes "Float", float_code line text d reads (some_float d is))
    by_value text d reads (Some t) is = by_size text t (d, reads, is) (decided_within t)

    by_json : IsUtf8 line → (r : Option Data) → read line ≡ r → Code
    by_json text None is = (codes "NotJson", not_json_code line is)
    by_json text (Some d) is = by_value text d is (tree_of d) refl

    by_utf8 : Decided (IsUtf8 line) → Code
    by_utf8 (inl text) = by_json text (read line) refl
    by_utf8 (inr none) = (codes "NotJson", not_text_code line none)
