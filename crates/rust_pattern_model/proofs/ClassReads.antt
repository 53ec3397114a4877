-- What is written for a class that is not refused is one class by Rust's grammar, with the same members.
use Rattle.std.proofs.Common.{◌≡◌, Bool, true, false, List, [], ◌∷◌, ◌++◌, drop, Option, Some, None, option_map, refl, ap, sym, ◌∙◌, subst, append_assoc}
use Rattle.std.specs.Prelude.{if◌then◌else◌, codes}
use Rattle.std.specs.List.{list_all}
use Rattle.pattern_model.specs.Text.{Text, is_at}
use Rattle.pattern_model.specs.Tree.{Item, Leaf, Token}
use Rattle.pattern_model.specs.Members.{is_no_property}
use Rattle.pattern_model.specs.Classes.{class_items}
use Rattle.pattern_model.specs.Tokens.{class_token, class_from}
use Rattle.rust_pattern_model.specs.Refusals.{is_empty_class, has_other_escape}
use Rattle.rust_pattern_model.specs.Translation.{WritesItems, WritesClass}
use Rattle.rust_pattern_model.specs.RustClasses.{ReadsClass}
use Rattle.rust_pattern_model.proofs.SameSet.{SameSet}
use Rattle.rust_pattern_model.proofs.Alone.{none_some, pair_same}
use Rattle.rust_pattern_model.proofs.EscapeScan.{past_open, past_close}
use Rattle.rust_pattern_model.proofs.ClassRows.{row_written, past_plain, Laid, laid}
use Rattle.rust_pattern_model.proofs.RowReads.{image, class_same, not_empty, no_caret, row_reads}
pub use Rattle.rust_pattern_model.proofs.EscapeSets.{is_capital, small, escape_set}

token_same : (k n : Bool) (xs ys : List Item) → Token.leaf (Leaf.class k xs) ≡ Token.leaf (Leaf.class n ys) → (k ≡ n) × (xs ≡ ys)
token_same k n xs ys e = (cc, cc)

token_is : (k n : Bool) (items : List Item) (y : Text) (o : Option (List Item × Text)) →
    option_map (class_token k) o ≡ Some (Token.leaf (Leaf.class n items), y) → (k ≡ n) × (end : Text) × (o ≡ Some (items, end))
token_is k n items y None e = absurd (none_some e)
token_is k n items y (Some p) e =
    let (f, g) = pair_same (Token.leaf (Leaf.class k p.0)) (Token.leaf (Leaf.class n items)) (drop 1 p.1) y e in
    let (h, i) = token_same k n p.0 items f in
    (h, p.1, ap (λ z. Some (z, p.1)) i)

-- what is written for a class and what follows it, by the row of its items
written_is : (front x y v w rest : Text) (items : List Item) (l : Laid [] x items (93 ∷ y) v) → w ≡ front ++ (v ++ codes "]") →
    w ++ rest ≡ front ++ row_written l.row rest
written_is front x y v w rest items l f =
    ap (λ z. z ++ rest) f ∙ (append_assoc front (v ++ codes "]") rest ∙ ap (λ z. front ++ z) (append_assoc v (codes "]") rest ∙ l.written rest))

set_read : (negated : Bool) (y rest : Text) (items : List Item) → list_all is_no_property items ≡ true →
    ReadsClass y negated (image items) rest → SameSet y negated items rest
set_read negated y rest items p c = record { inner = image items; class = c; plain = p; same = λ d. class_same negated items d }

abbrev Read : Text → Text → Bool → List Item → Type 0
Read y w negated items = ((rest : Text) → SameSet (w ++ rest) negated items rest) × (has_other_escape false y ≡ false)

negated_read : (x y v w : Text) (items : List Item) → Laid [] x items (93 ∷ y) v → w ≡ codes "[^" ++ (v ++ codes "]") →
    is_empty_class (Leaf.class true items) ≡ false → list_all is_no_property items ≡ true → Read y w true items
negated_read x y v w items l f i p = (
  λ rest. set_read true (w ++ rest) rest items p
      (row_written l.row rest, written_is (codes "[^") x y v w rest items l f, not_empty true l.row i, row_reads l.row rest),
  sym (past_close y) ∙ l.passed,
)

plain_read : (x y v w : Text) (items : List Item) → Laid [] x items (93 ∷ y) v → w ≡ codes "[" ++ (v ++ codes "]") →
    is_at 94 x ≡ false → is_empty_class (Leaf.class false items) ≡ false → list_all is_no_property items ≡ true → Read y w false items
plain_read x y v w items l f g i p = (
  λ rest. set_read false (w ++ rest) rest items p
      (row_written l.row rest, (written_is (codes "[") x y v w rest items l f, no_caret l.row rest g), not_empty false l.row i, row_reads l.row rest),
  sym (past_close y) ∙ l.passed,
)

-- What is written for a class is a class with the same members, whatever follows it; and behind the class no escape is refused.
pub class_read : (x y w : Text) (negated : Bool) (items : List Item) → class_from true x ≡ Some (Token.leaf (Leaf.class negated items), y) →
    WritesClass x y w → has_other_escape false (91 ∷ x) ≡ false → is_empty_class (Leaf.class negated items) ≡ false →
    list_all is_no_property items ≡ true →
    ((rest : Text) → SameSet (w ++ rest) negated items rest) × (has_other_escape false y ≡ false)
unfolding class_from
class_read x y w negated items e (v, h, f) n i p = go (is_at 94 x) refl e h f
  where
    inside_fine : has_other_escape true x ≡ false
    inside_fine = sym (past_open x) ∙ n

    go : (b : Bool) → is_at 94 x ≡ b → (if b then option_map (class_token true) (class_items true (drop 1 x))
        else option_map (class_token false) (class_items true x)) ≡ Some (Token.leaf (Leaf.class negated items), y) →
        WritesItems [] (if b then drop 1 x else x) (93 ∷ y) v → w ≡ (if b then codes "[^" else codes "[") ++ (v ++ codes "]") →
        Read y w negated items
    go true k e h f =
        let (g, end, r) = token_is true negated items y (class_items true (drop 1 x)) e in
        subst (λ b. Read y w b items) g (negated_read (drop 1 x) y v w items
        (laid h items end r (past_plain 94 x refl refl k inside_fine) p) f (ap (λ b. is_empty_class (Leaf.class b items)) g ∙ i) p)
    go false k e h f =
        let (g, end, r) = token_is false negated items y (class_items true x) e in
        subst (λ b. Read y w b items) g (plain_read x y v w items (laid h items end r inside_fine p) f k
        (ap (λ b. is_empty_class (Leaf.class b items)) g ∙ i) p)
