-- How long a string value is, in code points.
use Rattle.std.proofs.Common.{rules, ◌≡◌, ℕ, List, length, count_by, String, Global, string_bytes, sym, ap, ◌∙◌}
use Rattle.std.specs.Prelude.{Some, option_map}
use Rattle.std.specs.Str.{IsUtf8}
use Rattle.bytecount.specs.Bytes.{begins_char}
use Rattle.bytecount.proofs.CharLaws.{text_begins}
use Rattle.json_model.specs.Parts.{as_string, points}
use Rattle.json_model.specs.Tree.{scalar, string}
use Rattle.json_exact.specs.Trees.{tree}
use Rattle.json_exact.specs.declared.value.Value.{Value, the_lemmas}
use Rattle.json_exact.specs.declared.value.Value as V

-- the tree of a string value
tree_string : (s : String Global) → tree (V.String s) ≡ scalar (string (string_bytes s))
tree_string s = search (rules, the_lemmas)

-- the bytes that begin a code point are as many as the code points of a string value
pub points_counted : (x : Value) (s : String Global) (bytes : List ℕ) (n : ℕ) → x ≡ V.String s → bytes ≡ string_bytes s → IsUtf8 bytes → n
    ≡ count_by begins_char bytes
    → Some n ≡ option_map (λ (b : List ℕ). length (points b)) (as_string (tree x))
points_counted x s bytes n e f u g =
    ap (λ (k : ℕ). Some k) (g ∙ text_begins bytes u ∙ ap (λ (b : List ℕ). length (points b)) f)
    ∙ sym (ap (λ t. option_map (λ (b : List ℕ). length (points b)) (as_string t)) (ap tree e ∙ tree_string s))
