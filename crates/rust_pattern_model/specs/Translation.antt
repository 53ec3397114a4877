-- The text for Rust of a whole pattern: token after token, as the grammar reads them. This project's own.
use Rattle.std.specs.Prelude.{◌≡◌, ℕ, Bool, true, false, ◌==◌, List, [], ◌∷◌, ◌++◌, drop, Some, None, codes, if◌then◌else◌}
use Rattle.std.specs.Str.{chars}
use Rattle.pattern_model.specs.Text.{Text, is_at}
use Rattle.pattern_model.specs.Classes.{Atom, class_atom, makes_range, has_hyphens}
use Rattle.pattern_model.specs.Tokens.{token_from}
use Rattle.pattern_model.specs.Grammar.{Grammar}
use Rattle.pattern_model.specs.Tree.{Leaf, Mark, Token, Tree, tokens_of}
use Rattle.rust_pattern_model.specs.Refusals.{refusal}
use Rattle.rust_pattern_model.specs.Written.{escape_written, code_written, atom_written}

-- an atom of a class, with which x begins and behind which y stands
pub record WritesAtom (before x : Text) (a : Atom) (y w : Text) : Type 0 where
  pub own : Text
  pub read : class_atom x ≡ Some (a, y)
  pub stands : x ≡ own ++ y
  pub is : w ≡ atom_written before a x own y

-- What one atom begins: an item by itself, a range, whose own hyphen is copied, or a class escape and the two hyphens after it.
-- At `last` stands the last atom of these.
pub data WritesPart (before x last y w : Text) : Type 0 where
  single : {a : Atom} → WritesAtom before x a y w → has_hyphens true (a, y) ≡ false → makes_range y ≡ false → last ≡ x →
      WritesPart before x last y w
  range : {a b : Atom} {z v u : Text} → WritesAtom before x a z v → has_hyphens true (a, z) ≡ false → makes_range z ≡ true →
      last ≡ drop 1 z → WritesAtom z last b y u → w ≡ v ++ (45 ∷ u) → WritesPart before x last y w
  hyphens : {a : Atom} {z v u t : Text} → WritesAtom before x a z v → has_hyphens true (a, z) ≡ true →
      WritesAtom x z (Atom.code 45) last u → WritesAtom z last (Atom.code 45) y t → w ≡ v ++ (u ++ t) → WritesPart before x last y w

-- the items of a class, up to its closing bracket
pub data WritesItems : Text → Text → Text → Text → Type 0 where
  closes : {before x end w : Text} → is_at 93 x ≡ true → end ≡ x → w ≡ [] → WritesItems before x end w
  goes_on : {before x last y end v u w : Text} → is_at 93 x ≡ false → WritesPart before x last y v → WritesItems last y end u →
      w ≡ v ++ u → WritesItems before x end w

-- a class, behind its opening bracket
abbrev pub inside : Text → Text
inside x = if is_at 94 x then drop 1 x else x

abbrev pub opening : Text → Text
opening x = if is_at 94 x then codes "[^" else codes "["

abbrev pub WritesClass : Text → Text → Text → Type 0
WritesClass x y w = (v : Text) × WritesItems [] (inside x) (93 ∷ y) v × (w ≡ opening x ++ (v ++ codes "]"))

-- What is written for another token, with which the source goes on at x and of which `own` is the text: a name has its escapes
-- decoded, and what no line has is copied.
abbrev pub leaf_written : Leaf → Text → Text → Text
leaf_written (Leaf.escape e) x own = escape_written e
leaf_written (Leaf.code c) x own = code_written x own
leaf_written _ x own = own

abbrev pub mark_written : Mark → Text → Text
mark_written (Mark.named n) own = codes "(?<" ++ (chars n ++ codes ">")
mark_written _ own = own

abbrev pub token_written : Token → Text → Text → Text
token_written (Token.leaf l) x own = leaf_written l x own
token_written (Token.opens m) x own = mark_written m own
token_written _ x own = own

-- a token, which goes from c up to y: a class where c is an opening bracket
abbrev pub WritesToken : Bool → Token → ℕ → Text → Text → Text → Type 0
WritesToken true t c x y w = WritesClass x y w
WritesToken false t c x y w = (own : Text) × (c ∷ x ≡ own ++ y) × (w ≡ token_written t (c ∷ x) own)

-- tokens one after the other
abbrev pub Writes : Text → List Token → Text → Type 0
Writes x [] w = (x ≡ []) × (w ≡ [])
Writes x (t ∷ ts) w =
    (c : ℕ) × (after rest v u : Text) × (x ≡ c ∷ after) × (token_from true c after ≡ Some (t, rest))
    × WritesToken (c == 91) t c after rest v × Writes rest ts u × (w ≡ v ++ u)

-- a text of the widened grammar that has no cause of refusal, and the text for Rust
pub record Translates (x w : Text) : Type 0 where
  pub tree : Tree
  pub grammar : Grammar true x tree
  pub kept : refusal x tree ≡ None
  pub writes : Writes x (tokens_of tree) w
