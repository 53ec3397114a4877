-- Which patterns have no text for Rust, and why. The causes are this project's own. They are parts that the syntax of the crate `regex`
-- lacks (its documentation, section "Syntax"), or has in another form that is not written here, as names past ASCII.
use Rattle.std.specs.Prelude.{ℕ, ◌+◌, Bool, true, false, not, ◌&&◌, ◌||◌, ◌==◌, nat_le, nat_lt, if◌then◌else◌, List, [], ◌∷◌, drop, Option, Some, None}
use Rattle.std.specs.List.{list_all}
use Rattle.pattern_model.specs.Text.{Text, is_at}
use Rattle.pattern_model.specs.Digits.{is_digit, hex}
use Rattle.pattern_model.specs.CodePoints.{code_point}
use Rattle.pattern_model.specs.Members.{is_no_property}
use Rattle.pattern_model.specs.Properties.{is_word}
use Rattle.pattern_model.specs.SharedNames.{names, is_in}
use Rattle.pattern_model.specs.Matches.{is_narrow}
use Rattle.pattern_model.specs.Tree.{Leaf, Mark, Bounds, Name, Tree, is_look}

-- some leaf, some group's mark or some quantifier of the tree passes its test
abbrev pub some_part : (Leaf → Bool) → (Mark → Bool) → (Bounds → Bool) → Tree → Bool
some_part l m b Tree.empty = false
some_part l m b (Tree.leaf k) = l k
some_part l m b (Tree.group k t) = m k || some_part l m b t
some_part l m b (Tree.repeat t k) = b k || some_part l m b t
some_part l m b (Tree.sequence s t) = some_part l m b s || some_part l m b t
some_part l m b (Tree.either s t) = some_part l m b s || some_part l m b t

-- a look-ahead or a look-behind
abbrev pub has_look_around : Tree → Bool
has_look_around t = some_part (λ l. false) is_look (λ b. false) t

-- a back-reference, by number or by name
abbrev pub refers_back : Leaf → Bool
refers_back (Leaf.back_number n) = true
refers_back (Leaf.back_name n) = true
refers_back _ = false

abbrev pub has_back_reference : Tree → Bool
has_back_reference t = some_part refers_back (λ m. false) (λ b. false) t

-- a class with no items
abbrev pub is_empty_class : Leaf → Bool
is_empty_class (Leaf.class negated []) = true
is_empty_class _ = false

-- an ASCII letter or `_`, and then ASCII letters, digits and `_`
abbrev pub is_plain_name : Name → Bool
is_plain_name [] = false
is_plain_name (c ∷ n) = not (is_digit c) && list_all is_word (c ∷ n)

abbrev pub has_other_name : Mark → Bool
has_other_name (Mark.named n) = not (is_plain_name n)
has_other_name _ = false

-- a count of 2^32 or more
abbrev pub has_wide_count : Bounds → Bool
has_wide_count b = not (is_narrow (Some b.least) && is_narrow b.most)

abbrev pub has_other_part : Tree → Bool
has_other_part t = some_part is_empty_class has_other_name has_wide_count t

abbrev pub deeper : ℕ → ℕ → ℕ
deeper m n = if nat_le m n then n else m

-- how many groups are open where the most are
abbrev pub depth : Tree → ℕ
depth Tree.empty = 0
depth (Tree.leaf l) = 0
depth (Tree.group m t) = depth t + 1
depth (Tree.repeat t b) = depth t
depth (Tree.sequence l r) = deeper (depth l) (depth r)
depth (Tree.either l r) = deeper (depth l) (depth r)

-- a name of the list stands there twice
abbrev pub has_twin : List Name → Bool
has_twin [] = false
has_twin (n ∷ ns) = is_in n ns || has_twin ns

-- two groups have one name
abbrev pub shares_name : Tree → Bool
shares_name t = has_twin (names t)

-- D800 to DFFF: the code points that are no characters
abbrev pub is_surrogate : ℕ → Bool
is_surrogate n = nat_le 55296 n && nat_le n 57343

abbrev pub has_surrogate : Option (ℕ × Text) → Bool
has_surrogate None = false
has_surrogate (Some p) = is_surrogate p.0

-- the number that follows `\u` is a surrogate's, be it one of a pair or alone
abbrev pub names_surrogate : Text → Bool
names_surrogate x = has_surrogate (if is_at 123 x then code_point (drop 1 x) else hex 4 x)

-- An escape that has no translation, behind its backslash: a character past ASCII, a surrogate, or `\b` in a class.
abbrev pub is_other_escape : Bool → Text → Bool
is_other_escape in_class [] = false
is_other_escape in_class (d ∷ x) = nat_le 128 d || ((in_class && d == 98) || (d == 117 && names_surrogate x))

-- One stands in the text of a pattern. From left to right, a backslash and the character behind it are an escape, and between an
-- opening bracket and the next closing one that are in no escape is a class.
abbrev pub has_other_escape : Bool → Text → Bool
has_other_escape in_class [] = false
has_other_escape in_class (c ∷ []) = false
has_other_escape in_class (c ∷ d ∷ x) =
    if c == 92 then is_other_escape in_class (d ∷ x) || has_other_escape in_class x
    else has_other_escape (if in_class then not (c == 93) else c == 91) (d ∷ x)

-- of a pattern with this text and tree
abbrev pub is_unsupported : Text → Tree → Bool
is_unsupported x t = has_other_escape false x || (has_other_part t || (nat_lt 250 (depth t) || shares_name t))

-- the causes of refusal, of which the first that stands is told
pub data Refusal : Type 0 where
  look_around : Refusal
  back_reference : Refusal
  unsupported : Refusal

abbrev pub refusal : Text → Tree → Option Refusal
refusal x t =
    if has_look_around t then Some Refusal.look_around
    else if has_back_reference t then Some Refusal.back_reference
    else if is_unsupported x t then Some Refusal.unsupported
    else None

-- a property escape, in a class or outside
abbrev pub has_property : Leaf → Bool
has_property (Leaf.property negated) = true
has_property (Leaf.class negated items) = not (list_all is_no_property items)
has_property _ = false

abbrev pub modifies : Mark → Bool
modifies Mark.modified = true
modifies _ = false

-- a property escape, or a group with modifiers: what these match is not told here
abbrev pub is_vague : Tree → Bool
is_vague t = some_part has_property modifies (λ b. false) t

-- the pattern has a part that is copied, and of which Rust's grammar tells nothing here: `.`, `\b` or `\B` outside of classes, a
-- property escape, or a group with modifiers
abbrev pub is_copied_untold : Leaf → Bool
is_copied_untold Leaf.dot = true
is_copied_untold Leaf.boundary = true
is_copied_untold Leaf.not_boundary = true
is_copied_untold l = has_property l

abbrev pub has_untold_part : Tree → Bool
has_untold_part t = some_part is_copied_untold modifies (λ b. false) t
