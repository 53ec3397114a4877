-- The trees of parts, and what is left when one is taken. This project's own; the values are those of RFC 8259, section 3.
use Rattle.std.specs.Prelude.{◌≡◌, ℕ, true, List, [], ◌∷◌, Option, MatchOption, map, ⊤}
use Rattle.std.specs.Borrow.{Bor}
use Rattle.json_model.specs.Keys.{rises}
use Rattle.json_model.specs.Parts.{elements_from, members_from}
use Rattle.json_model.specs.Tree.{Tree, scalar, null, boolean, number, string, array, object}
use Rattle.json_elements.specs.declared.element.Parts.{Parts}
use Rattle.json_elements.specs.declared.element.Parts.TheVariants as parts

-- the tree that parts make
abbrev pub parts_tree : {E M : Type 0} → (E → List Tree) → (M → List (List ℕ × Tree)) → Parts E M → Tree
parts_tree trees pairs parts.Null = scalar null
parts_tree trees pairs (parts.Boolean b) = scalar (boolean b)
parts_tree trees pairs (parts.Number n) = scalar (number n)
parts_tree trees pairs (parts.Text s) = scalar (string s.now)
parts_tree trees pairs (parts.Array e) = array (elements_from (trees e))
parts_tree trees pairs (parts.Object m) = object (members_from (pairs m))

abbrev pub keys_rise : List (List ℕ × Tree) → Type 0
keys_rise ps = rises (map (λ p. p.0) ps) ≡ true

-- the keys of an object rise
abbrev pub HaveRisingKeys : {E M : Type 0} → (M → List (List ℕ × Tree)) → Parts E M → Type 0
HaveRisingKeys pairs parts.Null = ⊤
HaveRisingKeys pairs (parts.Boolean b) = ⊤
HaveRisingKeys pairs (parts.Number n) = ⊤
HaveRisingKeys pairs (parts.Text s) = ⊤
HaveRisingKeys pairs (parts.Array e) = ⊤
HaveRisingKeys pairs (parts.Object m) = keys_rise (pairs m)

-- the first of the trees is taken, or there is none
abbrev pub IsNextTree : {N : Type 0} → (N → Tree) → List Tree → Option N → List Tree → Type 0
IsNextTree tree before o after = MatchOption o (before ≡ []) (λ n. before ≡ tree n ∷ after)

-- the first of the pairs is taken, or there is none
abbrev pub IsNextPair : {N : Type 0} → (N → Tree) → List (List ℕ × Tree) → Option (Bor (List ℕ) × N) → List (List ℕ × Tree) → Type 0
IsNextPair tree before o after = MatchOption o (before ≡ []) (λ m. before ≡ (m.0.now, tree m.1) ∷ after)
