-- Alike trees match alike.
use Rattle.std.proofs.Common.{◌≡◌, ℕ, zero, suc, true, inl, inr, sym, ◌∙◌}
use Rattle.pattern_model.specs.Text.{Text}
use Rattle.pattern_model.specs.Members.{leaf_has, leaf_is_set}
use Rattle.pattern_model.specs.Tree.{Leaf, Tree}
use Rattle.pattern_model.specs.Matches.{One, LeafMatches, Times, Matches}
use Rattle.rust_pattern_model.specs.Alike.{AlikeLeaf, Alike}

-- a class or class escape matches one of its members
set_has : (l : Leaf) → leaf_is_set l ≡ true → (y : Text) (i j : ℕ) → LeafMatches l y i j → One (leaf_has l) y i j
set_has (Leaf.class b items) e y i j h = h
set_has (Leaf.escape k) e y i j h = h
set_has (Leaf.code c) e y i j h = cc
set_has Leaf.dot e y i j h = cc
set_has Leaf.start e y i j h = cc
set_has Leaf.end e y i j h = cc
set_has Leaf.boundary e y i j h = cc
set_has Leaf.not_boundary e y i j h = cc
set_has (Leaf.property b) e y i j h = absurd h
set_has (Leaf.back_number n) e y i j h = absurd h
set_has (Leaf.back_name n) e y i j h = absurd h

has_set : (l : Leaf) → leaf_is_set l ≡ true → (y : Text) (i j : ℕ) → One (leaf_has l) y i j → LeafMatches l y i j
has_set (Leaf.class b items) e y i j h = h
has_set (Leaf.escape k) e y i j h = h
has_set (Leaf.code c) e y i j h = cc
has_set Leaf.dot e y i j h = cc
has_set Leaf.start e y i j h = cc
has_set Leaf.end e y i j h = cc
has_set Leaf.boundary e y i j h = cc
has_set Leaf.not_boundary e y i j h = cc
has_set (Leaf.property b) e y i j h = cc
has_set (Leaf.back_number n) e y i j h = cc
has_set (Leaf.back_name n) e y i j h = cc

leaf_on : {k l : Leaf} → AlikeLeaf k l → (y : Text) (i j : ℕ) → LeafMatches k y i j → LeafMatches l y i j
leaf_on AlikeLeaf.same y i j h = h
leaf_on (AlikeLeaf.sets {k = k} {l = l} e f s) y i j h =
    let (c, at, has, to) = set_has k e y i j h in has_set l f y i j (c, at, sym (s c) ∙ has, to)

times_on : (r s : ℕ → ℕ → Type 0) → ((i j : ℕ) → r i j → s i j) → (n i j : ℕ) → Times r n i j → Times s n i j
times_on r s f zero i j h = h
times_on r s f (suc n) i j (m, a, b) = (m, f i m a, times_on r s f n m j b)

alike_on : {t u : Tree} → Alike t u → (y : Text) (i j : ℕ) → Matches t y i j → Matches u y i j
alike_on Alike.empties y i j h = h
alike_on (Alike.leaves a) y i j h = leaf_on a y i j h
alike_on (Alike.groups a) y i j (p, h) = (p, alike_on a y i j h)
alike_on (Alike.repeats {t = t} {u = u} a) y i j (n, w, h) =
    (n, w, times_on (λ p q. Matches t y p q) (λ p q. Matches u y p q) (λ p q g. alike_on a y p q g) n i j h)
alike_on (Alike.sequences a b) y i j (m, l, r) = (m, alike_on a y i m l, alike_on b y m j r)
alike_on (Alike.eithers a b) y i j (inl l) = inl (alike_on a y i j l)
alike_on (Alike.eithers a b) y i j (inr r) = inr (alike_on b y i j r)

leaf_back : {k l : Leaf} → AlikeLeaf k l → AlikeLeaf l k
leaf_back AlikeLeaf.same = AlikeLeaf.same
leaf_back (AlikeLeaf.sets e f s) = AlikeLeaf.sets f e (λ c. sym (s c))

alike_back : {t u : Tree} → Alike t u → Alike u t
alike_back Alike.empties = Alike.empties
alike_back (Alike.leaves a) = Alike.leaves (leaf_back a)
alike_back (Alike.groups a) = Alike.groups (alike_back a)
alike_back (Alike.repeats a) = Alike.repeats (alike_back a)
alike_back (Alike.sequences a b) = Alike.sequences (alike_back a) (alike_back b)
alike_back (Alike.eithers a b) = Alike.eithers (alike_back a) (alike_back b)

-- an alike tree matches the same parts of the same texts
pub alike_matches : (t u : Tree) → Alike t u → (y : Text) (i j : ℕ) → (Matches t y i j → Matches u y i j) × (Matches u y i j → Matches t y i j)
alike_matches t u a y i j = (alike_on a y i j, alike_on (alike_back a) y i j)
