-- Counts and depths that loops and calls compare, as numbers alone.
use Rattle.std.proofs.Common.{◌≡◌, ◌+◌, ◌-◌, ◌*◌, ◌≤◌, ◌<◌, ℕ, List, ◌∷◌, drop, length, length-drop, suc, ap, arith}
use Rattle.std.specs.Prelude.{◌↔◌}
use Rattle.json_model.specs.Nest.{nest, nest_members}
use Rattle.json_model.specs.Parts.{members_from}
use Rattle.json_model.specs.Tree.{Tree}

-- an element, a member and a member's value are measured below what they stand in
pub element_below : (n m t : ℕ) → n ≤ m → 3 * m + 2 ≡ t → 3 * n < t
element_below n m t le e = omega arith

pub member_below : (n m t : ℕ) → n ≤ m → 3 * m + 2 ≡ t → 3 * n + 1 < t
member_below n m t le e = omega arith

pub value_below : (n m t : ℕ) → n ≡ m → 3 * m + 1 ≡ t → 3 * n < t
value_below n m t s e = omega arith

-- and so are the parts of a container, together
pub parts_below : (n m t : ℕ) → n ≡ 1 + m → 3 * n ≡ t → 3 * m + 2 < t
parts_below n m t s e = omega arith

-- the same where no step lies between a member and its value
pub inside_below : (n m t : ℕ) → n ≤ m → 2 * m + 1 ≡ t → 2 * n < t
inside_below n m t le e = omega arith

pub same_inside_below : (p n m t : ℕ) → n ≤ m → p ≡ n → 2 * m + 1 ≡ t → 2 * p < t
same_inside_below p n m t le s e = omega arith

pub whole_below : (n m t : ℕ) → n ≡ 1 + m → 2 * n ≡ t → 2 * m + 1 < t
whole_below n m t s e = omega arith

-- a container nests one deeper than its parts
pub one_deeper : (n m l : ℕ) → n ≡ 1 + m → 0 < l → (m ≤ l - 1) ↔ (n ≤ l)
one_deeper n m l s lt = (λ h. omega arith, λ h. omega arith)

pub as_deep : (n m : ℕ) → n ≡ m → n ≤ m
as_deep n m s = omega arith

-- none is missing where as many were counted
pub none_missing : (l a n e i : ℕ) → l ≤ i → a ≡ l → n ≡ a → n ≡ e → i < e → ⊥
none_missing l a n e i le s count same lt = omega arith

-- and all are passed behind the last
pub all_passed : (l a n e i : ℕ) → a ≡ l → n ≡ a → n ≡ e → e ≤ i → l ≤ i
all_passed l a n e i s count same le = omega arith

pub as_few : (l e i : ℕ) → l ≡ e → e ≤ i → l ≤ i
as_few l e i s le = omega arith

-- two of which as many were counted
pub counted_alike : (l a n m e d : ℕ) → a ≡ l → n ≡ a → n ≡ m → m ≡ e → d ≡ e → l ≡ d
counted_alike l a n m e d s count same other more = omega arith

-- the one ends while the other goes on
pub not_as_many : {A : Type 0} (xs : List A) (k n r : ℕ) → length xs ≤ k → length (drop k xs) ≡ n → n ≡ suc r → ⊥
not_as_many xs k n r le same more = omega (arith, length-drop k xs)

-- without the first of each they are as many
pub one_fewer : (n m a b : ℕ) → n ≡ suc a → m ≡ suc b → n ≡ m → a ≡ b
one_fewer n m a b f g same = omega arith

-- the first of the members that are left, and those behind it, nest no deeper than all of them
module _ (p : List ℕ × Tree) (ps rest : List (List ℕ × Tree)) (m : ℕ) (first : ps ≡ p ∷ rest) (le : nest_members (members_from ps) ≤ m) where
  pub first_inside : nest p.1 ≤ m
  first_inside = let same = ap (λ (zs : List (List ℕ × Tree)). nest_members (members_from zs)) first in omega arith

  pub rest_inside : nest_members (members_from rest) ≤ m
  rest_inside = let same = ap (λ (zs : List (List ℕ × Tree)). nest_members (members_from zs)) first in omega arith

-- of two that go on side by side, the second does not end first
pub not_fewer : (l n m b i : ℕ) → i < l → n ≡ l → m ≡ b → n ≡ m → b ≤ i → ⊥
not_fewer l n m b i lt count other same le = omega arith

-- and it has no more
pub no_more : (l n m b i : ℕ) → l ≤ i → n ≡ l → m ≡ b → n ≡ m → b ≤ i
no_more l n m b i le count other same = omega arith
