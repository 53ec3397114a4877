-- A slice that stands for a tree stands for none with more bytes behind it, nor with fewer.
use Rattle.std.proofs.Common.{◌≡◌, ℕ, ◌≤◌, List, [], ◌∷◌, ◌++◌, length, take, drop, refl, sym, ap, subst, arith}
use Rattle.std.proofs.lemmas.List.{take-append-drop, length-append, length-take}
use Rattle.json_model.specs.Tree.{Tree}
use Rattle.jsonb_layout.specs.Stands.{Stands}
use Rattle.jsonb_layout.proofs.Cuts.{no_more}

nothing : (c : List ℕ) → length c ≡ 0 → c ≡ []
nothing [] e = refl
nothing (x ∷ c) e = absurd (omega (arith, e))

-- behind bytes that stand for a tree there are none
pub none_behind : (b c : List ℕ) (t u : Tree) → Stands b t → Stands (b ++ c) u → c ≡ []
none_behind b c t u h k = nothing c (no_more b c t u h k)

-- of bytes that stand for a tree none can be cut
pub none_cut : (b : List ℕ) (n : ℕ) (t u : Tree) → Stands b t → Stands (take n b) u → length b ≤ n
none_cut b n t u h k =
    let whole : take n b ++ drop n b ≡ b = take-append-drop n b in
    let none : length (drop n b) ≡ 0 = no_more (take n b) (drop n b) u t k (subst (λ (x : List ℕ). Stands x t) (sym whole) h) in
    omega (arith, none, ap length whole, length-append (take n b) (drop n b), length-take n b)
