-- The number that digits make in a base, and the digits of a number: positional notation, the highest digit first.
use Rattle.std.specs.Prelude.{ℕ, zero, suc, ◌+◌, ◌*◌, ◌/◌, ◌%◌, ◌^◌, ◌<◌, true, false, ◌==◌, List, [], ◌∷◌, length}

abbrev pub joined : ℕ → List ℕ → ℕ
joined b [] = 0
joined b (d ∷ ds) = d * b ^ length ds + joined b ds

-- each is a digit of the base
abbrev pub AllBelow : ℕ → List ℕ → Type 0
AllBelow b [] = Unit {0}
AllBelow b (d ∷ ds) = (d < b) × AllBelow b ds

-- the last `n` digits of a number that has no more, zeros in front
abbrev pub spread : ℕ → ℕ → ℕ → List ℕ
spread b zero m = []
spread b (suc n) m = (m / b ^ n) ∷ spread b n (m % b ^ n)

-- how many digits of base b a number has that is at most `fuel`
abbrev pub count_in : ℕ → ℕ → ℕ → ℕ
count_in b zero n = 0
count_in b (suc fuel) n = elim (n == 0) [ true ↦ 0 | false ↦ suc (count_in b fuel (n / b)) ]

-- how many digits of base b a number has, none leading: 0 has none
unfoldable pub count_of : ℕ → ℕ → ℕ
count_of b n = count_in b n n

-- how many decimal digits a number has, none leading: 0 has none
unfoldable pub count : ℕ → ℕ
count n = count_of 10 n
