-- Truth values and tests.
use Rattle.std.proofs.Common.{◌≡◌, ℕ, ◌<◌, Bool, true, false, ◌&&◌, refl, arith}
use Rattle.std.specs.Prelude.{nat_lt, ◌==◌}
use Rattle.std.proofs.lemmas.Bool.Decides.{nat_tests}

-- what is true of both is true of the first, of the second, and of each
pub and_left : (a b : Bool) → a && b ≡ true → a ≡ true
and_left true b e = refl
and_left false b e = cc

pub and_right : (a b : Bool) → a && b ≡ true → b ≡ true
and_right true b e = e
and_right false b e = cc

pub both : (a b : Bool) → a && b ≡ true → (a ≡ true) × (b ≡ true)
both a b e = (and_left a b e, and_right a b e)

-- what is true of each is true of both
pub and_true : (a b : Bool) → a ≡ true → b ≡ true → a && b ≡ true
and_true true b h g = g
and_true false b h g = cc

-- what a test of numbers says
pub is_below : (i n : ℕ) → nat_lt i n ≡ true → i < n
is_below i n e = grind (arith, nat_tests)

pub code_is : (c d : ℕ) → c == d ≡ true → c ≡ d
code_is c d e = grind (arith, nat_tests)
