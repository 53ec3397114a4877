-- Taking readers apart.
use Rattle.std.proofs.Common.{◌≡◌, ℕ, suc, ◌+◌, ◌-◌, ◌<◌, ◌⊎◌, Bool, true, false, cond, List, get_or, take, drop, Option, Some, None, refl, arith, inl, inr}
use Rattle.std.proofs.lemmas.Bool.{cases_lt}
use Rattle.std.proofs.lemmas.List.{length-take, get_or-drop, get_or-take, get_or_past}
use Rattle.jsonb_layout.specs.Options.{◌>>=◌, only_if}

-- what is answered under a test, where the test is true
pub guard : {A : Type 0} (b : Bool) (r : Option A) (x : A) → only_if b r ≡ Some x → (b ≡ true) × (r ≡ Some x)
guard true r x e = (refl, e)
guard false r x e = absurd cc

-- what is answered of a value, where there is one
pub bind_some : {A B : Type 0} (r : Option A) (f : A → Option B) (y : B) → (r >>= f) ≡ Some y → (x : A) × (r ≡ Some x) × (f x ≡ Some y)
bind_some (Some x) f y e = (x, refl, e)
bind_some None f y e = absurd cc

-- one of two answers, by the test
pub chosen : {A : Type 0} (b : Bool) (x y z : A) → cond b x y ≡ z → ((b ≡ true) × (x ≡ z)) ⊎ ((b ≡ false) × (y ≡ z))
chosen true x y z e = inl (refl, e)
chosen false x y z e = inr (refl, e)

-- the value, where the type of what has none is not told
abbrev pub some : {A : Type 0} → A → Option A
some x = Some x

-- one value in two is one
pub some_is : {A : Type 0} (x y : A) → some x ≡ some y → x ≡ y
some_is x y e = cc

-- each is a byte
abbrev pub IsBytes : List ℕ → Type 0
IsBytes bytes = (i : ℕ) → get_or bytes i 0 < 256

-- what is left of bytes are bytes
pub IsBytes-drop : (n : ℕ) (bytes : List ℕ) → IsBytes bytes → IsBytes (drop n bytes)
IsBytes-drop n bytes h i = rw get_or-drop (h (n + i))

-- the front of bytes are bytes
pub IsBytes-take : (n : ℕ) (bytes : List ℕ) → IsBytes bytes → IsBytes (take n bytes)
IsBytes-take n bytes h i =
    elim (cases_lt i n) [
      | inl lt ↦ rw (get_or-take n bytes i 0 lt) (h i)
      | inr le ↦ rw (get_or_past (take n bytes) i 0 (omega (arith, length-take n bytes))) (omega arith)
    ]

-- ---- counting down

-- one of so many, and the others
pub less_one : (n : ℕ) → 0 < n → suc (n - 1) ≡ n
less_one n h = omega arith

-- what is left in a loop that counts up, before one more
pub count_down : (count i : ℕ) → i < count → count - i ≡ suc (count - (i + 1))
count_down count i lt = omega arith
