-- Each list of texts can be sorted.
use Rattle.std.proofs.Common.{◌≡◌, ℕ, zero, suc, ◌+◌, ◌<◌, ◌≤◌, Bool, true, false, List, [], ◌∷◌, length, get_or, refl, ap, sym, ◌∙◌, subst, arith, add-one}
use Rattle.std.specs.List.Sorted.{IsPermutation}
use Rattle.std.specs.Ordering.{is_lt, nat_cmp, ordering_reverse}
use Rattle.std.proofs.Common.{Ordering, Less, Equal, Greater}
use Rattle.std.specs.Cmp.Lexicographic.{slice_cmp, nat_list_cmp_total}
use Rattle.std.proofs.lemmas.List.Sorted.{IsPermutation-refl, IsPermutation-cons, IsPermutation-trans, IsPermutation-middle}
use Rattle.pattern_model.specs.Text.{Text}
use Rattle.pattern_model.specs.Literals.{AreSorted}

abbrev less : Text → Text → Bool
less x y = is_lt (slice_cmp nat_cmp x y)

-- no text is less than the one before it, text by text
abbrev Rise : Text → List Text → Type 0
Rise w [] = Unit {0}
Rise w (v ∷ vs) = (less v w ≡ false) × Rise v vs

abbrev AreRising : List Text → Type 0
AreRising [] = Unit {0}
AreRising (w ∷ ws) = Rise w ws

-- of two texts one at most is less than the other
one_less : (x y : Text) → less y x ≡ true → less x y ≡ false
one_less x y h = ap is_lt (nat_list_cmp_total.antisymm x y) ∙ turned (slice_cmp nat_cmp y x) h
  where
    turned : (o : Ordering) → is_lt o ≡ true → is_lt (ordering_reverse o) ≡ false
    turned Less e = refl
    turned Equal e = refl
    turned Greater e = cc

put : Bool → Text → Text → List Text → List Text → List Text
put true x y ys more = y ∷ more
put false x y ys more = x ∷ y ∷ ys

-- the text in its place
insert : Text → List Text → List Text
insert x [] = x ∷ []
insert x (y ∷ ys) = put (less y x) x y ys (insert x ys)

rise_put : (w x y : Text) (ys : List Text) (b : Bool) → less y x ≡ b → less x w ≡ false → Rise w (y ∷ ys) →
    (less x y ≡ false → Rise y (insert x ys)) → Rise w (put b x y ys (insert x ys))
unfolding put
rise_put w x y ys true e h r more = (r.0, more (one_less x y e))
rise_put w x y ys false e h r more = (h, (e, r.1))

rise_insert : (w x : Text) (ys : List Text) → less x w ≡ false → Rise w ys → Rise w (insert x ys)
unfolding insert
rise_insert w x [] h r = (h, tt)
rise_insert w x (y ∷ ys) h r = rise_put w x y ys (less y x) refl h r (λ g. rise_insert y x ys g r.1)

rising_put : (x y : Text) (ys : List Text) (b : Bool) → less y x ≡ b → Rise y ys → AreRising (put b x y ys (insert x ys))
unfolding put
rising_put x y ys true e r = rise_insert y x ys (one_less x y e) r
rising_put x y ys false e r = (e, r)

rising_insert : (x : Text) (ys : List Text) → AreRising ys → AreRising (insert x ys)
unfolding insert
rising_insert x [] r = tt
rising_insert x (y ∷ ys) r = rising_put x y ys (less y x) refl r

put_permutes : (x y : Text) (ys : List Text) (b : Bool) → IsPermutation (x ∷ ys) (insert x ys) →
    IsPermutation (x ∷ y ∷ ys) (put b x y ys (insert x ys))
unfolding put
put_permutes x y ys true p =
    IsPermutation-trans (x ∷ y ∷ ys) (y ∷ x ∷ ys) (y ∷ insert x ys) (IsPermutation-middle (x ∷ []) y ys)
    (IsPermutation-cons y (x ∷ ys) (insert x ys) p)
put_permutes x y ys false p = IsPermutation-refl (x ∷ y ∷ ys)

insert_permutes : (x : Text) (ys : List Text) → IsPermutation (x ∷ ys) (insert x ys)
unfolding insert
insert_permutes x [] = IsPermutation-refl (x ∷ [])
insert_permutes x (y ∷ ys) = put_permutes x y ys (less y x) (insert_permutes x ys)

rise_at : (w : Text) (vs : List Text) → Rise w vs → (k : ℕ) (d : Text) → suc k < length (w ∷ vs) →
    less (get_or (w ∷ vs) (suc k) d) (get_or (w ∷ vs) k d) ≡ false
rise_at w [] r k d l = absurd (let no : suc k < 1 = l in omega (arith, no))
rise_at w (v ∷ vs) r zero d l = r.0
rise_at w (v ∷ vs) r (suc k) d l = let below : suc (suc k) < suc (length (v ∷ vs)) = l in rise_at v vs r.1 k d (omega (arith, below))

rising_sorted : (ws : List Text) → AreRising ws → AreSorted ws
rising_sorted [] r k d l h = absurd (let no : k + 1 < 0 = h in omega (arith, no))
rising_sorted (w ∷ ws) r k d l h =
    let at : (n : ℕ) → n ≡ suc k → n < length (w ∷ ws) → less (get_or (w ∷ ws) n d) (get_or (w ∷ ws) k d) ≡ false =
    λ n e b. subst (λ z. z < length (w ∷ ws) → less (get_or (w ∷ ws) z d) (get_or (w ∷ ws) k d) ≡ false) (sym e) (rise_at w ws r k d) b in
    at (k + 1) (add-one k) h

pub record Sorted (vs : List Text) : Type 0 where
  pub texts : List Text
  pub permutes : IsPermutation vs texts
  pub sorted : AreSorted texts
  pub rising : AreRising texts

pub sorted_exists : (vs : List Text) → Sorted vs
sorted_exists [] = record { texts = []; permutes = IsPermutation-refl []; sorted = rising_sorted [] tt; rising = tt }
sorted_exists (v ∷ vs) =
    let s : Sorted vs = sorted_exists vs in
    let all : AreRising (insert v s.texts) = rising_insert v s.texts s.rising in
    record {
      texts = insert v s.texts;
      permutes = IsPermutation-trans (v ∷ vs) (v ∷ s.texts) (insert v s.texts) (IsPermutation-cons v vs s.texts s.permutes)
          (insert_permutes v s.texts);
      sorted = rising_sorted (insert v s.texts) all;
      rising = all;
    }
