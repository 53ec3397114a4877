-- The comparison of keys: it is a total order, and it is the order `key_before`.
use Rattle.std.proofs.Common.{◌≡◌, ℕ, Bool, true, false, List, length, Ordering, cond, refl, sym, ap, ◌∙◌, arith}
use Rattle.std.specs.Prelude.{◌||◌, ◌&&◌}
use Rattle.std.specs.declared.cmp.Ordering.TheVariants.{Less, Equal, Greater}
use Rattle.std.specs.Ordering.{nat_cmp, ordering_then, ordering_reverse, is_lt, is_eq}
use Rattle.std.specs.Cmp.{IsTotalOrder}
use Rattle.std.specs.Cmp.Lexicographic.{slice_cmp}
use Rattle.std.proofs.lemmas.Cmp.{then_total, on_total, nat_cmp_total, nat_list_cmp_total, same_from_slice_cmp}
use Rattle.std.proofs.lemmas.Map.Text.{is_eq-slice_cmp}
use Rattle.std.proofs.lemmas.Slice.Eq.{bytes_eq-Decides}
use Rattle.std.proofs.lemmas.Bool.Decides.{nat_tests}
use Rattle.json_model.specs.Keys.{bytes_before, key_before}
use Rattle.json_model.proofs.KeyOrderLaws.{key_trans, not_before}
use Rattle.key_map.specs.Order.{key_cmp}

-- the comparison of keys is a total order
pub key_cmp_total : IsTotalOrder key_cmp
key_cmp_total = then_total (on_total length nat_cmp_total) nat_list_cmp_total

bytes_are : (x y : List ℕ) → is_lt (slice_cmp nat_cmp x y) ≡ bytes_before x y
bytes_are x y = same_from_slice_cmp nat_cmp is_lt bytes_before refl (λ _ _. refl) (λ _ _. refl) (λ x y xs ys o h. grind (arith, nat_tests)) x y _ refl

first_then : (l m : Bool) (o : Ordering) (r : Bool) → is_lt o ≡ r → is_lt (ordering_then (cond l Less (cond m Equal Greater)) o) ≡ (l || (m && r))
first_then true m o r e = refl
first_then false true o r e = e
first_then false false o r e = refl

-- a key is less than another just where it comes before it
pub before_is : (x y : List ℕ) → is_lt (key_cmp x y) ≡ key_before x y
before_is x y = first_then _ _ _ _ (bytes_are x y)

second_equal : (r s : Ordering) → ordering_then r s ≡ Equal → s ≡ Equal
second_equal Less s e = absurd cc
second_equal Equal s e = e
second_equal Greater s e = absurd cc

-- keys that compare as equal are one key
pub one_key : (x y : List ℕ) → key_cmp x y ≡ Equal → x ≡ y
one_key x y e = (bytes_eq-Decides x y).0 (sym (is_eq-slice_cmp x y) ∙ ap is_eq (second_equal _ _ e))

-- a lesser key comes before
pub before_less : (x y : List ℕ) → key_cmp x y ≡ Less → key_before x y ≡ true
before_less x y e = sym (before_is x y) ∙ ap is_lt e

-- a greater key comes after
pub before_greater : (x y : List ℕ) → key_cmp x y ≡ Greater → key_before y x ≡ true
before_greater x y e = before_less y x (key_cmp_total.antisymm y x ∙ ap ordering_reverse e)

-- where a key comes before another, that one does not come before it
pub not_after : (x y : List ℕ) → key_before x y ≡ true → key_before y x ≡ false
not_after x y e = go (key_before y x) refl
  where
    go : (b : Bool) → key_before y x ≡ b → key_before y x ≡ false
    go true f = absurd (not_before x x (key_trans x y x e f) refl)
    go false f = f
