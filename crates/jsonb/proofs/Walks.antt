-- Walking over items: where so many of them end, and what is left behind them.
use Rattle.std.proofs.Common.{◌≡◌, ℕ, zero, suc, ◌+◌, ◌-◌, ◌*◌, ◌<◌, ◌≤◌, Bool, true, false, cond, List, length, Option, Some, None, refl, sym, ap, subst, ◌∙◌, arith}
use Rattle.std.specs.Prelude.{bytes_eq, option_map}
use Rattle.jsonb_layout.specs.Layout.{Item}
use Rattle.jsonb_layout.specs.inner.Reading.{Place, item_at}
use Rattle.jsonb_layout.proofs.Sizes.{item_takes}
use Rattle.jsonb_layout.proofs.Tools.{bind_some, some_is, count_down}
use Rattle.jsonb.specs.inner.Keys.{behind_key}
use Rattle.jsonb.specs.inner.Values.{skip}

-- ---- places behind one another

-- q is behind p in one container, or the same place
pub record IsBehind (p q : Place) : Type 0 where
  pub words : length q.words ≤ length p.words
  pub end : q.at + length q.rest ≡ p.at + length p.rest

-- the place behind an item is behind it
pub item_behind : {p q : Place} {x : Item} → Some (x, q) ≡ item_at p → IsBehind p q
item_behind {p = p} {q = q} {x = x} e =
    let t = item_takes p q x (sym e) in
    record { words = omega (arith, t.words); end = omega (arith, t.at, t.piece) }

-- behind what is behind
pub behind_both : {p q r : Place} → IsBehind p q → IsBehind q r → IsBehind p r
behind_both a b = record { words = omega (arith, a.words, b.words); end = b.end ∙ a.end }

behind_same : (p q : Place) → p ≡ q → IsBehind p q
behind_same p q e = subst (IsBehind p) e (record { words = omega arith; end = refl })

-- the piece of the item at a place is of what is left there
pub first_fits : (p : Place) (x : Item) → option_map (λ (y : Item × Place). y.0) (item_at p) ≡ Some x → length x.piece ≤ length p.rest
first_fits p x e = go (item_at p) refl e
  where
    go : (r : Option (Item × Place)) → item_at p ≡ r → option_map (λ (y : Item × Place). y.0) r ≡ Some x → length x.piece ≤ length p.rest
    go None h f = absurd cc
    go (Some y) h f = let t = item_takes p y.1 y.0 h in omega (arith, t.piece, ap (λ (z : Item). length z.piece) (some_is y.0 x f))

-- where so many items end is behind the first
pub skip_behind : (n : ℕ) (p q : Place) → Some q ≡ skip n p → IsBehind p q
unfolding skip
skip_behind zero p q e = behind_same p q (some_is p q (sym e))
skip_behind (suc n) p q e =
    let x = bind_some (item_at p) (λ x. skip n x.1) q (sym e) in
    behind_both (item_behind (sym x.1)) (skip_behind n x.0.1 q (sym x.2))

-- each item has a word
pub skip_words : (n : ℕ) (p q : Place) → skip n p ≡ Some q → 4 * n ≤ length p.words
unfolding skip
skip_words zero p q e = omega arith
skip_words (suc n) p q e =
    let x = bind_some (item_at p) (λ x. skip n x.1) q e in
    let t = item_takes p x.0.1 x.0.0 x.1 in
    omega (arith, t.words, skip_words n x.0.1 q x.2)

-- where the key that is sought ends is behind the first
pub key_behind : (k : List ℕ) (n : ℕ) (p q : Place) → Some q ≡ behind_key k n p → IsBehind p q
unfolding behind_key
key_behind k zero p q e = absurd cc
key_behind k (suc n) p q e =
    let x = bind_some (item_at p) (λ x. cond (bytes_eq k x.0.piece) (Some x.1) (behind_key k n x.1)) q (sym e) in
    behind_both (item_behind (sym x.1)) (go (bytes_eq k x.0.0.piece) x.0.1 x.2 (λ h. key_behind k n x.0.1 q (sym h)))
  where
    go : (b : Bool) (r : Place) → cond b (Some r) (behind_key k n r) ≡ Some q → (behind_key k n r ≡ Some q → IsBehind r q) → IsBehind r q
    go true r e more = behind_same r q (some_is r q e)
    go false r e more = more e

-- ---- passing over items in a loop

-- of count items from start on, i are passed, and the reading stands at p
pub record Passes (count i : ℕ) (p start : Place) : Type 0 where
  pub same : skip (count - i) p ≡ skip count start

-- before the first item
pub pass_begins : (count : ℕ) (start : Place) → Passes count 0 start start
pass_begins count start = let n : count - 0 ≡ count = omega arith in record { same = ap (λ (k : ℕ). skip k start) n }

-- where no item is, so many can not be passed
pub pass_stops : {count i : ℕ} {p start : Place} → Passes count i p start → i < count → None ≡ item_at p → None ≡ skip count start
unfolding skip
pass_stops {count = count} {i = i} {p = p} so_far lt e =
    let one : skip (count - i) p ≡ None = rw (count_down count i lt, ← e) refl in
    sym one ∙ so_far.same

-- one item more
pub pass_goes_on : {count i : ℕ} {p start q : Place} {x : Item} → Passes count i p start → i < count → Some (x, q) ≡ item_at p
    → Passes count (i + 1) q start
unfolding skip
pass_goes_on {count = count} {i = i} {p = p} {q = q} so_far lt e =
    let one : skip (count - i) p ≡ skip (count - (i + 1)) q = rw (count_down count i lt, ← e) refl in
    record { same = sym one ∙ so_far.same }

-- behind the last item
pub pass_ends : {count i : ℕ} {p start : Place} → Passes count i p start → count ≤ i → Some p ≡ skip count start
unfolding skip
pass_ends {count = count} {i = i} {p = p} so_far le =
    let none : count - i ≡ 0 = omega arith in
    let one : skip (count - i) p ≡ Some p = rw none refl in
    sym one ∙ so_far.same
