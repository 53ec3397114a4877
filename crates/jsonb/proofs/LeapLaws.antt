-- Leaping over items: where so many of them end, by their entry words alone.
use Rattle.std.proofs.Common.{◌≡◌, ℕ, zero, suc, ◌+◌, ◌-◌, ◌*◌, ◌/◌, ◌%◌, ◌^◌, ◌<◌, ◌≤◌, true, false, eqb, leb, ltb, List, length, take, drop, Option, Some, None, refl, sym, ap, subst, ◌∙◌, arith, inl, inr, ne_eqb}
use Rattle.std.specs.Prelude.{◌&&◌, IsSome, option_map}
use Rattle.std.specs.Int.{w32, from_le_bytes}
use Rattle.std.proofs.lemmas.Bool.{leb-true, and_parts}
use Rattle.std.proofs.lemmas.List.{length-drop, drop-drop}
use Rattle.jsonb_layout.specs.Layout.{Item}
use Rattle.jsonb_layout.specs.Options.{◌>>=◌, only_if}
use Rattle.jsonb_layout.specs.inner.Reading.{Place, length_of, item_with, item_at}
use Rattle.jsonb_layout.proofs.Tools.{bind_some, guard, chosen, some_is, some, less_one}
use Rattle.jsonb.specs.inner.Keys.{word_at}
use Rattle.jsonb.specs.inner.Values.{skip}

-- ---- one item

-- the sum of the lengths up to the end of the item of number i, by its entry word w, where `at` is the sum before it
pub record Sums (i at w sum : ℕ) : Type 0 where
  pub whole : eqb (i % 32) 0 ≡ true → sum ≡ w % 2 ^ 28
  pub part : eqb (i % 32) 0 ≡ false → sum ≡ at + w % 2 ^ 28

length_sums : (i at w n : ℕ) → length_of i at w ≡ Some n → Sums i at w (at + n)
unfolding length_of
length_sums i at w n e =
    elim (chosen (eqb (i % 32) 0) (only_if (leb (2 ^ 31) w && leb at (w % 2 ^ 28)) (Some (w % 2 ^ 28 - at)))
    (only_if (ltb w (2 ^ 31)) (Some (w % 2 ^ 28))) (some n) e) [
      | inl t ↦
          let g = guard (leb (2 ^ 31) w && leb at (w % 2 ^ 28)) (Some (w % 2 ^ 28 - at)) n t.1 in
          let le = leb-true at (w % 2 ^ 28) (and_parts (leb (2 ^ 31) w) (leb at (w % 2 ^ 28)) g.0).1 in
          record { whole = λ _. omega (arith, le, some_is (w % 2 ^ 28 - at) n g.1); part = λ f. let no : true ≡ false = sym t.0 ∙ f in absurd cc }
      | inr t ↦
          let g = guard (ltb w (2 ^ 31)) (Some (w % 2 ^ 28)) n t.1 in
          record { whole = λ f. let no : false ≡ true = sym t.0 ∙ f in absurd cc; part = λ _. omega (arith, some_is (w % 2 ^ 28) n g.1) }
    ]

-- whether a number is a 32nd, as the code tests it
pub is_whole : (i : ℕ) → i % 32 ≡ 0 → eqb (i % 32) 0 ≡ true
is_whole i e = rw e refl

pub is_part : (i : ℕ) → (i % 32 ≡ 0 → ⊥) → eqb (i % 32) 0 ≡ false
is_part i h = ne_eqb (i % 32) 0 h

-- q is so many items behind p
pub record Onward (n : ℕ) (p q : Place) : Type 0 where
  pub index : q.index ≡ p.index + n
  pub words : q.words ≡ drop (4 * n) p.words
  pub rest : q.rest ≡ drop (q.at - p.at) p.rest
  pub rises : p.at ≤ q.at
  pub room : q.at ≤ p.at + length p.rest
  pub long : 4 * n ≤ length p.words

-- an item's entry word says where its piece ends
pub record Step (p q : Place) : Type 0 where
  pub on : Onward 1 p q
  pub sums : Sums p.index p.at (word_at 0 p.words) q.at

step : (p q : Place) (x : Item) → item_at p ≡ Some (x, q) → Step p q
unfolding item_at
step p q x e =
    let w = from_le_bytes w32 (take 4 p.words) in
    let g = guard (leb 4 (length p.words)) (item_with w p) (x, q) e in
    let b = bind_some (length_of p.index p.at w) (λ n. only_if (leb n (length p.rest)) (Some (found w n))) (x, q) g.1 in
    let h = guard (leb b.0 (length p.rest)) (Some (found w b.0)) (x, q) b.2 in
    let room = leb-true b.0 (length p.rest) h.0 in
    let long = leb-true 4 (length p.words) g.0 in
    let same : p.at + b.0 - p.at ≡ b.0 = omega arith in
    subst (λ (y : Item × Place). Step p y.1) (some_is (found w b.0) (x, q) h.1) (record {
      on = record {
        index = refl;
        words = refl;
        rest = sym (ap (λ (n : ℕ). drop n p.rest) same);
        rises = omega arith;
        room = omega (arith, room);
        long = omega (arith, long);
      };
      sums = length_sums p.index p.at w b.0 b.1;
    })
  where
    found : ℕ → ℕ → Item × Place
    found w n = (
      record { kind = w / 2 ^ 28 % 8; piece = take n p.rest },
      record { index = p.index + 1; at = p.at + n; words = drop 4 p.words; rest = drop n p.rest },
    )

-- ---- so many items

-- at the place itself
onward_none : (p : Place) → Onward 0 p p
onward_none p =
    let same : p.at - p.at ≡ 0 = omega arith in
    record {
      index = omega arith;
      words = refl;
      rest = sym (ap (λ (n : ℕ). drop n p.rest) same);
      rises = omega arith;
      room = omega arith;
      long = omega arith;
    }

-- behind what is behind
onward_both : {a b : ℕ} {p q r : Place} → Onward a p q → Onward b q r → Onward (a + b) p r
onward_both {a = a} {b = b} {p = p} {q = q} {r = r} f g =
    let n : 4 * a + 4 * b ≡ 4 * (a + b) = omega arith in
    let m : (q.at - p.at) + (r.at - q.at) ≡ r.at - p.at = omega (arith, f.rises, g.rises) in
    let left = ap length f.rest ∙ length-drop (q.at - p.at) p.rest in
    let more = ap length f.words ∙ length-drop (4 * a) p.words in
    record {
      index = omega (arith, f.index, g.index);
      words =
          g.words ∙ ap (drop (4 * b)) f.words ∙ drop-drop (4 * b) (4 * a) p.words ∙ ap (λ (n : ℕ). drop n p.words) n;
      rest =
          g.rest ∙ ap (drop (r.at - q.at)) f.rest ∙ drop-drop (r.at - q.at) (q.at - p.at) p.rest
          ∙ ap (λ (n : ℕ). drop n p.rest) m;
      rises = omega (arith, f.rises, g.rises);
      room = omega (arith, f.rises, f.room, g.room, left);
      long = omega (arith, f.long, g.long, more);
    }

-- where so many items end is so many behind
pub skip_onward : (n : ℕ) (p q : Place) → skip n p ≡ Some q → Onward n p q
unfolding skip
skip_onward zero p q e = subst (Onward 0 p) (some_is p q e) (onward_none p)
skip_onward (suc n) p q e =
    let x = bind_some (item_at p) (λ x. skip n x.1) q e in
    let s = step p x.0.1 x.0.0 x.1 in
    let m : 1 + n ≡ suc n = omega arith in
    subst (λ (k : ℕ). Onward k p q) m (onward_both s.on (skip_onward n x.0.1 q x.2))

-- the last of so many items
pub record Last (n : ℕ) (p q : Place) : Type 0 where
  pub before : Place
  pub item : Item
  pub passed : skip n p ≡ Some before
  pub here : item_at before ≡ Some (item, q)

skip_last : (n : ℕ) (p q : Place) → skip (suc n) p ≡ Some q → Last n p q
unfolding skip
skip_last zero p q e =
    let x = bind_some (item_at p) (λ x. skip 0 x.1) q e in
    record {
      before = p;
      item = x.0.0;
      passed = refl;
      here = x.1 ∙ ap (λ (r : Place). some {A = Item × Place} (x.0.0, r)) (some_is x.0.1 q x.2);
    }
skip_last (suc n) p q e =
    let x = bind_some (item_at p) (λ x. skip (suc n) x.1) q e in
    let l = skip_last n x.0.1 q x.2 in
    record {
      before = l.before;
      item = l.item;
      passed = ap (λ (r : Option (Item × Place)). r >>= λ x. skip n x.1) x.1 ∙ l.passed;
      here = l.here;
    }

-- ---- summing up in a loop

-- of count items from p on, those from number `left` on have this sum of lengths
pub record Summed (count left sum : ℕ) (p : Place) : Type 0 where
  pub here : Place
  pub target : Place
  pub on : skip left p ≡ Some here
  pub whole : skip count p ≡ Some target
  pub is : target.at ≡ here.at + sum

-- a place that is there
pub place_there : (r : Option Place) → IsSome r → (q : Place) × (r ≡ Some q)
place_there None h = absurd cc
place_there (Some q) h = (q, refl)

-- before the last item
pub sum_begins : (count : ℕ) (p : Place) → IsSome (skip count p) → Summed count count 0 p
sum_begins count p h =
    let q = place_there (skip count p) h in
    record { here = q.0; target = q.0; on = q.1; whole = q.1; is = omega arith }

-- the sum is of the payload
pub sum_fits : {count left sum : ℕ} {p : Place} → Summed count left sum p → sum ≤ p.at + length p.rest
sum_fits {count = count} {p = p} s = omega (arith, s.is, (skip_onward count p s.target s.whole).room)

-- the entry words that are left are there
pub words_there : {count left sum : ℕ} {p : Place} → Summed count left sum p → 4 * left ≤ length p.words
words_there {left = left} {p = p} s = (skip_onward left p s.here s.on).long

module _ {count left sum : ℕ} {p : Place} (s : Summed count left sum p) (some_left : 0 < left) where
  last : Last (left - 1) p s.here
  last = skip_last (left - 1) p s.here (ap (λ (n : ℕ). skip n p) (less_one left some_left) ∙ s.on)

  before : Onward (left - 1) p last.before
  before = skip_onward (left - 1) p last.before last.passed

  here_sums : Sums (p.index + (left - 1)) last.before.at (word_at (left - 1) p.words) s.here.at
  here_sums =
      subst (λ (i : ℕ). Sums i last.before.at (word_at (left - 1) p.words) s.here.at) before.index
      (subst (λ (w : List ℕ). Sums last.before.index last.before.at (from_le_bytes w32 (take 4 w)) s.here.at) before.words
      (step last.before s.here last.item last.here).sums)

  -- a length more
  pub sum_goes_on : eqb ((p.index + (left - 1)) % 32) 0 ≡ false → Summed count (left - 1) (sum + word_at (left - 1) p.words % 2 ^ 28) p
  sum_goes_on e = record {
    here = last.before;
    target = s.target;
    on = last.passed;
    whole = s.whole;
    is = omega (arith, s.is, here_sums.part e);
  }

  -- a sum of all lengths before
  pub sum_ends : eqb ((p.index + (left - 1)) % 32) 0 ≡ true
      → option_map (λ (q : Place). q.at) (skip count p) ≡ Some (sum + word_at (left - 1) p.words % 2 ^ 28)
  sum_ends e =
      ap (option_map (λ (q : Place). q.at)) s.whole
      ∙ ap some (let h = here_sums.whole e in omega (arith, s.is, h))

-- at the start
pub sum_whole : {count sum : ℕ} {p : Place} → Summed count 0 sum p → option_map (λ (q : Place). q.at) (skip count p) ≡ Some (p.at + sum)
unfolding skip
sum_whole {sum = sum} {p = p} s =
    ap (option_map (λ (q : Place). q.at)) s.whole
    ∙ ap some (s.is ∙ ap (λ (q : Place). q.at + sum) (some_is s.here p (sym s.on)))

-- ---- the place

module _ (count at : ℕ) (p : Place) (e : option_map (λ (q : Place). q.at) (skip count p) ≡ Some at) where
  target : (q : Place) × (skip count p ≡ Some q) × (q.at ≡ at)
  target = go (skip count p) refl e
    where
      go : (r : Option Place) → skip count p ≡ r → option_map (λ (q : Place). q.at) r ≡ Some at → (q : Place) × (skip count p ≡ Some q) × (q.at ≡ at)
      go None f h = absurd cc
      go (Some q) f h = (q, f, some_is q.at at h)

  -- what is there of the container
  leaps : Onward count p target.0
  leaps = skip_onward count p target.0 target.1

  pub leap_rises : p.at ≤ at
  leap_rises = omega (arith, leaps.rises, target.2)

  pub leap_room : at ≤ p.at + length p.rest
  leap_room = omega (arith, leaps.room, target.2)

  pub leap_long : 4 * count ≤ length p.words
  leap_long = leaps.long

  -- the place behind so many items is made of what is left of the words and of the payload
  pub leap_is : some (record { index = p.index + count; at = at; words = drop (4 * count) p.words; rest = drop (at - p.at) p.rest }) ≡ skip count p
  leap_is =
      ap (λ (i : ℕ). some {A = Place} (record { index = i; at = at; words = drop (4 * count) p.words; rest = drop (at - p.at) p.rest }))
      (sym leaps.index)
      ∙ ap (λ (ws : List ℕ). some {A = Place} (record { index = target.0.index; at = at; words = ws; rest = drop (at - p.at) p.rest }))
      (sym leaps.words)
      ∙ ap (λ (a : ℕ). some {A = Place} (record { index = target.0.index; at = a; words = target.0.words; rest = drop (a - p.at) p.rest }))
      (sym target.2)
      ∙ ap (λ (r : List ℕ). some {A = Place} (record { index = target.0.index; at = target.0.at; words = target.0.words; rest = r })) (sym leaps.rest)
      ∙ sym target.1
