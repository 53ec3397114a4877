-- Searching by halves among keys that rise.
use Rattle.std.proofs.Common.{◌≡◌, ℕ, zero, suc, ◌+◌, ◌-◌, ◌*◌, ◌^◌, ◌<◌, ◌≤◌, Bool, true, false, cond, List, [], ◌∷◌, Option, Some, None, refl, sym, ap, subst, ◌∙◌, arith, inl, inr}
use Rattle.std.specs.Prelude.{IsSome, bytes_eq}
use Rattle.std.proofs.Math.Nat.{mul-le-mul_left}
use Rattle.std.proofs.lemmas.Slice.Eq.{bytes_eq-Decides}
use Rattle.json_model.specs.Keys.{key_before}
use Rattle.json_model.proofs.KeyOrderLaws.{key_trans, key_total, not_before}
use Rattle.jsonb_layout.specs.Layout.{Item}
use Rattle.jsonb_layout.specs.Options.{◌>>=◌}
use Rattle.jsonb_layout.specs.inner.Reading.{Place, item_at, keys_at}
use Rattle.jsonb_layout.proofs.NextKey.{next_key}
use Rattle.jsonb_layout.proofs.Tools.{some_is}
use Rattle.jsonb.specs.inner.Keys.{behind_key, AreFew}
use Rattle.jsonb.specs.inner.Values.{skip}

abbrev Keys : Type 0
Keys = List (List ℕ) × Place

-- ---- one key of those that rise

-- keys that come one before the other are no one key, either way round
before_other : (k y : List ℕ) → key_before y k ≡ true → bytes_eq k y ≡ false
before_other k y e = go (bytes_eq k y) refl
  where
    go : (b : Bool) → bytes_eq k y ≡ b → bytes_eq k y ≡ false
    go true f = absurd (not_before y k e (sym ((bytes_eq-Decides k y).0 f)))
    go false f = f

after_other : (k y : List ℕ) → key_before k y ≡ true → bytes_eq k y ≡ false
after_other k y e = go (bytes_eq k y) refl
  where
    go : (b : Bool) → bytes_eq k y ≡ b → bytes_eq k y ≡ false
    go true f = absurd (not_before k y e ((bytes_eq-Decides k y).0 f))
    go false f = f

-- a first key that is another is passed
passes_other : (k : List ℕ) (n : ℕ) (p p' : Place) (y : Item) → item_at p ≡ Some (y, p') → bytes_eq k y.piece ≡ false
    → behind_key k (suc n) p ≡ behind_key k n p'
unfolding behind_key
passes_other k n p p' y e f = rw (e, f) refl

takes_same : (k : List ℕ) (n : ℕ) (p p' : Place) (y : Item) → item_at p ≡ Some (y, p') → bytes_eq k y.piece ≡ true
    → behind_key k (suc n) p ≡ Some p'
unfolding behind_key
takes_same k n p p' y e f = rw (e, f) refl

same_item : {p q q' p' : Place} {x y : Item} → p ≡ q → item_at p ≡ Some (y, p') → item_at q ≡ Some (x, q') → ◌≡◌ {A = Item × Place} (y, p') (x, q')
same_item {q' = q'} {p' = p'} {x = x} {y = y} s e f = some_is (y, p') (x, q') (sym e ∙ ap item_at s ∙ f)

-- ---- the key of number m, with j behind it

-- x is the key of number m of n that rise, q begins it and q' ends it, and j are behind it
pub record At (m j n : ℕ) (p q q' : Place) (x : Item) : Type 0 where
  pub on : skip m p ≡ Some q
  pub here : item_at q ≡ Some (x, q')
  pub total : n ≡ suc (m + j)

at_next : {m j n : ℕ} {p p' q q' : Place} {x y : Item} → item_at p ≡ Some (y, p') → At (suc m) j (suc n) p q q' x → At m j n p' q q' x
unfolding skip
at_next {m = m} {q = q} e a = record {
  on = sym (ap (λ (r : Option (Item × Place)). r >>= λ x. skip m x.1) e) ∙ a.on;
  here = a.here;
  total = omega (arith, a.total);
}

-- a key is before each that comes later
before_later : (m j n : ℕ) (b : List ℕ) (p q q' : Place) (x : Item) (r : Keys) → keys_at n (Some b) p ≡ Some r → At m j n p q q' x
    → key_before b x.piece ≡ true
unfolding skip
before_later m j zero b p q q' x r e a = absurd (omega (arith, a.total))
before_later zero j (suc n) b p q q' x r e a =
    let y = next_key n (Some b) p r e in
    let s = same_item (some_is p q a.on) y.here a.here in
    subst (λ (z : Item × Place). key_before b z.0.piece ≡ true) s y.rises
before_later (suc m) j (suc n) b p q q' x r e a =
    let y = next_key n (Some b) p r e in
    key_trans b y.key.piece x.piece y.rises (before_later m j n y.key.piece y.behind q q' x y.others y.more (at_next y.here a))

-- those behind it rise too
keys_behind : (m j n : ℕ) (b : Option (List ℕ)) (p q q' : Place) (x : Item) (r : Keys) → keys_at n b p ≡ Some r → At m j n p q q' x
    → (t : Keys) × (keys_at j (Some x.piece) q' ≡ Some t)
unfolding skip
keys_behind m j zero b p q q' x r e a = absurd (omega (arith, a.total))
keys_behind zero j (suc n) b p q q' x r e a =
    let y = next_key n b p r e in
    let s = same_item (some_is p q a.on) y.here a.here in
    let same : n ≡ j = omega (arith, a.total) in (
      y.others,
      subst (λ (z : Item × Place). keys_at j (Some z.0.piece) z.1 ≡ Some y.others) s
          (subst (λ (i : ℕ). keys_at i (Some y.key.piece) y.behind ≡ Some y.others) same y.more),
    )
keys_behind (suc m) j (suc n) b p q q' x r e a =
    let y = next_key n b p r e in
    keys_behind m j n (Some y.key.piece) y.behind q q' x y.others y.more (at_next y.here a)

-- and those before it
keys_before : (m n : ℕ) (b : Option (List ℕ)) (p : Place) (r : Keys) → keys_at n b p ≡ Some r → m ≤ n → (t : Keys) × (keys_at m b p ≡ Some t)
unfolding keys_at
keys_before zero n b p r e le = (([], p), refl)
keys_before (suc m) zero b p r e le = absurd (omega (arith, le))
keys_before (suc m) (suc n) b p r e le =
    let y = next_key n b p r e in
    let t = keys_before m n (Some y.key.piece) y.behind y.others y.more (omega (arith, le)) in
    ((y.key.piece ∷ t.0.0, t.0.1), rw (y.here, y.is_key, y.rises, t.1) refl)

-- it is there
key_there : (m j n : ℕ) (b : Option (List ℕ)) (p : Place) (r : Keys) → keys_at n b p ≡ Some r → n ≡ suc (m + j)
    → (q : Place) × (x : Item × Place) × At m j n p q x.1 x.0
unfolding skip
key_there m j zero b p r e t = absurd (omega (arith, t))
key_there zero j (suc n) b p r e t =
    let y = next_key n b p r e in
    (p, (y.key, y.behind), record { on = refl; here = y.here; total = t })
key_there (suc m) j (suc n) b p r e t =
    let y = next_key n b p r e in
    let a = key_there m j n (Some y.key.piece) y.behind y.others y.more (omega (arith, t)) in
    (a.0, a.1, record { on = ap (λ (r : Option (Item × Place)). r >>= λ x. skip m x.1) y.here ∙ a.2.on; here = a.2.here; total = t })

-- ---- what is sought, by one key

-- where each key before x is another than k, the search may begin at x
from_here : (k : List ℕ) (m j n : ℕ) (b : Option (List ℕ)) (p q q' : Place) (x : Item) (r : Keys) → keys_at n b p ≡ Some r → At m j n p q q' x
    → ((y : List ℕ) → key_before y x.piece ≡ true → bytes_eq k y ≡ false) → behind_key k n p ≡ behind_key k (suc j) q
unfolding skip
from_here k m j zero b p q q' x r e a other = absurd (omega (arith, a.total))
from_here k zero j (suc n) b p q q' x r e a other =
    let same : n ≡ j = omega (arith, a.total) in
    ap (behind_key k (suc n)) (some_is p q a.on) ∙ ap (λ (i : ℕ). behind_key k (suc i) q) same
from_here k (suc m) j (suc n) b p q q' x r e a other =
    let y = next_key n b p r e in
    let on = at_next y.here a in
    let less = before_later m j n y.key.piece y.behind q q' x y.others y.more on in
    passes_other k n p y.behind y.key y.here (other y.key.piece less)
    ∙ from_here k m j n (Some y.key.piece) y.behind q q' x y.others y.more on other

-- behind a key that comes after k there is none that is k
none_later : (k : List ℕ) (n : ℕ) (b : List ℕ) (p : Place) (r : Keys) → keys_at n (Some b) p ≡ Some r → key_before k b ≡ true
    → behind_key k n p ≡ None
unfolding behind_key
none_later k zero b p r e f = refl
none_later k (suc n) b p r e f =
    let y = next_key n (Some b) p r e in
    let less = key_trans k b y.key.piece f y.rises in
    passes_other k n p y.behind y.key y.here (after_other k y.key.piece less) ∙ none_later k n y.key.piece y.behind y.others y.more less

-- where x comes after k, the search may end before x
up_to_here : (k : List ℕ) (m j n : ℕ) (b : Option (List ℕ)) (p q q' : Place) (x : Item) (r : Keys) → keys_at n b p ≡ Some r → At m j n p q q' x
    → key_before k x.piece ≡ true → behind_key k n p ≡ behind_key k m p
unfolding skip behind_key
up_to_here k m j zero b p q q' x r e a f = absurd (omega (arith, a.total))
up_to_here k zero j (suc n) b p q q' x r e a f =
    let y = next_key n b p r e in
    let s = same_item (some_is p q a.on) y.here a.here in
    let less : key_before k y.key.piece ≡ true = subst (λ (z : Item × Place). key_before k z.0.piece ≡ true) (sym s) f in
    passes_other k n p y.behind y.key y.here (after_other k y.key.piece less) ∙ none_later k n y.key.piece y.behind y.others y.more less
up_to_here k (suc m) j (suc n) b p q q' x r e a f =
    let y = next_key n b p r e in
    ap (λ (r : Option (Item × Place)). r >>= λ x. cond (bytes_eq k x.0.piece) (Some x.1) (behind_key k n x.1)) y.here
    ∙ ap (cond (bytes_eq k y.key.piece) (Some y.behind))
    (up_to_here k m j n (Some y.key.piece) y.behind q q' x y.others y.more (at_next y.here a) f)
    ∙ sym (ap (λ (r : Option (Item × Place)). r >>= λ x. cond (bytes_eq k x.0.piece) (Some x.1) (behind_key k m x.1)) y.here)

-- ---- halving in a loop

-- of count keys from start on, those are left to search that are the `size` from p on
pub record Narrowed (k : List ℕ) (count size : ℕ) (p start : Place) : Type 0 where
  pub before : Option (List ℕ)
  pub names : Keys
  pub keys : keys_at size before p ≡ Some names
  pub same : behind_key k size p ≡ behind_key k count start

keys_are : (r : Option Keys) → IsSome r → (ks : Keys) × (r ≡ Some ks)
keys_are None h = absurd cc
keys_are (Some ks) h = (ks, refl)

-- all of them
pub narrow_begins : (k : List ℕ) (count : ℕ) (start : Place) → IsSome (keys_at count None start) → Narrowed k count count start start
narrow_begins k count start h =
    let ks = keys_are (keys_at count None start) h in
    record { before = None; names = ks.0; keys = ks.1; same = refl }

-- none of them
pub narrow_ends : {k : List ℕ} {count size : ℕ} {p start : Place} → Narrowed k count size p start → size ≤ 0 → None ≡ behind_key k count start
unfolding behind_key
narrow_ends {k = k} {size = size} {p = p} w le =
    let none : size ≡ 0 = omega arith in
    sym (ap (λ (n : ℕ). behind_key k n p) none) ∙ w.same

module _ {k : List ℕ} {count size : ℕ} {p start : Place} (w : Narrowed k count size p start) (half : ℕ) (lt : half < size) where
  abbrev left_behind : ℕ
  left_behind = size - (half + 1)

  middle : (q : Place) × (x : Item × Place) × At half left_behind size p q x.1 x.0
  middle = key_there half left_behind size w.before p w.names w.keys (omega (arith, lt))

  -- the key in the middle can be reached
  pub middle_there : IsSome (skip half p)
  middle_there = subst (λ (r : Option Place). IsSome r) (sym middle.2.on) refl

  module _ {q : Place} (e : Some q ≡ skip half p) where
    at_middle : middle.0 ≡ q
    at_middle = some_is middle.0 q (sym middle.2.on ∙ sym e)

    -- and is a key
    pub middle_goes_on : None ≡ item_at q → ⊥
    middle_goes_on h =
        let no : ◌≡◌ {A = Option (Item × Place)} None (Some middle.1) = h ∙ ap item_at (sym at_middle) ∙ middle.2.here in cc

    module _ {x : Item} {q' : Place} (h : Some (x, q') ≡ item_at q) where
      is_at : At half left_behind size p q q' x
      is_at = record { on = sym e; here = sym h; total = middle.2.total }

      -- it is the one that is sought
      pub narrow_finds : true ≡ bytes_eq k x.piece → Some q' ≡ behind_key k count start
      narrow_finds f =
          let same = (bytes_eq-Decides k x.piece).0 (sym f) in
          sym (takes_same k left_behind q q' x (sym h) (sym f))
          ∙ sym (from_here k half left_behind size w.before p q q' x w.names w.keys is_at
          (λ y l. before_other k y (subst (λ (z : List ℕ). key_before y z ≡ true) (sym same) l)))
          ∙ w.same

      -- it comes before
      pub narrow_right : true ≡ key_before x.piece k → Narrowed k count left_behind q' start
      narrow_right f =
          let ks = keys_behind half left_behind size w.before p q q' x w.names w.keys is_at in
          record {
            before = Some x.piece;
            names = ks.0;
            keys = ks.1;
            same =
                sym (passes_other k left_behind q q' x (sym h) (before_other k x.piece (sym f)))
                ∙ sym (from_here k half left_behind size w.before p q q' x w.names w.keys is_at
                (λ y l. before_other k y (key_trans y x.piece k l (sym f))))
                ∙ w.same;
          }

      -- it comes after
      pub narrow_left : false ≡ bytes_eq k x.piece → false ≡ key_before x.piece k → Narrowed k count half p start
      narrow_left f g =
          let ks = keys_before half size w.before p w.names w.keys (omega (arith, lt)) in
          record {
            before = w.before;
            names = ks.0;
            keys = ks.1;
            same = sym (up_to_here k half left_behind size w.before p q q' x w.names w.keys is_at after) ∙ w.same;
          }
        where
          after : key_before k x.piece ≡ true
          after =
              elim (key_total k x.piece) [
                | inl l ↦ l
                | inr t ↦ elim t [
                  | inl s ↦ let no : false ≡ true = f ∙ (bytes_eq-Decides k x.piece).1 s in absurd cc
                  | inr l ↦ let no : false ≡ true = g ∙ l in absurd cc
                ]
              ]

-- ---- how many steps that takes

-- of n keys `size` are left, after so many steps
pub record Halved (n size old new : ℕ) : Type 0 where
  pub times : ℕ
  pub share : 2 ^ times * size ≤ n
  pub power : 2 ^ times ≤ 2 * n + 1
  pub few : new ≤ old + 33 * times

pub halve_begins : (n old : ℕ) → Halved n n old old
halve_begins n old = record { times = 0; share = omega arith; power = omega arith; few = omega arith }

double : (n : ℕ) → 2 ^ suc n ≡ 2 * 2 ^ n
double n = grind arith

double_share : (n m : ℕ) → 2 ^ suc n * m ≡ 2 ^ n * (2 * m)
double_share n m = rw (double n) (grind arith)

-- one key read, and at most half are left
pub halve_goes_on : {n size old new : ℕ} (less later : ℕ) → Halved n size old new → 0 < size → 2 * less ≤ size → later ≤ new + 33
    → Halved n less old later
halve_goes_on {n = n} {size = size} less later h some_left le step =
    let w = 2 ^ h.times in
    let one = mul-le-mul_left w some_left in
    let two = mul-le-mul_left w le in
    record {
      times = suc h.times;
      share = omega (arith, double_share h.times less, two, h.share);
      power = omega (arith, double h.times, one, h.share);
      few = omega (arith, h.few, step);
    }

-- so they are few
pub halve_ends : {n size old new : ℕ} → Halved n size old new → AreFew n old new
halve_ends h = (h.times, h.power, h.few)
