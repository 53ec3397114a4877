-- Where keys end, and keys of which all bytes are ASCII.
use Rattle.std.proofs.Common.{◌≡◌, ℕ, zero, suc, ◌+◌, ◌-◌, ◌*◌, ◌/◌, ◌<◌, ◌≤◌, Bool, true, false, eqb, List, [], ◌∷◌, length, take, drop, Option, Some, None, refl, sym, ap, subst, ◌∙◌, arith, inl, inr}
use Rattle.std.specs.Prelude.{◌&&◌}
use Rattle.std.specs.Str.{IsAscii}
use Rattle.std.proofs.lemmas.Bool.{cases_lt}
use Rattle.std.proofs.lemmas.List.{length-take, get_or-take, get_or_past, drop-take}
use Rattle.std.proofs.lemmas.Str.{IsAscii-drop}
use Rattle.jsonb_layout.specs.Layout.{Item}
use Rattle.jsonb_layout.specs.Options.{◌>>=◌, only_if}
use Rattle.jsonb_layout.specs.inner.Reading.{Place, item_at, keys_at}
use Rattle.jsonb_layout.proofs.NextKey.{next_key}
use Rattle.jsonb_layout.proofs.Sizes.{item_takes}
use Rattle.json_model.specs.Keys.{key_before}
use Rattle.jsonb_layout.proofs.Tools.{bind_some, guard, count_down, some, some_is}
use Rattle.jsonb.specs.declared.found.Found.{Found}
use Rattle.jsonb.specs.Found.{nothing, both, keys_found, keys_after}
use Rattle.jsonb.specs.inner.Keys.{key_at, keys_end}
use Rattle.jsonb.proofs.NextItem.{beyond_is, piece_is}
use Rattle.jsonb.proofs.Texts.{ascii_text}

-- ---- the end

one_less : (k : List ℕ) (r : Option (List (List ℕ) × Place)) → keys_end (r >>= λ ks. Some (k ∷ ks.0, ks.1)) ≡ keys_end r
one_less k None = refl
one_less k (Some r) = refl

-- where the keys end of which this is the first, if it rises
step : (t u : Bool) (k : List ℕ) (q : Place) (r : Option (List (List ℕ) × Place)) (f : List ℕ × Place → Option Place)
    → f (k, q) ≡ only_if u (keys_end r) → keys_end (only_if (t && u) r >>= λ ks. Some (k ∷ ks.0, ks.1)) ≡ (only_if t (some (k, q)) >>= f)
step false u k q r f e = refl
step true false k q r f e = sym e
step true true k q r f e = one_less k r ∙ sym e

-- one key, and then the others
one_key : (n : ℕ) (b : List ℕ) (p : Place) → keys_end (keys_at (suc n) (Some b) p)
    ≡ (key_at p >>= λ k. only_if (key_before b k.0) (keys_end (keys_at n (Some k.0) k.1)))
unfolding keys_at
one_key n b p = go (item_at p)
  where
    others : List ℕ × Place → Option Place
    others k = only_if (key_before b k.0) (keys_end (keys_at n (Some k.0) k.1))

    go : (r : Option (Item × Place))
        → keys_end
        (r >>= λ x. only_if (eqb x.0.kind 0 && key_before b x.0.piece) (keys_at n (Some x.0.piece) x.1) >>= λ ks. Some (x.0.piece ∷ ks.0, ks.1))
        ≡ ((r >>= λ x. only_if (eqb x.0.kind 0) (Some (x.0.piece, x.1))) >>= others)
    go None = refl
    go (Some x) = step (eqb x.0.kind 0) (key_before b x.0.piece) x.0.piece x.1 (keys_at n (Some x.0.piece) x.1) others refl

-- each key has an entry word
keys_words : (n : ℕ) (b : Option (List ℕ)) (p : Place) (r : List (List ℕ) × Place) → keys_at n b p ≡ Some r → 4 * n ≤ length p.words
keys_words zero b p r e = omega arith
keys_words (suc n) b p r e =
    let k = next_key n b p r e in
    let t = item_takes p k.behind k.key k.here in
    let m = keys_words n (Some k.key.piece) k.behind k.others k.more in
    omega (arith, t.words, m)

-- where there are fewer entry words than keys, the keys can not be read
pub few_words : (n : ℕ) (b : Option (List ℕ)) (p : Place) → length p.words / 4 < n → None ≡ keys_end (keys_at n b p)
few_words n b p few = go (keys_at n b p) refl
  where
    go : (r : Option (List (List ℕ) × Place)) → keys_at n b p ≡ r → None ≡ keys_end r
    go None e = refl
    go (Some r) e = let m = keys_words n b p r e in absurd (omega (arith, m, few))

-- a key that is read takes its entry word
key_word : (p q : Place) (k : List ℕ) → some (k, q) ≡ key_at p → length q.words + 4 ≡ length p.words
key_word p q k e =
    let a = bind_some (item_at p) (λ x. only_if (eqb x.0.kind 0) (Some (x.0.piece, x.1))) (k, q) (sym e) in
    let g = guard (eqb a.0.0.kind 0) (some (a.0.0.piece, a.0.1)) (k, q) a.2 in
    subst (λ (y : List ℕ × Place). length y.1.words + 4 ≡ length p.words) (some_is (a.0.0.piece, a.0.1) (k, q) g.1)
    (item_takes p a.0.1 a.0.0 a.1).words

-- of count keys from start on that come after first, i are passed; b is the last, and the reading stands at p, before the
-- entry words of the others
pub record EndsSoFar (count i : ℕ) (b first : List ℕ) (p start : Place) : Type 0 where
  pub same : keys_end (keys_at (count - i) (Some b) p) ≡ keys_end (keys_at count (Some first) start)
  pub room : 4 * (count - i) ≤ length p.words

pub ends_begin : (count : ℕ) (first : List ℕ) (start : Place) → count ≤ length start.words / 4 → EndsSoFar count 0 first first start start
ends_begin count first start room =
    let n : count - 0 ≡ count = omega arith in
    record { same = ap (λ (k : ℕ). keys_end (keys_at k (Some first) start)) n; room = omega (arith, room) }

module _ {count i : ℕ} {b first : List ℕ} {p start : Place} (so_far : EndsSoFar count i b first p start) where
  -- the others, of which there is one
  one : i < count → keys_end (keys_at count (Some first) start)
      ≡ (key_at p >>= λ k. only_if (key_before b k.0) (keys_end (keys_at (count - (i + 1)) (Some k.0) k.1)))
  one lt = sym so_far.same ∙ ap (λ (n : ℕ). keys_end (keys_at n (Some b) p)) (count_down count i lt) ∙ one_key (count - (i + 1)) b p

  pub ends_word : i < count → 4 ≤ length p.words
  ends_word lt = omega (arith, so_far.room, lt)

  pub ends_miss : i < count → None ≡ key_at p → None ≡ keys_end (keys_at count (Some first) start)
  ends_miss lt h = sym (one lt ∙ rw (← h) refl)

  pub ends_stop : (q : Place) (k : List ℕ) → i < count → some (k, q) ≡ key_at p → false ≡ key_before b k
      → None ≡ keys_end (keys_at count (Some first) start)
  ends_stop q k lt h bad = sym (one lt ∙ rw (← h, ← bad) refl)

  pub ends_go_on : (q : Place) (k : List ℕ) → i < count → some (k, q) ≡ key_at p → true ≡ key_before b k
      → EndsSoFar count (i + 1) k first q start
  ends_go_on q k lt h good = record {
    same = sym (one lt ∙ rw (← h, ← good) refl);
    room = omega (arith, so_far.room, key_word p q k h, lt);
  }

  pub ends_done : count ≤ i → some p ≡ keys_end (keys_at count (Some first) start)
  unfolding keys_at
  ends_done le =
      let k : count - i ≡ 0 = omega arith in
      let one : keys_end (keys_at (count - i) (Some b) p) ≡ some p = rw k refl in
      sym one ∙ so_far.same

-- the first key, and those behind it
pub first_miss : (n : ℕ) (p : Place) → (n ≡ 0 → ⊥) → None ≡ item_at p → None ≡ keys_end (keys_at n None p)
unfolding keys_at
first_miss zero p some h = absurd (some refl)
first_miss (suc n) p some h = rw (← h) refl

pub first_stop : (n : ℕ) (p q : Place) (x : Item) → (n ≡ 0 → ⊥) → Some (x, q) ≡ item_at p → false ≡ eqb x.kind 0 → None ≡ keys_end (keys_at n None p)
unfolding keys_at
first_stop zero p q x some h bad = absurd (some refl)
first_stop (suc n) p q x some h bad = rw (← h, ← bad) refl

pub first_passed : (n : ℕ) (p q : Place) (x : Item) → (n ≡ 0 → ⊥) → Some (x, q) ≡ item_at p → true ≡ eqb x.kind 0
    → keys_end (keys_at (n - 1) (Some x.piece) q) ≡ keys_end (keys_at n None p)
unfolding keys_at
first_passed zero p q x some h good = absurd (some refl)
first_passed (suc n) p q x some h good =
    let k : suc n - 1 ≡ n = omega arith in
    ap (λ (m : ℕ). keys_end (keys_at m (Some x.piece) q)) k ∙ sym (rw (← h, ← good) (one_less x.piece (keys_at n (Some x.piece) q)))

-- ---- keys that are ASCII

front_ascii : (xs : List ℕ) (m n : ℕ) → m ≤ n → IsAscii (take n xs) → IsAscii (take m xs)
front_ascii xs m n le h i = elim (cases_lt i m) [
  | inl lt ↦ rw (get_or-take m xs i 0 lt, ← get_or-take n xs i 0 (omega arith)) (h i)
  | inr ge ↦ rw (get_or_past (take m xs) i 0 (omega (arith, length-take m xs))) (omega arith)
]

pub record AsciiKeys (ks : List (List ℕ)) (p q : Place) : Type 0 where
  pub within : length q.rest ≤ length p.rest
  pub clean : IsAscii (take (length p.rest - length q.rest) p.rest) → keys_found ks ≡ nothing

keys_ascii : (n : ℕ) (b : Option (List ℕ)) (p : Place) (r : List (List ℕ) × Place) → keys_at n b p ≡ Some r → AsciiKeys r.0 p r.1
unfolding keys_at
keys_ascii zero b p r e =
    subst (λ (y : List (List ℕ) × Place). AsciiKeys y.0 p y.1) (some_is ([], p) r e) (record { within = omega arith; clean = λ h. refl })
keys_ascii (suc n) b p r e =
    let k = next_key n b p r e in
    let more = keys_ascii n (Some k.key.piece) k.behind k.others k.more in
    let t = item_takes p k.behind k.key k.here in
    let a = length k.key.piece in
    let m = length k.behind.rest - length k.others.1.rest in
    let sum : length p.rest - length k.others.1.rest ≡ a + m = omega (arith, t.piece, more.within) in
    let behind : k.behind.rest ≡ drop a p.rest = ap (λ (q : Place). q.rest) (beyond_is p k.behind k.key k.here) in
    let clean : IsAscii (take (length p.rest - length k.others.1.rest) p.rest) → keys_found (k.key.piece ∷ k.others.0) ≡ nothing =
    λ h.
    let whole : IsAscii (take (a + m) p.rest) = subst (λ (j : ℕ). IsAscii (take j p.rest)) sum h in
    let first : IsAscii k.key.piece =
    subst IsAscii (sym (piece_is p k.behind k.key k.here)) (front_ascii p.rest a (a + m) (omega arith) whole) in
    let others : IsAscii (take m k.behind.rest) =
    subst (λ (xs : List ℕ). IsAscii (take m xs)) (sym behind) (subst IsAscii (drop-take a m p.rest) (IsAscii-drop (take (a + m) p.rest) a whole)) in
    rw (ascii_text k.key.piece first, more.clean others) refl in
    subst (λ (y : List (List ℕ) × Place). AsciiKeys y.0 p y.1) k.whole (record { within = omega (arith, t.piece, more.within); clean = clean })

-- keys that do not end can not be read
pub no_end : (r : Option (List (List ℕ) × Place)) → None ≡ keys_end r → None ≡ keys_after nothing r
no_end None e = refl
no_end (Some r) e = absurd cc

-- where all bytes of the keys are ASCII, nothing is found in them
pub ascii_keys : (n : ℕ) (p q : Place) → some q ≡ keys_end (keys_at n None p) → IsAscii (take (length p.rest - length q.rest) p.rest)
    → some (nothing, q) ≡ keys_after nothing (keys_at n None p)
ascii_keys n p q e h = go (keys_at n None p) refl e
  where
    go : (r : Option (List (List ℕ) × Place)) → keys_at n None p ≡ r → some q ≡ keys_end r → some (nothing, q) ≡ keys_after nothing r
    go None f g = absurd cc
    go (Some r) f g =
        let at : q ≡ r.1 = some_is q r.1 g in
        let clean = (keys_ascii n None p r f).clean (subst (λ (y : Place). IsAscii (take (length p.rest - length y.rest) p.rest)) at h) in
        ap (λ (y : Place). some (nothing, y)) at ∙ ap (λ (f : Found). some (both nothing f, r.1)) (sym clean)
