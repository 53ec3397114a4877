-- Keys that are read are those that a run of items stands for.
use Rattle.std.proofs.Common.{◌≡◌, ℕ, zero, suc, ◌+◌, ◌^◌, ◌<◌, Bool, true, List, [], ◌∷◌, length, map, Option, Some, None, refl, ap, subst, arith}
use Rattle.std.proofs.lemmas.Bool.{and_parts}
use Rattle.std.proofs.lemmas.List.{length-append}
use Rattle.jsonb_layout.specs.Layout.{Item, pieces}
use Rattle.json_model.specs.Keys.{key_before, rises}
use Rattle.jsonb_layout.specs.Stands.{key_item}
use Rattle.jsonb_layout.specs.inner.Reading.{Place, follows, keys_at}
use Rattle.jsonb_layout.proofs.Tools.{some_is}
use Rattle.jsonb_layout.proofs.Runs.{Run, Run-nil, Run-cons, Run-none, Run-tail, after, Fit, item_takes, item_again}
use Rattle.jsonb_layout.proofs.NextKey.{next_key}

-- keys that rise, also after one before them
abbrev pub rises_after : Option (List ℕ) → List (List ℕ) → Bool
rises_after None ks = rises ks
rises_after (Some before) ks = rises (before ∷ ks)

-- one key more
pub rises_more : (before : Option (List ℕ)) (k : List ℕ) (ks : List (List ℕ)) → follows before k ≡ true → rises (k ∷ ks) ≡ true
    → rises_after before (k ∷ ks) ≡ true
rises_more None k ks f r = r
rises_more (Some b) k ks f r = rw (f, r) refl

rises_less : (before : Option (List ℕ)) (k : List ℕ) (ks : List (List ℕ)) → rises_after before (k ∷ ks) ≡ true
    → (follows before k ≡ true) × (rises (k ∷ ks) ≡ true)
rises_less None k ks r = (refl, r)
rises_less (Some b) k ks r = and_parts (key_before b k) (rises (k ∷ ks)) r

pub record KeyRun (before : Option (List ℕ)) (p q : Place) (ks : List (List ℕ)) (n : ℕ) : Type 0 where
  pub run : Run p q (map key_item ks)
  pub fit : Fit q
  pub rise : rises_after before ks ≡ true
  pub count : length ks ≡ n

key_is : (x : Item) → x.kind ≡ 0 → x ≡ key_item x.piece
key_is x h = ap (λ (k : ℕ). let y : Item = record { kind = k; piece = x.piece } in y) h

-- keys that rise, from the first on
pub starts : (before : Option (List ℕ)) → rises_after before [] ≡ true
starts None = refl
starts (Some b) = refl

-- keys that are read are laid, and rise
pub keys_take : (n : ℕ) (before : Option (List ℕ)) (p : Place) (r : List (List ℕ) × Place) → Fit p → keys_at n before p ≡ Some r
    → KeyRun before p r.1 r.0 n
unfolding keys_at
keys_take zero before p r fit e =
    subst (λ (y : List (List ℕ) × Place). KeyRun before p y.1 y.0 0) (some_is ([], p) r e)
    (record { run = Run-nil p; fit = fit; rise = starts before; count = refl })
keys_take (suc n) before p r fit e =
    let k = next_key n before p r e in
    let one = item_takes p k.behind k.key fit k.here in
    let more = keys_take n (Some k.key.piece) k.behind k.others one.1 k.more in
    let first : Run p k.behind (key_item k.key.piece ∷ []) = subst (λ (x : Item). Run p k.behind (x ∷ [])) (key_is k.key k.is_key) one.0 in
    subst (λ (y : List (List ℕ) × Place). KeyRun before p y.1 y.0 (suc n)) k.whole (record {
      run = Run-cons p k.others.1 k.behind (key_item k.key.piece) (map key_item k.others.0) first more.run;
      fit = more.fit;
      rise = rises_more before k.key.piece k.others.0 k.rises more.rise;
      count = ap suc more.count;
    })

-- keys that are laid and rise are read
pub keys_again : (ks : List (List ℕ)) (before : Option (List ℕ)) (p q : Place) → Run p q (map key_item ks)
    → p.at + length (pieces (map key_item ks)) < 2 ^ 28 → rises_after before ks ≡ true → keys_at (length ks) before p ≡ Some (ks, q)
unfolding keys_at
keys_again [] before p q run fits rise = ap (λ (k : Place). Some ([], k)) (Run-none p q run)
keys_again (k ∷ ks) before p q run fits rise =
    let r = rises_less before k ks rise in
    let room : p.at + length k < 2 ^ 28 = omega (arith, length-append k (pieces (map key_item ks))) in
    rw (
      item_again p q (key_item k) (map key_item ks) run room,
      r.0,
      keys_again ks (Some k) (after p q (key_item k) (map key_item ks)) q (Run-tail p q (key_item k) (map key_item ks) run)
          (omega (arith, length-append k (pieces (map key_item ks)))) r.1,
    ) refl
