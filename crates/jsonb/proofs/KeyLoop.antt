-- Reading keys one after the other, as a loop does.
use Rattle.std.proofs.Common.{◌≡◌, ℕ, ◌-◌, ◌+◌, ◌≤◌, ◌<◌, true, false, eqb, List, ◌∷◌, Option, Some, None, refl, sym, ap, ◌∙◌, arith}
use Rattle.std.specs.Prelude.{◌&&◌}
use Rattle.jsonb_layout.specs.Layout.{Item}
use Rattle.jsonb.specs.declared.found.Found.{Found}
use Rattle.jsonb_layout.specs.Options.{◌>>=◌}
use Rattle.jsonb_layout.specs.inner.Reading.{Place, follows, item_at, keys_at}
use Rattle.jsonb.specs.Found.{both, text_found, keys_found, keys_after, nothing}
use Rattle.jsonb.proofs.FoundLaws.{both_assoc, both_nothing}
use Rattle.jsonb_layout.proofs.Tools.{count_down}

regroup : (f : Found) (k : List ℕ) (r : Option (List (List ℕ) × Place))
    → keys_after f (r >>= λ ks. Some (k ∷ ks.0, ks.1)) ≡ keys_after (both f (text_found k)) r
regroup f k (Some x) = ap (λ (g : Found). Some (g, x.1)) (sym (both_assoc f (text_found k) (keys_found x.0)))
regroup f k None = refl

-- of count keys from start on, i are read and f is found in them; b is the last, and the reading stands at p
pub record KeysSoFar (f : Found) (count i : ℕ) (b : Option (List ℕ)) (p start : Place) : Type 0 where
  pub same : keys_after f (keys_at (count - i) b p) ≡ keys_after nothing (keys_at count None start)

-- before the first key
pub keys_begin : (count : ℕ) (start : Place) → KeysSoFar nothing count 0 None start start
keys_begin count start = let n : count - 0 ≡ count = omega arith in record { same = ap (λ (k : ℕ). keys_after nothing (keys_at k None start)) n }

-- where no item is, the keys can not be read
pub key_none : {f : Found} {count i : ℕ} {b : Option (List ℕ)} {p start : Place} → KeysSoFar f count i b p start → i < count
    → None ≡ item_at p → None ≡ keys_after nothing (keys_at count None start)
unfolding keys_at
key_none {f = f} {count = count} {i = i} {b = b} {p = p} so_far lt h =
    let one : keys_after f (keys_at (count - i) b p) ≡ None = rw (count_down count i lt, ← h) refl in
    sym one ∙ so_far.same

-- an item that is no key, or does not rise, ends the reading
pub key_stops : {f : Found} {count i : ℕ} {b : Option (List ℕ)} {p start q : Place} {x : Item} → KeysSoFar f count i b p start → i < count
    → Some (x, q) ≡ item_at p → false ≡ (eqb x.kind 0 && follows b x.piece) → None ≡ keys_after nothing (keys_at count None start)
unfolding keys_at
key_stops {f = f} {count = count} {i = i} {b = b} {p = p} so_far lt h bad =
    let one : keys_after f (keys_at (count - i) b p) ≡ None = rw (count_down count i lt, ← h, ← bad) refl in
    sym one ∙ so_far.same

-- one key more
pub key_goes_on : {f : Found} {count i : ℕ} {b : Option (List ℕ)} {p start q : Place} {x : Item} → KeysSoFar f count i b p start → i < count
    → Some (x, q) ≡ item_at p → true ≡ (eqb x.kind 0 && follows b x.piece)
    → KeysSoFar (both f (text_found x.piece)) count (i + 1) (Some x.piece) q start
unfolding keys_at
key_goes_on {f = f} {count = count} {i = i} {b = b} {p = p} {q = q} {x = x} so_far lt h good =
    let rest = keys_at (count - (i + 1)) (Some x.piece) q in
    let one : keys_after f (keys_at (count - i) b p) ≡ keys_after (both f (text_found x.piece)) rest =
    rw (count_down count i lt, ← h, ← good) (regroup f x.piece rest) in
    record { same = sym one ∙ so_far.same }

-- behind the last key
pub keys_done : {f : Found} {count i : ℕ} {b : Option (List ℕ)} {p start : Place} → KeysSoFar f count i b p start → count ≤ i
    → Some (f, p) ≡ keys_after nothing (keys_at count None start)
unfolding keys_at
keys_done {f = f} {count = count} {i = i} {b = b} {p = p} so_far le =
    let k : count - i ≡ 0 = omega arith in
    let one : keys_after f (keys_at (count - i) b p) ≡ Some (f, p) = rw k (ap (λ (g : Found). Some (g, p)) (both_nothing f)) in
    sym one ∙ so_far.same
