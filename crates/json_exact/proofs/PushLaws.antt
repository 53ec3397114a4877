-- What a push makes of the digits that are held, in any base.
use Rattle.std.proofs.Common.{◌≡◌, ℕ, zero, suc, ◌+◌, ◌-◌, ◌*◌, ◌^◌, ◌<◌, ◌≤◌, ◌⊎◌, Bool, true, false, List, [], ◌∷◌, length, get_or, set, refl, sym, ap, ◌∙◌, arith, inl, inr}
use Rattle.std.specs.Prelude.{replicate}
use Rattle.std.proofs.Math.Nat.{pow-suc}
use Rattle.std.proofs.lemmas.Nat.{pow-add}
use Rattle.std.proofs.Common.{get_or-set_other}
use Rattle.std.proofs.Math.ListN.{length-set}
use Rattle.json_model.specs.Decimal.{HasNarrowDigits}
use Rattle.json_exact.specs.Digits.{joined, AllBelow}
use Rattle.json_exact.specs.inner.LeadingDigits.{Keeps}
use Rattle.json_exact.specs.inner.LeadingDigitsLaws.{from_len}
use Rattle.json_exact.specs.inner.SignificantDigits.{Pushed, kept, lost}
use Rattle.json_exact.proofs.DigitLaws.{power_mono, above_none}

below_set : (b d : ℕ) (ds : List ℕ) (i : ℕ) → AllBelow b ds → d < b → AllBelow b (set ds i d)
below_set b d [] i h lt = tt
below_set b d (e ∷ ds) zero h lt = (lt, h.1)
below_set b d (e ∷ ds) (suc i) h lt = (h.0, below_set b d ds i h.1 lt)

joined_set : (b d : ℕ) (ds : List ℕ) (i r : ℕ) → length ds ≡ i + suc r → get_or ds i 0 ≡ 0 → joined b (set ds i d) ≡ joined b ds + d * b ^ r
joined_set b d [] i r len z = absurd (omega arith)
joined_set b d (e ∷ ds) zero r len z =
    let l : length ds ≡ r = omega arith in
    rw (z, l) (omega arith)
joined_set b d (e ∷ ds) (suc i) r len z =
    let l : length ds ≡ i + suc r = omega arith in
    let h = joined_set b d ds i r l z in
    rw (length-set ds i d, h) (omega arith)

module _ (b more : ℕ) (two : 1 < b) where
  -- there is a slot for the digit
  pub put : (ds : List ℕ) (len : ℕ) (w : Bool) (d n : ℕ) → len < suc more → d < b → (len ≡ 0 → d ≡ 0 → ⊥)
      → Pushed b more ds len w n → Pushed b more (set ds len d) (len + 1) w (n * b + d)
  put ds len false d n lt small some (kept h rest) =
      let r = more - len in
      let i : length ds ≡ len + suc r = let c = h.count in omega arith in
      let j : joined b (set ds len d) ≡ joined b ds + d * b ^ r = joined_set b d ds len r i (rest len (omega arith)) in
      let p : b ^ r * b ^ (len + 1) ≡ b ^ suc more =
      (let e : r + (len + 1) ≡ suc more = omega arith in sym (pow-add b r (len + 1)) ∙ ap (λ (k : ℕ). b ^ k) e) in
      let q : b ^ (len + 1) ≡ b ^ len * b = ap (λ (k : ℕ). b ^ k) (let e : len + 1 ≡ suc len = omega arith in e) ∙ pow-suc b len in
      kept
      (record {
        count = length-set ds len d ∙ h.count;
        below = below_set b d ds len h.below small;
        size = step n (joined b ds) d (b ^ suc more) (b ^ len) (b ^ (len + 1)) (b ^ r) h.size q p ∙ ap (λ (x : ℕ). x * b ^ (len + 1)) (sym j);
        lead = inr (omega arith, rw j (leads h.lead));
      })
      (λ k le. (let ne : (k ≡ len → ⊥) = λ e. absurd (omega arith) in rw get_or-set_other (rest k (omega arith))))
    where
      step : (n j d a t c r : ℕ) → n * a ≡ j * t → c ≡ t * b → r * c ≡ a → (n * b + d) * a ≡ (j + d * r) * c
      step n j d a t c r e f g =
          let x : j * c ≡ j * (t * b) = ap (λ (x : ℕ). j * x) f in
          let y : d * (r * c) ≡ d * a = ap (λ (x : ℕ). d * x) g in
          let z : n * a * b ≡ j * t * b = ap (λ (x : ℕ). x * b) e in
          omega arith

      at_least : (d u : ℕ) → 0 < d → u ≤ d * u
      at_least zero u h = absurd (omega arith)
      at_least (suc d) u h = omega arith

      leads : ((len ≡ 0) × (joined b ds ≡ 0)) ⊎ ((0 < len) × (b ^ more ≤ joined b ds)) → b ^ more ≤ joined b ds + d * b ^ (more - len)
      leads (inl z) =
          let q : b ^ (more - len) ≡ b ^ more = ap (λ (k : ℕ). b ^ k) (let k : more - len ≡ more = let y = z.0 in omega arith in k) in
          let a = at_least d (b ^ (more - len)) (above_none d (some z.0)) in
          omega arith
      leads (inr z) = let p = z.1 in omega arith
  put ds len true d n lt small some (lost h) = let m = h.many in absurd (omega arith)

  -- a 0 behind the slots is known without one
  pub put_zero : (ds : List ℕ) (len : ℕ) (w : Bool) (n : ℕ) → more < len → (HasNarrowDigits (n * b + 0) → HasNarrowDigits n)
      → Pushed b more ds len w n → Pushed b more ds (len + 1) w (n * b + 0)
  put_zero ds len false n le less (kept h rest) =
      let q : b ^ (len + 1) ≡ b ^ len * b = ap (λ (k : ℕ). b ^ k) (let e : len + 1 ≡ suc len = omega arith in e) ∙ pow-suc b len in
      kept
      (record {
        count = h.count;
        below = h.below;
        size = step n (joined b ds) (b ^ suc more) (b ^ len) (b ^ (len + 1)) h.size q;
        lead = elim h.lead [ inl z ↦ inl (absurd (let p = z.0 in omega arith)) | inr z ↦ inr (omega arith, z.1) ];
      })
      (λ k l. rest k (omega arith))
    where
      step : (n j a t c : ℕ) → n * a ≡ j * t → c ≡ t * b → (n * b + 0) * a ≡ j * c
      step n j a t c e f =
          let x : j * c ≡ j * (t * b) = ap (λ (x : ℕ). j * x) f in
          let z : n * a * b ≡ j * t * b = ap (λ (x : ℕ). x * b) e in
          omega arith
  put_zero ds len true n le less (lost h) = lost (record { many = omega (arith, h.many); wide = λ a. h.wide (less a) })

  -- any other digit makes the number wide
  pub put_over : (ds : List ℕ) (len : ℕ) (w : Bool) (d n : ℕ) → more < len → (b ^ more ≤ n → HasNarrowDigits (n * b + d) → ⊥)
      → (HasNarrowDigits (n * b + d) → HasNarrowDigits n) → Pushed b more ds len w n → Pushed b more ds (len + 1) true (n * b + d)
  put_over ds len false d n le wide less (kept h rest) = lost (record { many = omega arith; wide = wide (large len le h) })
    where
      large : (len : ℕ) → more < len → Keeps b more ds len n → b ^ more ≤ n
      large zero lt h = absurd (omega arith)
      large (suc under) lt h = let l = from_len b more two ds under n h in let m = power_mono b more under (omega arith) (omega arith) in omega arith
  put_over ds len true d n le wide less (lost h) = lost (record { many = omega (arith, h.many); wide = λ a. h.wide (less a) })

zeros_below : (b n : ℕ) → 0 < b → AllBelow b (replicate n 0)
zeros_below b zero h = tt
zeros_below b (suc n) h = (h, zeros_below b n h)

zeros_at : (n k : ℕ) → ◌≡◌ {A = ℕ} (get_or (replicate n 0) k 0) 0
zeros_at zero k = refl
zeros_at (suc n) zero = refl
zeros_at (suc n) (suc k) = zeros_at n k

zeros_joined : (b n : ℕ) → joined b (replicate n 0) ≡ 0
zeros_joined b zero = refl
zeros_joined b (suc n) = let h = zeros_joined b n in omega arith

zeros_length : (n : ℕ) → length (replicate {A = ℕ} n 0) ≡ n
zeros_length zero = refl
zeros_length (suc n) = ap (λ (k : ℕ). suc k) (zeros_length n)

-- no digit was pushed
pub none_yet : (b more : ℕ) → 0 < b → Pushed b more (replicate (suc more) 0) 0 false 0
none_yet b more h =
    let z = zeros_joined b (suc more) in
    kept
    (record { count = zeros_length (suc more); below = zeros_below b (suc more) h; size = rw z (omega arith); lead = inl (refl, z) })
    (λ k le. zeros_at (suc more) k)
