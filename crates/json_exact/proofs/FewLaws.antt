-- Few groups, held with zeros behind them.
use Rattle.std.proofs.Common.{◌≡◌, ℕ, zero, suc, ◌+◌, ◌*◌, ◌/◌, ◌^◌, ◌<◌, ◌≤◌, false, List, [], ◌∷◌, length, get_or, refl, sym, ap, subst, ◌∙◌, arith, inr}
use Rattle.std.proofs.Math.Nat.{pow-suc}
use Rattle.std.proofs.lemmas.List.{get_or_past}
use Rattle.json_model.specs.Decimal.{HasNarrowDigits}
use Rattle.json_exact.specs.Digits.{joined, AllBelow}
use Rattle.json_exact.specs.Groups.{groups_of, AreGroups}
use Rattle.json_exact.specs.inner.LeadingDigitsLaws.{joined_below}
use Rattle.json_exact.specs.inner.SignificantDigits.{Pushed, kept}
use Rattle.json_exact.proofs.DigitLaws.{power_mono}
use Rattle.json_exact.proofs.GroupLaws.{many}

-- the first n of a list, zeros behind it
abbrev pub filled : ℕ → List ℕ → List ℕ
filled zero gs = []
filled (suc n) [] = 0 ∷ filled n []
filled (suc n) (g ∷ gs) = g ∷ filled n gs

-- n items of a list from an index on, each 0 where there is none
abbrev pub reads : ℕ → ℕ → List ℕ → List ℕ
reads zero i gs = []
reads (suc n) i gs = get_or gs i 0 ∷ reads n (suc i) gs

reads_none : (n i : ℕ) → reads n i [] ≡ filled n []
reads_none zero i = refl
reads_none (suc n) i = ap (λ (ds : List ℕ). 0 ∷ ds) (reads_none n (suc i))

reads_more : (n i g : ℕ) (gs : List ℕ) → reads n (suc i) (g ∷ gs) ≡ reads n i gs
reads_more zero i g gs = refl
reads_more (suc n) i g gs = ap (λ (ds : List ℕ). get_or gs i 0 ∷ ds) (reads_more n (suc i) g gs)

pub reads_filled : (n : ℕ) (gs : List ℕ) → reads n 0 gs ≡ filled n gs
reads_filled zero gs = refl
reads_filled (suc n) [] = ap (λ (ds : List ℕ). 0 ∷ ds) (reads_none n 1)
reads_filled (suc n) (g ∷ gs) = ap (λ (ds : List ℕ). g ∷ ds) (reads_more n 0 g gs ∙ reads_filled n gs)

filled_all : (n : ℕ) (gs : List ℕ) → length gs ≡ n → filled n gs ≡ gs
filled_all zero [] e = refl
filled_all zero (g ∷ gs) e = absurd (omega arith)
filled_all (suc n) [] e = absurd (omega arith)
filled_all (suc n) (g ∷ gs) e = ap (λ (ds : List ℕ). g ∷ ds) (filled_all n gs (omega arith))

-- a list is what stands at its indexes
pub reads_all : (n : ℕ) (gs : List ℕ) → length gs ≡ n → reads n 0 gs ≡ gs
reads_all n gs e = reads_filled n gs ∙ filled_all n gs e

pub reads_below : (b n i : ℕ) (gs : List ℕ) → ((k : ℕ) → get_or gs k 0 < b) → AllBelow b (reads n i gs)
reads_below b zero i gs h = tt
reads_below b (suc n) i gs h = (h i, reads_below b n (suc i) gs h)

length_filled : (n : ℕ) (gs : List ℕ) → length (filled n gs) ≡ n
length_filled zero gs = refl
length_filled (suc n) [] = ap (λ (k : ℕ). suc k) (length_filled n [])
length_filled (suc n) (g ∷ gs) = ap (λ (k : ℕ). suc k) (length_filled n gs)

below_filled : (b n : ℕ) (gs : List ℕ) → 0 < b → AllBelow b gs → AllBelow b (filled n gs)
below_filled b zero gs some h = tt
below_filled b (suc n) [] some h = (some, below_filled b n [] some tt)
below_filled b (suc n) (g ∷ gs) some h = (h.0, below_filled b n gs some h.1)

joined_none : (b n : ℕ) → joined b (filled n []) ≡ 0
joined_none b zero = refl
joined_none b (suc n) = rw (joined_none b n) (none (b ^ length (filled n [])))
  where
    none : (u : ℕ) → 0 * u + 0 ≡ 0
    none u = omega arith

-- the zeros behind the digits are powers of the base
joined_filled : (b n : ℕ) (gs : List ℕ) → length gs ≤ n → joined b (filled n gs) * b ^ length gs ≡ joined b gs * b ^ n
joined_filled b n [] le = rw (joined_none b n) (omega arith)
joined_filled b zero (g ∷ gs) le = absurd (omega arith)
joined_filled b (suc n) (g ∷ gs) le =
    rw (length_filled n gs)
    (step g (joined b (filled n gs)) (joined b gs) (b ^ n) (b ^ length gs) b (b ^ suc n) (b ^ suc (length gs)) (pow-suc b n) (pow-suc b (length gs))
    (joined_filled b n gs (omega arith)))
  where
    step : (g m j u l b v k : ℕ) → v ≡ u * b → k ≡ l * b → m * l ≡ j * u → (g * u + m) * k ≡ (g * l + j) * v
    step g m j u l b v k e f h = let x : m * l * b ≡ j * u * b = ap (λ (x : ℕ). x * b) h in rw (e, f) (omega arith)

none_behind : (n : ℕ) (gs : List ℕ) (k : ℕ) → length gs ≤ k → get_or (filled n gs) k 0 ≡ 0
none_behind zero gs k le = refl
none_behind (suc n) [] zero le = refl
none_behind (suc n) [] (suc k) le = none_behind n [] k (omega arith)
none_behind (suc n) (g ∷ gs) zero le = absurd (omega arith)
none_behind (suc n) (g ∷ gs) (suc k) le = none_behind n gs k (omega arith)

leads : (b n g : ℕ) (gs : List ℕ) → 0 < g → b ^ n ≤ joined b (filled (suc n) (g ∷ gs))
leads b n g gs some = rw (length_filled n gs) (let a = at_least g (b ^ n) some in omega arith)
  where
    at_least : (g u : ℕ) → 0 < g → u ≤ g * u
    at_least zero u h = absurd (omega arith)
    at_least (suc g) u h = omega arith

-- at most eleven groups, of which the first is not 0, are held by zeros behind them
pub few_hold : (gs : List ℕ) → AllBelow 10000 gs → length gs ≤ 11 → 0 < get_or gs 0 0
    → Pushed 10000 10 (filled 11 gs) (length gs) false (joined 10000 gs)
few_hold [] h few some = absurd (omega arith)
few_hold (g ∷ gs) h few some =
    kept
    (record {
      count = length_filled 11 (g ∷ gs);
      below = below_filled 10000 11 (g ∷ gs) (omega arith) h;
      size = sym (joined_filled 10000 11 (g ∷ gs) few);
      lead = inr (omega arith, leads 10000 10 g gs some);
    })
    (none_behind 11 (g ∷ gs))

-- nine groups have 36 digits
pub few_narrow : (gs : List ℕ) → AllBelow 10000 gs → length gs ≤ 9 → HasNarrowDigits (joined 10000 gs)
few_narrow gs h few =
    let l = joined_below 10000 gs h in
    let m = power_mono 10000 (length gs) 9 (omega arith) few in
    (0, joined 10000 gs, omega arith, omega arith)

pub groups_below : (bytes : List ℕ) → AreGroups bytes → AllBelow 10000 (groups_of bytes)
groups_below [] h = tt
groups_below (low ∷ []) h = absurd h
groups_below (low ∷ high ∷ bytes) h = (h.0, groups_below bytes h.1)

-- where the two bytes of a group stand
pub group_at : (bytes : List ℕ) (i j k : ℕ) → j ≡ 2 * i → k ≡ 2 * i + 1 → i < length bytes / 2
    → get_or bytes j 0 + 256 * get_or bytes k 0 ≡ get_or (groups_of bytes) i 0
group_at [] i j k e f lt = absurd (omega arith)
group_at (low ∷ []) i j k e f lt = absurd (omega arith)
group_at (low ∷ high ∷ bytes) zero j k e f lt =
    let s : j ≡ 0 = omega arith in
    let t : k ≡ 1 = omega arith in
    rw (s, t) refl
group_at (low ∷ high ∷ bytes) (suc i) j k e f lt =
    let s : j ≡ suc (suc (2 * i)) = omega arith in
    let t : k ≡ suc (suc (2 * i + 1)) = omega arith in
    rw (s, t) (group_at bytes i (2 * i) (2 * i + 1) refl refl (omega arith))

pub no_group : (bytes : List ℕ) (i : ℕ) → AreGroups bytes → length bytes / 2 ≤ i → get_or (groups_of bytes) i 0 ≡ 0
no_group bytes i h le = get_or_past (groups_of bytes) i 0 (let m = many bytes h in omega arith)

pub few_held : (bytes ds : List ℕ) → AreGroups bytes → length bytes / 2 ≤ 9 → 0 < get_or (groups_of bytes) 0 0 → ds ≡ reads 11 0 (groups_of bytes)
    → Pushed 10000 10 ds (length bytes / 2) false (joined 10000 (groups_of bytes))
few_held bytes ds h few some e =
    let m = many bytes h in
    subst (λ (k : ℕ). Pushed 10000 10 ds k false (joined 10000 (groups_of bytes))) m
    (subst (λ (hs : List ℕ). Pushed 10000 10 hs (length (groups_of bytes)) false (joined 10000 (groups_of bytes)))
    (sym (e ∙ reads_filled 11 (groups_of bytes)))
    (few_hold (groups_of bytes) (groups_below bytes h) (omega arith) some))

pub few_are_narrow : (bytes : List ℕ) → AreGroups bytes → length bytes / 2 ≤ 9 → HasNarrowDigits (joined 10000 (groups_of bytes))
few_are_narrow bytes h few = few_narrow (groups_of bytes) (groups_below bytes h) (let m = many bytes h in omega arith)
