-- Groups by their bytes.
use Rattle.std.proofs.Common.{◌≡◌, ℕ, zero, suc, ◌+◌, ◌-◌, ◌*◌, ◌%◌, ◌^◌, ◌<◌, ◌≤◌, Bool, true, false, ltb, leb, List, [], ◌∷◌, length, get_or, Option, Some, None, refl, sym, ap, subst, ◌∙◌, arith, inl, inr}
use Rattle.std.specs.Prelude.{◌&&◌, option_map, not, ◌==◌}
use Rattle.std.proofs.lemmas.Bool.{cases_lt, le-leb, lt-leb, ltb-true, and_parts}
use Rattle.jsonb_layout.specs.inner.Narrow.{is_narrow}
use Rattle.jsonb_layout.specs.Numeric.{all_below, are_groups}
use Rattle.jsonb_layout.specs.declared.header.Header.{Header}
use Rattle.jsonb_layout.specs.Options.{◌>>=◌, only_if}
use Rattle.jsonb_layout.specs.inner.Reading.{groups_of, value_of, varlena_of, header_of, numeric_of}
use Rattle.jsonb.specs.inner.Groups.{all_fit, groups_fit_of, rest_of}
use Rattle.jsonb_layout.proofs.Tools.{bind_some, some_is}
use Rattle.jsonb_layout.proofs.Theory.{Ends, fits_in, decided}

pub record Reads (b gs : List ℕ) : Type 0 where
  pub len : length b ≡ 2 * length gs
  pub at : (i : ℕ) → i < length gs → get_or gs i 1 ≡ get_or b (2 * i) 0 + 256 * get_or b (2 * i + 1) 0

shift : (b : List ℕ) (x y i : ℕ)
    → (get_or (x ∷ y ∷ b) (2 * suc i) 0 ≡ get_or b (2 * i) 0) × (get_or (x ∷ y ∷ b) (2 * suc i + 1) 0 ≡ get_or b (2 * i + 1) 0)
shift b x y i =
    let e : 2 * suc i ≡ suc (suc (2 * i)) = omega arith in
    let f : 2 * suc i + 1 ≡ suc (suc (2 * i + 1)) = omega arith in
    (ap (λ (n : ℕ). get_or (x ∷ y ∷ b) n 0) e, ap (λ (n : ℕ). get_or (x ∷ y ∷ b) n 0) f)

pub groups_read : (n : ℕ) (b gs : List ℕ) → length b ≤ n → groups_of b ≡ Some gs → Reads b gs
unfolding groups_of
groups_read n [] gs le e = subst (λ (r : List ℕ). Reads [] r) (some_is [] gs e) (record { len = refl; at = λ i h. absurd (omega arith) })
groups_read n (x ∷ []) gs le e = absurd cc
groups_read zero (x ∷ y ∷ b) gs le e = absurd (omega arith)
groups_read (suc n) (x ∷ y ∷ b) gs le e =
    let a = bind_some (groups_of b) (λ gs. Some ((x + 256 * y) ∷ gs)) gs e in
    let more = groups_read n b a.0 (omega arith) a.1 in
    subst (λ (r : List ℕ). Reads (x ∷ y ∷ b) r) (some_is ((x + 256 * y) ∷ a.0) gs a.2)
    (record { len = omega (arith, more.len); at = reads_at b x y a.0 more.at })
  where
    reads_at : (b : List ℕ) (x y : ℕ) (gs : List ℕ) → ((i : ℕ) → i < length gs → get_or gs i 1 ≡ get_or b (2 * i) 0 + 256 * get_or b (2 * i + 1) 0)
        → (i : ℕ) → i < length ((x + 256 * y) ∷ gs)
        → get_or ((x + 256 * y) ∷ gs) i 1 ≡ get_or (x ∷ y ∷ b) (2 * i) 0 + 256 * get_or (x ∷ y ∷ b) (2 * i + 1) 0
    reads_at b x y gs more zero h = refl
    reads_at b x y gs more (suc i) h = let s = shift b x y i in omega (arith, more i (omega arith), s.0, s.1)

pub fit_some : (b : List ℕ) → groups_fit_of b ≡ true → (gs : List ℕ) × (groups_of b ≡ Some gs) × (all_below gs ≡ true)
fit_some b e = go (groups_of b) refl e
  where
    go : (r : Option (List ℕ)) → groups_of b ≡ r → all_fit r ≡ true → (gs : List ℕ) × (groups_of b ≡ Some gs) × (all_below gs ≡ true)
    go None h k = absurd cc
    go (Some gs) h k = (gs, h, k)

-- groups that do not fit make no number
pub unfit : (h : Header) (b : List ℕ) → groups_fit_of b ≡ false → None ≡ rest_of h b
unfit h b e = go (groups_of b) e
  where
    go : (r : Option (List ℕ)) → all_fit r ≡ false → None ≡ option_map is_narrow (r >>= λ gs. only_if (are_groups gs) (value_of h gs))
    go None k = refl
    go (Some gs) k = rw k refl

-- a first or last group of 0
pub no_end : (h : Header) (b gs : List ℕ) → groups_of b ≡ Some gs → are_groups gs ≡ false → None ≡ rest_of h b
no_end h b gs e f = rw (e, f) refl

-- without a varlena there is no number
pub no_header : (p : List ℕ) → None ≡ varlena_of p → None ≡ option_map is_narrow (numeric_of p)
unfolding numeric_of
no_header p e = rw (← e) refl

-- without a header there is no number
pub no_groups : (p body : List ℕ) → Some body ≡ varlena_of p → None ≡ header_of body → None ≡ option_map is_narrow (numeric_of p)
unfolding numeric_of
no_groups p body e f = rw (← e, ← f) refl

-- the header and the groups decide
pub rest_is : (p body : List ℕ) (h : Header) (b : List ℕ) → Some body ≡ varlena_of p → Some (h, b) ≡ header_of body
    → rest_of h b ≡ option_map is_narrow (numeric_of p)
unfolding numeric_of
rest_is p body h b e f = rw (← e, ← f) refl

-- no groups with the header of 0 are 0, which is narrow
pub zero_rest : (h : Header) (b : List ℕ) → length b ≡ 0 → ((h.lift == 2 ^ 15) && not h.minus) ≡ true → Some true ≡ rest_of h b
unfolding groups_of value_of is_narrow
zero_rest h [] e l = rw l refl
zero_rest h (x ∷ b) e l = absurd cc

-- no groups with another header are no number
pub zero_none : (h : Header) (b : List ℕ) → length b ≡ 0 → ((h.lift == 2 ^ 15) && not h.minus) ≡ false → None ≡ rest_of h b
unfolding groups_of value_of
zero_none h [] e l = rw l refl
zero_none h (x ∷ b) e l = absurd cc

-- ---- the ends

below_at : (gs : List ℕ) (i : ℕ) → all_below gs ≡ true → i < length gs → get_or gs i 1 < 10000
below_at [] i h lt = absurd (omega arith)
below_at (g ∷ gs) zero h lt = ltb-true g 10000 (and_parts (ltb g 10000) (all_below gs) h).0
below_at (g ∷ gs) (suc i) h lt = below_at gs i (and_parts (ltb g 10000) (all_below gs) h).1 (omega arith)

abbrev pub two_at : List ℕ → ℕ → ℕ
two_at b i = get_or b i 0 + 256 * get_or b (i + 1) 0

pub record Shown (b : List ℕ) : Type 0 where
  pub g : ℕ
  pub gs : List ℕ
  pub are : groups_of b ≡ Some (g ∷ gs)
  pub below : all_below (g ∷ gs) ≡ true
  pub len : length b ≡ 2 * (length gs + 1)
  pub first : g ≡ get_or b 0 0 + 256 * get_or b 1 0
  pub last : get_or (g ∷ gs) (length (g ∷ gs) - 1) 1 ≡ get_or b (length b - 2) 0 + 256 * get_or b (length b - 1) 0
  pub first_fits : g < 10000
  pub last_fits : get_or (g ∷ gs) (length (g ∷ gs) - 1) 1 < 10000

-- groups that fit, of which there are some, taken apart
pub shown : (b : List ℕ) → groups_fit_of b ≡ true → 0 < length b → Shown b
shown b e some =
    let f = fit_some b e in
    go f.0 f.1 f.2 (groups_read (length b) b f.0 (omega arith) f.1)
  where
    go : (r : List ℕ) → groups_of b ≡ Some r → all_below r ≡ true → Reads b r → Shown b
    go [] h k reads = absurd (omega (arith, reads.len))
    go (g ∷ gs) h k reads =
        let i = length (g ∷ gs) - 1 in
        let n : 2 * i ≡ length b - 2 = omega (arith, reads.len) in
        let m : 2 * i + 1 ≡ length b - 1 = omega (arith, reads.len) in
        record {
          g = g;
          gs = gs;
          are = h;
          below = k;
          len = omega (arith, reads.len);
          first = reads.at 0 (omega arith);
          last =
              reads.at i (omega arith)
              ∙ ap (λ (j : ℕ). get_or b j 0 + 256 * get_or b (2 * i + 1) 0) n
              ∙ ap (λ (j : ℕ). get_or b (length b - 2) 0 + 256 * get_or b j 0) m;
          first_fits = below_at (g ∷ gs) 0 k (omega arith);
          last_fits = below_at (g ∷ gs) i k (omega arith);
        }

-- a first group of 0 makes no number
pub no_first : (h : Header) (b : List ℕ) (s : Shown b) → s.g ≡ 0 → None ≡ rest_of h b
no_first h b s e = no_end h b (s.g ∷ s.gs) s.are (rw (s.below, e) refl)

-- a last group of 0 makes no number
pub no_last : (h : Header) (b : List ℕ) (s : Shown b) → get_or (s.g ∷ s.gs) (length (s.g ∷ s.gs) - 1) 1 ≡ 0 → None ≡ rest_of h b
no_last h b s e = no_end h b (s.g ∷ s.gs) s.are (rw (s.below, e) (and_false (ltb 0 s.g)))
  where
    and_false : (t : Bool) → (t && false) ≡ false
    and_false true = refl
    and_false false = refl

pub answer : (h : Header) (b : List ℕ) (s : Shown b) (k z : ℕ) → Ends s.g s.gs k z
    → rest_of h b ≡ only_if (fits_in h (s.g ∷ s.gs) z) (Some (leb (4 * length s.gs + k - z) 38))
answer h b s k z e =
    ap (λ (r : Option (List ℕ)). option_map is_narrow (r >>= λ gs. only_if (are_groups gs) (value_of h gs))) s.are ∙ decided h s.g s.gs k z e

-- groups past the fraction digits make no number
pub too_long : (h : Header) (b : List ℕ) (s : Shown b) (k z : ℕ) → Ends s.g s.gs k z
    → h.dscale + z + 4 * (h.lift + 1) < 4 * (length s.gs + 1 + 2 ^ 15) → None ≡ rest_of h b
too_long h b s k z e lt =
    sym (answer h b s k z e ∙ rw (lt-leb (4 * (length (s.g ∷ s.gs) + 2 ^ 15)) (h.dscale + z + 4 * (h.lift + 1)) (omega arith)) refl)

-- a number is narrow by its count of digits
pub narrow_if : (h : Header) (b : List ℕ) (s : Shown b) (k z m : ℕ) → Ends s.g s.gs k z
    → 4 * (length s.gs + 1 + 2 ^ 15) ≤ h.dscale + z + 4 * (h.lift + 1) → m ≡ length s.gs → Some (leb (4 * m + k) (38 + z)) ≡ rest_of h b
narrow_if h b s k z m e le n =
    sym
    (answer h b s k z e
    ∙ rw (le-leb (4 * (length (s.g ∷ s.gs) + 2 ^ 15)) (h.dscale + z + 4 * (h.lift + 1)) (omega arith), n)
    (ap (λ (t : Bool). Some t) (moved (4 * length s.gs + k) z)))
  where
    moved : (a z : ℕ) → leb (a - z) 38 ≡ leb a (38 + z)
    moved a z = elim (cases_lt (38 + z) a) [
      | inl lt ↦ lt-leb (a - z) 38 (omega arith) ∙ sym (lt-leb a (38 + z) lt)
      | inr le ↦ le-leb (a - z) 38 (omega arith) ∙ sym (le-leb a (38 + z) le)
    ]

-- a first group of k digits, and a last one that ends with z zeros
pub record Counted (f l k z : ℕ) : Type 0 where
  pub some : 1 ≤ k
  pub least : 10 ^ (k - 1) ≤ f
  pub most : f < 10 ^ k
  pub few : z ≤ 3
  pub last : (q : ℕ) × (l ≡ q * 10 ^ z) × (q % 10 ≡ 0 → ⊥)

-- what is counted of the first and the last group
pub ends_are : {b : List ℕ} (s : Shown b) {k z f l : ℕ} → s.g ≡ f → get_or (s.g ∷ s.gs) (length (s.g ∷ s.gs) - 1) 1 ≡ l → Counted f l k z
    → Ends s.g s.gs k z
ends_are s {k = k} ef el c = record {
  below = s.below;
  some = c.some;
  at_least = subst (λ (x : ℕ). 10 ^ (k - 1) ≤ x) (sym ef) c.least;
  at_most = subst (λ (x : ℕ). x < 10 ^ k) (sym ef) c.most;
  few = c.few;
  last = (c.last.0, el ∙ c.last.1, c.last.2);
}
