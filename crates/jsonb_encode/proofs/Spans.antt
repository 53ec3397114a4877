-- The groups of a number that are written, and the weight.
use Rattle.std.proofs.Common.{◌≡◌, ℕ, zero, suc, ◌+◌, ◌-◌, ◌*◌, ◌/◌, ◌%◌, ◌^◌, ◌<◌, ◌≤◌, Bool, cond, ltb, leb, List, [], ◌∷◌, ◌++◌, length, refl, sym, ap, subst, ◌∙◌, append_assoc, arith, inl, inr, ℤ, pos, negsuc, nat_abs}
use Rattle.std.specs.Prelude.{◌+ℤ◌, ◌<ℤ◌, ◌≤ℤ◌, int_lt, ◌&&◌, IsTrue}
use Rattle.std.specs.Int.{w16, w32, to_le_bytes}
use Rattle.std.specs.List.{flat_map}
use Rattle.std.proofs.lemmas.List.{length-append}
use Rattle.std.proofs.lemmas.Int.{ints}
use Rattle.std.proofs.lemmas.Bool.{cases_lt, ne_eqb, eq-eqb, ltb-true, and_parts}
use Rattle.std.proofs.lemmas.Nat.{pow-add, mod_below, le-div}
use Rattle.json_model.specs.Decimal.{Decimal, HasNarrowDigits}
use Rattle.json_exact.specs.DecimalGroups.{group, IsGreatestPlace, IsLeastPlace}
use Rattle.json_exact.specs.Digits.{spread, count_of}
use Rattle.json_exact.specs.Exact.{IsWorth, IsWithinLimits, limit, parts}
use Rattle.json_exact.specs.inner.LeadingDigitsLaws.{count_none}
use Rattle.json_exact.proofs.DigitLaws.{power_mono, none_of}
use Rattle.json_model.proofs.DecimalLaws.{fours}
use Rattle.json_exact.proofs.NarrowLaws.{narrow_more, narrow_back, wide_group}
use Rattle.json_exact.proofs.SignLaws.{sign_times}
use Rattle.json_exact.proofs.WorthLaws.{parts_pos}
use Rattle.json_exact.specs.inner.DecimalInverseLaws.{ten_pos}
use Rattle.jsonb_encode.specs.Number.{fraction_groups, magnitude, groups, group_count, lift, trimmed, header, is_short, head, varlena, body, numeric, fits}
use Rattle.jsonb_encode.specs.declared.number_form.NumericForm.{NumericForm}
use Rattle.jsonb_encode.specs.declared.number_form.NumericForm.TheVariants.{Short, Long, ShortVarlena}
use Rattle.jsonb_layout.specs.declared.header.Header.{Header}
use Rattle.jsonb_encode.specs.inner.Writing.{groups_down, lead}
use Rattle.jsonb_encode.proofs.Digits.{base_pos, Ends, counted, from_top, ends}
use Rattle.jsonb_encode.proofs.Places.{Scaled, scaled, spans, all_groups}

-- the parts are a number of the last groups of 16383 fraction digits
pub whole_scaled : (n : ℕ) → Scaled n (n * 10) 4096
whole_scaled n = (omega arith, omega arith)

over : (n l p q : ℕ) → n < l → p ≤ n * 10 → q ≤ p → q ≡ l * 10 → ⊥
over n l p q a b c e = omega arith

top_under : (k top n l : ℕ) → 10000 ^ k ≡ l * 10 → n < l → 10000 ^ top ≤ n * 10 → top < k
top_under k top n l e lt le = elim (cases_lt top k) [
  | inl h ↦ h
  | inr ge ↦ absurd (over n l (10000 ^ top) (10000 ^ k) lt le (power_mono 10000 k top (omega arith) ge) e)
]

limit_groups : 10000 ^ 36864 ≡ limit * 10
unfolding limit parts
limit_groups = fours 36864 ∙ pow-add 10 147455 1 ∙ ap (λ (x : ℕ). x * 10) (pow-add 10 131072 16383)

-- a magnitude below 10 ^ 131072 has no place above 2 ^ 15
pub top_low : (d : ℤ) (top z : ℕ) → IsWithinLimits d → Ends (nat_abs d * 10) top z → top < 36864
top_low d top z h e = top_under 36864 top (nat_abs d) limit limit_groups h.below (from_top (nat_abs d * 10) top e.first)

-- a narrow number has at most eleven groups
pub few : (n top z : ℕ) → HasNarrowDigits n → Ends (n * 10) top z → suc top - z ≤ 11
few n top z h e = elim (cases_lt 11 (suc top - z)) [
  | inr le ↦ le
  | inl lt ↦
      let N = n * 10 in
      let y = N / 10000 ^ z in
      let whole = ends N z e.below in
      let p : z + 11 ≤ top = omega arith in
      let a = power_mono 10000 (11 + z) top (omega arith) (omega arith) in
      let b = from_top N top e.first in
      let c : 10000 ^ 11 * 10000 ^ z ≤ N = subst (λ (x : ℕ). x ≤ N) (pow-add 10000 11 z) (omega arith) in
      let y-big : 10000 ^ 11 ≤ y = le-div (10000 ^ 11) N (10000 ^ z) (base_pos z) c in
      let front : 10000 ^ 10 ≤ y / 10000 = le-div (10000 ^ 10) y 10000 (omega arith) (omega arith) in
      let narrow : HasNarrowDigits N = subst HasNarrowDigits (let t : n * 10 ^ 1 ≡ n * 10 = omega arith in t) (narrow_more n 1 h) in
      let moved : HasNarrowDigits (y * 10 ^ (4 * z)) = subst HasNarrowDigits (whole ∙ ap (λ (x : ℕ). y * x) (fours z)) narrow in
      let back : HasNarrowDigits y = narrow_back y (4 * z) moved in
      let split : y / 10000 * 10000 + y % 10000 ≡ y = omega arith in
      absurd (wide_group (y / 10000) (y % 10000) front (mod_below y 10000 (omega arith)) e.last (subst HasNarrowDigits (sym split) back))
]

-- ---- zero

no_parts : (n N F : ℕ) → Scaled n N F → n ≡ 0 → N ≡ 0
no_parts n N F s e = none_of N (10000 ^ (4096 - F)) (base_pos (4096 - F)) (sym s.1 ∙ (let t : n * 10 ≡ 0 = omega arith in t))

pub zero_groups : (d : ℤ) (w : Decimal) (k : ℕ) → IsWorth d w → w.places ≤ 16383 → d ≡ pos 0 → groups_down (pos 0) 0 k ≡ groups w
unfolding groups
zero_groups d w k worth le e =
    let z = no_parts (nat_abs d) (magnitude w) (fraction_groups w.places) (scaled d w worth le) (ap nat_abs e) in
    sym (ap (λ (x : ℕ). trimmed (spread 10000 (count_of 10000 x) x)) z ∙ ap (λ (c : ℕ). trimmed (spread 10000 c 0)) (count_none 10000))

pub zero_lift : (d : ℤ) (w : Decimal) → IsWorth d w → w.places ≤ 16383 → d ≡ pos 0 → pos 0 +ℤ pos (2 ^ 15) ≡ pos (lift w)
zero_lift d w worth le e =
    let z = no_parts (nat_abs d) (magnitude w) (fraction_groups w.places) (scaled d w worth le) (ap nat_abs e) in
    ap (λ (b : Bool). pos (cond b (2 ^ 15) ((2 ^ 15 + group_count w) - (1 + fraction_groups w.places)))) (sym (eq-eqb (magnitude w) 0 z))

-- a value whose group at the greatest place is 0 is 0
pub is_none : (d first : ℤ) → ((d ≡ pos 0 → ⊥) → IsGreatestPlace (nat_abs d) first) → group first (nat_abs d) ≡ 0 → d ≡ pos 0
is_none (pos zero) first h e = refl
is_none (pos (suc n)) first h e = absurd ((h (λ z. absurd cc)).some e)
is_none (negsuc n) first h e = absurd ((h (λ z. absurd cc)).some e)

pub is_some : (d first : ℤ) → (d ≡ pos 0 → first ≡ pos 0) → (group first (nat_abs d) ≡ 0 → ⊥) → d ≡ pos 0 → ⊥
unfolding parts
is_some d first at_zero some e = some (ap (λ (v : ℤ). group first (nat_abs v)) e ∙ ap (λ (p : ℤ). group p 0) (at_zero e))

-- ---- the weight

pub some_lift : (d first last : ℤ) (w : Decimal) → IsWorth d w → w.places ≤ 16383 → IsGreatestPlace (nat_abs d) first → IsLeastPlace (nat_abs d) last
    → first +ℤ pos (2 ^ 15) ≡ pos (lift w)
some_lift d first last w worth le g l =
    let F = fraction_groups w.places in
    let s = scaled d w worth le in
    let p = spans first last (nat_abs d) (magnitude w) F s g l in
    let at = p.first_is in
    let count : group_count w ≡ suc p.top = counted (magnitude w) p.top p.z p.ends in
    let low = s.0 in
    let some : 0 < magnitude w = let a = from_top (magnitude w) p.top p.ends.first in let b = base_pos p.top in omega arith in
    let value : pos ((2 ^ 15 + suc p.top) - (1 + F)) ≡ first +ℤ pos (2 ^ 15) = omega (arith, ints) in
    sym (ap (λ (b : Bool). pos (cond b (2 ^ 15) ((2 ^ 15 + group_count w) - (1 + F)))) (ne_eqb (magnitude w) 0 (λ z. absurd (omega arith)))
    ∙ ap (λ (c : ℕ). pos ((2 ^ 15 + c) - (1 + F))) count
    ∙ value)

-- the sign of what is written is that of its value
pub sign_written : (d : ℤ) (w : Decimal) → IsWorth d w → int_lt d (pos 0) ≡ int_lt w.digits (pos 0)
sign_written d w worth =
    sym (sign_times d (10 ^ w.places) (ten_pos w.places)) ∙ ap (λ (v : ℤ). int_lt v (pos 0)) worth ∙ sign_times w.digits parts parts_pos_at
  where
    parts_pos_at : 0 < parts
    parts_pos_at = parts_pos

-- ---- what is known of a number that is not 0

pub record Some (d first last : ℤ) : Type 0 where
  pub low : pos 0 ≤ℤ (last +ℤ pos 4096)
  pub first_low : pos 0 ≤ℤ (first +ℤ pos 4096)
  pub order : last ≤ℤ first
  pub high : first <ℤ pos (2 ^ 15)
  pub few : (k : ℕ) → last +ℤ pos k ≡ first +ℤ pos 1 → k ≤ 11
  pub all : (k : ℕ) (w : Decimal) → IsWorth d w → w.places ≤ 16383 → last +ℤ pos k ≡ first +ℤ pos 1 → groups_down first k (nat_abs d) ≡ groups w

pub some_of : (d first last : ℤ) → IsWithinLimits d → IsGreatestPlace (nat_abs d) first → IsLeastPlace (nat_abs d) last → Some d first last
some_of d first last h g l =
    let p = spans first last (nat_abs d) (nat_abs d * 10) 4096 (whole_scaled (nat_abs d)) g l in
    let a = p.first_is in
    let b = p.last_is in
    let c = p.ends.low in
    let t = top_low d p.top p.z h p.ends in
    let f = few (nat_abs d) p.top p.z h.narrow p.ends in
    record {
      low = omega (arith, ints);
      first_low = omega (arith, ints);
      order = omega (arith, ints);
      high = omega (arith, ints);
      few = λ k e. omega (arith, ints);
      all = λ k w worth le e.
          let s = scaled d w worth le in
          let q = spans first last (nat_abs d) (magnitude w) (fraction_groups w.places) s g l in
          let i = q.first_is in
          let j = q.last_is in
          let m = q.ends.low in
          let count : k ≡ suc q.top - q.z = omega (arith, ints) in
          all_groups first last (nat_abs d) w s q k count;
    }

-- ---- the whole number

pub halves_length : (gs : List ℕ) → length (flat_map (to_le_bytes w16) gs) ≡ 2 * length gs
halves_length [] = refl
halves_length (g ∷ gs) = omega (arith, halves_length gs)

size_is : (h gs : List ℕ) (k : ℕ) → length gs ≡ k → length h + 2 * k ≡ length (h ++ flat_map (to_le_bytes w16) gs)
size_is h gs k e = omega (arith, length-append h (flat_map (to_le_bytes w16) gs), halves_length gs)

-- what stands before the groups, and the groups, are the number
pub whole_number : (form : NumericForm) (w : Decimal) (k : ℕ) (gs : List ℕ) → gs ≡ groups w → length gs ≡ k
    → lead form (header w) k ++ flat_map (to_le_bytes w16) gs ≡ numeric form w
unfolding numeric
whole_number Short w k gs e n =
    let h = head Short (header w) in
    let g = flat_map (to_le_bytes w16) gs in
    ap (λ (m : ℕ). (to_le_bytes w32 (4 * (4 + m)) ++ h) ++ g) (size_is h gs k n)
    ∙ append_assoc (to_le_bytes w32 (4 * (4 + length (h ++ g)))) h g
    ∙ ap (λ (xs : List ℕ). varlena Short (h ++ flat_map (to_le_bytes w16) xs)) e
whole_number Long w k gs e n =
    let h = head Long (header w) in
    let g = flat_map (to_le_bytes w16) gs in
    ap (λ (m : ℕ). (to_le_bytes w32 (4 * (4 + m)) ++ h) ++ g) (size_is h gs k n)
    ∙ append_assoc (to_le_bytes w32 (4 * (4 + length (h ++ g)))) h g
    ∙ ap (λ (xs : List ℕ). varlena Long (h ++ flat_map (to_le_bytes w16) xs)) e
whole_number ShortVarlena w k gs e n =
    let h = head ShortVarlena (header w) in
    let g = flat_map (to_le_bytes w16) gs in
    ap (λ (m : ℕ). (2 * (1 + m) + 1) ∷ (h ++ g)) (size_is h gs k n)
    ∙ ap (λ (xs : List ℕ). varlena ShortVarlena (h ++ flat_map (to_le_bytes w16) xs)) e

pub header_is : (w : Decimal) (m : Bool) (s l : ℕ) → m ≡ int_lt w.digits (pos 0) → s ≡ w.places → l ≡ lift w
    → ◌≡◌ {A = Header} (record { minus = m; dscale = s; lift = l }) (header w)
unfolding header
header_is w m s l e f g = rw (e, f, g) refl

pub header_dscale : (w : Decimal) (h : Header) → h ≡ header w → h.dscale ≡ w.places
unfolding header
header_dscale w h e = ap (λ (x : Header). x.dscale) e

pub fits_short : (form : NumericForm) (w : Decimal) → IsTrue (fits form w) → form ≡ ShortVarlena → w.places < 64
unfolding fits header
fits_short ShortVarlena w h e =
    let s = and_parts (is_short (header w)) (ltb (length (body ShortVarlena w)) 127) h in
    let t = and_parts (ltb w.places 64 && leb (2 ^ 15 - 64) (lift w)) (ltb (lift w) (2 ^ 15 + 64)) s.0 in
    ltb-true w.places 64 (and_parts (ltb w.places 64) (leb (2 ^ 15 - 64) (lift w)) t.0).0
fits_short Short w h e = absurd cc
fits_short Long w h e = absurd cc
