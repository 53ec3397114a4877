-- The exact value of a number's bytes.
use Rattle.std.proofs.Common.{◌≡◌, ℕ, ◌+◌, ◌-◌, ◌*◌, ◌^◌, ◌<◌, ◌≤◌, Bool, true, ltb, leb, List, [], ◌∷◌, length, get_or, take, drop, Option, Some, None, refl, sym, ap, subst, ◌∙◌, arith, inl, inr, ℤ, pos, nat_abs, to_z, of_z}
use mir.Val.{SFits}
use Rattle.std.specs.Prelude.{◌&&◌, ◌*ℤ◌}
use Rattle.std.specs.Int.{w16, from_le_bytes}
use Rattle.std.proofs.lemmas.Nat.{pow-add}
use Rattle.std.proofs.lemmas.Bool.{ltb-true, and_parts}
use Rattle.std.proofs.lemmas.Int.{to_z-of_z}
use Rattle.json_model.specs.Decimal.{Decimal, HasNarrowDigits, IsNarrow, signed}
use Rattle.json_model.specs.Tree.{number, scalar}
use Rattle.json_exact.specs.Digits.{joined as joined_in}
use Rattle.json_exact.specs.Exact.{parts, IsWorth}
use Rattle.json_exact.specs.Groups.{groups_of as exact_groups, lifted, AreGroups, AreWorth}
use Rattle.json_model.proofs.DecimalLaws.{abs_signed}
use Rattle.json_exact.specs.inner.NumberInverseLaws.{signed_times}
use Rattle.json_exact.proofs.NarrowLaws.{narrow_more}
use Rattle.json_exact.proofs.WorthLaws.{one_record}
use Rattle.jsonb_layout.specs.Numeric.{joined, all_below, are_groups, IsValue}
use Rattle.jsonb_layout.specs.declared.header.Header.{Header}
use Rattle.jsonb_layout.specs.Options.{◌>>=◌, only_if}
use Rattle.jsonb_layout.specs.inner.Reading.{varlena_of, header_of, header_with, short_of, long_of, groups_of, value_of, numeric_of}
use Rattle.jsonb_layout.proofs.Tools.{guard, chosen, bind_some, some_is}
use Rattle.jsonb_layout.proofs.Numbers.{value_takes}
use Rattle.jsonb.proofs.TreeCauses.{json_of}
use Rattle.jsonb.specs.inner.Values.{value_of as tree_at, or_null, IsJsonTree}
use Rattle.jsonb.specs.declared.kind.Kind.TheVariants as kinds

-- ---- the bytes of the groups

-- both crates read one number from groups
joined_same : (gs : List ℕ) → joined gs ≡ joined_in 10000 gs
joined_same [] = refl
joined_same (g ∷ gs) = ap (λ (n : ℕ). g * 10000 ^ length gs + n) (joined_same gs)

pub record SameGroups (b gs : List ℕ) : Type 0 where
  pub same : exact_groups b ≡ gs
  pub are : AreGroups b

-- both crates read the same groups from bytes
same_groups : (b gs : List ℕ) → groups_of b ≡ Some gs → all_below gs ≡ true → SameGroups b gs
unfolding groups_of
same_groups [] gs e h = record { same = some_is [] gs e; are = tt }
same_groups (x ∷ []) gs e h = absurd cc
same_groups (x ∷ y ∷ b) gs e h =
    let a = bind_some (groups_of b) (λ gs. Some ((x + 256 * y) ∷ gs)) gs e in
    let is : (x + 256 * y) ∷ a.0 ≡ gs = some_is ((x + 256 * y) ∷ a.0) gs a.2 in
    let t = and_parts (ltb (x + 256 * y) 10000) (all_below a.0) (ap all_below is ∙ h) in
    let more = same_groups b a.0 a.1 t.1 in
    record { same = ap (λ (gs : List ℕ). (x + 256 * y) ∷ gs) more.same ∙ is; are = (ltb-true (x + 256 * y) 10000 t.0, more.are) }

-- ---- the header

dscale_fits : (b : List ℕ) (x : Header × List ℕ) → header_of b ≡ Some x → x.0.dscale < 2 ^ 14
unfolding header_of
dscale_fits b x e =
    let w = from_le_bytes w16 (take 2 b) in
    let v = from_le_bytes w16 (take 2 (drop 2 b)) in
    let g = guard (leb 2 (length b)) (header_with w b) x e in
    let long : Option (Header × List ℕ) = only_if (leb 4 (length b)) (Some (long_of w v, drop 4 b)) in
    let short : Option (Header × List ℕ) = only_if (ltb w (2 ^ 15 + 2 ^ 14)) (Some (short_of w, drop 2 b)) in
    elim (chosen (ltb w (2 ^ 15)) long short (Some x) g.1) [
      | inl c ↦
          let d = guard (leb 4 (length b)) (Some (long_of w v, drop 4 b)) x c.1 in
          subst (λ (y : Header × List ℕ). y.0.dscale < 2 ^ 14) (some_is (long_of w v, drop 4 b) x d.1) (omega arith)
      | inr c ↦
          let d = guard (ltb w (2 ^ 15 + 2 ^ 14)) (Some (short_of w, drop 2 b)) x c.1 in
          subst (λ (y : Header × List ℕ). y.0.dscale < 2 ^ 14) (some_is (short_of w, drop 2 b) x d.1) (omega arith)
    ]

-- ---- the value

-- the parts that a decimal is worth, of which 10 ^ 16383 make one
abbrev pub parts_in : Decimal → ℕ
parts_in d = nat_abs d.digits * 10 ^ (16383 - d.places)

parts_split : (f : ℕ) → f ≤ 16383 → 10 ^ (16383 - f) * 10 ^ f ≡ parts
unfolding parts
parts_split f le =
    let e : 16383 - f + f ≡ 16383 = omega arith in
    sym (pow-add 10 (16383 - f) f) ∙ ap (λ (k : ℕ). 10 ^ k) e

-- n is the decimal's digits, t and f are the powers of ten behind and before its point, p is the parts of one
worth_by : (n t f p u w : ℕ) → t * f ≡ p → n * u ≡ f * w → n * t * u ≡ p * w
worth_by n t f p u w e h =
    let a : t * (n * u) ≡ t * (f * w) = ap (λ (x : ℕ). t * x) h in
    let b : t * f * w ≡ p * w = ap (λ (x : ℕ). x * w) e in
    omega arith

-- what the groups of a number are worth
are_worth : (h : Header) (gs : List ℕ) (d : Decimal) (weight : ℤ) → IsValue h gs d → h.dscale ≤ 16383 → lifted weight ≡ h.lift
    → AreWorth weight gs (parts_in d)
are_worth h gs d weight v few lift =
    subst (λ (l : ℕ). parts_in d * 10000 ^ (length gs + 2 ^ 15) ≡ parts * (joined_in 10000 gs * 10000 ^ (l + 1))) (sym lift)
    (subst (λ (j : ℕ). parts_in d * 10000 ^ (length gs + 2 ^ 15) ≡ parts * (j * 10000 ^ (h.lift + 1))) (joined_same gs)
    (subst (λ (f : ℕ). nat_abs d.digits * 10 ^ (16383 - f) * 10000 ^ (length gs + 2 ^ 15) ≡ parts * (joined gs * 10000 ^ (h.lift + 1))) (sym v.places)
    (worth_by (nat_abs d.digits) (10 ^ (16383 - h.dscale)) (10 ^ h.dscale) parts (10000 ^ (length gs + 2 ^ 15))
    (joined gs * 10000 ^ (h.lift + 1)) (parts_split h.dscale few) v.size)))

-- that many parts, of its sign, are what a decimal is worth
is_worth : (m : Bool) (d : Decimal) → d.digits ≡ signed m (nat_abs d.digits) → d.places ≤ 16383 → IsWorth (signed m (parts_in d)) d
is_worth m d sign few =
    signed_times m (parts_in d) (10 ^ d.places)
    ∙ ap (λ (x : ℕ). signed m x)
    (products (nat_abs d.digits) (10 ^ (16383 - d.places)) (10 ^ d.places) ∙ ap (λ (x : ℕ). nat_abs d.digits * x) (parts_split d.places few))
    ∙ sym (signed_times m (nat_abs d.digits) parts)
    ∙ ap (λ (c : ℤ). c *ℤ pos parts) (sym sign)
  where
    products : (x y z : ℕ) → x * y * z ≡ x * (y * z)
    products x y z = omega arith

-- ---- the whole number

-- the decimal that a JSON number's bytes stand for
pub record IsNumber (p : List ℕ) (d : Decimal) : Type 0 where
  pub reads : numeric_of p ≡ Some d
  pub narrow : IsNarrow d

is_number : (p : List ℕ) → IsJsonTree (tree_at kinds.Number p) → (d : Decimal) × IsNumber p d
is_number p json = go (numeric_of p) refl json
  where
    go : (r : Option Decimal) → numeric_of p ≡ r → IsJsonTree (r >>= λ d. Some (scalar (number d))) → (d : Decimal) × IsNumber p d
    go None e h = absurd cc
    go (Some d) e h = (d, record { reads = e; narrow = (json_of (scalar (number d)) h).1 })

-- what the header and the groups' bytes of a number say of it, where the header gives the weight
pub record Says (h : Header) (weight : ℤ) (b : List ℕ) (d : Decimal) : Type 0 where
  pub are : AreGroups b
  pub worth : AreWorth weight (exact_groups b) (parts_in d)
  pub narrow : HasNarrowDigits (parts_in d)
  pub places : d.places ≡ h.dscale
  pub few : h.dscale ≤ 16383
  pub sign : d.digits ≡ signed h.minus (nat_abs d.digits)

says : {h : Header} {weight : ℤ} {b : List ℕ} (gs : List ℕ) {d : Decimal} → lifted weight ≡ h.lift → h.dscale < 2 ^ 14 → groups_of b ≡ Some gs
    → are_groups gs ≡ true → value_of h gs ≡ Some d → IsNarrow d → Says h weight b d
says {h = h} {weight = weight} {b = b} gs {d = d} lift fits e fit value narrow =
    let below =
    (and_parts (all_below gs) (ltb 0 (get_or gs 0 1))
    (and_parts (all_below gs && ltb 0 (get_or gs 0 1)) (ltb 0 (get_or gs (length gs - 1) 1)) fit).0).0
    in
    let same = same_groups b gs e below in
    let v = value_takes h gs d value in
    let few : h.dscale ≤ 16383 = omega arith in
    record {
      are = same.are;
      worth = subst (λ (xs : List ℕ). AreWorth weight xs (parts_in d)) (sym same.same) (are_worth h gs d weight v few lift);
      narrow = narrow_more (nat_abs d.digits) (16383 - d.places) narrow;
      places = v.places;
      few = few;
      sign = v.sign;
    }

behind : (p body : List ℕ) (h : Header) (b : List ℕ) (d : Decimal) → numeric_of p ≡ Some d → Some body ≡ varlena_of p → Some (h, b) ≡ header_of body
    → (groups_of b >>= λ gs. only_if (are_groups gs) (value_of h gs)) ≡ Some d
unfolding numeric_of
behind p body h b d e f g = rw (← f, ← g) at e

-- ---- what the code meets

-- a number that is read has a body
pub body_there : (p : List ℕ) → IsJsonTree (tree_at kinds.Number p) → None ≡ varlena_of p → ⊥
unfolding numeric_of
body_there p json e =
    let (d, n) = is_number p json in
    let r = n.reads in
    let h : ◌≡◌ {A = Option Decimal} None (Some d) = rw (← e) at r in cc

-- and a header
pub header_there : (p body : List ℕ) → IsJsonTree (tree_at kinds.Number p) → Some body ≡ varlena_of p → None ≡ header_of body → ⊥
unfolding numeric_of
header_there p body json e f =
    let (d, n) = is_number p json in
    let r = n.reads in
    let h : ◌≡◌ {A = Option Decimal} None (Some d) = rw (← e, ← f) at r in cc

-- the weight is passed by its bits
pub number_says : (p : List ℕ) {body : List ℕ} {h : Header} {b : List ℕ} (weight : ℤ) → IsJsonTree (tree_at kinds.Number p) → Some body ≡ varlena_of p
    → Some (h, b) ≡ header_of body → SFits w16 weight → lifted weight ≡ h.lift
    → (d : Decimal) × IsNumber p d × Says h (to_z w16 (of_z w16 weight)) b d
number_says p {body = body} {h = h} {b = b} weight json e f fits lift =
    let (d, n) = is_number p json in
    let a = bind_some (groups_of b) (λ gs. only_if (are_groups gs) (value_of h gs)) d (behind p body h b d n.reads e f) in
    let g = guard (are_groups a.0) (value_of h a.0) d a.2 in (
      d,
      n,
      says a.0 (ap lifted (to_z-of_z w16 weight fits) ∙ lift) (dscale_fits body (h, b) (sym f)) a.1 g.0 g.1
          n.narrow,
    )

-- the fraction digits of the header write the number exactly
pub exact : (h : Header) (weight : ℤ) (b : List ℕ) (d : Decimal) (x : ℤ) → Says h weight b d → x ≡ signed h.minus (parts_in d)
    → (q : ℕ) × (nat_abs x ≡ q * 10 ^ (16383 - h.dscale))
exact h weight b d x s e =
    (nat_abs d.digits, ap nat_abs e ∙ abs_signed h.minus (parts_in d) ∙ ap (λ (f : ℕ). nat_abs d.digits * 10 ^ (16383 - f)) s.places)

-- what is worth as much, with as many fraction digits, is the number
pub number_is : {p : List ℕ} {h : Header} {weight : ℤ} {b : List ℕ} {d : Decimal} (x : ℤ) (w : Decimal) → IsNumber p d → Says h weight b d
    → x ≡ signed h.minus (parts_in d) → w.places ≡ h.dscale → IsWorth x w → or_null (tree_at kinds.Number p) ≡ scalar (number w)
number_is {h = h} {d = d} x w n s e places worth =
    let same : d ≡ w =
    one_record x d w (subst (λ (y : ℤ). IsWorth y d) (sym e) (is_worth h.minus d s.sign (omega (arith, s.places, s.few)))) worth
    (s.places ∙ sym places) in
    ap (λ (r : Option Decimal). or_null (r >>= λ d. Some (scalar (number d)))) n.reads ∙ ap (λ (d : Decimal). scalar (number d)) same
