-- Numbers of few groups are narrow.
use Rattle.std.proofs.Common.{◌≡◌, ℕ, suc, zero, ◌+◌, ◌-◌, ◌*◌, ◌/◌, ◌%◌, ◌^◌, ◌<◌, ◌≤◌, Bool, true, List, [], ◌∷◌, length, take, drop, get_or, Option, Some, None, refl, sym, ap, subst, ◌∙◌, arith, inl, inr, eqb}
use Rattle.std.specs.Prelude.{option_map}
use Rattle.std.specs.Int.{w16, w32, w64, from_le_bytes}
use Rattle.std.specs.List.{list_all}
use Rattle.std.proofs.lemmas.Bool.{cases_lt, le-leb, lt-ltb, le-ltb, eq-eqb, ne_eqb}
use Rattle.json_model.specs.Decimal.{Decimal}
use Rattle.json_model.specs.Tree.{number}
use Rattle.jsonb_layout.specs.Layout.{Item, pad}
use Rattle.jsonb_layout.specs.Options.{◌>>=◌}
use Rattle.jsonb_layout.specs.declared.header.Header.{Header}
use Rattle.jsonb_layout.specs.inner.Narrow.{is_narrow}
use Rattle.jsonb_layout.specs.inner.Reading.{varlena_of, header_of, groups_of, numeric_of, short_of, unpadded, scalar_of}
use Rattle.jsonb_layout.proofs.Tools.{IsBytes, some_is}
use Rattle.jsonb.specs.Found.{nothing, scalar_found}
use Rattle.jsonb.specs.inner.Groups.{groups_fit_of, rest_of}
use Rattle.jsonb.specs.inner.Widths.{number_found}
use Rattle.jsonb.proofs.Groups.{Shown, shown, Counted, ends_are, narrow_if, rest_is}

-- ---- counting

record Digits (f k : ℕ) : Type 0 where
  some : 1 ≤ k
  few : k ≤ 4
  least : 10 ^ (k - 1) ≤ f
  most : f < 10 ^ k

digits_of : (f : ℕ) → 0 < f → f < 10000 → (k : ℕ) × Digits f k
digits_of f p lt = elim (cases_lt f 10) [
  | inl a ↦ (1, record { some = omega arith; few = omega arith; least = omega arith; most = omega arith })
  | inr a ↦ elim (cases_lt f 100) [
    | inl b ↦ (2, record { some = omega arith; few = omega arith; least = omega arith; most = omega arith })
    | inr b ↦ elim (cases_lt f 1000) [
      | inl d ↦ (3, record { some = omega arith; few = omega arith; least = omega arith; most = omega arith })
      | inr d ↦ (4, record { some = omega arith; few = omega arith; least = omega arith; most = omega arith })
    ]
  ]
]

record Zeros (l z : ℕ) : Type 0 where
  few : z ≤ 3
  last : (q : ℕ) × (l ≡ q * 10 ^ z) × (q % 10 ≡ 0 → ⊥)

zeros_of : (l : ℕ) → 0 < l → l < 10000 → (z : ℕ) × Zeros l z
zeros_of l p lt = elim (cases_lt 0 (l % 10)) [
  | inl a ↦ (0, record { few = omega arith; last = (l, omega arith, λ h. omega arith) })
  | inr a ↦ elim (cases_lt 0 (l % 100)) [
    | inl b ↦ (1, record { few = omega arith; last = (l / 10, omega arith, λ h. omega arith) })
    | inr b ↦ elim (cases_lt 0 (l % 1000)) [
      | inl d ↦ (2, record { few = omega arith; last = (l / 100, omega arith, λ h. omega arith) })
      | inr d ↦ (3, record { few = omega arith; last = (l / 1000, omega arith, λ h. omega arith) })
    ]
  ]
]

-- enough zero digits at the end make up for the digits that are not counted
zeros_fill : (u l : ℕ) → 0 < l → l < 10000 → l % 10 ^ (4 - u) ≡ 0 → (z : ℕ) × Zeros l z × (4 ≤ u + z)
zeros_fill zero l some lt e = absurd (omega arith)
zeros_fill (suc zero) l some lt e = (3, record { few = omega arith; last = (l / 1000, omega arith, λ h. omega arith) }, omega arith)
zeros_fill (suc (suc zero)) l some lt e = elim (cases_lt 0 (l % 1000)) [
  | inl d ↦ (2, record { few = omega arith; last = (l / 100, omega arith, λ h. omega arith) }, omega arith)
  | inr d ↦ (3, record { few = omega arith; last = (l / 1000, omega arith, λ h. omega arith) }, omega arith)
]
zeros_fill (suc (suc (suc zero))) l some lt e = elim (cases_lt 0 (l % 100)) [
  | inl b ↦ (1, record { few = omega arith; last = (l / 10, omega arith, λ h. omega arith) }, omega arith)
  | inr b ↦ elim (cases_lt 0 (l % 1000)) [
    | inl d ↦ (2, record { few = omega arith; last = (l / 100, omega arith, λ h. omega arith) }, omega arith)
    | inr d ↦ (3, record { few = omega arith; last = (l / 1000, omega arith, λ h. omega arith) }, omega arith)
  ]
]
zeros_fill (suc (suc (suc (suc u)))) l some lt e = let z = zeros_of l some lt in (z.0, z.1, omega arith)

-- a number of at most nine groups, none of them past its fraction digits, is narrow
few_are_narrow : (h : Header) (b : List ℕ) (s : Shown b) (z : ℕ) → 0 < s.g → Zeros (get_or (s.g ∷ s.gs) (length (s.g ∷ s.gs) - 1) 1) z
    → length s.gs ≤ 8 → 4 * (length s.gs + 1 + 2 ^ 15) ≤ h.dscale + z + 4 * (h.lift + 1) → Some true ≡ rest_of h b
few_are_narrow h b s z first zeros few fits =
    let k = digits_of s.g first s.first_fits in
    let counted : Counted s.g (get_or (s.g ∷ s.gs) (length (s.g ∷ s.gs) - 1) 1) k.0 z =
    record { some = k.1.some; least = k.1.least; most = k.1.most; few = zeros.few; last = zeros.last } in
    let narrow = narrow_if h b s k.0 z (length s.gs) (ends_are s refl refl counted) fits refl in
    subst (λ (t : Bool). Some t ≡ rest_of h b) (le-leb (4 * length s.gs + k.0) (38 + z) (omega (arith, few, k.1.few))) narrow

-- a word of the short form, and what is behind it
header_is : (lo hi w : ℕ) (gs : List ℕ) → w ≡ from_le_bytes w16 (lo ∷ hi ∷ []) → 2 ^ 15 ≤ w → w < 2 ^ 15 + 2 ^ 14
    → Some (short_of w, gs) ≡ header_of (lo ∷ hi ∷ gs)
unfolding header_of
header_is lo hi w gs e low high =
    rw (le-leb 2 (length (lo ∷ hi ∷ gs)) (omega arith), ← e, le-ltb w (2 ^ 15) low, lt-ltb w (2 ^ 15 + 2 ^ 14) high) refl

-- ---- one group

-- a header of the short form and one group
one_group : (q : List ℕ) (lo hi a b w g : ℕ) → varlena_of q ≡ Some (lo ∷ hi ∷ a ∷ b ∷ []) → w ≡ from_le_bytes w16 (lo ∷ hi ∷ [])
    → g ≡ from_le_bytes w16 (a ∷ b ∷ []) → (2 ^ 15 ≤ w) × (w < 2 ^ 15 + 2 ^ 14) × (w % 128 < 64) → (0 < g) × (g < 10000)
    → option_map is_narrow (numeric_of q) ≡ Some true
unfolding groups_of
one_group q lo hi a b w g head e f (low, high, plain) (some, below) =
    let n : g ≡ a + 256 * b = omega (arith, f) in
    let fit : groups_fit_of (a ∷ b ∷ []) ≡ true = rw (lt-ltb (a + 256 * b) 10000 (omega arith)) refl in
    let s = shown (a ∷ b ∷ []) fit (omega arith) in
    let lift : (short_of w).lift ≡ 2 ^ 15 + w % 128 = rw (lt-ltb (w % 128) 64 plain) refl in
    let one : length s.gs ≡ 0 = omega (arith, s.len) in
    let z = zeros_of (get_or (s.g ∷ s.gs) (length (s.g ∷ s.gs) - 1) 1) (omega (arith, s.last)) s.last_fits in
    let narrow : Some true ≡ rest_of (short_of w) (a ∷ b ∷ []) =
    few_are_narrow (short_of w) (a ∷ b ∷ []) s z.0 (omega (arith, s.first)) z.1 (omega (arith, one)) (omega (arith, one, lift)) in
    let header = header_is lo hi w (a ∷ b ∷ []) e low high in
    sym (narrow ∙ rest_is q (lo ∷ hi ∷ a ∷ b ∷ []) (short_of w) (a ∷ b ∷ []) (sym head) header)

-- eight bytes, of which four are the length header
eight : (q : List ℕ) → length q ≡ 8 → drop 4 q ≡ get_or q 4 0 ∷ get_or q 5 0 ∷ get_or q 6 0 ∷ get_or q 7 0 ∷ []
eight (a ∷ b ∷ c ∷ d ∷ lo ∷ hi ∷ f ∷ g ∷ []) e = refl
eight [] e = absurd (omega arith)
eight (a ∷ []) e = absurd (omega arith)
eight (a ∷ b ∷ []) e = absurd (omega arith)
eight (a ∷ b ∷ c ∷ []) e = absurd (omega arith)
eight (a ∷ b ∷ c ∷ d ∷ []) e = absurd (omega arith)
eight (a ∷ b ∷ c ∷ d ∷ f ∷ []) e = absurd (omega arith)
eight (a ∷ b ∷ c ∷ d ∷ f ∷ g ∷ []) e = absurd (omega arith)
eight (a ∷ b ∷ c ∷ d ∷ f ∷ g ∷ h ∷ []) e = absurd (omega arith)
eight (a ∷ b ∷ c ∷ d ∷ f ∷ g ∷ h ∷ i ∷ j ∷ xs) e = absurd (omega arith)

-- eight bytes of one group are narrow
pub eight_are_narrow : (q : List ℕ) (w g : ℕ) → length q ≡ 8 → varlena_of q ≡ Some (drop 4 q)
    → w ≡ from_le_bytes w16 (get_or q 4 0 ∷ get_or q 5 0 ∷ []) → g ≡ from_le_bytes w16 (get_or q 6 0 ∷ get_or q 7 0 ∷ [])
    → (2 ^ 15 ≤ w) × (w < 2 ^ 15 + 2 ^ 14) × (w % 128 < 64) → (0 < g) × (g < 10000) → option_map is_narrow (numeric_of q) ≡ Some true
eight_are_narrow q w g long head e f plain group =
    one_group q (get_or q 4 0) (get_or q 5 0) (get_or q 6 0) (get_or q 7 0) w g
    (head ∙ ap (λ (r : List ℕ). Some r) (eight q long)) e f plain group

-- ---- two groups

-- a header of the short form and two groups
two_groups : (q : List ℕ) (lo hi a b c d w g l : ℕ) → varlena_of q ≡ Some (lo ∷ hi ∷ a ∷ b ∷ c ∷ d ∷ []) → w ≡ from_le_bytes w16 (lo ∷ hi ∷ [])
    → g ≡ from_le_bytes w16 (a ∷ b ∷ []) → l ≡ from_le_bytes w16 (c ∷ d ∷ []) → (2 ^ 15 ≤ w) × (w < 2 ^ 15 + 2 ^ 14) × (w % 128 < 64)
    → (0 < g) × (g < 10000) → (0 < l) × (l < 10000) → l % 10 ^ (4 - (w / 128 % 64 + 4 * (w % 128))) ≡ 0
    → option_map is_narrow (numeric_of q) ≡ Some true
unfolding groups_of
two_groups q lo hi a b c d w g l head e f k (low, high, plain) (some, below) (more, under) within =
    let n : g ≡ a + 256 * b = omega (arith, f) in
    let m : l ≡ c + 256 * d = omega (arith, k) in
    let gs = a ∷ b ∷ c ∷ d ∷ [] in
    let fit : groups_fit_of gs ≡ true = rw (lt-ltb (a + 256 * b) 10000 (omega arith), lt-ltb (c + 256 * d) 10000 (omega arith)) refl in
    let s = shown gs fit (omega arith) in
    let lift : (short_of w).lift ≡ 2 ^ 15 + w % 128 = rw (lt-ltb (w % 128) 64 plain) refl in
    let two : length s.gs ≡ 1 = omega (arith, s.len) in
    let last : l ≡ get_or (s.g ∷ s.gs) (length (s.g ∷ s.gs) - 1) 1 = omega (arith, m, s.last) in
    let z = zeros_fill (w / 128 % 64 + 4 * (w % 128)) l more under within in
    let zeros = subst (λ (x : ℕ). Zeros x z.0) last z.1 in
    let narrow : Some true ≡ rest_of (short_of w) gs =
    few_are_narrow (short_of w) gs s z.0 (omega (arith, s.first)) zeros (omega (arith, two)) (omega (arith, two, lift, z.2)) in
    sym (narrow ∙ rest_is q (lo ∷ hi ∷ gs) (short_of w) gs (sym head) (header_is lo hi w gs e low high))

-- ten bytes, of which four are the length header
ten : (q : List ℕ) → length q ≡ 10
    → drop 4 q ≡ get_or q 4 0 ∷ get_or q 5 0 ∷ get_or q 6 0 ∷ get_or q 7 0 ∷ get_or q 8 0 ∷ get_or q 9 0 ∷ []
ten (a ∷ b ∷ c ∷ d ∷ lo ∷ hi ∷ f ∷ g ∷ h ∷ i ∷ []) e = refl
ten [] e = absurd (omega arith)
ten (a ∷ []) e = absurd (omega arith)
ten (a ∷ b ∷ []) e = absurd (omega arith)
ten (a ∷ b ∷ c ∷ []) e = absurd (omega arith)
ten (a ∷ b ∷ c ∷ d ∷ []) e = absurd (omega arith)
ten (a ∷ b ∷ c ∷ d ∷ f ∷ []) e = absurd (omega arith)
ten (a ∷ b ∷ c ∷ d ∷ f ∷ g ∷ []) e = absurd (omega arith)
ten (a ∷ b ∷ c ∷ d ∷ f ∷ g ∷ h ∷ []) e = absurd (omega arith)
ten (a ∷ b ∷ c ∷ d ∷ f ∷ g ∷ h ∷ i ∷ []) e = absurd (omega arith)
ten (a ∷ b ∷ c ∷ d ∷ f ∷ g ∷ h ∷ i ∷ j ∷ []) e = absurd (omega arith)
ten (a ∷ b ∷ c ∷ d ∷ f ∷ g ∷ h ∷ i ∷ j ∷ k ∷ l ∷ xs) e = absurd (omega arith)

-- ten bytes of two groups are narrow
pub ten_are_narrow : (q : List ℕ) (w g l : ℕ) → length q ≡ 10 → varlena_of q ≡ Some (drop 4 q)
    → w ≡ from_le_bytes w16 (get_or q 4 0 ∷ get_or q 5 0 ∷ []) → g ≡ from_le_bytes w16 (get_or q 6 0 ∷ get_or q 7 0 ∷ [])
    → l ≡ from_le_bytes w16 (get_or q 8 0 ∷ get_or q 9 0 ∷ []) → (2 ^ 15 ≤ w) × (w < 2 ^ 15 + 2 ^ 14) × (w % 128 < 64)
    → (0 < g) × (g < 10000) → (0 < l) × (l < 10000) → l % 10 ^ (4 - (w / 128 % 64 + 4 * (w % 128))) ≡ 0
    → option_map is_narrow (numeric_of q) ≡ Some true
ten_are_narrow q w g l long head e f k plain first last within =
    two_groups q (get_or q 4 0) (get_or q 5 0) (get_or q 6 0) (get_or q 7 0) (get_or q 8 0) (get_or q 9 0) w g l
    (head ∙ ap (λ (r : List ℕ). Some r) (ten q long)) e f k plain first last within

-- ---- the front of a piece

-- what the front of a piece, shifted until its length header ends at the highest bit, says of the padding and of the header
pub begins_is : (front pad header : ℕ) → pad < 4 → header < 2 ^ 32 → front * 2 ^ (32 - 8 * pad) % 2 ^ 64 ≡ header * 2 ^ 32 % 2 ^ 64
    → (front % 2 ^ (8 * pad) ≡ 0) × (front / 2 ^ (8 * pad) % 2 ^ 32 ≡ header)
begins_is front zero header lt low e = (omega arith, omega arith)
begins_is front (suc zero) header lt low e = (omega arith, omega arith)
begins_is front (suc (suc zero)) header lt low e = (omega arith, omega arith)
begins_is front (suc (suc (suc zero))) header lt low e = (omega arith, omega arith)
begins_is front (suc (suc (suc (suc n)))) header lt low e = absurd (omega arith)

-- a length header of four bytes
header_4 : (q : List ℕ) → 4 ≤ length q → from_le_bytes w32 (take 4 q) ≡ 4 * length q → varlena_of q ≡ Some (drop 4 q)
unfolding varlena_of
header_4 (a ∷ b ∷ c ∷ d ∷ q) le e =
    rw (e, ne_eqb (a % 2) 1 (λ h. omega (arith, e)), le-leb 4 (length (a ∷ b ∷ c ∷ d ∷ q)) le, eq-eqb (4 * length (a ∷ b ∷ c ∷ d ∷ q)) _ refl) refl
header_4 [] le e = absurd (omega arith)
header_4 (a ∷ []) le e = absurd (omega arith)
header_4 (a ∷ b ∷ []) le e = absurd (omega arith)
header_4 (a ∷ b ∷ c ∷ []) le e = absurd (omega arith)

-- what the first eight bytes, as one number, say of each of them
front_parts : (a b c d e f g h : ℕ) (xs : List ℕ) (pad header : ℕ) → IsBytes (a ∷ b ∷ c ∷ d ∷ e ∷ f ∷ g ∷ h ∷ xs) → pad < 4
    → from_le_bytes w64 (a ∷ b ∷ c ∷ d ∷ e ∷ f ∷ g ∷ h ∷ []) % 2 ^ (8 * pad) ≡ 0
    → from_le_bytes w64 (a ∷ b ∷ c ∷ d ∷ e ∷ f ∷ g ∷ h ∷ []) / 2 ^ (8 * pad) % 2 ^ 32 ≡ header
    → (list_all (λ b. eqb b 0) (take pad (a ∷ b ∷ c ∷ d ∷ e ∷ f ∷ g ∷ h ∷ xs)) ≡ true)
    × (from_le_bytes w32 (take 4 (drop pad (a ∷ b ∷ c ∷ d ∷ e ∷ f ∷ g ∷ h ∷ xs))) ≡ header)
front_parts a b c d e f g h xs zero header are lt zeros head = (refl, omega (arith, are 0, are 1, are 2, are 3))
front_parts a b c d e f g h xs (suc zero) header are lt zeros head =
    (rw (eq-eqb a 0 (omega (arith, are 0))) refl, omega (arith, are 0, are 1, are 2, are 3, are 4))
front_parts a b c d e f g h xs (suc (suc zero)) header are lt zeros head = (
  rw (eq-eqb a 0 (omega (arith, are 0, are 1)), eq-eqb b 0 (omega (arith, are 0, are 1))) refl,
  omega (arith, are 0, are 1, are 2, are 3, are 4, are 5),
)
front_parts a b c d e f g h xs (suc (suc (suc zero))) header are lt zeros head = (
  rw (
    eq-eqb a 0 (omega (arith, are 0, are 1, are 2)),
    eq-eqb b 0 (omega (arith, are 0, are 1, are 2)),
    eq-eqb c 0 (omega (arith, are 0, are 1, are 2)),
  ) refl,
  omega (arith, are 0, are 1, are 2, are 3, are 4, are 5, are 6),
)
front_parts a b c d e f g h xs (suc (suc (suc (suc n)))) header are lt zeros head = absurd (omega arith)

-- zero bytes and a length header at the front of a piece
front_is : (p : List ℕ) (front pad header : ℕ) → 8 ≤ length p → IsBytes p → pad < 4 → front ≡ from_le_bytes w64 (take 8 p)
    → (front % 2 ^ (8 * pad) ≡ 0) × (front / 2 ^ (8 * pad) % 2 ^ 32 ≡ header)
    → (list_all (λ b. eqb b 0) (take pad p) ≡ true) × (from_le_bytes w32 (take 4 (drop pad p)) ≡ header)
front_is (a ∷ b ∷ c ∷ d ∷ e ∷ f ∷ g ∷ h ∷ xs) front pad header le are lt n (zeros, head) =
    front_parts a b c d e f g h xs pad header are lt (ap (λ (m : ℕ). m % 2 ^ (8 * pad)) (sym n) ∙ zeros)
    (ap (λ (m : ℕ). m / 2 ^ (8 * pad) % 2 ^ 32) (sym n) ∙ head)
front_is [] front pad header le are lt n z = absurd (omega arith)
front_is (a ∷ []) front pad header le are lt n z = absurd (omega arith)
front_is (a ∷ b ∷ []) front pad header le are lt n z = absurd (omega arith)
front_is (a ∷ b ∷ c ∷ []) front pad header le are lt n z = absurd (omega arith)
front_is (a ∷ b ∷ c ∷ d ∷ []) front pad header le are lt n z = absurd (omega arith)
front_is (a ∷ b ∷ c ∷ d ∷ e ∷ []) front pad header le are lt n z = absurd (omega arith)
front_is (a ∷ b ∷ c ∷ d ∷ e ∷ f ∷ []) front pad header le are lt n z = absurd (omega arith)
front_is (a ∷ b ∷ c ∷ d ∷ e ∷ f ∷ g ∷ []) front pad header le are lt n z = absurd (omega arith)

-- a piece behind whose padding a narrow number is read has nothing wrong in it
narrow_found : (r : Option Decimal) → option_map is_narrow r ≡ Some true → option_map scalar_found (r >>= λ d. Some (number d)) ≡ Some nothing
narrow_found None e = absurd cc
narrow_found (Some d) e = rw (some_is (is_narrow d) true e) refl

module _ (at : ℕ) (p q : List ℕ) (front header : ℕ) (long : 8 ≤ length p) (are : IsBytes p) (n : front ≡ from_le_bytes w64 (take 8 p))
    (behind : q ≡ drop (pad at) p) (some : 4 ≤ length q) (size : header ≡ 4 * length q) where
  -- a piece whose first bytes are its padding and its length header has nothing wrong in it, if those behind the padding are narrow
  pub told_at_once : (front % 2 ^ (8 * pad at) ≡ 0) × (front / 2 ^ (8 * pad at) % 2 ^ 32 ≡ header)
      → (varlena_of q ≡ Some (drop 4 q) → option_map is_narrow (numeric_of q) ≡ Some true) → number_found at p ≡ Some nothing
  unfolding unpadded
  told_at_once begins narrow =
      let parts = front_is p front (pad at) header long are (omega arith) n begins in
      let word : from_le_bytes w32 (take 4 q) ≡ 4 * length q = ap (λ (r : List ℕ). from_le_bytes w32 (take 4 r)) behind ∙ parts.1 ∙ size in
      rw (le-leb (pad at) (length p) (omega (arith, long)), parts.0, ← behind) (narrow_found (numeric_of q) (narrow (header_4 q some word)))

-- what is found in a number's item is what is found in its piece
pub number_scalar : (at : ℕ) (x : Item) → x.kind ≡ 1 → option_map scalar_found (scalar_of at x) ≡ number_found at x.piece
unfolding scalar_of
number_scalar at x e = rw e refl
