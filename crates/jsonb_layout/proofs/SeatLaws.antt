-- A place of the tree has one seat, and two places have different pairs: a value in a value begins behind it, and values
-- that share no byte begin apart.
use Rattle.std.proofs.Common.{◌≡◌, ℕ, ◌+◌, ◌<◌, ◌≤◌, List, [], ◌∷◌, ◌++◌, refl, sym, ap, subst, ◌∙◌, arith, inl, inr}
use Rattle.std.proofs.lemmas.Bool.{cases_lt}
use Rattle.jsonb_layout.specs.Layout.{Item}
use Rattle.jsonb_layout.specs.declared.form.Form.{Form}
use Rattle.jsonb_layout.specs.Seats.{Seat, pair_of, Holds, Leads, root_seat, IsRoot, IsSeat}
use Rattle.jsonb_layout.proofs.OneLayout.{one_layout}
use Rattle.jsonb_layout.proofs.Extents.{extent, extent_some, Apart, held_apart, one_held, held_inside}

-- ---- along a way

-- What a way leads to lies in what it begins at.
leads_inside : (way : List ℕ) (s c : Seat) → Leads way s c → (s.at ≤ c.at) × (c.at + extent c ≤ s.at + extent s)
leads_inside [] s c e = subst (λ (d : Seat). (s.at ≤ d.at) × (d.at + extent d ≤ s.at + extent s)) e (omega arith, omega arith)
leads_inside (i ∷ is) s c (m, h, l) =
    let a = held_inside s i m h in
    let b = leads_inside is m c l in
    (omega (arith, a.0, b.0), omega (arith, a.1, b.1))

one_end : (way : List ℕ) (s c d : Seat) → Leads way s c → Leads way s d → c ≡ d
one_end [] s c d e f = sym e ∙ f
one_end (i ∷ is) s c d (m, h, l) (n, k, r) = one_end is m c d l (subst (λ (q : Seat). Leads is q d) (sym (one_held s i m n h k)) r)

-- a way that goes on leads to another place
further : (i : ℕ) (is : List ℕ) (s c : Seat) → Leads (i ∷ is) s c → s.at < c.at
further i is s c (m, h, l) = omega (arith, (held_inside s i m h).0, (leads_inside is m c l).0)

-- ways that part lead to different places
parted : (s c d m n : Seat) (v w : List ℕ) → Apart m n → Leads v m c → Leads w n d → c.at ≡ d.at → ⊥
parted s c d m n v w a l r e =
    let x = leads_inside v m c l in
    let y = leads_inside w n d r in
    let more = extent_some c in
    let some = extent_some d in
    elim a [ inl k ↦ omega (arith, k, x.0, x.1, y.0, y.1) | inr k ↦ omega (arith, k, x.0, x.1, y.0, y.1) ]

one_way : (v w : List ℕ) (s c d : Seat) → Leads v s c → Leads w s d → c.at ≡ d.at → v ≡ w
one_way [] [] s c d l r e = refl
one_way [] (j ∷ js) s c d l r e = absurd (omega (arith, further j js s d r, ap (λ (q : Seat). q.at) l))
one_way (i ∷ is) [] s c d l r e = absurd (omega (arith, further i is s c l, ap (λ (q : Seat). q.at) r))
one_way (i ∷ is) (j ∷ js) s c d (m, h, l) (n, k, r) e = elim (cases_lt i j) [
  | inl lt ↦ absurd (parted s c d m n is js (held_apart s i j m n h k lt) l r e)
  | inr le ↦ elim (cases_lt j i) [
    | inl gt ↦ absurd (parted s d c n m js is (held_apart s j i n m k h gt) r l (sym e))
    | inr ge ↦
        let same : i ≡ j = omega arith in
        let seat : m ≡ n = one_held s i m n h (subst (λ (q : ℕ). Holds s q n) (sym same) k) in
        let more : is ≡ js = one_way is js m c d l (subst (λ (q : Seat). Leads js q d) (sym seat) r) e in
        cc
  ]
]

-- ---- the whole

-- a slice has one root
pub one_root : (b : List ℕ) (r q : Seat) → IsRoot b r → IsRoot b q → r ≡ q
one_root b r q (f, xs, l, e) (g, ys, m, h) =
    let same = one_layout b f g xs ys l m in
    e ∙ ap (λ (k : Form). root_seat b k xs) same.0 ∙ ap (λ (k : List Item). root_seat b g k) same.1 ∙ sym h

-- A place has one seat.
pub one_seat : (b way : List ℕ) (s r : Seat) → IsSeat b way s → IsSeat b way r → s ≡ r
one_seat b way s r (p, root, l) (q, base, m) = one_end way p s r l (subst (λ (k : Seat). Leads way k r) (sym (one_root b p q root base)) m)

-- Two places are at different bytes,
pub one_place : (b v w : List ℕ) (s r : Seat) → IsSeat b v s → IsSeat b w r → s.at ≡ r.at → v ≡ w
one_place b v w s r (p, root, l) (q, base, m) e = one_way v w p s r l (subst (λ (k : Seat). Leads w k r) (sym (one_root b p q root base)) m) e

-- and so have different pairs.
pub one_pair : (b v w : List ℕ) (s r : Seat) → IsSeat b v s → IsSeat b w r → pair_of s ≡ pair_of r → v ≡ w
one_pair b v w s r h k e = one_place b v w s r h k (ap (λ (p : ℕ × ℕ). p.0) e)

-- ---- deeper

leads_deeper : (way : List ℕ) (r s c : Seat) (i : ℕ) → Leads way r s → Holds s i c → Leads (way ++ i ∷ []) r c
leads_deeper [] r s c i e h = (c, subst (λ (x : Seat). Holds x i c) (sym e) h, refl)
leads_deeper (j ∷ way) r s c i (m, first, rest) h = (m, first, leads_deeper way m s c i rest h)

-- A value in a value is one step deeper.
pub seat_deeper : (b way : List ℕ) (s c : Seat) (i : ℕ) → IsSeat b way s → Holds s i c → IsSeat b (way ++ i ∷ []) c
seat_deeper b way s c i (r, root, leads) h = (r, root, leads_deeper way r s c i leads h)
