-- The own bytes of an item have its tree.
use Rattle.std.proofs.Common.{◌≡◌, ℕ, zero, suc, ◌+◌, ◌-◌, ◌<◌, ◌≤◌, ◌^◌, List, length, drop, Bool, true, false, cond, eqb, Option, Some, None, refl, sym, ap, subst, ◌∙◌, ◌⊎◌, inl, inr, arith}
use Rattle.std.proofs.lemmas.Bool.{eq-eqb, ne_eqb, lt-ltb, cases_lt}
use Rattle.std.proofs.lemmas.List.{length-append, length-replicate, length-drop}
use Rattle.json_model.specs.Decimal.{Decimal}
use Rattle.json_model.specs.Tree.{Scalar, null, boolean, number, string, Tree, scalar}
use Rattle.jsonb_layout.specs.Layout.{Item, pad}
use Rattle.jsonb_layout.specs.Options.{◌>>=◌, only_if}
use Rattle.jsonb_layout.specs.inner.Reading.{unpadded, numeric_of, scalar_of}
use Rattle.jsonb_layout.specs.Stands.{padding}
use Rattle.jsonb_layout.specs.inner.Trees.{item_tree}
use Rattle.jsonb_layout.proofs.Scalars.{unpadded_takes}
use Rattle.jsonb_layout.proofs.Tools.{some_is, some}
use Rattle.jsonb_layout.specs.inner.SeatReading.{seat_of}
use Rattle.jsonb_layout.specs.Seats.{Seat, own_bytes, where_it_is}
use Rattle.jsonb.specs.Seated.{seat_tree}
use Rattle.jsonb.specs.inner.Values.{value_of, IsJsonTree, is_short, or_null, kind_number, kind_of, own_of, HasPad}
use Rattle.jsonb.specs.declared.kind.Kind.{Kind}
use Rattle.jsonb.specs.declared.kind.Kind.TheVariants as kinds

-- these bytes of this kind are the tree
pub record Owns (k : Kind) (b : List ℕ) (r : Option Tree) : Type 0 where
  pub stands : IsJsonTree (value_of k b)
  pub same : Some (or_null (value_of k b)) ≡ r

owns : (k : Kind) (b : List ℕ) (t : Tree) (r : Option Tree) → value_of k b ≡ Some t → r ≡ Some t → IsJsonTree r → Owns k b r
owns k b t r e h json = record { stands = rw e (subst IsJsonTree h json); same = ap (λ (o : Option Tree). Some (or_null o)) e ∙ sym h }

-- behind the padding
pub record Padded (k : Kind) (at : ℕ) (x : Item) : Type 0 where
  pub fits : pad at ≤ length x.piece
  pub owned : Owns k (drop (pad at) x.piece) (item_tree at x)

padded_by : (k : Kind) (at : ℕ) (x : Item) → item_tree at x ≡ (unpadded at x.piece >>= value_of k) → IsJsonTree (item_tree at x) → Padded k at x
padded_by k at x e json = go (unpadded at x.piece) refl (subst IsJsonTree e json)
  where
    end : (q : List ℕ) → unpadded at x.piece ≡ Some q → (r : Option Tree) → value_of k q ≡ r → IsJsonTree r → Padded k at x
    end q u None v h = absurd cc
    end q u (Some t) v h =
        let d = unpadded_takes at x.piece q u in
        let same : value_of k (drop (pad at) x.piece) ≡ Some t = ap (value_of k) (sym d.1) ∙ v in
        let tree : item_tree at x ≡ Some t = e ∙ ap (λ (o : Option (List ℕ)). o >>= value_of k) u ∙ v in
        record {
          fits = omega (arith, ap length d.0, length-append (padding at) q, length-replicate {A = ℕ} (pad at) 0);
          owned = owns k (drop (pad at) x.piece) t (item_tree at x) same tree json;
        }

    go : (r : Option (List ℕ)) → unpadded at x.piece ≡ r → IsJsonTree (r >>= value_of k) → Padded k at x
    go None u h = absurd cc
    go (Some q) u h = end q u (value_of k q) refl h

abbrev pub seat_by : ℕ → ℕ → List ℕ → Seat
seat_by at kind bytes = record { at = at; kind = kind; bytes = bytes }

module _ (at : ℕ) (x : Item) (json : IsJsonTree (item_tree at x)) where
  scalar_is : (r : Option Scalar) → (x.kind ≡ 5 → ⊥) → scalar_of at x ≡ r → item_tree at x ≡ (r >>= λ s. Some (scalar s))
  scalar_is r other e = rw (ne_eqb x.kind 5 other) (ap (λ (o : Option Scalar). o >>= λ s. let t : Option Tree = Some (scalar s) in t) e)

  own_string : x.kind ≡ 0 → Owns kinds.String x.piece (item_tree at x)
  unfolding scalar_of
  own_string k =
      owns kinds.String x.piece (scalar (string x.piece)) (item_tree at x) refl
      (scalar_is (Some (string x.piece)) (λ h. absurd (omega arith)) (rw k refl)) json

  own_number : x.kind ≡ 1 → Padded kinds.Number at x
  unfolding scalar_of
  own_number k =
      padded_by kinds.Number at x
      (scalar_is (unpadded at x.piece >>= λ q. numeric_of q >>= λ d. Some (number d)) (λ h. absurd (omega arith)) (rw k refl)
      ∙ go (unpadded at x.piece)) json
    where
      one : (r : Option Decimal) → ((r >>= λ d. Some (number d)) >>= λ s. Some (scalar s)) ≡ (r >>= λ d. Some (scalar (number d)))
      one None = refl
      one (Some d) = refl

      go : (r : Option (List ℕ)) → ((r >>= λ q. numeric_of q >>= λ d. Some (number d)) >>= λ s. Some (scalar s)) ≡ (r >>= value_of kinds.Number)
      go None = refl
      go (Some q) = one (numeric_of q)

  own_container : x.kind ≡ 5 → Padded kinds.Container at x
  own_container k = padded_by kinds.Container at x (rw (eq-eqb x.kind 5 k) refl) json

  one_scalar : (r : Option Scalar) (s : Scalar) → (r ≡ Some s) ⊎ (r ≡ None) → IsJsonTree (r >>= λ s. Some (scalar s)) → r ≡ Some s
  one_scalar r s (inl e) h = e
  one_scalar None s (inr e) h = absurd cc
  one_scalar (Some q) s (inr e) h = absurd cc

  if_empty : (b : Bool) (s : Scalar) → (only_if b (Some s) ≡ Some s) ⊎ (only_if b (Some s) ≡ None)
  if_empty true s = inl refl
  if_empty false s = inr refl

  own_empty : (k : Kind) (s : Scalar) (b : Bool) → value_of k x.piece ≡ Some (scalar s) → (x.kind ≡ 5 → ⊥) → scalar_of at x ≡ only_if b (Some s)
      → Owns k x.piece (item_tree at x)
  own_empty k s b v other e =
      let is = scalar_is (only_if b (Some s)) other e in
      let one = one_scalar (only_if b (Some s)) s (if_empty b s) (subst IsJsonTree is json) in
      owns k x.piece (scalar s) (item_tree at x) v (is ∙ ap (λ (o : Option Scalar). o >>= λ s. let t : Option Tree = Some (scalar s) in t) one) json

  own_false : x.kind ≡ 2 → Owns kinds.False x.piece (item_tree at x)
  unfolding scalar_of
  own_false k = own_empty kinds.False (boolean false) (eqb (length x.piece) 0) refl (λ h. absurd (omega arith)) (rw k refl)

  own_true : x.kind ≡ 3 → Owns kinds.True x.piece (item_tree at x)
  unfolding scalar_of
  own_true k = own_empty kinds.True (boolean true) (eqb (length x.piece) 0) refl (λ h. absurd (omega arith)) (rw k refl)

  own_null : x.kind ≡ 4 → Owns kinds.Null x.piece (item_tree at x)
  unfolding scalar_of
  own_null k = own_empty kinds.Null null (eqb (length x.piece) 0) refl (λ h. absurd (omega arith)) (rw k refl)

  -- no item has another kind
  own_other : (x.kind ≡ 0 → ⊥) → (x.kind ≡ 1 → ⊥) → (x.kind ≡ 2 → ⊥) → (x.kind ≡ 3 → ⊥) → (x.kind ≡ 4 → ⊥) → (x.kind ≡ 5 → ⊥) → ⊥
  unfolding scalar_of
  own_other a b c d e f =
      let none : scalar_of at x ≡ None = rw (ne_eqb x.kind 0 a, ne_eqb x.kind 1 b, ne_eqb x.kind 2 c, ne_eqb x.kind 3 d, ne_eqb x.kind 4 e) refl in
      let h : IsJsonTree None = subst IsJsonTree (scalar_is None f none) json in cc

  own_is : (k : Kind) → x.kind ≡ kind_number k → own_bytes at x ≡ own_of k at x.piece
  own_is kinds.String e = rw e refl
  own_is kinds.Number e = rw e refl
  own_is kinds.False e = rw e refl
  own_is kinds.True e = rw e refl
  own_is kinds.Null e = rw e refl
  own_is kinds.Container e = rw e refl

  -- what the kind of an item says
  pub record KindIs (k : Kind) : Type 0 where
    pub number : x.kind ≡ kind_number k
    pub fits : HasPad k at x.piece
    pub owned : Owns k (own_of k at x.piece) (item_tree at x)
    pub own : own_bytes at x ≡ own_of k at x.piece

  kind_cases : (n : ℕ) → n < 6 → x.kind ≡ n → (k : Kind) × (kind_of n ≡ Some k) × KindIs k
  kind_cases zero lt e = (kinds.String, refl, record { number = e; fits = tt; owned = own_string e; own = own_is kinds.String e })
  kind_cases (suc zero) lt e =
      let p = own_number e in (kinds.Number, refl, record { number = e; fits = p.fits; owned = p.owned; own = own_is kinds.Number e })
  kind_cases (suc (suc zero)) lt e = (kinds.False, refl, record { number = e; fits = tt; owned = own_false e; own = own_is kinds.False e })
  kind_cases (suc (suc (suc zero))) lt e = (kinds.True, refl, record { number = e; fits = tt; owned = own_true e; own = own_is kinds.True e })
  kind_cases (suc (suc (suc (suc zero)))) lt e = (kinds.Null, refl, record { number = e; fits = tt; owned = own_null e; own = own_is kinds.Null e })
  kind_cases (suc (suc (suc (suc (suc zero))))) lt e =
      let p = own_container e in (kinds.Container, refl, record { number = e; fits = p.fits; owned = p.owned; own = own_is kinds.Container e })
  kind_cases (suc (suc (suc (suc (suc (suc n)))))) lt e = absurd (omega arith)

  kind_small : x.kind < 6
  kind_small = elim (cases_lt x.kind 6) [
    | inl lt ↦ lt
    | inr le ↦ absurd (own_other (λ h. omega arith) (λ h. omega arith) (λ h. omega arith) (λ h. omega arith) (λ h. omega arith) (λ h. omega arith))
  ]

  pub kind_found : (k : Kind) × (kind_of x.kind ≡ Some k) × KindIs k
  kind_found = kind_cases x.kind kind_small refl

  -- the tree of where the item lies is its own
  pub seat_has_tree : (word begin : ℕ) → Some (seat_tree (seat_of word begin at x)) ≡ item_tree at x
  seat_has_tree word begin =
      let k = kind_found in
      ap (λ (r : Option Kind). some (or_null (r >>= λ k. value_of k (own_bytes at x)))) k.1
      ∙ ap (λ (b : List ℕ). some (or_null (value_of k.0 b))) k.2.own
      ∙ k.2.owned.same

  -- an item that is read has a kind
  pub kind_there : None ≡ kind_of x.kind → ⊥
  kind_there e = let k = kind_cases x.kind kind_small refl in let h : ◌≡◌ {A = Option Kind} None (Some k.0) = e ∙ k.1 in cc

  -- what the kind of an item says of it
  pub kind_is : (k : Kind) → Some k ≡ kind_of x.kind → KindIs k
  kind_is k e = let c = kind_cases x.kind kind_small refl in subst KindIs (some_is c.0 k (sym c.1 ∙ sym e)) c.2

  -- where a node is made, its item lies
  pub seat_is : (word begin place : ℕ) (k : Kind) (own : List ℕ) → Some k ≡ kind_of x.kind → own ≡ own_of k at x.piece
      → place ≡ where_it_is own word (begin + (length x.piece - length own)) → seat_by place (kind_number k) own ≡ seat_of word begin at x
  seat_is word begin place k own e f g =
      let is = kind_is k e in
      ap (λ (n : ℕ). seat_by n (kind_number k) own) g
      ∙ ap (λ (b : List ℕ). seat_by (where_it_is b word (begin + (length x.piece - length b))) (kind_number k) b) (f ∙ sym is.own)
      ∙ ap (λ (n : ℕ). seat_by (where_it_is (own_bytes at x) word (begin + (length x.piece - length (own_bytes at x)))) n (own_bytes at x))
      (sym is.number)

-- the own bytes of a short piece are short
pub short_own : (k : Kind) (at : ℕ) (piece : List ℕ) → length piece < 2 ^ 28 → is_short k (own_of k at piece) ≡ true
short_own kinds.String at piece lt = refl
short_own kinds.Number at piece lt = lt-ltb (length (drop (pad at) piece)) (2 ^ 28) (omega (arith, length-drop (pad at) piece))
short_own kinds.False at piece lt = refl
short_own kinds.True at piece lt = refl
short_own kinds.Null at piece lt = refl
short_own kinds.Container at piece lt = refl

-- a value ends where its piece does, or has no bytes and is before it
pub place_room : (own : List ℕ) (place : ℕ) {word begin result top : ℕ} → result ≡ where_it_is own word place
    → word ≤ begin → place + length own < top → begin < top → result + length own < top
place_room own place {word = word} {begin = begin} {result = result} {top = top} e le lt less = go (length own) e lt
  where
    go : (n : ℕ) → result ≡ cond (eqb n 0) word place → place + n < top → result + n < top
    go zero e lt = omega (arith, e, le, less)
    go (suc n) e lt =
        let k : result ≡ place = e ∙ ap (λ (b : Bool). cond b word place) (ne_eqb (suc n) 0 (λ h. absurd (omega arith))) in omega (arith, k, lt)
