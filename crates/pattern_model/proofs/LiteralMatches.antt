-- A literal pattern's tree matches some part of a text exactly where its analysis hits the text.
use Rattle.std.proofs.Common.{◌≡◌, ℕ, zero, suc, ◌+◌, ◌-◌, ◌<◌, ◌≤◌, Bool, true, List, [], ◌∷◌, ◌++◌, length, get_or, drop, Some, refl, ap, sym, ◌∙◌, subst, arith, inl, inr, ◌⊎◌, length-append, drop-cons, length-drop, add-one}
use Rattle.std.specs.Prelude.{slice_get, slice_index_or, ◌↔◌, Contains}
use Rattle.std.proofs.lemmas.List.{append-nil, nil_from_length}
use Rattle.std.proofs.lemmas.List.Sorted.{Contains-permutation, IsPermutation-sym}
use Rattle.std.proofs.lemmas.Option.{slice_get-get_or, slice_get_within, get_or_from_slice_get}
use Rattle.std.proofs.lemmas.Bool.{eqb-true, eq-eqb}
use Rattle.std.specs.List.{AllPass}
use Rattle.std.proofs.Math.Nat.{eq-or-lt_of_le}
use Rattle.pattern_model.specs.Text.{Text}
use Rattle.pattern_model.specs.Tree.{Escape, Leaf, Tree}
use Rattle.pattern_model.specs.Members.{escape_has}
use Rattle.pattern_model.specs.Matches.{One, Times, Matches, MatchesSome}
use Rattle.pattern_model.specs.Literals.{Analysis, IsAnalysis, Hits}
use Rattle.pattern_model.proofs.LiteralTrees.{with_codes, alternative, with_alternatives, prefix_tree, exact_tree, alternation_tree, no_whitespace_tree, HasTree, prefix_has_tree, exact_has_tree, alternation_has_tree, no_whitespace_has_tree}

-- the characters stand in the text from one place to another
abbrev Stand : Text → Text → ℕ → ℕ → Type 0
Stand y [] i j = i ≡ j
Stand y (c ∷ w) i j = (slice_get y i ≡ Some c) × Stand y w (i + 1) j

codes_stand : (t : Tree) (w y : Text) (i j : ℕ) → Matches (with_codes t w) y i j → (m : ℕ) × Matches t y i m × Stand y w m j
codes_stand t [] y i j h = (j, h, refl)
codes_stand t (c ∷ w) y i j h =
    let (m, (k, a, (d, e, is, n)), s) = codes_stand (Tree.sequence t (Tree.leaf (Leaf.code c))) w y i j h in
    (k, a, (e ∙ ap Some (eqb-true d c is), subst (λ z. Stand y w z j) n s))

stand_codes : (t : Tree) (w y : Text) (i m j : ℕ) → Matches t y i m → Stand y w m j → Matches (with_codes t w) y i j
stand_codes t [] y i m j a s = subst (λ z. Matches t y i z) s a
stand_codes t (c ∷ w) y i m j a (e, s) =
    stand_codes (Tree.sequence t (Tree.leaf (Leaf.code c))) w y i (m + 1) j (m, a, (c, e, eq-eqb c c refl, refl)) s

-- what stands at a place is what the rest of the text begins with
here : (y : Text) (i c : ℕ) → slice_get y i ≡ Some c → drop i y ≡ c ∷ drop (i + 1) y
here y i c e =
    let within : i < length y = slice_get_within y i c e in
    drop-cons y i c within ∙ ap (λ k. get_or y i c ∷ drop k y) (sym (add-one i))
    ∙ ap (λ z. z ∷ drop (i + 1) y) (get_or_from_slice_get y i c c e)

stand_rest : (w y : Text) (i j : ℕ) → Stand y w i j → (z : Text) × (drop i y ≡ w ++ z) × (j ≡ i + length w)
stand_rest [] y i j e = (drop i y, refl, omega (arith, e))
stand_rest (c ∷ w) y i j (e, s) =
    let (z, d, n) = stand_rest w y (i + 1) j s in (z, here y i c e ∙ ap (λ u. c ∷ u) d, omega (arith, n))

there : (y : Text) (i c : ℕ) (r : Text) → drop i y ≡ c ∷ r → (slice_get y i ≡ Some c) × (drop (i + 1) y ≡ r)
there y i c r e =
    let long : length y - i ≡ suc (length r) = sym (length-drop i y) ∙ ap length e in
    let within : i < length y = omega arith in
    let both : get_or y i c ∷ drop (suc i) y ≡ c ∷ r = sym (drop-cons y i c within) ∙ e in (
      slice_get-get_or y i c within ∙ ap (λ z. Some (get_or z 0 c)) both,
      ap (λ k. drop k y) (add-one i) ∙ ap (drop 1) both,
    )

rest_stand : (w y : Text) (i : ℕ) (z : Text) → drop i y ≡ w ++ z → Stand y w i (i + length w)
rest_stand [] y i z e = omega arith
rest_stand (c ∷ w) y i z e =
    let (s, d) = there y i c (w ++ z) e in
    let more : Stand y w (i + 1) (i + 1 + length w) = rest_stand w y (i + 1) z d in
    let same : i + 1 + length w ≡ i + length (c ∷ w) = omega arith in
    (s, subst (λ k. Stand y w (i + 1) k) same more)

-- the characters stand from the beginning to the end of the text that they are
whole_stand : (w y : Text) → y ≡ w → Stand y w 0 (length y)
whole_stand w y e =
    let s : Stand y w 0 (0 + length w) = rest_stand w y 0 [] (e ∙ sym (append-nil w)) in
    let same : 0 + length w ≡ length y = omega (arith, ap length e) in
    subst (λ k. Stand y w 0 k) same s

stand_whole : (w y : Text) → Stand y w 0 (length y) → y ≡ w
stand_whole w y s =
    let (z, d, n) = stand_rest w y 0 (length y) s in
    let none : length z ≡ 0 = omega (arith, n, ap length d, length-append w z) in
    d ∙ ap (λ u. w ++ u) (nil_from_length z none) ∙ append-nil w

pub prefix_matches : (w y : Text) → MatchesSome (prefix_tree w) y → Hits (Analysis.prefix w) y
prefix_matches w y (i, j, le, h) =
    let (m, (first, at), s) = codes_stand (Tree.leaf Leaf.start) w y i j h in
    let (z, d, n) = stand_rest w y m j s in (z, ap (λ k. drop k y) (sym at) ∙ d)

pub prefix_hits : (w y : Text) → Hits (Analysis.prefix w) y → MatchesSome (prefix_tree w) y
prefix_hits w y (z, e) =
    let s : Stand y w 0 (0 + length w) = rest_stand w y 0 z e in
    (0, 0 + length w, omega (arith, ap length e, length-append w z), stand_codes (Tree.leaf Leaf.start) w y 0 0 (0 + length w) (refl, refl) s)

pub exact_matches : (w y : Text) → MatchesSome (exact_tree w) y → Hits (Analysis.exact w) y
exact_matches w y (i, j, le, (m, h, (end, last))) =
    let (k, (first, at), s) = codes_stand (Tree.leaf Leaf.start) w y i m h in
    stand_whole w y (subst (λ p. Stand y w p (length y)) at (subst (λ q. Stand y w k q) end s))

pub exact_hits : (w y : Text) → Hits (Analysis.exact w) y → MatchesSome (exact_tree w) y
exact_hits w y e = (
  0,
  length y,
  omega arith,
  (length y, stand_codes (Tree.leaf Leaf.start) w y 0 0 (length y) (refl, refl) (whole_stand w y e), (refl, refl)),
)

alternative_stand : (w y : Text) (i j : ℕ) → Matches (alternative w) y i j → Stand y w i j
alternative_stand [] y i j h = h
alternative_stand (c ∷ w) y i j h =
    let (m, (d, e, is, n), s) = codes_stand (Tree.leaf (Leaf.code c)) w y i j h in
    (e ∙ ap Some (eqb-true d c is), subst (λ k. Stand y w k j) n s)

stand_alternative : (w y : Text) (i j : ℕ) → Stand y w i j → Matches (alternative w) y i j
stand_alternative [] y i j h = h
stand_alternative (c ∷ w) y i j (e, s) =
    stand_codes (Tree.leaf (Leaf.code c)) w y i (i + 1) j (c, e, eq-eqb c c refl, refl) s

-- one of the texts stands from one place to another
abbrev OneStands : Text → ℕ → ℕ → List Text → Type 0
OneStands y i j [] = ⊥
OneStands y i j (w ∷ ws) = Stand y w i j ⊎ OneStands y i j ws

alternatives_stand : (t : Tree) (ws : List Text) (y : Text) (i j : ℕ) → Matches (with_alternatives t ws) y i j →
    Matches t y i j ⊎ OneStands y i j ws
alternatives_stand t [] y i j h = inl h
alternatives_stand t (w ∷ ws) y i j h = elim (alternatives_stand (Tree.either t (alternative w)) ws y i j h) [
  | inl g ↦ elim g [ inl a ↦ inl a | inr b ↦ inr (inl (alternative_stand w y i j b)) ]
  | inr s ↦ inr (inr s)
]

stand_alternatives : (t : Tree) (ws : List Text) (y : Text) (i j : ℕ) → Matches t y i j ⊎ OneStands y i j ws →
    Matches (with_alternatives t ws) y i j
stand_alternatives t [] y i j (inl h) = h
stand_alternatives t [] y i j (inr h) = elim h [ ]
stand_alternatives t (w ∷ ws) y i j (inl h) = stand_alternatives (Tree.either t (alternative w)) ws y i j (inl (inl h))
stand_alternatives t (w ∷ ws) y i j (inr (inl s)) =
    stand_alternatives (Tree.either t (alternative w)) ws y i j (inl (inr (stand_alternative w y i j s)))
stand_alternatives t (w ∷ ws) y i j (inr (inr s)) = stand_alternatives (Tree.either t (alternative w)) ws y i j (inr s)

-- the texts of which one stands from the beginning to the end are those that have the text among them
stand_contains : (ws : List Text) (y : Text) → OneStands y 0 (length y) ws → Contains ws y
stand_contains [] y h = elim h [ ]
stand_contains (w ∷ ws) y (inl s) = (0, omega arith, sym (stand_whole w y s))
stand_contains (w ∷ ws) y (inr s) = let (k, l, e) = stand_contains ws y s in (suc k, omega (arith, l), e)

contains_stand : (ws : List Text) (y : Text) (k : ℕ) → k < length ws → slice_index_or ws k y ≡ y → OneStands y 0 (length y) ws
contains_stand [] y k l e = absurd (let no : k < 0 = l in omega (arith, no))
contains_stand (w ∷ ws) y zero l e = inl (whole_stand w y (sym e))
contains_stand (w ∷ ws) y (suc k) l e = let less : suc k < suc (length ws) = l in inr (contains_stand ws y k (omega (arith, less)) e)

pub alternation_matches : (w : Text) (ws : List Text) (y : Text) → MatchesSome (alternation_tree w ws) y → Contains (w ∷ ws) y
alternation_matches w ws y (i, j, le, (m, (k, (first, at), (plain, h)), (end, last))) =
    let inner : Tree = with_alternatives (alternative w) ws in
    let whole : Matches inner y 0 (length y) =
    subst (λ p. Matches inner y p (length y)) at (subst (λ q. Matches inner y k q) end h) in
    stand_contains (w ∷ ws) y (elim (alternatives_stand (alternative w) ws y 0 (length y) whole) [
      | inl a ↦ inl (alternative_stand w y 0 (length y) a)
      | inr s ↦ inr s
    ])

pub alternation_hits : (w : Text) (ws : List Text) (y : Text) → Contains (w ∷ ws) y → MatchesSome (alternation_tree w ws) y
alternation_hits w ws y (k, l, e) =
    let whole : Matches (with_alternatives (alternative w) ws) y 0 (length y) =
    stand_alternatives (alternative w) ws y 0 (length y) (elim (contains_stand (w ∷ ws) y k l e) [
      | inl s ↦ inl (stand_alternative w y 0 (length y) s)
      | inr s ↦ inr s
    ]) in
    (0, length y, omega arith, (length y, (0, (refl, refl), (refl, whole)), (refl, refl)))

-- what passes a test so many times in a row is each code point between
times_pass : (test : ℕ → Bool) (y : Text) (n i j : ℕ) → Times (λ p q. One test y p q) n i j →
    (j ≡ i + n) × ((k : ℕ) (d : ℕ) → i ≤ k → k < j → test (get_or y k d) ≡ true)
times_pass test y zero i j e = (omega (arith, e), λ k d l h. absurd (let no : i < i = omega (arith, e, l, h) in omega (arith, no)))
times_pass test y (suc n) i j (m, (c, e, t, q), r) =
    let (s, f) = times_pass test y n m j r in (
      omega (arith, s, q),
      λ k d l h. elim (eq-or-lt_of_le l) [
        | inl same ↦ subst (λ z. test (get_or y z d) ≡ true) same (ap test (get_or_from_slice_get y i c d e) ∙ t)
        | inr less ↦ f k d (omega (arith, less, q)) h
      ],
    )

pass_times : (test : ℕ → Bool) (y : Text) → AllPass test y → (n i : ℕ) → i + n ≤ length y → Times (λ p q. One test y p q) n i (i + n)
pass_times test y a zero i l = omega arith
pass_times test y a (suc n) i l =
    let within : i < length y = omega (arith, l) in
    let more : Times (λ p q. One test y p q) n (i + 1) (i + 1 + n) = pass_times test y a n (i + 1) (omega (arith, l)) in
    let same : i + 1 + n ≡ i + suc n = omega arith in (
      i + 1,
      (get_or y i 0, slice_get-get_or y i 0 within, a i 0 within, refl),
      subst (λ k. Times (λ p q. One test y p q) n (i + 1) k) same more,
    )

pub no_whitespace_matches : (y : Text) → MatchesSome no_whitespace_tree y → Hits Analysis.no_whitespace y
no_whitespace_matches y (i, j, le, (m, (k, (first, at), (n, within, r)), (end, last))) =
    let (s, f) = times_pass (escape_has Escape.not_space) y n k m r in
    λ p d l. f p d (omega (arith, at)) (omega (arith, end, l))

pub no_whitespace_hits : (y : Text) → Hits Analysis.no_whitespace y → MatchesSome no_whitespace_tree y
no_whitespace_hits y a =
    let zeros : 0 + length y ≡ length y = omega arith in
    let r : Times (λ p q. One (escape_has Escape.not_space) y p q) (length y) 0 (0 + length y) =
    pass_times (escape_has Escape.not_space) y a (length y) 0 (omega arith) in (
      0,
      length y,
      omega arith,
      (
        length y,
        (
          0,
          (refl, refl),
          (
            length y,
            (omega arith, tt),
            subst (λ k. Times (λ p q. One (escape_has Escape.not_space) y p q) (length y) 0 k) zeros r,
          ),
        ),
        (refl, refl),
      ),
    )

-- a literal pattern has a tree, which matches where its analysis hits
pub record HasMatches (x : Text) (a : Analysis) : Type 0 where
  pub tree : Tree
  pub has : HasTree x tree
  pub same : (y : Text) → Hits a y ↔ MatchesSome tree y

pub literal_matches : (x : Text) (a : Analysis) → IsAnalysis x a → HasMatches x a
literal_matches x (Analysis.prefix w) h = record {
  tree = prefix_tree w;
  has = prefix_has_tree x w h;
  same = λ y. (prefix_hits w y, prefix_matches w y);
}
literal_matches x (Analysis.exact w) h = record {
  tree = exact_tree w;
  has = exact_has_tree x w h;
  same = λ y. (exact_hits w y, exact_matches w y);
}
literal_matches x (Analysis.alternation ws) (z, [], e, a, p, s) = elim a [ ]
literal_matches x (Analysis.alternation ws) (z, v ∷ vs, e, a, p, s) = record {
  tree = alternation_tree v vs;
  has = alternation_has_tree x z v vs e a;
  same = λ y. (
    λ h. alternation_hits v vs y (Contains-permutation ws (v ∷ vs) y (IsPermutation-sym (v ∷ vs) ws p) h),
    λ h. Contains-permutation (v ∷ vs) ws y p (alternation_matches v vs y h),
  );
}
literal_matches x Analysis.no_whitespace h = record {
  tree = no_whitespace_tree;
  has = no_whitespace_has_tree x h;
  same = λ y. (no_whitespace_hits y, no_whitespace_matches y);
}
