-- A tree matches its witness.
use Rattle.std.proofs.Common.{◌≡◌, ℕ, zero, suc, ◌+◌, Bool, true, false, [], ◌∷◌, ◌++◌, length, ◌⊎◌, Option, Some, None, refl, ap, sym, ◌∙◌, subst, arith, inl, inr, append_assoc, append-nil, length-append, zero-add}
use Rattle.std.specs.Prelude.{if◌then◌else◌, ◌==◌, ◌&&◌, nat_le, not, slice_get, option_map, option_and_then}
use Rattle.std.specs.List.{list_all}
use Rattle.std.specs.Option.{option_or}
use Rattle.std.proofs.lemmas.Bool.Decides.{nat_tests}
use lib.Utf8.{encodes, scalar}
use Rattle.pattern_model.specs.Text.{Text}
use Rattle.pattern_model.specs.Tree.{Leaf, Count, Tree}
use Rattle.pattern_model.specs.Members.{escape_has, class_has, is_no_property}
use Rattle.pattern_model.specs.Ordered.{IsOrdered, MostRises}
use Rattle.pattern_model.specs.Matches.{One, is_line_end, is_plain_group, is_narrow, Times, IsAtLeast, IsAtMost, Matches, is_covered}
use Rattle.pattern_model.proofs.BoolLaws.{both, and_right, code_is}
use Rattle.pattern_translation.specs.Witness.{short, least_from, least, member, leaf_witness, joined, times, repeated, witness, free_leaf, without_assertions}

-- a text stands in another, from a place on
abbrev pub At : Text → Text → ℕ → Type 0
At w y i = (front : Text) × (back : Text) × (y ≡ front ++ (w ++ back)) × (i ≡ length front)

at_left : (v u y : Text) (i : ℕ) → At (v ++ u) y i → At v y i
at_left v u y i (f, b, e, l) = (f, u ++ b, e ∙ ap (λ z. f ++ z) (append_assoc v u b), l)

at_right : (v u y : Text) (i : ℕ) → At (v ++ u) y i → At u y (i + length v)
at_right v u y i (f, b, e, l) =
    let n = length-append f v in
    (f ++ v, b, e ∙ (ap (λ z. f ++ z) (append_assoc v u b) ∙ sym (append_assoc f v (u ++ b))), omega (arith, l, n))

get_here : (f : Text) (c : ℕ) (x : Text) → slice_get (f ++ (c ∷ x)) (length f) ≡ Some c
get_here [] c x = refl
get_here (d ∷ f) c x = get_here f c x

one_here : (test : ℕ → Bool) (c : ℕ) (y : Text) (i : ℕ) → At (c ∷ []) y i → test c ≡ true → One test y i (i + 1)
one_here test c y i (f, b, e, l) t =
    (c, ap (λ z. slice_get z i) e ∙ (ap (λ n. slice_get (f ++ (c ∷ b)) n) l ∙ get_here f c b), t, refl)

one_code : (test : ℕ → Bool) (c : ℕ) (w y : Text) (i : ℕ) → Some (c ∷ []) ≡ Some w → test c ≡ true → At w y i → One test y i (i + length w)
one_code test c w y i e t a =
    let f : w ≡ c ∷ [] = cc in
    subst (λ z. One test y i (i + length z)) (sym f) (one_here test c y i (subst (λ z. At z y i) f a) t)

-- what is found passes
abbrev Passes : (ℕ → Bool) → Option ℕ → Type 0
Passes test o = (d : ℕ) → o ≡ Some d → test d ≡ true

found_if : (test : ℕ → Bool) (c : ℕ) (o : Option ℕ) → Passes test o → (b : Bool) → scalar c && test c ≡ b →
    Passes test (if b then Some c else o)
found_if test c o h true f d e = let g : c ≡ d = cc in subst (λ z. test z ≡ true) g (and_right (scalar c) (test c) f)
found_if test c o h false f d e = h d e

found : (test : ℕ → Bool) (n c : ℕ) → Passes test (least_from test n c)
unfolding least_from
found test zero c d e = cc
found test (suc n) c d e = found_if test c (least_from test n (c + 1)) (found test n (c + 1)) (scalar c && test c) refl d e

member_matches : (test : ℕ → Bool) (w y : Text) (i : ℕ) → member test ≡ Some w → At w y i → One test y i (i + length w)
unfolding least
member_matches test w y i e a = go (test 97) refl e
  where
    last : (o : Option ℕ) → least_from test 1114112 0 ≡ o → option_map (λ c. c ∷ []) o ≡ Some w → One test y i (i + length w)
    last None h f = cc
    last (Some c) h f = one_code test c w y i f (found test 1114112 0 c h) a

    go : (b : Bool) → test 97 ≡ b → (if b then Some (97 ∷ []) else option_map (λ c. c ∷ []) (least test)) ≡ Some w →
        One test y i (i + length w)
    go true h f = one_code test 97 w y i f h a
    go false h f = last (least_from test 1114112 0) refl f

short_is : (v w : Text) → short v ≡ Some w → w ≡ v
unfolding short
short_is v w e = go (nat_le (length (encodes v)) 256) e
  where
    go : (b : Bool) → (if b then Some v else None) ≡ Some w → w ≡ v
    go true f = cc
    go false f = cc

if_some : (b : Bool) (o : Option Text) (w : Text) → (if b then o else None) ≡ Some w → (b ≡ true) × (o ≡ Some w)
if_some true o w e = (refl, e)
if_some false o w e = cc

same_code : (c : ℕ) → c == c ≡ true
same_code c = grind (arith, nat_tests)

-- nothing stands in no place
empty_here : (w : Text) (i : ℕ) → Some [] ≡ Some w → i ≡ i + length w
empty_here w i e = let f : w ≡ [] = cc in let n : length w ≡ 0 = ap length f in omega (arith, n)

leaf_matches : (l : Leaf) (w y : Text) (i : ℕ) → is_covered (Tree.leaf l) ≡ true → leaf_witness l ≡ Some w → At w y i →
    Matches (free_leaf l) y i (i + length w)
leaf_matches (Leaf.code c) w y i h e a =
    let s = if_some (scalar c) (Some (c ∷ [])) w e in one_code (λ d. d == c) c w y i s.1 (same_code c) a
leaf_matches Leaf.dot w y i h e a = one_code (λ c. not (is_line_end c)) 97 w y i e refl a
leaf_matches Leaf.start w y i h e a = empty_here w i e
leaf_matches Leaf.end w y i h e a = empty_here w i e
leaf_matches Leaf.boundary w y i h e a = empty_here w i e
leaf_matches Leaf.not_boundary w y i h e a = empty_here w i e
leaf_matches (Leaf.escape k) w y i h e a = member_matches (escape_has k) w y i e a
leaf_matches (Leaf.class b items) w y i h e a =
    let s = if_some (list_all is_no_property items) (member (class_has b items)) w e in member_matches (class_has b items) w y i s.1 a
leaf_matches (Leaf.property b) w y i h e a = cc
leaf_matches (Leaf.back_number n) w y i h e a = cc
leaf_matches (Leaf.back_name n) w y i h e a = cc

-- what matches a text matches it so many times
times_match : (M : ℕ → ℕ → Type 0) (u y : Text) (n i : ℕ) → ((k : ℕ) → At u y k → M k (k + length u)) → At (times n u) y i →
    Times M n i (i + length (times n u))
times_match M u y zero i m a = omega arith
times_match M u y (suc n) i m a =
    let l = length-append u (times n u) in
    let k : (i + length u) + length (times n u) ≡ i + length (u ++ times n u) = omega (arith, l) in (
      i + length u,
      m i (at_left u (times n u) y i a),
      subst (λ j. Times M n (i + length u) j) k (times_match M u y n (i + length u) m (at_right u (times n u) y i a)),
    )

at_most : (n : ℕ) (most : Option Count) → MostRises (Count.number n) most → is_narrow most ≡ true → IsAtMost most n
at_most n None r h = tt
at_most n (Some (Count.number m)) r h = r
at_most n (Some Count.wide) r h = cc

-- so many times as it has to stand
repeat_matches : (M : ℕ → ℕ → Type 0) (least : Count) (most : Option Count) (o : Option Text) (w y : Text) (i : ℕ) →
    MostRises least most → is_narrow most ≡ true → ((u : Text) → o ≡ Some u → (k : ℕ) → At u y k → M k (k + length u)) →
    repeated least o ≡ Some w → At w y i → (n : ℕ) × (IsAtLeast least n × IsAtMost most n) × Times M n i (i + length w)
repeat_matches M Count.wide most o w y i r h m e a = cc
repeat_matches M (Count.number n) most o w y i r h m e a = go (n == 0) refl e
  where
    within : IsAtLeast (Count.number n) n × IsAtMost most n
    within = (omega arith, at_most n most r h)

    some : (o : Option Text) → ((u : Text) → o ≡ Some u → (k : ℕ) → At u y k → M k (k + length u)) →
        option_and_then (λ u. short (times n u)) o ≡ Some w → Times M n i (i + length w)
    some None p f = cc
    some (Some u) p f =
        let s = short_is (times n u) w f in
        subst (λ z. Times M n i (i + length z)) (sym s)
        (times_match M u y n i (p u refl) (subst (λ z. At z y i) s a))

    go : (b : Bool) → n == 0 ≡ b → (if b then Some [] else if nat_le n 64 then option_and_then (λ u. short (times n u)) o else None) ≡ Some w →
        (k : ℕ) × (IsAtLeast (Count.number n) k × IsAtMost most k) × Times M k i (i + length w)
    go true q f = (n, within, subst (λ z. Times M z i (i + length w)) (sym (code_is n 0 q)) (empty_here w i f))
    go false q f = (n, within, some o m (if_some (nat_le n 64) (option_and_then (λ u. short (times n u)) o) w f).1)

-- what a witness stands for is matched wherever it stands
abbrev pub Found : (ℕ → ℕ → Text → Type 0) → Option Text → Type 0
Found M o = (w : Text) → o ≡ Some w → (y : Text) (i : ℕ) → At w y i → M i (i + length w) y

sequence_matches : (P Q : ℕ → ℕ → Text → Type 0) (p q : Option Text) → Found P p → Found Q q →
    Found (λ i j y. (m : ℕ) × P i m y × Q m j y) (joined p q)
sequence_matches P Q None q f g w e y i a = cc
sequence_matches P Q (Some v) None f g w e y i a = cc
sequence_matches P Q (Some v) (Some u) f g w e y i a =
    let j = short_is (v ++ u) w e in
    let b = subst (λ z. At z y i) j a in
    let n = length-append v u in
    let k : (i + length v) + length u ≡ i + length w = omega (arith, n, ap length j) in (
      i + length v,
      f v refl y i (at_left v u y i b),
      subst (λ z. Q (i + length v) z y) k (g u refl y (i + length v) (at_right v u y i b)),
    )

either_matches : (P Q : ℕ → ℕ → Text → Type 0) (p q : Option Text) → Found P p → Found Q q →
    Found (λ i j y. P i j y ⊎ Q i j y) (option_or p q)
either_matches P Q None q f g w e y i a = inr (g w e y i a)
either_matches P Q (Some v) q f g w e y i a = inl (f w e y i a)

-- a tree matches its witness wherever it stands
matches_at : (t : Tree) → IsOrdered t → is_covered t ≡ true → Found (λ i j y. Matches (without_assertions t) y i j) (witness t)
matches_at Tree.empty o h w e y i a = empty_here w i e
matches_at (Tree.leaf l) o h w e y i a = leaf_matches l w y i h e a
matches_at (Tree.group m t) o h w e y i a =
    let (k, l) = both (is_plain_group m) (is_covered t) h in (k, matches_at t o l w e y i a)
matches_at (Tree.repeat t b) o h w e y i a =
    let (k, l) = both (is_narrow (Some b.least) && is_narrow b.most) (is_covered t) h in
    repeat_matches (λ p q. Matches (without_assertions t) y p q) b.least b.most (witness t) w y i o.1
    (and_right (is_narrow (Some b.least)) (is_narrow b.most) k) (λ u f j g. matches_at t o.0 l u f y j g) e a
matches_at (Tree.sequence l r) o h w e y i a =
    let (k, m) = both (is_covered l) (is_covered r) h in
    sequence_matches (λ p q z. Matches (without_assertions l) z p q) (λ p q z. Matches (without_assertions r) z p q) (witness l)
    (witness r) (matches_at l o.0 k) (matches_at r o.1 m) w e y i a
matches_at (Tree.either l r) o h w e y i a =
    let (k, m) = both (is_covered l) (is_covered r) h in
    either_matches (λ p q z. Matches (without_assertions l) z p q) (λ p q z. Matches (without_assertions r) z p q) (witness l)
    (witness r) (matches_at l o.0 k) (matches_at r o.1 m) w e y i a

-- a tree matches its witness from end to end
pub witness_matches : (t : Tree) (w : Text) → IsOrdered t → is_covered t ≡ true → witness t ≡ Some w →
    Matches (without_assertions t) w 0 (length w)
witness_matches t w o h e =
    subst (λ j. Matches (without_assertions t) w 0 j) (zero-add (length w))
    (matches_at t o h w e w 0 ([], [], sym (append-nil w), refl))
