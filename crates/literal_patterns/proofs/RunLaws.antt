-- The literals at the front of a text: what they stand for is fixed, and it is ASCII.
use Rattle.std.proofs.Common.{◌≡◌, ℕ, ◌<◌, ◌≤◌, Bool, true, false, List, [], ◌∷◌, ◌++◌, length, drop, get_or, Option, Some, None, IfNone, MatchOption, refl, ap, sym, ◌∙◌, subst, arith, inl, inr, ◌⊎◌, append_assoc}
use Rattle.std.specs.Prelude.{◌==◌, ◌&&◌, ◌||◌, nat_le, encode_utf8}
use Rattle.std.proofs.lemmas.Bool.{leb-true, eqb-true}
use Rattle.std.proofs.lemmas.Str.Ascii.{IsAscii-nil, IsAscii-cons}
use Rattle.std.specs.Str.{IsAscii, chars}
use Rattle.std.proofs.lemmas.Str.{chars-append, chars-IsAscii, IsUtf8-from_ascii, encode_ascii}
use Rattle.std.proofs.lemmas.List.Folds.{list_all-append}
use Rattle.std.specs.List.{list_all}
use Rattle.pattern_model.specs.Text.{Text}
use Rattle.pattern_model.specs.Literals.{is_bare, is_escaped, Literal, Literals, Others, Alternatives, Analysis, IsAnalysis}
use Rattle.literal_patterns.specs.inner.Runs.{Stops, Run}

either : (a b : Bool) (P : Type 0) → (a ≡ true → P) → (b ≡ true → P) → (a || b) ≡ true → P
either true b P f g e = f refl
either false b P f g e = g e

second : (a b : Bool) → a && b ≡ true → b ≡ true
second true b e = e
second false b e = cc

first : (a b : Bool) → a && b ≡ true → a ≡ true
first true b e = refl
first false b e = cc

up_to : (a b c : ℕ) → nat_le a c && nat_le c b ≡ true → b < 128 → c < 128
up_to a b c e l = let h = leb-true c b (second (nat_le a c) (nat_le c b) e) in omega (arith, h, l)

at : (c d : ℕ) → (c == d) ≡ true → d < 128 → c < 128
at c d e l = let h = eqb-true c d e in omega (arith, h, l)

-- literals stand for ASCII
bare_small : (c : ℕ) → is_bare c ≡ true → c < 128
bare_small c =
    either _ _ _ (either _ _ _ (λ e. up_to 65 90 c e (omega arith)) (λ e. up_to 97 122 c e (omega arith)))
    (either _ _ _ (λ e. up_to 48 57 c e (omega arith))
    (either _ _ _ (λ e. at c 45 e (omega arith)) (either _ _ _ (λ e. at c 95 e (omega arith)) (λ e. at c 47 e (omega arith)))))

escaped_small : (c : ℕ) → is_escaped c ≡ true → c < 128
escaped_small c =
    either _ _ _ (λ e. at c 47 e (omega arith)) (either _ _ _ (λ e. at c 45 e (omega arith)) (either _ _ _ (λ e. at c 95 e (omega arith))
    (either _ _ _ (λ e. at c 36 e (omega arith)) (λ e. at c 46 e (omega arith)))))

literal_small : (x : Text) (c : ℕ) (y : Text) → Literal x c y → c < 128
literal_small x c y (inl (e, h)) = bare_small c h
literal_small x c y (inr (e, h)) = escaped_small c h

pub literals_ascii : (x w y : Text) → Literals x w y → IsAscii w
literals_ascii x [] y e = IsAscii-nil
literals_ascii x (c ∷ w) y (rest, l, ls) = IsAscii-cons c w (literal_small x c rest l) (literals_ascii rest w y ls)

-- characters that stand for themselves are literals
pub bare_literals : (w z : Text) → list_all is_bare w ≡ true → Literals (w ++ z) w z
bare_literals [] z h = refl
bare_literals (c ∷ w) z h = (
  w ++ z,
  inl (refl, first (is_bare c) (list_all is_bare w) h),
  bare_literals w z (second (is_bare c) (list_all is_bare w) h),
)

-- literals one after the other
pub literals_append : (x v y w z : Text) → Literals x v y → Literals y w z → Literals x (v ++ w) z
literals_append x [] y w z e l = subst (λ u. Literals u w z) (sym e) l
literals_append x (c ∷ v) y w z (r, a, b) l = (r, a, literals_append r v y w z b l)

-- a literal is read in one way
same_literal : (x : Text) (c : ℕ) (y : Text) (d : ℕ) (z : Text) → Literal x c y → Literal x d z → (c ≡ d) × (y ≡ z)
same_literal x c y d z (inl (e, h)) (inl (f, g)) =
    let k : c ∷ y ≡ d ∷ z = sym e ∙ f in (ap (λ l. get_or l 0 0) k, ap (drop 1) k)
same_literal x c y d z (inl (e, h)) (inr (f, g)) =
    let k : c ∷ y ≡ 92 ∷ d ∷ z = sym e ∙ f in
    let no : true ≡ false = sym h ∙ ap (λ l. is_bare (get_or l 0 0)) k in cc
same_literal x c y d z (inr (e, h)) (inl (f, g)) =
    let k : d ∷ z ≡ 92 ∷ c ∷ y = sym f ∙ e in
    let no : true ≡ false = sym g ∙ ap (λ l. is_bare (get_or l 0 0)) k in cc
same_literal x c y d z (inr (e, h)) (inr (f, g)) =
    let k : 92 ∷ c ∷ y ≡ 92 ∷ d ∷ z = sym e ∙ f in (ap (λ l. get_or l 1 0) k, ap (drop 2) k)

-- all the literals at the front of a text are read in one way, and then the same follows
pub one_rest : (x w y v z : Text) → Run x w y → Run x v z → y ≡ z
one_rest x [] y [] z (e, s) (f, r) = sym e ∙ f
one_rest x [] y (d ∷ v) z (e, s) ((rest, l, ls), r) = absurd (s d rest (subst (λ u. Literal u d rest) e l))
one_rest x (c ∷ w) y [] z ((rest, l, ls), s) (f, r) = absurd (r c rest (subst (λ u. Literal u c rest) f l))
one_rest x (c ∷ w) y (d ∷ v) z ((rest, l, ls), s) ((more, k, ks), r) =
    let same = (same_literal x c rest d more l k).1 in
    one_rest more w y v z (subst (λ u. Literals u w y) same ls, s) (ks, r)

-- no literal begins so
pub stops_end : Stops []
stops_end c y (inl (e, h)) = cc
stops_end c y (inr (e, h)) = cc

pub stops_at : (d : ℕ) (x : Text) → is_bare d ≡ false → (d == 92) ≡ false → Stops (d ∷ x)
stops_at d x b e c y (inl (f, h)) = let no : false ≡ true = sym b ∙ ap (λ l. is_bare (get_or l 0 0)) f ∙ h in cc
stops_at d x b e c y (inr (f, h)) = let no : false ≡ true = sym e ∙ ap (λ l. get_or l 0 0 == 92) f in cc

bare_ascii : (w : Text) → list_all is_bare w ≡ true → IsAscii w
bare_ascii w h = literals_ascii (w ++ []) w [] (bare_literals w [] h)

-- a text that begins with characters that stand for themselves
pub bare_chars : (x w y : List ℕ) → list_all is_bare w ≡ true → x ≡ w ++ y → Literals (chars x) w (chars y)
bare_chars x w y h e =
    let ascii = bare_ascii w h in
    let same : chars x ≡ w ++ chars y =
    ap chars e ∙ chars-append w y (IsUtf8-from_ascii w ascii) ∙ ap (λ z. z ++ chars y) (chars-IsAscii w ascii) in
    subst (λ z. Literals z w (chars y)) (sym same) (bare_literals w (chars y) h)

-- one such character more
pub bare_more : (w x y z : List ℕ) (c : ℕ) → list_all is_bare w ≡ true → is_bare c ≡ true → x ≡ w ++ y → y ≡ encode_utf8 c ++ z →
    (list_all is_bare (w ++ c ∷ []) ≡ true) × (x ≡ (w ++ c ∷ []) ++ z)
bare_more w x y z c h g e f = (
  list_all-append is_bare w (c ∷ []) ∙ both (list_all is_bare w) (is_bare c && true) h (both (is_bare c) true g refl),
  e ∙ ap (λ u. w ++ u) (f ∙ ap (λ u. u ++ z) (encode_ascii c (bare_small c g))) ∙ sym (append_assoc w (c ∷ []) z),
)
  where
    both : (a b : Bool) → a ≡ true → b ≡ true → a && b ≡ true
    both true b p q = q
    both false b p q = cc

-- one literal more, whose character is appended
pub literals_more : (x w y : Text) (c : ℕ) (z : Text) → Literals x w y → Literal y c z → Literals x (w ++ c ∷ []) z
literals_more x w y c z l k = literals_append x w y (c ∷ []) z l (z, k, refl)

pub bytes_more : (old w : Text) (now later : List ℕ) (y : Text) (c : ℕ) (z : Text) → Literal y c z → now ≡ old ++ w →
    later ≡ now ++ encode_utf8 c → later ≡ old ++ (w ++ c ∷ [])
bytes_more old w now later y c z k e f =
    f ∙ ap (λ u. now ++ u) (encode_ascii c (literal_small y c z k)) ∙ ap (λ u. u ++ (c ∷ [])) e ∙ append_assoc old w (c ∷ [])

-- the characters of literals are their bytes
pub literal_chars : (x w y : Text) → Literals x w y → chars w ≡ w
literal_chars x w y l = chars-IsAscii w (literals_ascii x w y l)

pub match_none : {A P R : Type 0} (Q : A → Type 0) (o : Option A) → MatchOption o P Q → (P → R) → IfNone o R
match_none Q None p f = f p
match_none Q (Some a) q f = tt

-- literals to the end, or to a dollar sign
pub text_some : (body w rest tail : Text) → Run body w rest → rest ≡ tail → Literals body (chars w) tail
text_some body w rest tail (l, s) e =
    subst (λ u. Literals body u tail) (sym (literal_chars body w rest l)) (subst (λ z. Literals body w z) e l)

pub none_then : {A : Type 0} {P Q : Type 0} (o : Option A) → IfNone o P → (P → Q) → IfNone o Q
none_then None p f = f p
none_then (Some a) p f = tt

-- the text after `^` that has other literals than a prefix or an exact text has
pub text_none : (body w rest : Text) → Run body w rest → (rest ≡ [] → ⊥) → (rest ≡ 36 ∷ [] → ⊥) → (v : Text) →
    (IsAnalysis (94 ∷ body) (Analysis.prefix v) → ⊥) × (IsAnalysis (94 ∷ body) (Analysis.exact v) → ⊥)
text_none body w rest r n m v = (
  λ (y, e, l). n (one_rest body w rest v [] r (subst (λ u. Literals u v []) (sym (ap (drop 1) e)) l, stops_end)),
  λ (y, e, l). m (one_rest body w rest v (36 ∷ []) r (subst (λ u. Literals u v (36 ∷ [])) (sym (ap (drop 1) e)) l, stops_at 36 [] refl refl)),
)

-- a body that begins with a parenthesis is neither
pub group_none : (body y : Text) → body ≡ 40 ∷ y → (v : Text) →
    (IsAnalysis (94 ∷ body) (Analysis.prefix v) → ⊥) × (IsAnalysis (94 ∷ body) (Analysis.exact v) → ⊥)
group_none body y e =
    text_none body [] body (refl, subst Stops (sym e) (stops_at 40 y refl refl)) (λ h. let no : 40 ∷ y ≡ [] = sym e ∙ h in cc)
    (λ h. let no : true ≡ false = ap (λ l. get_or l 0 0 == 40) (sym e ∙ h) in cc)

-- a text is in none of the four forms
pub none_begun : (x : Text) → ((y : Text) → x ≡ 94 ∷ y → ⊥) → (a : Analysis) → IsAnalysis x a → ⊥
none_begun x n (Analysis.prefix w) (y, e, l) = n y e
none_begun x n (Analysis.exact w) (y, e, l) = n y e
none_begun x n (Analysis.alternation ws) (y, vs, e, l, p, s) = n (40 ∷ y) e
none_begun x n Analysis.no_whitespace e = n (92 ∷ 83 ∷ 42 ∷ 36 ∷ []) e

pub no_form : (x body : Text) → x ≡ 94 ∷ body → (x ≡ 94 ∷ 92 ∷ 83 ∷ 42 ∷ 36 ∷ [] → ⊥) →
    ((v : Text) → (IsAnalysis (94 ∷ body) (Analysis.prefix v) → ⊥) × (IsAnalysis (94 ∷ body) (Analysis.exact v) → ⊥)) →
    ((y : Text) (vs : List Text) → body ≡ 40 ∷ y → Alternatives y vs → ⊥) → (a : Analysis) → IsAnalysis x a → ⊥
no_form x body e n t g (Analysis.prefix w) h = (t w).0 (subst (λ u. IsAnalysis u (Analysis.prefix w)) e h)
no_form x body e n t g (Analysis.exact w) h = (t w).1 (subst (λ u. IsAnalysis u (Analysis.exact w)) e h)
no_form x body e n t g (Analysis.alternation ws) (y, vs, f, l, p, s) = g y vs (ap (drop 1) (sym e ∙ f)) l
no_form x body e n t g Analysis.no_whitespace h = n h

stops_space : Stops (92 ∷ 83 ∷ 42 ∷ 36 ∷ [])
stops_space c y (inl (d, h)) = let bad : false ≡ true = ap (λ l. is_bare (get_or l 0 0)) d ∙ h in cc
stops_space c y (inr (d, h)) = let bad : false ≡ true = ap (λ l. is_escaped (get_or l 1 0)) d ∙ h in cc

not_nil : (c : ℕ) (x : Text) → c ∷ x ≡ [] → ⊥
not_nil c x e = cc

-- an analysis of another form than a prefix rules a prefix out
pub prefix_alone : (x : Text) (a : Analysis) → IsAnalysis x a → ((w : Text) → a ≡ Analysis.prefix w → ⊥) → (v : Text) →
    IsAnalysis x (Analysis.prefix v) → ⊥
prefix_alone x (Analysis.prefix w) h n v g = n w refl
prefix_alone x (Analysis.exact w) (y, e, l) n v (z, f, k) =
    let same : y ≡ z = ap (drop 1) (sym e ∙ f) in
    not_nil 36 [] (one_rest y w (36 ∷ []) v [] (l, stops_at 36 [] refl refl) (subst (λ u. Literals u v []) (sym same) k, stops_end))
prefix_alone x (Analysis.alternation ws) (y, vs, e, l, p, s) n v g =
    (group_none (40 ∷ y) y refl v).0 (subst (λ u. IsAnalysis u (Analysis.prefix v)) e g)
prefix_alone x Analysis.no_whitespace e n v (z, f, k) =
    let same : 92 ∷ 83 ∷ 42 ∷ 36 ∷ [] ≡ z = ap (drop 1) (sym e ∙ f) in
    not_nil 92 (83 ∷ 42 ∷ 36 ∷ []) (one_rest z [] (92 ∷ 83 ∷ 42 ∷ 36 ∷ []) v [] (sym same, stops_space) (k, stops_end))
