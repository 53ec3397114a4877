-- Whether a text is a pattern is decided, and so is which analysis it has, if any.
use Rattle.std.proofs.Common.{◌≡◌, ℕ, zero, suc, ◌+◌, ◌<◌, ◌≤◌, Bool, true, false, List, [], ◌∷◌, ◌++◌, length, get_or, drop, Option, Some, None, refl, ap, sym, ◌∙◌, subst, arith, inl, inr, ◌⊎◌, length-append}
use Rattle.std.specs.Prelude.{◌==◌, ◌&&◌, nat_eq}
use Rattle.std.specs.Cmp.Lexicographic.{bytes_decides, pointwise}
use Rattle.std.proofs.lemmas.Bool.{eqb-true, eq-eqb, false≢true}
use Rattle.std.proofs.lemmas.Option.{some_pair_parts}
use Rattle.pattern_model.specs.Text.{Text}
use Rattle.pattern_model.specs.Tree.{Tree, Token, tokens_of}
use Rattle.pattern_model.specs.Tokens.{token_from, Reads, Spells}
use Rattle.pattern_model.specs.SharedNames.{names, apart}
use Rattle.pattern_model.specs.BackReferences.{captures, numbers, references, in_number, in_names}
use Rattle.pattern_model.specs.Grammar.{Grammar}
use Rattle.pattern_model.specs.Literals.{is_bare, is_escaped, Literal, Literals, Alternatives, Analysis, IsAnalysis}
use Rattle.pattern_model.proofs.TokenTails.{token_tail}
use Rattle.pattern_tree.specs.Machine.{tree_of_tokens}
use Rattle.pattern_tree.proofs.Complete.{tree_again}
use Rattle.pattern_tree.proofs.Sound.{tree_shaped}
use Rattle.pattern_tree.proofs.Leads.{one_spelled, same_tokens}
use Rattle.literal_patterns.specs.inner.Runs.{Stops, Run}
use Rattle.literal_patterns.proofs.RunLaws.{stops_end, none_begun, no_form, group_none, text_none}
use Rattle.literal_patterns.proofs.AlternativeLaws.{alternative_on, alternative_back, alternative_last, alternative_none}
use Rattle.literal_patterns.proofs.SortLaws.{sorted_exists}

abbrev pub Decided : Type 0 → Type 0
Decided P = P ⊎ (P → ⊥)

-- a text is one given text
pub decided_text : (x y : Text) → Decided (x ≡ y)
decided_text x y = go (pointwise nat_eq x y) (bytes_decides x y).0 (bytes_decides x y).1
  where
    go : (b : Bool) → (b ≡ true → x ≡ y) → (x ≡ y → b ≡ true) → Decided (x ≡ y)
    go true f g = inl (f refl)
    go false f g = inr (λ e. false≢true (g e))

-- a text begins with a character
decided_first : (c : ℕ) (x : Text) → Decided ((y : Text) × (x ≡ c ∷ y))
decided_first c [] = inr (λ (y, e). let no : ◌≡◌ {A = Text} [] (c ∷ y) = e in cc)
decided_first c (d ∷ x) = go (d == c) refl
  where
    go : (b : Bool) → (d == c) ≡ b → Decided ((y : Text) × (d ∷ x ≡ c ∷ y))
    go true e = inl (x, ap (λ z. z ∷ x) (eqb-true d c e))
    go false e = inr (λ (y, f). false≢true (sym e ∙ ap (λ z. get_or z 0 0 == c) f ∙ eq-eqb c c refl))

-- ---- the grammar

-- the first token of a text, and what follows it
first_of : (c : ℕ) (x : Text) (ts : List Token) → Reads false (c ∷ x) ts →
    (t : Token) × (rest : Text) × (us : List Token) × (token_from false c x ≡ Some (t, rest)) × Reads false rest us
first_of c x [] e = let no : ◌≡◌ {A = Text} (c ∷ x) [] = e in cc
first_of c x (t ∷ ts) (d, after, rest, e, f, r) =
    let head : d ≡ c = sym (ap (λ z. get_or z 0 0) e) in
    let tail : after ≡ x = sym (ap (drop 1) e) in
    (t, rest, ts, subst (λ z. token_from false c z ≡ Some (t, rest)) tail (subst (λ z. token_from false z after ≡ Some (t, rest)) head f), r)

-- what follows a token is shorter
after_token : (c : ℕ) (x rest : Text) (t : Token) → token_from false c x ≡ Some (t, rest) → length rest ≤ length x
after_token c x rest t e =
    let (front, is) = token_tail false c x rest t e in omega (arith, ap length is, length-append front rest)

decided_reads : (n : ℕ) (x : Text) → length x < n → Decided ((ts : List Token) × Reads false x ts)
decided_reads zero x l = absurd (omega (arith, l))
decided_reads (suc n) [] l = inl ([], refl)
decided_reads (suc n) (c ∷ x) l = go (token_from false c x) refl (decided_reads n)
  where
    go : (o : Option (Token × Text)) → token_from false c x ≡ o →
        ((y : Text) → length y < n → Decided ((ts : List Token) × Reads false y ts)) → Decided ((ts : List Token) × Reads false (c ∷ x) ts)
    go None e more = inr (λ (ts, r).
        let (t, rest, us, f, q) = first_of c x ts r in let no : ◌≡◌ {A = Option (Token × Text)} None (Some (t, rest)) = sym e ∙ f in cc)
    go (Some p) e more = elim (more p.1 (let short = after_token c x p.1 p.0 e in
        let long : suc (length x) < suc n = l in omega (arith, short, long))) [
          | inl (ts, r) ↦ inl (p.0 ∷ ts, (c, x, p.1, refl, e, r))
          | inr none ↦ inr (λ (ts, r).
              let (t, rest, us, f, q) = first_of c x ts r in
              let same = some_pair_parts t p.0 rest p.1 (sym f ∙ e) in
              none (us, subst (λ z. Reads false z us) same.1 q))
        ]

three_true : (a b c : Bool) → a && (b && c) ≡ true → (a ≡ true) × ((b ≡ true) × (c ≡ true))
three_true true true c e = (refl, (refl, e))
three_true true false c e = cc
three_true false b c e = cc

true_three : (a b c : Bool) → a ≡ true → b ≡ true → c ≡ true → a && (b && c) ≡ true
true_three true true c h g e = e
true_three true false c h g e = cc
true_three false b c h g e = cc

-- the three tests of a tree's names and numbers
abbrev passes : Tree → Bool
passes t = apart t && (in_names (names t) (references t) && in_number (captures t) (numbers t))

-- a text is a pattern of the ECMA grammar, or it has no tree
pub decided_grammar : (x : Text) → Decided ((t : Tree) × Grammar false x t)
decided_grammar x = elim (decided_reads (suc (length x)) x (omega arith)) [
  | inr none ↦ inr (λ (t, g). none (tokens_of t, g.spells.reads))
  | inl (ts, r) ↦ of_tokens ts r (tree_of_tokens ts) refl
]
  where
    tests : (t : Tree) → Spells false x t → (b : Bool) → passes t ≡ b → Decided ((t : Tree) × Grammar false x t)
    tests t s true e =
        let (a, (n, m)) = three_true (apart t) (in_names (names t) (references t)) (in_number (captures t) (numbers t)) e in
        inl (t, record { spells = s; apart = a; named = n; numbered = m })
    tests t s false e = inr (λ (u, g).
        let same : u ≡ t = one_spelled false x u t g.spells s in
        let all : passes u ≡ true =
        true_three (apart u) (in_names (names u) (references u)) (in_number (captures u) (numbers u)) g.apart g.named g.numbered in
        false≢true (sym e ∙ subst (λ z. passes z ≡ true) same all))

    of_tokens : (ts : List Token) → Reads false x ts → (o : Option Tree) → tree_of_tokens ts ≡ o → Decided ((t : Tree) × Grammar false x t)
    of_tokens ts r None e = inr (λ (t, g).
        let same : tokens_of t ≡ ts = same_tokens false (tokens_of t) ts x g.spells.reads r in
        let again : tree_of_tokens ts ≡ Some t = subst (λ z. tree_of_tokens z ≡ Some t) same (tree_again t g.spells.fits) in
        let no : ◌≡◌ {A = Option Tree} None (Some t) = sym e ∙ again in cc)
    of_tokens ts r (Some t) e =
        let shaped = tree_shaped ts t e in
        tests t (record { fits = shaped.fits; reads = subst (Reads false x) (sym shaped.tokens) r }) (passes t) refl

-- ---- literals

decided_literal : (x : Text) → ((c : ℕ) × (y : Text) × Literal x c y) ⊎ Stops x
decided_literal [] = inr stops_end
decided_literal (c ∷ x) = go (is_bare c) refl
  where
    head : (d e : ℕ) (y z : Text) → ◌≡◌ {A = Text} (d ∷ y) (e ∷ z) → d ≡ e
    head d e y z f = ap (λ u. get_or u 0 0) f

    second : (d e : ℕ) (y z : Text) → ◌≡◌ {A = Text} (92 ∷ d ∷ y) (92 ∷ e ∷ z) → d ≡ e
    second d e y z f = ap (λ u. get_or u 1 0) f

    no_backslash : is_bare c ≡ false → (c == 92) ≡ false → Stops (c ∷ x)
    no_backslash b n d y (inl (e, h)) = false≢true (sym b ∙ ap is_bare (head c d x y e) ∙ h)
    no_backslash b n d y (inr (e, h)) = false≢true (sym n ∙ ap (λ z. z == 92) (head c 92 x (d ∷ y) e))

    no_escape : (d : ℕ) (z : Text) → is_bare c ≡ false → x ≡ d ∷ z → is_escaped d ≡ false → Stops (c ∷ x)
    no_escape d z b s n e y (inl (f, h)) = false≢true (sym b ∙ ap is_bare (head c e x y f) ∙ h)
    no_escape d z b s n e y (inr (f, h)) =
        false≢true (sym n ∙ ap is_escaped (ap (λ u. get_or u 0 0) (sym s ∙ ap (drop 1) f)) ∙ h)

    alone : is_bare c ≡ false → x ≡ [] → Stops (c ∷ x)
    alone b s e y (inl (f, h)) = false≢true (sym b ∙ ap is_bare (head c e x y f) ∙ h)
    alone b s e y (inr (f, h)) = let no : ◌≡◌ {A = Text} [] (e ∷ y) = sym s ∙ ap (drop 1) f in cc

    after : is_bare c ≡ false → c ≡ 92 → (z : Text) → x ≡ z → ((d : ℕ) × (y : Text) × Literal (c ∷ x) d y) ⊎ Stops (c ∷ x)
    after b e [] s = inr (alone b s)
    after b e (d ∷ z) s = read (is_escaped d) refl
      where
        read : (p : Bool) → is_escaped d ≡ p → ((d : ℕ) × (y : Text) × Literal (c ∷ x) d y) ⊎ Stops (c ∷ x)
        read true h = inl (d, z, inr (ap (λ u. u ∷ x) e ∙ ap (λ u. 92 ∷ u) s, h))
        read false h = inr (no_escape d z b s h)

    slash : is_bare c ≡ false → (p : Bool) → (c == 92) ≡ p → ((d : ℕ) × (y : Text) × Literal (c ∷ x) d y) ⊎ Stops (c ∷ x)
    slash b true e = after b (eqb-true c 92 e) x refl
    slash b false e = inr (no_backslash b e)

    go : (p : Bool) → is_bare c ≡ p → ((d : ℕ) × (y : Text) × Literal (c ∷ x) d y) ⊎ Stops (c ∷ x)
    go true h = inl (c, x, inl (refl, h))
    go false h = slash h (c == 92) refl

-- what follows a literal is shorter
after_literal : (x : Text) (c : ℕ) (y : Text) → Literal x c y → length y < length x
after_literal x c y (inl (e, h)) = omega (arith, ap length e)
after_literal x c y (inr (e, h)) = omega (arith, ap length e)

-- all the literals that a text begins with
some_run : (n : ℕ) (x : Text) → length x < n → (w : Text) × (y : Text) × Run x w y
some_run zero x l = absurd (omega (arith, l))
some_run (suc n) x l = elim (decided_literal x) [
  | inl (c, y, k) ↦
      let (w, z, r) = some_run n y (let short = after_literal x c y k in omega (arith, short, l)) in (c ∷ w, z, ((y, k, r.0), r.1))
  | inr stops ↦ ([], x, (refl, stops))
]

run_of : (x : Text) → (w : Text) × (y : Text) × Run x w y
run_of x = some_run (suc (length x)) x (omega arith)

after_run : (x w y : Text) → Literals x w y → length y ≤ length x
after_run x [] y e = omega (arith, ap length e)
after_run x (c ∷ w) y (rest, l, ls) =
    let short = after_literal x c rest l in let more = after_run rest w y ls in omega (arith, short, more)

decided_alternatives : (n : ℕ) (x : Text) → length x < n → Decided ((us : List Text) × Alternatives x us)
decided_alternatives zero x l = absurd (omega (arith, l))
decided_alternatives (suc n) x l = go (run_of x) (decided_alternatives n)
  where
    last : (w y : Text) → Run x w y → ((more : Text) → y ≡ 124 ∷ more → ⊥) → Decided ((us : List Text) × Alternatives x us)
    last w y r nowhere = elim (decided_text y (41 ∷ 36 ∷ [])) [
      | inl e ↦ inl (w ∷ [], alternative_last x w y r.0 e)
      | inr n ↦ inr (λ (us, a). alternative_none x w y us r nowhere n a)
    ]

    on : (w y more : Text) → Run x w y → y ≡ 124 ∷ more → Decided ((us : List Text) × Alternatives more us) →
        Decided ((us : List Text) × Alternatives x us)
    on w y more r e (inl (us, a)) = inl (w ∷ us, alternative_on x w y more us r.0 e a)
    on w y more r e (inr none) = inr (λ (us, a). none (alternative_back x w y more us r e a))

    go : (w : Text) × (y : Text) × Run x w y → ((z : Text) → length z < n → Decided ((us : List Text) × Alternatives z us)) →
        Decided ((us : List Text) × Alternatives x us)
    go (w, y, r) others = elim (decided_first 124 y) [
      | inl (more, e) ↦ on w y more r e (others more (let short = after_run x w y r.0 in
          let shorter : length y ≡ suc (length more) = ap length e in omega (arith, short, shorter, l)))
      | inr nowhere ↦ last w y r (λ more e. nowhere (more, e))
    ]

-- a text is a literal pattern, or it has no analysis
pub decided_analysis : (x : Text) → Decided ((a : Analysis) × IsAnalysis x a)
decided_analysis x = elim (decided_text x (94 ∷ 92 ∷ 83 ∷ 42 ∷ 36 ∷ [])) [
  | inl e ↦ inl (Analysis.no_whitespace, e)
  | inr n ↦ begun n (decided_first 94 x)
]
  where
    text : (x ≡ 94 ∷ 92 ∷ 83 ∷ 42 ∷ 36 ∷ [] → ⊥) → (body : Text) → x ≡ 94 ∷ body → ((y : Text) × (body ≡ 40 ∷ y) → ⊥) →
        (w : Text) × (y : Text) × Run body w y → Decided ((a : Analysis) × IsAnalysis x a)
    text n body e g (w, y, r) = elim (decided_text y []) [
      | inl h ↦ inl (Analysis.prefix w, (body, e, subst (λ z. Literals body w z) h r.0))
      | inr p ↦ elim (decided_text y (36 ∷ [])) [
        | inl h ↦ inl (Analysis.exact w, (body, e, subst (λ z. Literals body w z) h r.0))
        | inr q ↦ inr (λ (a, h). no_form x body e n (text_none body w y r p q) (λ z vs f k. g (z, f)) a h)
      ]
    ]

    group : (x ≡ 94 ∷ 92 ∷ 83 ∷ 42 ∷ 36 ∷ [] → ⊥) → (body y : Text) → x ≡ 94 ∷ body → body ≡ 40 ∷ y →
        Decided ((us : List Text) × Alternatives y us) → Decided ((a : Analysis) × IsAnalysis x a)
    group n body y e f (inl (us, a)) =
        let s = sorted_exists us in
        inl (Analysis.alternation s.texts, (y, us, e ∙ ap (λ z. 94 ∷ z) f, a, s.permutes, s.sorted))
    group n body y e f (inr none) = inr (λ (a, h).
        no_form x body e n (group_none body y f)
        (λ z vs k l. none (vs, subst (λ u. Alternatives u vs) (ap (drop 1) (sym k ∙ f)) l)) a h)

    body_of : (x ≡ 94 ∷ 92 ∷ 83 ∷ 42 ∷ 36 ∷ [] → ⊥) → (body : Text) → x ≡ 94 ∷ body → Decided ((y : Text) × (body ≡ 40 ∷ y)) →
        Decided ((a : Analysis) × IsAnalysis x a)
    body_of n body e (inl (y, f)) = group n body y e f (decided_alternatives (suc (length y)) y (omega arith))
    body_of n body e (inr g) = text n body e g (run_of body)

    begun : (x ≡ 94 ∷ 92 ∷ 83 ∷ 42 ∷ 36 ∷ [] → ⊥) → Decided ((y : Text) × (x ≡ 94 ∷ y)) → Decided ((a : Analysis) × IsAnalysis x a)
    begun n (inl (body, e)) = body_of n body e (decided_first 40 body)
    begun n (inr other) = inr (λ (a, h). none_begun x (λ y e. other (y, e)) a h)
