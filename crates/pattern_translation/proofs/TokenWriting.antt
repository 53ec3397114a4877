-- The tokens of a pattern that are written one after another.
use Rattle.std.proofs.Common.{◌≡◌, ℕ, Bool, true, false, List, [], ◌∷◌, ◌++◌, Option, Some, None, refl, ap, sym, ◌∙◌, subst, append_assoc}
use Rattle.std.specs.Prelude.{◌==◌, ◌||◌, codes, if◌then◌else◌}
use Rattle.std.specs.Str.{chars, IsUtf8}
use Rattle.std.proofs.lemmas.Str.{encodes-append, encodes-chars}
use Rattle.std.proofs.lemmas.List.{append-nil}
use lib.Utf8.{encode, encodes}
use Rattle.pattern_model.specs.Text.{Text}
use Rattle.pattern_model.specs.Tree.{Leaf, Token, Tree, tokens_of}
use Rattle.pattern_model.specs.Tokens.{token_from, class_from, Reads}
use Rattle.pattern_model.specs.Grammar.{Grammar}
use Rattle.pattern_model.proofs.TokenTails.{token_tail}
use Rattle.pattern_tree.specs.Nodes.{IsHigh, IsRefused}
use Rattle.rust_pattern_model.specs.Refusals.{Refusal, refusal, has_look_around, has_back_reference, is_unsupported}
use Rattle.rust_pattern_model.specs.Translation.{WritesClass, WritesToken, token_written, Writes, Translates}
use Rattle.pattern_translation.specs.inner.Adding.{Adds, AddsToken, token_refers, refers_in}
use Rattle.pattern_translation.proofs.CopyLaws.{adds_both}
use Rattle.rust_pattern_model.proofs.Alone.{some_same}
use Rattle.rust_pattern_model.proofs.EscapeScan.{or_left, or_right}

-- the beginning of a group that has a name
pub name_added : (n old middle next new : List ℕ) → IsUtf8 n → middle ≡ old ++ codes "(?<" → next ≡ middle ++ n → new ≡ next ++ codes ">" →
    Adds old new (codes "(?<" ++ (chars n ++ codes ">"))
unfolding encode
name_added n old middle next new u e f g =
    adds_both old middle new (codes "(?<") (chars n ++ codes ">") e
    (adds_both middle next new (chars n) (codes ">") (f ∙ ap (λ z. middle ++ z) (sym (encodes-chars n u))) g)

-- a class
pub bracket_added : (c : ℕ) (x y : Text) (old new : List ℕ) → c ≡ 91 → ((t : Token) (z : Text) → class_from true x ≡ Some (t, z) →
    (w : Text) × (z ≡ y) × WritesClass x z w × Adds old new w) → AddsToken old new c x y
unfolding token_from
bracket_added c x y old new e f = subst (λ d. AddsToken old new d x y) (sym e) here
  where
    here : AddsToken old new 91 x y
    here p q = let (w, i, r, s) = f p.0 p.1 q in (w, i, subst (λ z. WritesClass x z w) i r, s)

-- another token
pub other_added : (c : ℕ) (x y text : Text) (t : Token) (old new : List ℕ) → c == 91 ≡ false → text ≡ c ∷ x →
    token_from true c x ≡ Some (t, y) → ((own : Text) → text ≡ own ++ y → Adds old new (token_written t text own)) → AddsToken old new c x y
other_added c x y text t old new e h r f p q =
    let j = some_same (t, y) p (sym r ∙ q) in
    let (front, s) = token_tail true c x y t r in
    let own : Text = c ∷ front in
    let k : c ∷ x ≡ own ++ y = ap (λ z. c ∷ z) s in (
      token_written t (c ∷ x) own,
      sym (ap (λ z. z.1) j),
      subst (λ b. WritesToken b p.0 c x y (token_written t (c ∷ x) own)) (sym e)
          (own, k, ap (λ z. token_written z.0 (c ∷ x) own) j),
      subst (λ z. Adds old new (token_written t z own)) h (f own (h ∙ k)),
    )

-- one token more
pub next_added : (x : Text) (c : ℕ) (after y : Text) (more : List Token) (w : Text) (old new : List ℕ) (P : Text → Type 0) →
    x ≡ c ∷ after → AddsToken old new c after y → Reads true x more → refers_in more ≡ false → old ≡ encodes w →
    ((u : Text) → Writes x more u → P (w ++ u)) →
    (m : List Token) × (v : Text) × Reads true y m × (refers_in m ≡ false) × (new ≡ encodes v) × ((u : Text) → Writes y m u → P (v ++ u))
next_added x c after y [] w old new P e f r n o k = cc
next_added x c after y (t ∷ ts) w old new P e f (d, a, rest, g, q, r) n o k =
    let s : d ∷ a ≡ c ∷ after = sym g ∙ e in
    let i : d ≡ c = cc in
    let j : a ≡ after = cc in
    let (v, l, m, b) = f (t, rest) (sym (ap (λ z. token_from true z after) i) ∙ (sym (ap (λ z. token_from true d z) j) ∙ q)) in (
      ts,
      w ++ v,
      subst (λ z. Reads true z ts) l r,
      or_right (token_refers t) (refers_in ts) n,
      b ∙ (ap (λ z. z ++ encodes v) o ∙ sym (encodes-append w v)),
      λ u h. subst P (sym (append_assoc w v u)) (k (v ++ u) (
        c,
        after,
        y,
        v,
        u,
        e,
        sym (ap (λ z. token_from true z after) i) ∙ (sym (ap (λ z. token_from true d z) j) ∙ (q ∙ ap (λ z. Some (t, z)) l)),
        m,
        h,
        refl,
      )),
    )

-- nothing is left
pub all_added : (x : Text) (more : List Token) (w : Text) (new : List ℕ) (P : Text → Type 0) → x ≡ [] → Reads true x more → new ≡ encodes w →
    ((u : Text) → Writes x more u → P (w ++ u)) → (v : Text) × P v × (new ≡ encodes v)
all_added x [] w new P e r n k = (w, subst P (append-nil w) (k [] (e, refl)), n)
all_added x (t ∷ ts) w new P e (d, a, rest, g, q, r) n k = cc

is_low : (t : Token) → IsHigh t → token_refers t ≡ false → ⊥
is_low (Token.leaf (Leaf.back_number n)) h e = cc
is_low (Token.leaf (Leaf.code c)) h e = h
is_low (Token.leaf Leaf.dot) h e = h
is_low (Token.leaf Leaf.start) h e = h
is_low (Token.leaf Leaf.end) h e = h
is_low (Token.leaf Leaf.boundary) h e = h
is_low (Token.leaf Leaf.not_boundary) h e = h
is_low (Token.leaf (Leaf.escape k)) h e = h
is_low (Token.leaf (Leaf.class b is)) h e = h
is_low (Token.leaf (Leaf.property b)) h e = h
is_low (Token.leaf (Leaf.back_name n)) h e = h
is_low (Token.opens m) h e = h
is_low Token.closes h e = h
is_low Token.bar h e = h
is_low (Token.times b) h e = h

-- a token is read where there is no back-reference
pub not_refused : (x : Text) (c : ℕ) (after : Text) (more : List Token) → x ≡ c ∷ after → Reads true x more → refers_in more ≡ false →
    IsRefused (token_from true c after) → ⊥
not_refused x c after [] e r n h = cc
not_refused x c after (t ∷ ts) e (d, a, rest, g, q, r) n h =
    let s : d ∷ a ≡ c ∷ after = sym g ∙ e in
    let i : d ≡ c = cc in
    let j : a ≡ after = cc in
    is_low t (subst IsRefused (sym (ap (λ z. token_from true z after) i) ∙ (sym (ap (λ z. token_from true d z) j) ∙ q)) h)
    (or_left (token_refers t) (refers_in ts) n)

both_free : (ts us : List Token) → refers_in ts ≡ false → refers_in us ≡ false → refers_in (ts ++ us) ≡ false
both_free [] us e f = f
both_free (t ∷ ts) us e f =
    ap (λ b. b || refers_in (ts ++ us)) (or_left (token_refers t) (refers_in ts) e) ∙ both_free ts us (or_right (token_refers t) (refers_in ts) e) f

-- a tree without back-references has no token that is one
pub no_reference : (t : Tree) → has_back_reference t ≡ false → refers_in (tokens_of t) ≡ false
no_reference Tree.empty e = refl
no_reference (Tree.leaf l) e = ap (λ b. b || false) e
no_reference (Tree.group m t) e = both_free (tokens_of t) (Token.closes ∷ []) (no_reference t e) refl
no_reference (Tree.repeat t b) e = both_free (tokens_of t) (Token.times b ∷ []) (no_reference t e) refl
no_reference (Tree.sequence l r) e =
    both_free (tokens_of l) (tokens_of r) (no_reference l (or_left (has_back_reference l) (has_back_reference r) e))
    (no_reference r (or_right (has_back_reference l) (has_back_reference r) e))
no_reference (Tree.either l r) e =
    both_free (tokens_of l) (Token.bar ∷ tokens_of r) (no_reference l (or_left (has_back_reference l) (has_back_reference r) e))
    (no_reference r (or_right (has_back_reference l) (has_back_reference r) e))

kept_by : (l b : Bool) (o : Option Refusal) → (if l then Some Refusal.look_around else if b then Some Refusal.back_reference else o) ≡ None →
    b ≡ false
kept_by true b o e = cc
kept_by false true o e = cc
kept_by false false o e = refl

-- a pattern that is not refused has no token that is a back-reference
pub kept_tokens : (x : Text) (t : Tree) → refusal x t ≡ None → refers_in (tokens_of t) ≡ false
kept_tokens x t e =
    no_reference t (kept_by (has_look_around t) (has_back_reference t) (if is_unsupported x t then Some Refusal.unsupported else None) e)

-- a pattern that is not refused is translated
pub translated : (x : Text) (t : Tree) (bytes : List ℕ) → Grammar true x t → refusal x t ≡ None → ((ts : List Token) → Reads true x ts →
    refers_in ts ≡ false → (w : Text) × Writes x ts w × (bytes ≡ encodes w)) → (w : Text) × Translates x w × (bytes ≡ encodes w)
translated x t bytes g k f =
    let (w, r, e) = f (tokens_of t) g.spells.reads (kept_tokens x t k) in (w, record { tree = t; grammar = g; kept = k; writes = r }, e)
