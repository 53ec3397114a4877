-- The atoms of a class: what is written for one, what stands at its front, and how Rust's grammar reads it.
use Rattle.std.proofs.Common.{◌≡◌, ℕ, Bool, true, false, not, ◌&&◌, [], ◌∷◌, ◌++◌, drop, Option, Some, None, option_map, refl, ap, sym, ◌∙◌, subst}
use Rattle.std.specs.Prelude.{if◌then◌else◌, ◌||◌, ◌==◌}
use Rattle.std.proofs.lemmas.Bool.{eqb-true, true≢false}
use Rattle.std.proofs.lemmas.List.{append_cancel_right}
use Rattle.pattern_model.specs.Text.{Text, is_at}
use Rattle.pattern_model.specs.Tree.{Escape}
use Rattle.pattern_model.specs.Escapes.{character_escape, class_escape}
use Rattle.pattern_model.specs.Properties.{past_property}
use Rattle.pattern_model.specs.Classes.{Atom, code_atom, property_atom, escape_or_code, escaped_atom, class_atom}
use Rattle.rust_pattern_model.specs.Refusals.{is_other_escape, has_other_escape}
use Rattle.rust_pattern_model.specs.Written.{is_escape, control_of, escape_written, code_written, gets_backslash, atom_written}
use Rattle.rust_pattern_model.specs.Translation.{WritesAtom}
use Rattle.rust_pattern_model.specs.RustClasses.{escape, atom}
use Rattle.rust_pattern_model.proofs.Shown.{is_quiet, Shown}
use Rattle.rust_pattern_model.proofs.Alone.{none_some, pair_same}
use Rattle.rust_pattern_model.proofs.EscapeReads.{escape_shown}
use Rattle.rust_pattern_model.proofs.EscapeScan.{or_left, or_right, past_other, escape_passed}

-- where one character stands, another does not
pub at_other : (c d : ℕ) (x : Text) → is_at c x ≡ true → c == d ≡ false → is_at d x ≡ false
at_other c d [] e f = refl
at_other c d (z ∷ x) e f = ap (λ w. w == d) (eqb-true z c e) ∙ f

abbrev pub quoted : Bool → ℕ → Text
quoted b c = if b then 92 ∷ (c ∷ []) else c ∷ []

-- An atom that stands for c, with which x begins and behind which y stands: a plain character, or an escape. w is written for it.
pub data Shows (before x : Text) (c : ℕ) (y w : Text) : Type 0 where
  plain : x ≡ c ∷ y → c == 92 ≡ false → c == 93 ≡ false → w ≡ quoted (gets_backslash before x y) c → Shows before x c y w
  escaped : is_at 92 x ≡ true → Shown c w → Shows before x c y w

pub shows_not_closed : {before x y w : Text} {c : ℕ} → Shows before x c y w → is_at 93 x ≡ false
shows_not_closed (Shows.plain e f g h) = ap (is_at 93) e ∙ g
shows_not_closed {x = x} (Shows.escaped e s) = at_other 92 93 x e refl

-- The character stands at no front but as itself, without a backslash.
abbrev pub Loud : ℕ → Type 0
Loud d = (92 == d ≡ false) × (is_quiet d ≡ false)

quiet_differs : (c d : ℕ) → is_quiet c ≡ true → is_quiet d ≡ false → c == d ≡ false
quiet_differs c d e f = go (c == d) refl
  where
    go : (b : Bool) → c == d ≡ b → b ≡ false
    go true h = absurd (true≢false (sym e ∙ (ap is_quiet (eqb-true c d h) ∙ f)))
    go false h = refl

shown_front : (d c : ℕ) (w rest : Text) → Loud d → Shown c w → is_at d (w ++ rest) ≡ false
shown_front d c w rest l (Shown.behind v e r) = ap (λ z. is_at d (z ++ rest)) e ∙ l.0
shown_front d c w rest l (Shown.itself e k) = ap (λ z. is_at d (z ++ rest)) e ∙ quiet_differs c d k l.1

-- a loud character that does not begin the atom without a backslash does not begin what is written for it
pub shows_front : (d : ℕ) → Loud d → {before x y w : Text} {c : ℕ} → Shows before x c y w →
    (gets_backslash before x y ≡ false → is_at d x ≡ false) → (rest : Text) → is_at d (w ++ rest) ≡ false
shows_front d l {before} {x} {y} {w} {c} (Shows.plain e f g h) n rest =
    ap (λ z. is_at d (z ++ rest)) h ∙ go (gets_backslash before x y) refl
  where
    go : (b : Bool) → gets_backslash before x y ≡ b → is_at d (quoted b c ++ rest) ≡ false
    go true k = l.0
    go false k = sym (ap (is_at d) e) ∙ n k
shows_front d l {before} {x} {y} {w} {c} (Shows.escaped e s) n rest = shown_front d c w rest l s

-- A character that gets a backslash is `[`, `&`, `~` or a hyphen.
quote_is : (P : ℕ → Type 0) → P 91 → P 38 → P 126 → P 45 → (c : ℕ) (k m n : Bool) →
    c == 91 || ((c == 38 && k) || ((c == 126 && m) || (c == 45 && n))) ≡ true → P c
quote_is P p q r s c k m n e = first (c == 91) refl e
  where
    last : (b : Bool) → c == 45 ≡ b → b && n ≡ true → P c
    last true f g = subst P (sym (eqb-true c 45 f)) s
    last false f g = cc

    third : (b : Bool) → c == 126 ≡ b → (b && m) || (c == 45 && n) ≡ true → P c
    third true f g = subst P (sym (eqb-true c 126 f)) r
    third false f g = last (c == 45) refl g

    second : (b : Bool) → c == 38 ≡ b → (b && k) || ((c == 126 && m) || (c == 45 && n)) ≡ true → P c
    second true f g = subst P (sym (eqb-true c 38 f)) q
    second false f g = third (c == 126) refl g

    first : (b : Bool) → c == 91 ≡ b → b || ((c == 38 && k) || ((c == 126 && m) || (c == 45 && n))) ≡ true → P c
    first true f g = subst P (sym (eqb-true c 91 f)) p
    first false f g = second (c == 38) refl g

quoted_read : (before y next rest : Text) (c : ℕ) → gets_backslash before (c ∷ y) next ≡ true → escape (c ∷ rest) ≡ Some (c, rest)
unfolding escape
quoted_read before y next rest c e =
    quote_is (λ z. escape (z ∷ rest) ≡ Some (z, rest)) refl refl refl refl c (is_at 38 before || is_at 38 next)
    (is_at 126 before || is_at 126 next) (is_at 45 before || (is_escape 45 before || is_at 45 next)) e

bare_read : (c : ℕ) (rest : Text) → c == 92 ≡ false → c == 91 ≡ false → c == 93 ≡ false → atom (c ∷ rest) ≡ Some (c, rest)
bare_read c rest a b d =
    ap (λ z. if z then escape rest else if c == 91 || c == 93 then None else Some (c, rest)) a
    ∙ ap (λ z. if z then None else Some (c, rest)) (ap (λ z. z || c == 93) b ∙ d)

shown_read : (c : ℕ) (w rest : Text) → Shown c w → atom (w ++ rest) ≡ Some (c, rest)
shown_read c w rest (Shown.behind v e r) = ap (λ z. atom (z ++ rest)) e ∙ r rest
shown_read c w rest (Shown.itself e k) =
    ap (λ z. atom (z ++ rest)) e ∙ bare_read c rest (quiet_differs c 92 k refl) (quiet_differs c 91 k refl) (quiet_differs c 93 k refl)

-- What is written for an atom is read as its code point, whatever follows.
pub shows_read : {before x y w : Text} {c : ℕ} → Shows before x c y w → (rest : Text) → atom (w ++ rest) ≡ Some (c, rest)
shows_read {before} {x} {y} {w} {c} (Shows.plain e f g h) rest =
    ap (λ z. atom (z ++ rest)) (h ∙ ap (λ z. quoted (gets_backslash before z y) c) e) ∙ go (gets_backslash before (c ∷ y) y) refl
  where
    go : (b : Bool) → gets_backslash before (c ∷ y) y ≡ b → atom (quoted b c ++ rest) ≡ Some (c, rest)
    go true k = quoted_read before y y rest c k
    go false k = bare_read c rest f (or_left (c == 91) _ k) g
shows_read {before} {x} {y} {w} {c} (Shows.escaped e s) rest = shown_read c w rest s

-- What an escape in a class is.
data Escaped (d : ℕ) (x : Text) (a : Atom) (y : Text) : Type 0 where
  backspace : d == 98 ≡ true → Escaped d x a y
  property : (negated : Bool) → a ≡ Atom.property negated → Escaped d x a y
  set : (e : Escape) → a ≡ Atom.escape e → x ≡ y → Escaped d x a y
  code : (c : ℕ) → a ≡ Atom.code c → character_escape d x ≡ Some (c, y) → Escaped d x a y

is_property : (d : ℕ) (x y : Text) (a : Atom) (negated : Bool) → property_atom negated x ≡ Some (a, y) → Escaped d x a y
is_property d x y a negated e = go (past_property x) e
  where
    go : (o : Option Text) → option_map {U = Atom × Text} (λ z. (Atom.property negated, z)) o ≡ Some (a, y) → Escaped d x a y
    go None f = absurd (none_some f)
    go (Some z) f = Escaped.property negated (sym (pair_same (Atom.property negated) a z y f).0)

is_set_or_code : (d : ℕ) (x y : Text) (a : Atom) (o : Option Escape) → escape_or_code d x o ≡ Some (a, y) → Escaped d x a y
is_set_or_code d x y a (Some k) e = let (f, g) = pair_same (Atom.escape k) a x y e in Escaped.set k (sym f) g
is_set_or_code d x y a None e = go (character_escape d x) refl e
  where
    go : (o : Option (ℕ × Text)) → character_escape d x ≡ o → option_map code_atom o ≡ Some (a, y) → Escaped d x a y
    go None g f = absurd (none_some f)
    go (Some p) g f = let (h, i) = pair_same (Atom.code p.0) a p.1 y f in Escaped.code p.0 (sym h) (g ∙ ap (λ z. Some (p.0, z)) i)

escaped_is : (d : ℕ) (x y : Text) (a : Atom) → escaped_atom (d ∷ x) ≡ Some (a, y) → Escaped d x a y
unfolding escaped_atom
escaped_is d x y a e = first (d == 98) refl e
  where
    third : (b : Bool) → (if b then property_atom true x else escape_or_code d x (class_escape d)) ≡ Some (a, y) → Escaped d x a y
    third true f = is_property d x y a true f
    third false f = is_set_or_code d x y a (class_escape d) f

    second : (b : Bool) → (if b then property_atom false x else if d == 80 then property_atom true x else escape_or_code d x (class_escape d))
        ≡ Some (a, y) → Escaped d x a y
    second true f = is_property d x y a false f
    second false f = third (d == 80) f

    first : (b : Bool) → d == 98 ≡ b → (if b then Some (Atom.code 8, x) else if d == 112 then property_atom false x
        else if d == 80 then property_atom true x else escape_or_code d x (class_escape d)) ≡ Some (a, y) → Escaped d x a y
    first true g f = Escaped.backspace g
    first false g f = second (d == 112) f

-- A plain character is written as itself, but for its backslash; an escape of a code point never gets another.
plain_written : (c : ℕ) (x own : Text) → c == 92 ≡ false → code_written (c ∷ x) own ≡ own
plain_written c x own e = ap (λ b. if b && is_at 99 x then control_of (drop 1 x) else if b && is_at 48 x then 92 ∷ (120 ∷ (48 ∷ (48 ∷ [])))
    else if b && is_at 60 x then 60 ∷ [] else if b && is_at 62 x then 62 ∷ [] else own) e

plain_atom : (before x y own w : Text) (c : ℕ) → c == 92 ≡ false → own ≡ c ∷ [] →
    w ≡ atom_written before (Atom.code c) (c ∷ x) own y → w ≡ quoted (gets_backslash before (c ∷ x) y) c
plain_atom before x y own w c e f g = g ∙ go (gets_backslash before (c ∷ x) y)
  where
    go : (b : Bool) → (if b then 92 ∷ own else code_written (c ∷ x) own) ≡ quoted b c
    go true = ap (λ z. 92 ∷ z) f
    go false = plain_written c x own e ∙ f

has_backspace : (d : ℕ) (x : Text) → d == 98 ≡ true → is_other_escape true (d ∷ x) ≡ false → ⊥
has_backspace d x e f = true≢false (ap (λ z. is_other_escape true (z ∷ x)) (sym (eqb-true d 98 e)) ∙ f)

code_same : (z c : ℕ) → Atom.code z ≡ Atom.code c → z ≡ c
code_same z c e = cc

plain_view : (before v y own w : Text) (z c : ℕ) → z == 92 ≡ false → z == 93 ≡ false →
    ◌≡◌ {A = Option (Atom × Text)} (Some (Atom.code z, v)) (Some (Atom.code c, y)) → z ∷ v ≡ own ++ y →
    w ≡ atom_written before (Atom.code c) (z ∷ v) own y → has_other_escape true (z ∷ v) ≡ false →
    Shows before (z ∷ v) c y w × (has_other_escape true y ≡ false)
plain_view before v y own w z c e f r s i n =
    let (a, g) = pair_same (Atom.code z) (Atom.code c) v y r in
    let h : z ≡ c = code_same z c a in
    let k : own ≡ z ∷ [] = append_cancel_right own (z ∷ []) y (sym s ∙ ap (λ u. z ∷ u) g) in
    let w_is : w ≡ quoted (gets_backslash before (z ∷ v) y) z = plain_atom before v y own w z e k i in (
      subst (λ u. Shows before (z ∷ v) u y w) h (Shows.plain (ap (λ u. z ∷ u) g) e f w_is),
      ap (λ b. has_other_escape (not b) y) (sym f) ∙ (past_other true z y (z ∷ v) (ap (λ u. z ∷ u) g) e ∙ n),
    )

escape_view : (before v y own w : Text) (d c : ℕ) → escaped_atom (d ∷ v) ≡ Some (Atom.code c, y) → 92 ∷ (d ∷ v) ≡ own ++ y →
    w ≡ code_written (92 ∷ (d ∷ v)) own → has_other_escape true (92 ∷ (d ∷ v)) ≡ false →
    Shows before (92 ∷ (d ∷ v)) c y w × (has_other_escape true y ≡ false)
escape_view before v y own w d c r s i n = go (escaped_is d v y (Atom.code c) r)
  where
    go : Escaped d v (Atom.code c) y → Shows before (92 ∷ (d ∷ v)) c y w × (has_other_escape true y ≡ false)
    go (Escaped.backspace e) = absurd (has_backspace d v e (or_left (is_other_escape true (d ∷ v)) (has_other_escape true v) n))
    go (Escaped.property b e) = cc
    go (Escaped.set k e f) = cc
    go (Escaped.code m e f) =
        let g : character_escape d v ≡ Some (c, y) = f ∙ ap (λ u. Some (u, y)) (sym (code_same c m e)) in
        let (h, k) = escape_passed true d c v y g n in
        (Shows.escaped refl (subst (Shown c) (sym i) (escape_shown true d c v y own g s h)), k)

-- An atom that is a code point, and what follows it has no escape that is refused.
pub code_view : (before x y w : Text) (c : ℕ) → WritesAtom before x (Atom.code c) y w → has_other_escape true x ≡ false →
    is_at 93 x ≡ false → Shows before x c y w × (has_other_escape true y ≡ false)
unfolding class_atom escaped_atom
code_view before [] y w c a n o = absurd (none_some a.read)
code_view before (z ∷ v) y w c a n o = go (z == 92) refl a.read
  where
    by_escape : (v : Text) → escaped_atom v ≡ Some (Atom.code c, y) → 92 ∷ v ≡ a.own ++ y → w ≡ code_written (92 ∷ v) a.own →
        has_other_escape true (92 ∷ v) ≡ false → Shows before (92 ∷ v) c y w × (has_other_escape true y ≡ false)
    by_escape [] r s i n = absurd (none_some r)
    by_escape (d ∷ v) r s i n = escape_view before v y a.own w d c r s i n

    go : (b : Bool) → z == 92 ≡ b → (if b then escaped_atom v else Some (Atom.code z, v)) ≡ Some (Atom.code c, y) →
        Shows before (z ∷ v) c y w × (has_other_escape true y ≡ false)
    go false e r = plain_view before v y a.own w z c e o r a.stands a.is n
    go true e r =
        let f : 92 ≡ z = sym (eqb-true z 92 e) in
        subst (λ u. u ∷ v ≡ a.own ++ y → w ≡ atom_written before (Atom.code c) (u ∷ v) a.own y → has_other_escape true (u ∷ v) ≡ false →
        Shows before (u ∷ v) c y w × (has_other_escape true y ≡ false)) f (λ s i n. by_escape v r s i n) a.stands a.is n

set_same : (e k : Escape) → Atom.escape e ≡ Atom.escape k → e ≡ k
set_same e k f = cc

-- An atom that is a class escape.
pub record Set (x : Text) (e : Escape) (y w : Text) : Type 0 where
  pub begins : is_at 92 x ≡ true
  pub written : w ≡ escape_written e
  pub passed : has_other_escape true y ≡ false

pub set_view : (before x y w : Text) (e : Escape) → WritesAtom before x (Atom.escape e) y w → has_other_escape true x ≡ false → Set x e y w
unfolding class_atom escaped_atom
set_view before [] y w e a n = absurd (none_some a.read)
set_view before (z ∷ v) y w e a n = go (z == 92) refl a.read
  where
    by_escape : (v : Text) → escaped_atom v ≡ Some (Atom.escape e, y) → has_other_escape true (92 ∷ v) ≡ false → has_other_escape true y ≡ false
    by_escape [] r n = absurd (none_some r)
    by_escape (d ∷ v) r n = at (escaped_is d v y (Atom.escape e) r)
      where
        at : Escaped d v (Atom.escape e) y → has_other_escape true y ≡ false
        at (Escaped.backspace f) = absurd (has_backspace d v f (or_left (is_other_escape true (d ∷ v)) (has_other_escape true v) n))
        at (Escaped.property b f) = cc
        at (Escaped.set k f g) = sym (ap (has_other_escape true) g) ∙ or_right (is_other_escape true (d ∷ v)) (has_other_escape true v) n
        at (Escaped.code m f g) = cc

    go : (b : Bool) → z == 92 ≡ b → (if b then escaped_atom v else Some (Atom.code z, v)) ≡ Some (Atom.escape e, y) → Set (z ∷ v) e y w
    go false f r = let (g, h) = pair_same (Atom.code z) (Atom.escape e) v y r in cc
    go true f r = record {
      begins = f;
      written = a.is;
      passed = by_escape v r (ap (λ u. has_other_escape true (u ∷ v)) (sym (eqb-true z 92 f)) ∙ n);
    }
