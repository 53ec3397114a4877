-- How Rust's grammar reads what is written for the items of a class.
use Rattle.std.proofs.Common.{◌≡◌, ℕ, Bool, true, false, not, ◌&&◌, List, [], ◌∷◌, ◌++◌, drop, refl, ap, sym, ◌∙◌, subst}
use Rattle.std.specs.Prelude.{◌||◌, ◌==◌}
use Rattle.std.specs.List.{list_any}
use Rattle.std.proofs.lemmas.Bool.{eqb-true, true≢false, not-false}
use Rattle.pattern_model.specs.Text.{Text, is_at}
use Rattle.pattern_model.specs.Tree.{Item, Leaf}
use Rattle.pattern_model.specs.Members.{is_within, escape_has, item_has, class_has}
use Rattle.pattern_model.specs.Classes.{makes_range}
use Rattle.rust_pattern_model.specs.Refusals.{is_empty_class}
use Rattle.rust_pattern_model.specs.Written.{is_escape, escape_written, gets_backslash}
use Rattle.rust_pattern_model.specs.RustClasses.{Items, some_has, rust_class_has, is_doubled, is_operation, has_range, BeginsItem, NotEmpty, ReadsItems}
use Rattle.rust_pattern_model.proofs.ClassAtoms.{at_other, quoted, Shows, Loud, shows_not_closed, shows_front, shows_read}
use Rattle.rust_pattern_model.proofs.EscapeSets.{is_capital, items_of, set_has, begins_item, escape_read, escape_front}
use Rattle.rust_pattern_model.proofs.ClassRows.{Row, row_written}

at_front : (c : ℕ) (P : Text → Type 0) (x : Text) → is_at c x ≡ true → ((y : Text) → P (c ∷ y)) → P x
at_front c P [] e h = cc
at_front c P (d ∷ y) e h = subst (λ z. P (z ∷ y)) (sym (eqb-true d c e)) (h y)

-- where a character would get a backslash, it does not stand without one
not_bare : (d : ℕ) (before x next : Text) → (is_at d x ≡ true → gets_backslash before x next ≡ true) → gets_backslash before x next ≡ false →
    is_at d x ≡ false
not_bare d before x next h g = go (is_at d x) refl
  where
    go : (b : Bool) → is_at d x ≡ b → b ≡ false
    go true e = absurd (true≢false (sym (h e) ∙ g))
    go false e = refl

-- a hyphen gets a backslash before a hyphen
or_third : (a b c : Bool) → c ≡ true → a || (b || c) ≡ true
or_third true b c e = refl
or_third false true c e = refl
or_third false false c e = e

before_hyphen : (before x next : Text) → is_at 45 next ≡ true → is_at 45 x ≡ true → gets_backslash before x next ≡ true
before_hyphen before x next e f =
    at_front 45 (λ z. gets_backslash before z next ≡ true) x f (λ y. or_third (is_at 45 before) (is_escape 45 before) (is_at 45 next) e)

-- A character that gets a backslash beside itself.
record Doubles (c : ℕ) : Type 0 where
  pub loud : Loud c
  pub no_open : 91 == c ≡ false
  pub no_close : 93 == c ≡ false
  pub behind : (before x next : Text) → is_at c before ≡ true → is_at c x ≡ true → gets_backslash before x next ≡ true
  pub at_hyphen : (before x next : Text) → is_at 45 next ≡ true → is_at c x ≡ true → gets_backslash before x next ≡ false → 45 == c ≡ false

and_doubles : Doubles 38
and_doubles = record {
  loud = (refl, refl);
  no_open = refl;
  no_close = refl;
  behind = λ before x next e f. at_front 38 (λ z. gets_backslash before z next ≡ true) x f (λ y. ap (λ z. (z || is_at 38 next) || false) e);
  at_hyphen = λ before x next e f g. refl;
}

tilde_doubles : Doubles 126
tilde_doubles = record {
  loud = (refl, refl);
  no_open = refl;
  no_close = refl;
  behind = λ before x next e f. at_front 126 (λ z. gets_backslash before z next ≡ true) x f (λ y. ap (λ z. (z || is_at 126 next) || false) e);
  at_hyphen = λ before x next e f g. refl;
}

hyphen_doubles : Doubles 45
hyphen_doubles = record {
  loud = (refl, refl);
  no_open = refl;
  no_close = refl;
  behind = λ before x next e f.
      at_front 45 (λ z. gets_backslash before z next ≡ true) x f (λ y. ap (λ z. z || (is_escape 45 before || is_at 45 next)) e);
  at_hyphen = λ before x next e f g. absurd (true≢false (sym (before_hyphen before x next e f) ∙ g));
}

-- the front of what is written for a row
row_front : (d : ℕ) → Loud d → 91 == d ≡ false → 93 == d ≡ false → {before x : Text} {items : List Item} (r : Row before x items) →
    ((next : Text) → gets_backslash before x next ≡ false → is_at d x ≡ false) → (rest : Text) → is_at d (row_written r rest) ≡ false
row_front d l o c (Row.closes e) n rest = c
row_front d l o c (Row.one {y = y} s m r) n rest = shows_front d l s (n y) (row_written r rest)
row_front d l o c (Row.range {z = z} {w = w} s h t k r) n rest = shows_front d l s (n z) (45 ∷ (w ++ row_written r rest))
row_front d l o c (Row.set {e = e} b r) n rest = escape_front d e (row_written r rest) o

behind_front : (c : ℕ) → Doubles c → {before x : Text} {items : List Item} (r : Row before x items) → is_at c before ≡ true → (rest : Text) →
    is_at c (row_written r rest) ≡ false
behind_front c h {before} {x} r e rest =
    row_front c h.loud h.no_open h.no_close r (λ next. not_bare c before x next (h.behind before x next e)) rest

-- no operation: no character that makes one stands twice
not_twice : (c : ℕ) (y : Text) → is_at c y ≡ false → is_doubled c y ≡ false
not_twice c y e = ap (λ z. z && is_at c (drop 1 y)) e

twice_atom : (c : ℕ) → Loud c → {before x y w : Text} {k : ℕ} → Shows before x k y w → (rest : Text) →
    (gets_backslash before x y ≡ false → is_at c x ≡ true → is_at c rest ≡ false) → is_doubled c (w ++ rest) ≡ false
twice_atom c l {before} {x} {y} {w} (Shows.escaped e s) rest n =
    not_twice c (w ++ rest) (shows_front c l {before = before} {x = x} {y = y} (Shows.escaped e s) (λ g. at_other 92 c x e l.0) rest)
twice_atom c l {before} {x} {y} {w} {k} (Shows.plain e f g h) rest n =
    ap (λ z. is_doubled c (z ++ rest)) h ∙ go (gets_backslash before x y) refl
  where
    same : (b : Bool) → k == c ≡ b → gets_backslash before x y ≡ false → b && is_at c rest ≡ false
    same false i q = refl
    same true i q = n q (ap (is_at c) e ∙ i)

    go : (b : Bool) → gets_backslash before x y ≡ b → is_doubled c (quoted b k ++ rest) ≡ false
    go true q = ap (λ z. z && is_at c (k ∷ rest)) l.0
    go false q = same (k == c) refl q

no_twice : (c : ℕ) → Doubles c → {before x : Text} {items : List Item} (r : Row before x items) (rest : Text) →
    is_doubled c (row_written r rest) ≡ false
no_twice c h (Row.closes e) rest = not_twice c (93 ∷ rest) h.no_close
no_twice c h (Row.one s m r) rest = twice_atom c h.loud s (row_written r rest) (λ g f. behind_front c h r f rest)
no_twice c h {before} {x} (Row.range {z = z} {w = w} s k t l r) rest =
    twice_atom c h.loud s (45 ∷ (w ++ row_written r rest)) (λ g f. h.at_hyphen before x z k f g)
no_twice c h (Row.set {e = e} b r) rest = not_twice c (escape_written e ++ row_written r rest) (escape_front c e (row_written r rest) h.no_open)

no_operation : {before x : Text} {items : List Item} (r : Row before x items) (rest : Text) → is_operation (row_written r rest) ≡ false
no_operation r rest =
    let y : Text = row_written r rest in
    ap (λ z. z || (is_doubled 45 y || is_doubled 126 y)) (no_twice 38 and_doubles r rest)
    ∙ (ap (λ z. z || is_doubled 126 y) (no_twice 45 hyphen_doubles r rest) ∙ no_twice 126 tilde_doubles r rest)

-- no range begins where none begins in the source
no_range_front : (y : Text) → is_at 45 y ≡ false → has_range y ≡ false
no_range_front y e = ap (λ z. z && not (is_at 93 (drop 1 y) || is_at 45 (drop 1 y))) e

row_closes : {before x : Text} {items : List Item} (r : Row before x items) (rest : Text) → is_at 93 x ≡ true →
    is_at 93 (row_written r rest) ≡ true
row_closes (Row.closes e) rest f = refl
row_closes (Row.one s m r) rest f = absurd (true≢false (sym f ∙ shows_not_closed s))
row_closes (Row.range s h t k r) rest f = absurd (true≢false (sym f ∙ shows_not_closed s))
row_closes {x = x} (Row.set b r) rest f = absurd (true≢false (sym f ∙ at_other 92 93 x b refl))

ends_class : (c : ℕ) (x y : Text) → makes_range x ≡ false → x ≡ c ∷ y → c == 45 ≡ true → is_at 93 y ≡ true
unfolding makes_range
ends_class c x y m e f =
    not-false (is_at 93 y) (sym (ap (λ z. z && not (is_at 93 y)) f) ∙ (sym (ap (λ z. is_at 45 z && not (is_at 93 (drop 1 z))) e) ∙ m))

range_atom : {before x y w : Text} {c : ℕ} {items : List Item} → Shows before x c y w → (r : Row x y items) → makes_range x ≡ false →
    (rest : Text) → has_range (w ++ row_written r rest) ≡ false
range_atom {before} {x} {y} {w} (Shows.escaped e s) r m rest =
    no_range_front (w ++ row_written r rest) (shows_front 45 (refl, refl) {before = before} {x = x} {y = y} (Shows.escaped e s)
    (λ g. at_other 92 45 x e refl) (row_written r rest))
range_atom {before} {x} {y} {w} {c} (Shows.plain e f g h) r m rest =
    ap (λ z. has_range (z ++ after)) h ∙ go (gets_backslash before x y)
  where
    after : Text
    after = row_written r rest

    hyphen : (b : Bool) → c == 45 ≡ b → b && not (is_at 93 after || is_at 45 after) ≡ false
    hyphen false k = refl
    hyphen true k = ap (λ z. not (z || is_at 45 after)) (row_closes r rest (ends_class c x y m e k))

    go : (b : Bool) → has_range (quoted b c ++ after) ≡ false
    go true = refl
    go false = hyphen (c == 45) refl

no_range : {before x : Text} {items : List Item} (r : Row before x items) (rest : Text) → makes_range x ≡ false →
    has_range (row_written r rest) ≡ false
no_range (Row.closes e) rest m = refl
no_range (Row.one s k r) rest m = range_atom s r m rest
no_range {before} {x} (Row.range {z = z} {v = v} {w = w} s h t k r) rest m =
    let after : Text = 45 ∷ (w ++ row_written r rest) in
    no_range_front (v ++ after) (shows_front 45 (refl, refl) s (not_bare 45 before x z (before_hyphen before x z h)) after)
no_range (Row.set {e = e} b r) rest m =
    no_range_front (escape_written e ++ row_written r rest) (escape_front 45 e (row_written r rest) refl)

-- behind a code point that is an item by itself
no_range_behind : {before x : Text} {items : List Item} (r : Row before x items) (rest : Text) → (is_at 45 before ≡ false → makes_range x ≡ false) →
    has_range (row_written r rest) ≡ false
no_range_behind {before} {x} r rest h = go (is_at 45 before) refl
  where
    go : (b : Bool) → is_at 45 before ≡ b → has_range (row_written r rest) ≡ false
    go true e = no_range_front (row_written r rest) (behind_front 45 hyphen_doubles r e rest)
    go false e = no_range r rest (h e)

-- a range goes on
range_goes_on : {z x y w : Text} {b : ℕ} → is_at 45 z ≡ true → Shows z x b y w → (rest : Text) → has_range (45 ∷ (w ++ rest)) ≡ true
range_goes_on {z} {x} {y} {w} h t rest =
    ap (λ q. not (q || is_at 45 (w ++ rest))) (shows_front 93 (refl, refl) t (λ g. shows_not_closed t) rest)
    ∙ ap not (shows_front 45 (refl, refl) t (not_bare 45 z x y (hyphen_doubles.behind z x y h)) rest)

-- the items of what is written
abbrev pub image : List Item → Items
image [] = Items.none
image (Item.one c ∷ items) = Items.one c (image items)
image (Item.range a b ∷ items) = Items.range a b (image items)
image (Item.escape e ∷ items) = Items.nested (is_capital e) (items_of e) (image items)
image (Item.property negated ∷ items) = image items

row_begins : {before x : Text} {items : List Item} (r : Row before x items) (rest : Text) → is_at 93 (row_written r rest) ≡ false →
    BeginsItem (row_written r rest)
row_begins r rest e = begins_item e (no_operation r rest)

pub image_has : (items : List Item) (c : ℕ) → some_has (image items) c ≡ list_any (λ i. item_has i c) items
image_has [] c = refl
image_has (Item.one a ∷ items) c = ap (λ z. c == a || z) (image_has items c)
image_has (Item.range a b ∷ items) c = ap (λ z. is_within a b c || z) (image_has items c)
image_has (Item.escape e ∷ items) c =
    ap (λ z. z || some_has (image items) c) (set_has e c) ∙ ap (λ z. escape_has e c || z) (image_has items c)
image_has (Item.property negated ∷ items) c = image_has items c

-- a class has the members of what is written for it
pub class_same : (negated : Bool) (items : List Item) (c : ℕ) → rust_class_has negated (image items) c ≡ class_has negated items c
class_same true items c = ap not (image_has items c)
class_same false items c = image_has items c

pub not_empty : {before x : Text} {items : List Item} (negated : Bool) → Row before x items → is_empty_class (Leaf.class negated items) ≡ false →
    NotEmpty (image items)
not_empty negated (Row.closes e) n = absurd (true≢false n)
not_empty negated (Row.one s m r) n = tt
not_empty negated (Row.range s h t k r) n = tt
not_empty negated (Row.set b r) n = tt

-- no caret begins it where none begins the source
pub no_caret : {before x : Text} {items : List Item} (r : Row before x items) (rest : Text) → is_at 94 x ≡ false →
    is_at 94 (row_written r rest) ≡ false
no_caret r rest e = row_front 94 (refl, refl) refl refl r (λ next g. e) rest

-- What is written for the items is read as items, whatever follows the class.
pub row_reads : {before x : Text} {items : List Item} (r : Row before x items) (rest : Text) → ReadsItems (row_written r rest) (image items) rest
row_reads (Row.closes e) rest = refl
row_reads (Row.one s m r) rest =
    let after : Text = row_written r rest in (
      after,
      row_begins (Row.one s m r) rest (shows_front 93 (refl, refl) s (λ g. shows_not_closed s) after),
      shows_read s after,
      no_range_behind r rest m,
      row_reads r rest,
    )
row_reads (Row.range {w = w} s h t k r) rest =
    let after : Text = row_written r rest in
    let middle : Text = 45 ∷ (w ++ after) in (
      middle,
      after,
      row_begins (Row.range s h t k r) rest (shows_front 93 (refl, refl) s (λ g. shows_not_closed s) middle),
      shows_read s middle,
      range_goes_on h t after,
      shows_read t after,
      k,
      row_reads r rest,
    )
row_reads {before} (Row.set {e = e} b r) rest =
    let after : Text = row_written r rest in
    let (inside, opens, full, reads) = escape_read e after in
    (inside, after, row_begins {before = before} (Row.set b r) rest (escape_front 93 e after refl), opens, full, reads, row_reads r rest)
