-- The classes that are written for the class escapes.
use Rattle.std.proofs.Common.{◌≡◌, ℕ, Bool, true, false, not, List, [], ◌∷◌, ◌++◌, Some, refl, ap, sym, ◌∙◌, arith}
use Rattle.std.specs.Prelude.{codes, ◌||◌, ◌==◌, nat_le}
use Rattle.std.proofs.lemmas.Bool.Decides.{nat_tests}
use Rattle.std.specs.List.{list_all}
use Rattle.std.proofs.Math.Bool.{or-false}
use Rattle.pattern_model.specs.Text.{Text, is_at}
use Rattle.pattern_model.specs.Tree.{Escape, Item}
use Rattle.pattern_model.specs.Digits.{is_digit, hex}
use Rattle.pattern_model.specs.CodePoints.{code_point}
use Rattle.pattern_model.specs.Properties.{is_word}
use Rattle.pattern_model.specs.Members.{is_no_property, is_within, is_space, escape_has, item_has, class_has}
use Rattle.rust_pattern_model.specs.Written.{escape_written}
use Rattle.rust_pattern_model.specs.RustClasses.{Items, flip, some_has, rust_class_has, number_escape, escape, is_operation, BeginsItem, ReadsItems, ReadsClass}
use Rattle.rust_pattern_model.proofs.SameSet.{SameSet}

-- \D, \S or \W
abbrev pub is_capital : Escape → Bool
is_capital Escape.not_digit = true
is_capital Escape.not_space = true
is_capital Escape.not_word = true
is_capital _ = false

-- the escape with a small letter
abbrev pub small : Escape → Item
small Escape.digit = Item.escape Escape.digit
small Escape.not_digit = Item.escape Escape.digit
small Escape.space = Item.escape Escape.space
small Escape.not_space = Item.escape Escape.space
small Escape.word = Item.escape Escape.word
small Escape.not_word = Item.escape Escape.word

pub begins_item : {y : Text} → is_at 93 y ≡ false → is_operation y ≡ false → BeginsItem y
begins_item e f = record { goes_on = e; no_operation = f }

-- Ranges between escapes: what is behind the backslash of each end, and its code point.
abbrev Ranges : Type 0
Ranges = List (Text × Text × ℕ × ℕ)

abbrev ranges_written : Ranges → Text → Text
ranges_written [] rest = 93 ∷ rest
ranges_written (p ∷ ps) rest = 92 ∷ (p.0 ++ (45 ∷ (92 ∷ (p.1 ++ ranges_written ps rest))))

abbrev ranges_items : Ranges → Items
ranges_items [] = Items.none
ranges_items (p ∷ ps) = Items.range p.2 p.3 (ranges_items ps)

abbrev Reads : Ranges → Type 0
Reads [] = Unit {0}
Reads (p ∷ ps) = ((rest : Text) → escape (p.0 ++ rest) ≡ Some (p.2, rest)) × ((rest : Text) → escape (p.1 ++ rest) ≡ Some (p.3, rest))
    × (nat_le p.2 p.3 ≡ true) × Reads ps

ranges_read : (ps : Ranges) → Reads ps → (rest : Text) → ReadsItems (ranges_written ps rest) (ranges_items ps) rest
ranges_read [] h rest = refl
ranges_read (p ∷ ps) (first, last, e, h) rest =
    let y : Text = ranges_written ps rest in
    (45 ∷ (92 ∷ (p.1 ++ y)), y, begins_item refl refl, first (45 ∷ (92 ∷ (p.1 ++ y))), refl, last y, e, ranges_read ps h rest)

abbrev space_ranges : Ranges
space_ranges =
    (codes "x{9}", codes "x{d}", 9, 13) ∷ (codes "x{20}", codes "x{20}", 32, 32) ∷ (codes "x{a0}", codes "x{a0}", 160, 160)
    ∷ (codes "x{1680}", codes "x{1680}", 5760, 5760) ∷ (codes "x{2000}", codes "x{200a}", 8192, 8202)
    ∷ (codes "x{2028}", codes "x{2029}", 8232, 8233) ∷ (codes "x{202f}", codes "x{202f}", 8239, 8239)
    ∷ (codes "x{205f}", codes "x{205f}", 8287, 8287) ∷ (codes "x{3000}", codes "x{3000}", 12288, 12288)
    ∷ (codes "x{feff}", codes "x{feff}", 65279, 65279) ∷ []

space_reads : Reads space_ranges
unfolding escape number_escape code_point hex
space_reads = (
  λ r. refl,
  λ r. refl,
  refl,
  (
    λ r. refl,
    λ r. refl,
    refl,
    (
      λ r. refl,
      λ r. refl,
      refl,
      (
        λ r. refl,
        λ r. refl,
        refl,
        (
          λ r. refl,
          λ r. refl,
          refl,
          (
            λ r. refl,
            λ r. refl,
            refl,
            (
              λ r. refl,
              λ r. refl,
              refl,
              (
                λ r. refl,
                λ r. refl,
                refl,
                (λ r. refl, λ r. refl, refl, (λ r. refl, λ r. refl, refl, tt)),
              ),
            ),
          ),
        ),
      ),
    ),
  ),
)

-- the items of the class, without its caret
abbrev digits : Items
digits = Items.range 48 57 Items.none

abbrev words : Items
words = Items.range 65 90 (Items.range 97 122 (Items.range 48 57 (Items.one 95 Items.none)))

abbrev pub items_of : Escape → Items
items_of Escape.digit = digits
items_of Escape.not_digit = digits
items_of Escape.word = words
items_of Escape.not_word = words
items_of Escape.space = ranges_items space_ranges
items_of Escape.not_space = ranges_items space_ranges

digits_read : (rest : Text) → ReadsItems (codes "0-9]" ++ rest) digits rest
digits_read rest = (codes "-9]" ++ rest, codes "]" ++ rest, begins_item refl refl, refl, refl, refl, refl, refl)

words_read : (rest : Text) → ReadsItems (codes "A-Za-z0-9_]" ++ rest) words rest
words_read rest = (
  codes "-Za-z0-9_]" ++ rest,
  codes "a-z0-9_]" ++ rest,
  begins_item refl refl,
  refl,
  refl,
  refl,
  refl,
  (
    codes "-z0-9_]" ++ rest,
    codes "0-9_]" ++ rest,
    begins_item refl refl,
    refl,
    refl,
    refl,
    refl,
    (
      codes "-9_]" ++ rest,
      codes "_]" ++ rest,
      begins_item refl refl,
      refl,
      refl,
      refl,
      refl,
      (codes "]" ++ rest, begins_item refl refl, refl, refl, refl),
    ),
  ),
)

pub escape_read : (e : Escape) (rest : Text) → ReadsClass (escape_written e ++ rest) (is_capital e) (items_of e) rest
escape_read Escape.digit rest = (codes "0-9]" ++ rest, (refl, refl), tt, digits_read rest)
escape_read Escape.not_digit rest = (codes "0-9]" ++ rest, refl, tt, digits_read rest)
escape_read Escape.word rest = (codes "A-Za-z0-9_]" ++ rest, (refl, refl), tt, words_read rest)
escape_read Escape.not_word rest = (codes "A-Za-z0-9_]" ++ rest, refl, tt, words_read rest)
escape_read Escape.space rest = (ranges_written space_ranges rest, (refl, refl), tt, ranges_read space_ranges space_reads rest)
escape_read Escape.not_space rest = (ranges_written space_ranges rest, refl, tt, ranges_read space_ranges space_reads rest)

-- a bracket stands at its front
pub escape_front : (d : ℕ) (e : Escape) (rest : Text) → 91 == d ≡ false → is_at d (escape_written e ++ rest) ≡ false
escape_front d Escape.digit rest o = o
escape_front d Escape.not_digit rest o = o
escape_front d Escape.word rest o = o
escape_front d Escape.not_word rest o = o
escape_front d Escape.space rest o = o
escape_front d Escape.not_space rest o = o

-- members
or_assoc : (a b c : Bool) → a || (b || c) ≡ (a || b) || c
or_assoc true b c = refl
or_assoc false b c = refl

or_same : {a b c d : Bool} → a ≡ b → c ≡ d → a || c ≡ b || d
or_same {a} {b} {c} {d} e f = ap (λ z. z || c) e ∙ ap (λ z. b || z) f

alone : (n c : ℕ) → is_within n n c ≡ c == n
alone n c = grind (arith, nat_tests)

digits_have : (c : ℕ) → some_has digits c ≡ is_digit c
digits_have c = or-false (is_digit c)

words_have : (c : ℕ) → some_has words c ≡ is_word c
words_have c =
    or_assoc (is_within 65 90 c) (is_within 97 122 c) (is_within 48 57 c || (c == 95 || false))
    ∙ ap (λ z. (is_within 65 90 c || is_within 97 122 c) || (is_digit c || z)) (or-false (c == 95))

spaces_have : (c : ℕ) → some_has (ranges_items space_ranges) c ≡ is_space c
unfolding is_space
spaces_have c =
    ap (λ z. is_within 9 13 c || z) (or_same (alone 32 c) (or_same (alone 160 c) (or_same (alone 5760 c)
    (ap (λ z. is_within 8192 8202 c || z) (ap (λ z. is_within 8232 8233 c || z) (or_same (alone 8239 c) (or_same (alone 8287 c)
    (or_same (alone 12288 c) (or-false (is_within 65279 65279 c) ∙ alone 65279 c)))))))))

small_has : (e : Escape) (c : ℕ) → some_has (items_of e) c ≡ item_has (small e) c
small_has Escape.digit c = digits_have c
small_has Escape.not_digit c = digits_have c
small_has Escape.word c = words_have c
small_has Escape.not_word c = words_have c
small_has Escape.space c = spaces_have c
small_has Escape.not_space c = spaces_have c

-- The class has the members of the escape.
pub set_has : (e : Escape) (c : ℕ) → flip (is_capital e) (some_has (items_of e) c) ≡ escape_has e c
set_has Escape.digit c = digits_have c
set_has Escape.not_digit c = ap not (digits_have c)
set_has Escape.word c = words_have c
set_has Escape.not_word c = ap not (words_have c)
set_has Escape.space c = spaces_have c
set_has Escape.not_space c = ap not (spaces_have c)

same_set : (negated : Bool) (i : Item) (inner : Items) (c : ℕ) → some_has inner c ≡ item_has i c →
    rust_class_has negated inner c ≡ class_has negated (i ∷ []) c
same_set true i inner c e = ap not (e ∙ sym (or-false (item_has i c)))
same_set false i inner c e = e ∙ sym (or-false (item_has i c))

small_plain : (e : Escape) → list_all is_no_property (small e ∷ []) ≡ true
small_plain Escape.digit = refl
small_plain Escape.not_digit = refl
small_plain Escape.space = refl
small_plain Escape.not_space = refl
small_plain Escape.word = refl
small_plain Escape.not_word = refl

-- What is written for a class escape is read as a class with its members.
pub escape_set : (e : Escape) (rest : Text) → SameSet (escape_written e ++ rest) (is_capital e) (small e ∷ []) rest
escape_set e rest = record {
  inner = items_of e;
  class = escape_read e rest;
  plain = small_plain e;
  same = λ c. same_set (is_capital e) (small e) (items_of e) c (small_has e c);
}
