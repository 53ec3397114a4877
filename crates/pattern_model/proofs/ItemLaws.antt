-- The items of a class stand side by side, as they are read.
use Rattle.std.proofs.Common.{◌≡◌, ℕ, ◌+◌, true, List, [], ◌∷◌, ◌++◌, drop, length, Some, refl, ap, sym, ◌∙◌, subst, arith, inl, inr, append_assoc}
use lib.Utf8.{encodes}
use Rattle.pattern_model.specs.Tree.{Item}
use Rattle.pattern_model.specs.Text.{Text, is_at}
use Rattle.pattern_model.specs.Classes.{Atom, class_atom}
use Rattle.pattern_model.specs.Spans.{IsAfter, PlacedItem, ReadsItem, ItemsStand, ItemsRead}
use Rattle.pattern_model.proofs.PartTails.{after_of, short_holds, drop_less, class_atom_short}
use Rattle.pattern_model.proofs.TokenTails.{tails_of}
use Rattle.pattern_model.proofs.BoolLaws.{code_is}
use Rattle.pattern_model.proofs.SpanLaws.{bytes_append, after_bytes, after_tail}

pub items_more : (x y z : Text) (a b d : ℕ) (ps qs : List PlacedItem) → ItemsRead x a ps y b → ItemsRead y b qs z d →
    ItemsRead x a (ps ++ qs) z d
items_more x y z a b d [] qs (e, f) g = subst (λ w. ItemsRead w a qs z d) (sym e) (subst (λ w. ItemsRead y w qs z d) (sym f) g)
items_more x y z a b d (p ∷ ps) qs (s, (w, r, e, h)) g = (s, (w, r, e, items_more w y z p.end b d ps qs h g))

atom_tail : (w x y : Text) (a : Atom) → (tails_of w).holds x → class_atom x ≡ Some (a, y) → (tails_of w).holds y
atom_tail w x y a h e = short_holds (tails_of w) (class_atom x) (a, y) (class_atom_short x (tails_of w) (after_of (tails_of w) x h)) e

item_tail : (x y : Text) (i : Item) → ReadsItem x i y → (tails_of x).holds y
item_tail x y i (inl r) = atom_tail x x y r.atom ([], refl) r.read
item_tail x y i (inr r) = atom_tail x (drop 1 r.rest) y r.last (drop_less 1 (tails_of x) r.rest (atom_tail x x r.rest r.first ([], refl)
    r.begins)) r.ends

pub items_stand : (w x y : Text) (a b : ℕ) (ps : List PlacedItem) → IsAfter w a x → ItemsRead x a ps y b → ItemsStand w a ps b × IsAfter w b y
items_stand w x y a b [] h (e, f) = (f, subst (λ z. IsAfter w b z) e (subst (λ z. IsAfter w z x) f h))
items_stand w x y a b (p ∷ ps) h (s, (z, r, e, g)) =
    let (front, tail) = item_tail x z p.item r in
    let k = after_bytes w x a h in
    let next : IsAfter w p.end z = after_tail w x z front a p.end h tail (omega (arith, e, k)) in
    let more = items_stand w z y p.end b ps next g in (
      (
        s,
        record {
          first = x;
          rest = z;
          starts = subst (λ v. IsAfter w v x) (sym s) h;
          read = r;
          ends = next;
        },
        more.0,
      ),
      more.1,
    )

at_first : (c : ℕ) (y : Text) → is_at c y ≡ true → y ≡ c ∷ drop 1 y
at_first c [] e = cc
at_first c (d ∷ y) e = ap (λ z. z ∷ y) (code_is d c e)

hyphen_atom : (y : Text) → class_atom (45 ∷ y) ≡ Some (Atom.code 45, y)
unfolding class_atom
hyphen_atom y = refl

-- a hyphen is read as itself
pub reads_hyphen : (y z : Text) → is_at 45 y ≡ true → z ≡ drop 1 y → ReadsItem y (Item.one 45) z
reads_hyphen y z e f = inl (record {
  atom = Atom.code 45;
  read = ap class_atom (at_first 45 y e) ∙ (hyphen_atom (drop 1 y) ∙ ap (λ w. Some (Atom.code 45, w)) (sym f));
  is = refl;
})

-- past a character of one byte
past_one : (w y : Text) (at c : ℕ) → length (encodes (c ∷ [])) ≡ 1 → IsAfter w at (c ∷ y) → IsAfter w (at + 1) y
past_one w y at c k (front, e, n) =
    let b = bytes_append front (c ∷ []) in
    (front ++ (c ∷ []), e ∙ sym (append_assoc front (c ∷ []) y), omega (arith, b, k, n))

-- what stands after the bracket of a class, and its `^`
pub after_bracket : (w y z : Text) (start : ℕ) → z ≡ y → IsAfter w start (91 ∷ y) → IsAfter w (start + 1) z
unfolding lib.Utf8.encode
after_bracket w y z start e h = subst (λ v. IsAfter w (start + 1) v) (sym e) (past_one w y start 91 refl h)

pub after_caret : (w y z : Text) (start : ℕ) → is_at 94 y ≡ true → z ≡ drop 1 y → IsAfter w start (91 ∷ y) → IsAfter w (start + 2) z
unfolding lib.Utf8.encode
after_caret w y z start e f h =
    let one : IsAfter w (start + 1) (94 ∷ drop 1 y) = subst (λ v. IsAfter w (start + 1) v) (at_first 94 y e) (past_one w y start 91 refl h) in
    let two : IsAfter w ((start + 1) + 1) (drop 1 y) = past_one w (drop 1 y) (start + 1) 94 refl one in
    let k : (start + 1) + 1 ≡ start + 2 = omega arith in
    subst (λ v. IsAfter w (start + 2) v) (sym f) (subst (λ v. IsAfter w v (drop 1 y)) k two)

pub after_close : (w y z : Text) (at : ℕ) → is_at 93 y ≡ true → z ≡ drop 1 y → IsAfter w at y → IsAfter w (at + 1) z
unfolding lib.Utf8.encode
after_close w y z at e f h =
    subst (λ v. IsAfter w (at + 1) v) (sym f) (past_one w (drop 1 y) at 93 refl (subst (λ v. IsAfter w at v) (at_first 93 y e) h))
