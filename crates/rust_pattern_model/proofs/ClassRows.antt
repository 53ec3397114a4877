-- The items of a class in a row, each with what is written for it.
use Rattle.std.proofs.Common.{◌≡◌, ℕ, Bool, true, false, not, List, [], ◌∷◌, ◌++◌, drop, Option, Some, None, option_map, option_and_then, refl, ap, sym, ◌∙◌, subst, append_assoc}
use Rattle.std.specs.Prelude.{if◌then◌else◌, ◌==◌, nat_le}
use Rattle.std.specs.List.{list_all}
use Rattle.std.proofs.lemmas.Bool.{eqb-true, true≢false, not-true}
use Rattle.pattern_model.specs.Text.{Text, is_at, with_front, many}
use Rattle.pattern_model.specs.Tree.{Escape, Item}
use Rattle.pattern_model.specs.Members.{is_no_property}
use Rattle.pattern_model.specs.Classes.{Atom, class_atom, item_of_atom, makes_range, range_to, has_hyphens, part_from, class_part, class_items}
use Rattle.pattern_model.proofs.BoolLaws.{and_left, and_right}
use Rattle.pattern_model.proofs.PartLaws.{class_part_shrinks, many_step, many_end}
use Rattle.rust_pattern_model.specs.Refusals.{has_other_escape}
use Rattle.rust_pattern_model.specs.Written.{escape_written}
use Rattle.rust_pattern_model.specs.Translation.{WritesAtom, WritesPart, WritesItems}
use Rattle.rust_pattern_model.proofs.Alone.{none_some, pair_same}
use Rattle.rust_pattern_model.proofs.EscapeScan.{past_other}
use Rattle.rust_pattern_model.proofs.ClassAtoms.{at_other, Shows, code_view, Set, set_view}

-- The items from x on, with `before` what stands directly before them. Behind a code point no range goes on, but where it is a hyphen:
-- then a hyphen behind it gets a backslash. A class escape may be followed by whatever may begin an item.
pub data Row : Text → Text → List Item → Type 0 where
  closes : {before x : Text} → is_at 93 x ≡ true → Row before x []
  one : {before x y w : Text} {c : ℕ} {items : List Item} → Shows before x c y w → (is_at 45 x ≡ false → makes_range y ≡ false) →
      Row x y items → Row before x (Item.one c ∷ items)
  range : {before x z y v w : Text} {a b : ℕ} {items : List Item} → Shows before x a z v → is_at 45 z ≡ true →
      Shows z (drop 1 z) b y w → nat_le a b ≡ true → Row (drop 1 z) y items → Row before x (Item.range a b ∷ items)
  set : {before x y : Text} {e : Escape} {items : List Item} → is_at 92 x ≡ true → Row x y items → Row before x (Item.escape e ∷ items)

-- what is written for them, for the bracket that closes them, and behind it
abbrev pub row_written : {before x : Text} {items : List Item} → Row before x items → Text → Text
row_written (Row.closes e) rest = 93 ∷ rest
row_written (Row.one {w = w} s m r) rest = w ++ row_written r rest
row_written (Row.range {v = v} {w = w} s h t l r) rest = v ++ (45 ∷ (w ++ row_written r rest))
row_written (Row.set {e = e} b r) rest = escape_written e ++ row_written r rest

-- w is written for the items of a row, which ends at `end`
pub record Laid (before x : Text) (items : List Item) (end w : Text) : Type 0 where
  pub row : Row before x items
  pub written : (rest : Text) → w ++ (93 ∷ rest) ≡ row_written row rest
  pub passed : has_other_escape true end ≡ false

one_laid : (before x y v u end : Text) (c : ℕ) (items : List Item) → Shows before x c y v → (is_at 45 x ≡ false → makes_range y ≡ false) →
    Laid x y items end u → Laid before x (Item.one c ∷ items) end (v ++ u)
one_laid before x y v u end c items s m l = record {
  row = Row.one s m l.row;
  written = λ rest. append_assoc v u (93 ∷ rest) ∙ ap (λ z. v ++ z) (l.written rest);
  passed = l.passed;
}

set_laid : (before x y u end : Text) (e : Escape) (items : List Item) → is_at 92 x ≡ true → Laid x y items end u →
    Laid before x (Item.escape e ∷ items) end (escape_written e ++ u)
set_laid before x y u end e items b l = record {
  row = Row.set b l.row;
  written = λ rest. append_assoc (escape_written e) u (93 ∷ rest) ∙ ap (λ z. escape_written e ++ z) (l.written rest);
  passed = l.passed;
}

range_laid : (before x z y v w u end : Text) (a b : ℕ) (items : List Item) → Shows before x a z v → is_at 45 z ≡ true →
    Shows z (drop 1 z) b y w → nat_le a b ≡ true → Laid (drop 1 z) y items end u →
    Laid before x (Item.range a b ∷ items) end ((v ++ (45 ∷ w)) ++ u)
range_laid before x z y v w u end a b items s h t k l = record { row = Row.range s h t k l.row; written = written; passed = l.passed }
  where
    written : (rest : Text) → ((v ++ (45 ∷ w)) ++ u) ++ (93 ∷ rest) ≡ v ++ (45 ∷ (w ++ row_written l.row rest))
    written rest =
        let f : (v ++ (45 ∷ w)) ++ (u ++ (93 ∷ rest)) ≡ v ++ (45 ∷ (w ++ (u ++ (93 ∷ rest)))) = append_assoc v (45 ∷ w) (u ++ (93 ∷ rest)) in
        append_assoc (v ++ (45 ∷ w)) u (93 ∷ rest) ∙ (f ∙ ap (λ z. v ++ (45 ∷ (w ++ z))) (l.written rest))

laid_is : (before x end w v : Text) (items : List Item) → w ≡ v → Laid before x items end v → Laid before x items end w
laid_is before x end w v items e l = subst (λ z. Laid before x items end z) (sym e) l

-- the items of one part, and those behind it
record Step (x : Text) (items : List Item) (end : Text) : Type 0 where
  pub part : List Item
  pub after : Text
  pub more : List Item
  pub read : class_part true x ≡ Some (part, after)
  pub rest : class_items true after ≡ Some (more, end)
  pub is : items ≡ part ++ more

step : (x : Text) (items : List Item) (end : Text) → is_at 93 x ≡ false → class_items true x ≡ Some (items, end) → Step x items end
unfolding class_items
step x items end n e =
    go (class_part true x) refl
    (sym (ap (λ b. if b then Some ([], x) else option_and_then (λ p. with_front p.0 (many (is_at 93) (class_part true) p.1)) (class_part true x)) n)
    ∙ (sym (many_step (is_at 93) (class_part true) (class_part_shrinks true) x) ∙ e))
  where
    inner : (p : List Item × Text) → class_part true x ≡ Some p → (o : Option (List Item × Text)) →
        many (is_at 93) (class_part true) p.1 ≡ o → with_front p.0 o ≡ Some (items, end) → Step x items end
    inner p f None g h = absurd (none_some h)
    inner p f (Some q) g h = let (i, j) = pair_same (p.0 ++ q.0) items q.1 end h in record {
      part = p.0;
      after = p.1;
      more = q.0;
      read = f;
      rest = g ∙ ap (λ z. Some (q.0, z)) j;
      is = sym i;
    }

    go : (o : Option (List Item × Text)) → class_part true x ≡ o →
        option_and_then (λ p. with_front p.0 (many (is_at 93) (class_part true) p.1)) o ≡ Some (items, end) → Step x items end
    go None f g = absurd (none_some g)
    go (Some p) f g = inner p f (many (is_at 93) (class_part true) p.1) refl g

-- what a part is, by its first atom
single_part : (x y : Text) (a : Atom) → class_atom x ≡ Some (a, y) → has_hyphens true (a, y) ≡ false → makes_range y ≡ false →
    class_part true x ≡ Some (item_of_atom a ∷ [], y)
unfolding class_part part_from
single_part x y a r h m =
    let on : Option (List Item × Text) = option_and_then (range_to a) (class_atom (drop 1 y)) in
    ap (option_and_then (part_from true)) r
    ∙ (ap (λ b. if b then Some (item_of_atom a ∷ Item.one 45 ∷ Item.one 45 ∷ [], drop 2 y) else if makes_range y then on
    else Some (item_of_atom a ∷ [], y)) h
    ∙ ap (λ b. if b then on else Some (item_of_atom a ∷ [], y)) m)

range_part : (x z y : Text) (a b : Atom) → class_atom x ≡ Some (a, z) → has_hyphens true (a, z) ≡ false → makes_range z ≡ true →
    class_atom (drop 1 z) ≡ Some (b, y) → class_part true x ≡ range_to a (b, y)
unfolding class_part part_from
range_part x z y a b r h m s =
    let on : Option (List Item × Text) = option_and_then (range_to a) (class_atom (drop 1 z)) in
    ap (option_and_then (part_from true)) r
    ∙ (ap (λ b. if b then Some (item_of_atom a ∷ Item.one 45 ∷ Item.one 45 ∷ [], drop 2 z) else if makes_range z then on
    else Some (item_of_atom a ∷ [], z)) h
    ∙ (ap (λ b. if b then on else Some (item_of_atom a ∷ [], z)) m
    ∙ ap (option_and_then (range_to a)) s))

hyphens_part : (x z : Text) (a : Atom) → class_atom x ≡ Some (a, z) → has_hyphens true (a, z) ≡ true →
    class_part true x ≡ Some (item_of_atom a ∷ Item.one 45 ∷ Item.one 45 ∷ [], drop 2 z)
unfolding class_part part_from
hyphens_part x z a r h =
    ap (option_and_then (part_from true)) r
    ∙ ap (λ b. if b then Some (item_of_atom a ∷ Item.one 45 ∷ Item.one 45 ∷ [], drop 2 z)
    else if makes_range z then option_and_then (range_to a) (class_atom (drop 1 z)) else Some (item_of_atom a ∷ [], z)) h

-- the items of the rest, as they are laid
abbrev Tail : Text → Text → Text → Text → Type 0
Tail last y end u = (items : List Item) (e : Text) → class_items true y ≡ Some (items, e) → has_other_escape true y ≡ false →
    list_all is_no_property items ≡ true → Laid last y items end u

-- an atom by itself
single_laid : (before x y v u end : Text) (a : Atom) (items : List Item) → WritesAtom before x a y v → makes_range y ≡ false →
    has_other_escape true x ≡ false → is_at 93 x ≡ false → list_all is_no_property (item_of_atom a ∷ items) ≡ true →
    (has_other_escape true y ≡ false → list_all is_no_property items ≡ true → Laid x y items end u) →
    Laid before x (item_of_atom a ∷ items) end (v ++ u)
single_laid before x y v u end (Atom.code c) items w m n o p more =
    let (s, k) = code_view before x y v c w n o in one_laid before x y v u end c items s (λ h. m) (more k p)
single_laid before x y v u end (Atom.escape e) items w m n o p more =
    let s : Set x e y v = set_view before x y v e w n in
    laid_is before x end (v ++ u) (escape_written e ++ u) (Item.escape e ∷ items) (ap (λ z. z ++ u) s.written)
    (set_laid before x y u end e items s.begins (more s.passed p))
single_laid before x y v u end (Atom.property b) items w m n o p more = cc

-- a range
begins_range : (z : Text) → makes_range z ≡ true → (is_at 45 z ≡ true) × (is_at 93 (drop 1 z) ≡ false)
unfolding makes_range
begins_range z e = (and_left (is_at 45 z) _ e, not-true (is_at 93 (drop 1 z)) (and_right (is_at 45 z) _ e))

-- past a plain character
pub past_plain : (c : ℕ) (z : Text) → c == 92 ≡ false → c == 93 ≡ false → is_at c z ≡ true → has_other_escape true z ≡ false →
    has_other_escape true (drop 1 z) ≡ false
past_plain c [] e f h n = n
past_plain c (d ∷ z) e f h n =
    let k : d ≡ c = eqb-true d c h in
    ap (λ b. has_other_escape (not b) z) (sym (ap (λ u. u == 93) k ∙ f)) ∙ (past_other true d z (d ∷ z) refl (ap (λ u. u == 92) k ∙ e) ∙ n)

record RangeOf (a b : Atom) (y : Text) (part : List Item) (after : Text) : Type 0 where
  pub first : ℕ
  pub last : ℕ
  pub first_is : a ≡ Atom.code first
  pub last_is : b ≡ Atom.code last
  pub in_order : nat_le first last ≡ true
  pub is : Item.range first last ∷ [] ≡ part
  pub after_is : y ≡ after

range_is : (a b : Atom) (y : Text) (part : List Item) (after : Text) → range_to a (b, y) ≡ Some (part, after) → RangeOf a b y part after
range_is (Atom.escape e) b y part after h = absurd (none_some h)
range_is (Atom.property e) b y part after h = absurd (none_some h)
range_is (Atom.code a) (Atom.escape e) y part after h = absurd (none_some h)
range_is (Atom.code a) (Atom.property e) y part after h = absurd (none_some h)
range_is (Atom.code a) (Atom.code b) y part after h = go (nat_le a b) refl h
  where
    go : (t : Bool) → nat_le a b ≡ t → option_map {U = List Item × Text} (λ i. (i ∷ [], y)) (if t then Some (Item.range a b) else None) ≡
        Some (part, after) → RangeOf (Atom.code a) (Atom.code b) y part after
    go false f g = absurd (none_some g)
    go true f g = let (i, j) = pair_same (Item.range a b ∷ []) part y after g in record {
      first = a;
      last = b;
      first_is = refl;
      last_is = refl;
      in_order = f;
      is = i;
      after_is = j;
    }

range_codes : (before x z y v w u end : Text) (c d : ℕ) (items : List Item) → WritesAtom before x (Atom.code c) z v → makes_range z ≡ true →
    WritesAtom z (drop 1 z) (Atom.code d) y w → nat_le c d ≡ true → has_other_escape true x ≡ false → is_at 93 x ≡ false →
    (has_other_escape true y ≡ false → Laid (drop 1 z) y items end u) → Laid before x (Item.range c d ∷ items) end ((v ++ (45 ∷ w)) ++ u)
range_codes before x z y v w u end c d items a m b k n o more =
    let (h, g) = begins_range z m in
    let (s, e) = code_view before x z v c a n o in
    let (t, f) = code_view z (drop 1 z) y w d b (past_plain 45 z refl refl h e) g in
    range_laid before x z y v w u end c d items s h t k (more f)

range_atoms : (before x z y v w u end after : Text) (a b : Atom) (part items : List Item) → WritesAtom before x a z v → makes_range z ≡ true →
    WritesAtom z (drop 1 z) b y w → RangeOf a b y part after → has_other_escape true x ≡ false → is_at 93 x ≡ false →
    (has_other_escape true y ≡ false → Laid (drop 1 z) y items end u) → Laid before x (part ++ items) end ((v ++ (45 ∷ w)) ++ u)
range_atoms before x z y v w u end after a b part items p m q r n o more =
    subst (λ i. Laid before x (i ++ items) end ((v ++ (45 ∷ w)) ++ u)) r.is
    (range_codes before x z y v w u end r.first r.last items (subst (λ c. WritesAtom before x c z v) r.first_is p) m
    (subst (λ c. WritesAtom z (drop 1 z) c y w) r.last_is q) r.in_order n o more)

-- a class escape and two hyphens
plain_at : {before x y w : Text} {c : ℕ} → is_at 45 x ≡ true → Shows before x c y w → x ≡ c ∷ y
plain_at e (Shows.plain f g h i) = f
plain_at {x = x} e (Shows.escaped f s) = absurd (true≢false (sym e ∙ at_other 92 45 x f refl))

record Hyphens (x z last y w : Text) (items : List Item) (end : Text) : Type 0 where
  pub after : drop 2 z ≡ y
  pub laid : (u : Text) → (has_other_escape true y ≡ false → list_all is_no_property items ≡ true → Laid last y items end u) →
      list_all is_no_property items ≡ true → Laid x z (Item.one 45 ∷ Item.one 45 ∷ items) end (w ++ u)

two_hyphens : (x z last y u t end : Text) (items : List Item) → is_at 45 z ≡ true → is_at 45 (drop 1 z) ≡ true →
    WritesAtom x z (Atom.code 45) last u → WritesAtom z last (Atom.code 45) y t → has_other_escape true z ≡ false →
    Hyphens x z last y (u ++ t) items end
two_hyphens x z last y u t end items e f a b n =
    let (s, k) = code_view x z last u 45 a n (at_other 45 93 z e refl) in
    let g : z ≡ 45 ∷ last = plain_at e s in
    let h : is_at 45 last ≡ true = sym (ap (λ v. is_at 45 (drop 1 v)) g) ∙ f in
    let (r, l) = code_view z last y t 45 b k (at_other 45 93 last h refl) in
    let i : last ≡ 45 ∷ y = plain_at h r in
    record {
      after = ap (drop 2) g ∙ ap (drop 1) i;
      laid = λ w more p. laid_is x z end ((u ++ t) ++ w) (u ++ (t ++ w)) (Item.one 45 ∷ Item.one 45 ∷ items) (append_assoc u t w)
          (one_laid x z last u (t ++ w) end 45 (Item.one 45 ∷ items) s (λ j. absurd (true≢false (sym e ∙ j)))
          (one_laid z last y t w end 45 items r (λ j. absurd (true≢false (sym h ∙ j))) (more l p)));
    }

-- behind the hyphens stands what is read behind them
two_more : (before x z last y v u t : Text) (a : Atom) → WritesAtom before x a z v → has_hyphens true (a, z) ≡ true →
    WritesAtom x z (Atom.code 45) last u → WritesAtom z last (Atom.code 45) y t → has_other_escape true x ≡ false → drop 2 z ≡ y
two_more before x z last y v u t (Atom.code c) a h b d n = absurd (true≢false (sym h))
two_more before x z last y v u t (Atom.property c) a h b d n = absurd (true≢false (sym h))
two_more before x z last y v u t (Atom.escape e) a h b d n =
    let s : Set x e z v = set_view before x z v e a n in
    (two_hyphens x z last y u t [] [] (and_left (is_at 45 z) (is_at 45 (drop 1 z)) h) (and_right (is_at 45 z) (is_at 45 (drop 1 z)) h)
    b d s.passed).after

escape_laid : (before x z last y v u t w end : Text) (a : Atom) (items : List Item) → WritesAtom before x a z v → has_hyphens true (a, z) ≡ true →
    WritesAtom x z (Atom.code 45) last u → WritesAtom z last (Atom.code 45) y t → has_other_escape true x ≡ false →
    list_all is_no_property items ≡ true →
    (has_other_escape true y ≡ false → list_all is_no_property items ≡ true → Laid last y items end w) →
    Laid before x (item_of_atom a ∷ Item.one 45 ∷ Item.one 45 ∷ items) end ((v ++ (u ++ t)) ++ w)
escape_laid before x z last y v u t w end (Atom.code c) items a h b d n p more = absurd (true≢false (sym h))
escape_laid before x z last y v u t w end (Atom.property c) items a h b d n p more = absurd (true≢false (sym h))
escape_laid before x z last y v u t w end (Atom.escape e) items a h b d n p more =
    let s : Set x e z v = set_view before x z v e a n in
    let k = two_hyphens x z last y u t end items (and_left (is_at 45 z) (is_at 45 (drop 1 z)) h)
    (and_right (is_at 45 z) (is_at 45 (drop 1 z)) h) b d s.passed in
    laid_is before x end ((v ++ (u ++ t)) ++ w) (escape_written e ++ ((u ++ t) ++ w)) (Item.escape e ∷ Item.one 45 ∷ Item.one 45 ∷ items)
    (append_assoc v (u ++ t) w ∙ ap (λ q. q ++ ((u ++ t) ++ w)) s.written)
    (set_laid before x z ((u ++ t) ++ w) end e (Item.one 45 ∷ Item.one 45 ∷ items) s.begins (k.laid w more p))

-- one part and the items behind it
part_laid : (before x last y v u end : Text) (items : List Item) (e : Text) → WritesPart before x last y v → Tail last y end u →
    is_at 93 x ≡ false → Step x items e → has_other_escape true x ≡ false → list_all is_no_property items ≡ true →
    Laid before x items end (v ++ u)
part_laid before x last y v u end items e (WritesPart.single {a = a} w h m l) more o s n p =
    let (i, j) = pair_same (item_of_atom a ∷ []) s.part y s.after (sym (single_part x y a w.read h m) ∙ s.read) in
    let k : item_of_atom a ∷ s.more ≡ items = ap (λ z. z ++ s.more) i ∙ sym s.is in
    subst (λ z. Laid before x z end (v ++ u)) k
    (single_laid before x y v u end a s.more w m n o (ap (list_all is_no_property) k ∙ p) (λ f g.
    subst (λ z. Laid z y s.more end u) l (more s.more e (ap (class_items true) j ∙ s.rest) f g)))
part_laid before x last y v u end items e (WritesPart.range {a = a} {b = b} {z = z} {v = v1} {u = u1} w h m l w2 i) more o s n p =
    let d : WritesAtom z (drop 1 z) b y u1 = subst (λ q. WritesAtom z q b y u1) l w2 in
    let r : RangeOf a b y s.part s.after = range_is a b y s.part s.after (sym (range_part x z y a b w.read h m d.read) ∙ s.read) in
    subst (λ q. Laid before x q end (v ++ u)) (sym s.is)
    (laid_is before x end (v ++ u) ((v1 ++ (45 ∷ u1)) ++ u) (s.part ++ s.more) (ap (λ q. q ++ u) i)
    (range_atoms before x z y v1 u1 u end s.after a b s.part s.more w m d r n o (λ f.
    subst (λ q. Laid q y s.more end u) l (more s.more e (ap (class_items true) r.after_is ∙ s.rest) f
    (ap (λ q. list_all is_no_property (q ++ s.more)) r.is ∙ (sym (ap (list_all is_no_property) s.is) ∙ p))))))
part_laid before x last y v u end items e (WritesPart.hyphens {a = a} {z = z} {v = v1} {u = u1} {t = t1} w h w2 w3 i) more o s n p =
    let three : List Item = item_of_atom a ∷ Item.one 45 ∷ Item.one 45 ∷ [] in
    let (j, l) = pair_same three s.part (drop 2 z) s.after (sym (hyphens_part x z a w.read h) ∙ s.read) in
    let k : three ++ s.more ≡ items = ap (λ q. q ++ s.more) j ∙ sym s.is in
    let no : list_all is_no_property (three ++ s.more) ≡ true = ap (list_all is_no_property) k ∙ p in
    let q = two_more before x z last y v1 u1 t1 a w h w2 w3 n in
    subst (λ z. Laid before x z end (v ++ u)) k
    (laid_is before x end (v ++ u) ((v1 ++ (u1 ++ t1)) ++ u) (three ++ s.more) (ap (λ q. q ++ u) i)
    (escape_laid before x z last y v1 u1 t1 u end a s.more w h w2 w3 n
    (and_right (is_no_property (item_of_atom a)) (list_all is_no_property s.more) no) (λ f g. more s.more e
    (ap (class_items true) (sym q ∙ l) ∙ s.rest) f g)))

-- The items of a class, as the grammar reads them, stand in a row, and what is written for them is what is written for the row.
pub laid : {before x end w : Text} → WritesItems before x end w → (items : List Item) (e : Text) → class_items true x ≡ Some (items, e) →
    has_other_escape true x ≡ false → list_all is_no_property items ≡ true → Laid before x items end w
unfolding class_items
laid {before} {x} {end} {w} (WritesItems.closes c f g) items e h n p =
    let (i, j) = pair_same [] items x e (sym (many_end (is_at 93) (class_part true) (class_part_shrinks true) x c) ∙ h) in
    subst (λ z. Laid before x z end w) i
    (record { row = Row.closes c; written = λ rest. ap (λ z. z ++ (93 ∷ rest)) g; passed = ap (has_other_escape true) f ∙ n })
laid {before} {x} {end} {w} (WritesItems.goes_on {last = last} {y = y} {v = v} {u = u} c f more g) items e h n p =
    laid_is before x end w (v ++ u) items g
    (part_laid before x last y v u end items e f (λ i k q r s. laid more i k q r s) c (step x items e c h) n p)
