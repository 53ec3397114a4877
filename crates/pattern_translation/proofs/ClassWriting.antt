-- The parts and items of a class that are written one after another.
use Rattle.std.proofs.Common.{◌≡◌, ℕ, Bool, true, false, List, [], ◌∷◌, ◌++◌, drop, Option, Some, None, option_map, option_and_then, refl, ap, sym, ◌∙◌, subst, append_assoc}
use Rattle.std.specs.Prelude.{if◌then◌else◌, ◌&&◌}
use lib.Utf8.{encode}
use Rattle.pattern_model.proofs.BoolLaws.{and_right, both, code_is}
use Rattle.pattern_model.specs.Text.{Text, is_at, with_front, many}
use Rattle.pattern_model.specs.Tree.{Item, Token}
use Rattle.pattern_model.specs.Tokens.{class_token, class_from}
use Rattle.std.proofs.lemmas.List.{append-nil}
use Rattle.pattern_model.specs.Classes.{Atom, item_of_atom, range_of, range_to, is_escape, has_hyphens, makes_range, part_from, class_atom, class_part, class_items}
use Rattle.pattern_model.proofs.PartTails.{After, short_holds, class_atom_short}
use Rattle.pattern_model.proofs.PartLaws.{many_step, many_none, many_end, class_part_shrinks}
use Rattle.pattern_model.proofs.TokenTails.{tails_of}
use Rattle.rust_pattern_model.proofs.Alone.{some_same}
use Rattle.rust_pattern_model.specs.Written.{atom_written}
use Rattle.rust_pattern_model.specs.Translation.{WritesAtom, WritesPart, WritesItems, WritesClass, inside, opening}
use Rattle.pattern_translation.specs.inner.Adding.{Adds, AddsPart}
use Rattle.pattern_translation.proofs.CopyLaws.{adds_both}

after_tails : (x : Text) → After (tails_of x) x
after_tails [] = tt
after_tails (c ∷ x) = (c ∷ [], refl)

-- the atom's own text
own_text : (x y : Text) (a : Atom) → class_atom x ≡ Some (a, y) → (own : Text) × (x ≡ own ++ y)
own_text x y a e = short_holds (tails_of x) (class_atom x) (a, y) (class_atom_short x (tails_of x) (after_tails x)) e

-- an atom is written
abbrev pub AddsAtom : Text → Atom → Text → Text → List ℕ → List ℕ → Type 0
AddsAtom before a x y old new = (own : Text) → x ≡ own ++ y → Adds old new (atom_written before a x own y)

atom_added : (before : Text) (a : Atom) (x y : Text) (old new : List ℕ) → class_atom x ≡ Some (a, y) → AddsAtom before a x y old new →
    (w : Text) × WritesAtom before x a y w × Adds old new w
atom_added before a x y old new e f =
    let (own, s) = own_text x y a e in (
      atom_written before a x own y,
      record { own = own; read = e; stands = s; is = refl },
      f own s,
    )

-- what an atom begins, by what follows it
part_by : (x z : Text) (a : Atom) (k r : Bool) → class_atom x ≡ Some (a, z) → has_hyphens true (a, z) ≡ k → makes_range z ≡ r →
    class_part true x ≡ (if k then Some (item_of_atom a ∷ Item.one 45 ∷ Item.one 45 ∷ [], drop 2 z)
    else if r then option_and_then (range_to a) (class_atom (drop 1 z)) else Some (item_of_atom a ∷ [], z))
unfolding class_part part_from
part_by x z a k r e h m =
    ap (option_and_then (part_from true)) e
    ∙ (ap (λ b. if b then Some (item_of_atom a ∷ Item.one 45 ∷ Item.one 45 ∷ [], drop 2 z)
    else if makes_range z then option_and_then (range_to a) (class_atom (drop 1 z)) else Some (item_of_atom a ∷ [], z)) h
    ∙ ap (λ b. if k then Some (item_of_atom a ∷ Item.one 45 ∷ Item.one 45 ∷ [], drop 2 z)
    else if b then option_and_then (range_to a) (class_atom (drop 1 z)) else Some (item_of_atom a ∷ [], z)) m)

-- no atom, and none at the end of a range
pub no_atom : (x : Text) → class_atom x ≡ None → class_part true x ≡ None
unfolding class_part
no_atom x e = ap (option_and_then (part_from true)) e

pub no_end : (x z : Text) (a : Atom) → class_atom x ≡ Some (a, z) → has_hyphens true (a, z) ≡ false → makes_range z ≡ true →
    class_atom (drop 1 z) ≡ None → class_part true x ≡ None
no_end x z a e h m n = part_by x z a false true e h m ∙ ap (option_and_then (range_to a)) n

-- an item by itself
pub single_added : (before x y : Text) (a : Atom) (old new : List ℕ) → class_atom x ≡ Some (a, y) → has_hyphens true (a, y) ≡ false →
    makes_range y ≡ false → AddsAtom before a x y old new → AddsPart old new before x x y
single_added before x y a old new e h m f p q =
    let (w, r, s) = atom_added before a x y old new e f in
    let j = some_same (item_of_atom a ∷ [], y) p (sym (part_by x y a false false e h m) ∙ q) in
    (w, sym (ap (λ z. z.1) j), WritesPart.single r h m refl, s)

range_rest : (a b : Atom) (y : Text) (p : List Item × Text) → range_to a (b, y) ≡ Some p → p.1 ≡ y
range_rest a b y p e = go (range_of a b) e
  where
    go : (o : Option Item) → option_map (λ i. (i ∷ [], y)) o ≡ Some p → p.1 ≡ y
    go None f = cc
    go (Some i) f = sym (ap (λ z. z.1) (some_same (i ∷ [], y) p f))

-- a range
pub range_added : (before x z last y : Text) (a b : Atom) (old middle next new : List ℕ) → class_atom x ≡ Some (a, z) →
    has_hyphens true (a, z) ≡ false → makes_range z ≡ true → last ≡ drop 1 z → class_atom last ≡ Some (b, y) →
    AddsAtom before a x z old middle → next ≡ middle ++ (45 ∷ []) → AddsAtom z b last y next new → AddsPart old new before x last y
unfolding encode
range_added before x z last y a b old middle next new e h m l k f n g p q =
    let (v, r, s) = atom_added before a x z old middle e f in
    let (u, t, i) = atom_added z b last y next new k g in
    let j = sym (part_by x z a false true e h m ∙ ap (λ o. option_and_then (range_to a) (class_atom o)) (sym l)
    ∙ ap (option_and_then (range_to a)) k) ∙ q in (
      v ++ (45 ∷ u),
      range_rest a b y p j,
      WritesPart.range r h m l t refl,
      adds_both old middle new v (45 ∷ u) s (adds_both middle next new (45 ∷ []) u n i),
    )

hyphen_atom : (x : Text) → is_at 45 x ≡ true → class_atom x ≡ Some (Atom.code 45, drop 1 x)
unfolding class_atom
hyphen_atom [] e = cc
hyphen_atom (c ∷ x) e = ap (λ d. class_atom (d ∷ x)) (code_is c 45 e)

drop_twice : (x : Text) → drop 2 x ≡ drop 1 (drop 1 x)
drop_twice [] = refl
drop_twice (c ∷ x) = refl

-- a class escape and two hyphens
pub hyphens_added : (before x z last y : Text) (a : Atom) (old middle next new : List ℕ) → class_atom x ≡ Some (a, z) →
    has_hyphens true (a, z) ≡ true → last ≡ drop 1 z → y ≡ drop 1 last →
    AddsAtom before a x z old middle → AddsAtom x (Atom.code 45) z last middle next → AddsAtom z (Atom.code 45) last y next new →
    AddsPart old new before x last y
hyphens_added before x z last y a old middle next new e h l n f g k p q =
    let d = and_right (is_escape a) (is_at 45 z && is_at 45 (drop 1 z)) h in
    let first = hyphen_atom z (both (is_at 45 z) (is_at 45 (drop 1 z)) d).0 ∙ ap (λ o. Some (Atom.code 45, o)) (sym l) in
    let second = hyphen_atom last (ap (is_at 45) l ∙ and_right (is_at 45 z) (is_at 45 (drop 1 z)) d) ∙ ap (λ o. Some (Atom.code 45, o)) (sym n) in
    let (v, r, s) = atom_added before a x z old middle e f in
    let (u, t, i) = atom_added x (Atom.code 45) z last middle next first g in
    let (w, m, j) = atom_added z (Atom.code 45) last y next new second k in
    let o = some_same (item_of_atom a ∷ Item.one 45 ∷ Item.one 45 ∷ [], drop 2 z) p (sym (part_by x z a true (makes_range z) e h refl) ∙ q) in (
      v ++ (u ++ w),
      sym (ap (λ z. z.1) o) ∙ (drop_twice z ∙ (ap (drop 1) (sym l) ∙ sym n)),
      WritesPart.hyphens r h t m refl,
      adds_both old middle new v (u ++ w) s (adds_both middle next new u w i j),
    )

-- one part more
items_on : (x : Text) (p : List Item × Text) (items : List Item) (end : Text) → is_at 93 x ≡ false → class_part true x ≡ Some p →
    class_items true x ≡ Some (items, end) → (more : List Item) × (class_items true p.1 ≡ Some (more, end))
unfolding class_items
items_on x p items end e f g = go (many (is_at 93) (class_part true) p.1) refl (sym step ∙ g)
  where
    step : many (is_at 93) (class_part true) x ≡ with_front p.0 (many (is_at 93) (class_part true) p.1)
    step = many_step (is_at 93) (class_part true) (class_part_shrinks true) x
        ∙ (ap (λ b. if b then Some ([], x) else option_and_then (λ q. with_front q.0 (many (is_at 93) (class_part true) q.1)) (class_part true x)) e
        ∙ ap (option_and_then (λ q. with_front q.0 (many (is_at 93) (class_part true) q.1))) f)

    go : (o : Option (List Item × Text)) → many (is_at 93) (class_part true) p.1 ≡ o → with_front p.0 o ≡ Some (items, end) →
        (more : List Item) × (many (is_at 93) (class_part true) p.1 ≡ Some (more, end))
    go None h k = cc
    go (Some q) h k = let j = some_same (p.0 ++ q.0, q.1) (items, end) k in (q.0, h ∙ ap (λ z. Some (q.0, z)) (ap (λ z. z.1) j))

-- no part
pub no_items : (x : Text) (items : List Item) (end : Text) → is_at 93 x ≡ false → class_part true x ≡ None →
    class_items true x ≡ Some (items, end) → ⊥
unfolding class_items
no_items x items end e f g =
    let h = sym (many_none (is_at 93) (class_part true) (class_part_shrinks true) x e f) ∙ g in cc

-- no part is left
items_end : (x : Text) (items : List Item) (end : Text) → is_at 93 x ≡ true → class_items true x ≡ Some (items, end) → end ≡ x
unfolding class_items
items_end x items end e g =
    sym (ap (λ z. z.1) (some_same ([], x) (items, end) (sym (many_end (is_at 93) (class_part true) (class_part_shrinks true) x e) ∙ g)))

-- one part more of what is being written
pub part_added : (before x last z : Text) (more : List Item) (y w : Text) (old middle new : List ℕ) (P : Text → Type 0) →
    is_at 93 x ≡ false → AddsPart middle new before x last z → class_items true x ≡ Some (more, y) → Adds old middle w →
    ((u : Text) → WritesItems before x y u → P (w ++ u)) →
    (m : List Item) × (v : Text) × (class_items true z ≡ Some (m, y)) × Adds old new v × ((u : Text) → WritesItems last z y u → P (v ++ u))
part_added before x last z more y w old middle new P e f g h k = go (class_part true x) refl
  where
    go : (o : Option (List Item × Text)) → class_part true x ≡ o →
        (m : List Item) × (v : Text) × (class_items true z ≡ Some (m, y)) × Adds old new v × ((u : Text) → WritesItems last z y u → P (v ++ u))
    go None n = absurd (no_items x more y e n g)
    go (Some p) n =
        let (v, i, r, s) = f p n in
        let (m, j) = items_on x p more y e n g in (
          m,
          w ++ v,
          ap (class_items true) (sym i) ∙ j,
          adds_both old middle new w v h s,
          λ u q. subst P (sym (append_assoc w v u)) (k (v ++ u) (WritesItems.goes_on e r q refl)),
        )

-- all parts are written
pub items_done : (before x : Text) (more : List Item) (y w : Text) (old new : List ℕ) (P : Text → Type 0) → is_at 93 x ≡ true →
    class_items true x ≡ Some (more, y) → Adds old new w → ((u : Text) → WritesItems before x y u → P (w ++ u)) →
    (v : Text) × (y ≡ x) × (is_at 93 y ≡ true) × P v × Adds old new v
items_done before x more y w old new P e f g k =
    let i = items_end x more y e f in (
      w,
      i,
      ap (is_at 93) i ∙ e,
      subst P (append-nil w) (k [] (WritesItems.closes e i refl)),
      g,
    )

token_is : (n : Bool) (o : Option (List Item × Text)) (t : Token) (y : Text) → option_map (class_token n) o ≡ Some (t, y) →
    (items : List Item) × (z : Text) × (o ≡ Some (items, z)) × (y ≡ drop 1 z)
token_is n None t y e = cc
token_is n (Some p) t y e = (p.0, p.1, refl, sym (ap (λ z. z.1) (some_same (class_token n p) (t, y) e)))

-- a class has items
items_in : (x : Text) (t : Token) (y : Text) → class_from true x ≡ Some (t, y) →
    (items : List Item) × (z : Text) × (class_items true (inside x) ≡ Some (items, z)) × (y ≡ drop 1 z)
unfolding class_from
items_in x t y e = go (is_at 94 x) e
  where
    go : (b : Bool) → (if b then option_map (class_token true) (class_items true (drop 1 x))
        else option_map (class_token false) (class_items true x)) ≡ Some (t, y) →
        (items : List Item) × (z : Text) × (class_items true (if b then drop 1 x else x) ≡ Some (items, z)) × (y ≡ drop 1 z)
    go true f = token_is true (class_items true (drop 1 x)) t y f
    go false f = token_is false (class_items true x) t y f

bracket_first : (x : Text) → is_at 93 x ≡ true → x ≡ 93 ∷ drop 1 x
bracket_first [] e = cc
bracket_first (c ∷ x) e = ap (λ d. d ∷ x) (code_is c 93 e)

-- a whole class
pub class_added : (x i end : Text) (t : Token) (y : Text) (old middle next new : List ℕ) → i ≡ inside x → Adds old middle (opening x) →
    ((items : List Item) (z : Text) → class_items true i ≡ Some (items, z) →
    (w : Text) × (z ≡ end) × (is_at 93 z ≡ true) × WritesItems [] i z w × Adds middle next w) →
    new ≡ next ++ (93 ∷ []) → class_from true x ≡ Some (t, y) →
    (w : Text) × (y ≡ drop 1 end) × WritesClass x y w × Adds old new w
unfolding encode
class_added x i end t y old middle next new e f g h k =
    let (items, z, m, n) = items_in x t y k in
    let (v, p, q, r, s) = g items z (ap (class_items true) e ∙ m) in
    let b : z ≡ 93 ∷ y = bracket_first z q ∙ ap (λ d. 93 ∷ d) (sym n) in (
      opening x ++ (v ++ (93 ∷ [])),
      n ∙ ap (drop 1) p,
      (v, subst (λ d. WritesItems [] d (93 ∷ y) v) e (subst (λ d. WritesItems [] i d v) b r), refl),
      adds_both old middle new (opening x) (v ++ (93 ∷ [])) f (adds_both middle next new v (93 ∷ []) s h),
    )
