-- What the ECMA grammar reads, the widened one reads alike.
use Rattle.std.proofs.Common.{◌≡◌, ℕ, zero, suc, Bool, true, false, not, ◌&&◌, List, [], ◌∷◌, ◌++◌, length, drop, Option, Some, None, option_map, option_and_then, refl, ap, ◌∙◌, arith}
use Rattle.std.specs.Prelude.{if◌then◌else◌, ◌==◌, ◌||◌}
use Rattle.std.proofs.lemmas.Bool.Decides.{nat_tests}
use Rattle.pattern_model.specs.Text.{Text, is_at, with_front, many_in, many}
use Rattle.pattern_model.specs.Tree.{Item, Token, Tree, tokens_of}
use Rattle.pattern_model.specs.Classes.{Atom, class_atom, is_escape, item_of_atom, makes_range, range_to, has_hyphens, part_from, class_part, class_items}
use Rattle.pattern_model.specs.Tokens.{class_token, class_from, token_from, Reads}
use Rattle.pattern_model.specs.Grammar.{Grammar}
use Rattle.pattern_model.proofs.BoolLaws.{both}

-- what the one gives, the other gives
abbrev Keeps : {A : Type 0} → Option A → Option A → Type 0
Keeps {A} o p = (a : A) → o ≡ Some a → p ≡ Some a

keep_same : {A : Type 0} (o : Option A) → Keeps o o
keep_same o a e = e

keep_if : {A : Type 0} (b : Bool) (o p q r : Option A) → Keeps o p → Keeps q r → Keeps (if b then o else q) (if b then p else r)
keep_if true o p q r h g = h
keep_if false o p q r h g = g

keep_map : {A B : Type 0} (f : A → B) (o p : Option A) → Keeps o p → Keeps (option_map f o) (option_map f p)
keep_map f None p h b e = cc
keep_map f (Some a) p h b e = ap (option_map f) (h a refl) ∙ e

keep_bind : {A B : Type 0} (f g : A → Option B) (o : Option A) → ((a : A) → Keeps (f a) (g a)) →
    Keeps (option_and_then f o) (option_and_then g o)
keep_bind f g None h b e = cc
keep_bind f g (Some a) h b e = h a b e

keep_both : {A B : Type 0} (f g : A → Option B) (o p : Option A) → Keeps o p → ((a : A) → Keeps (f a) (g a)) →
    Keeps (option_and_then f o) (option_and_then g p)
keep_both f g None p h k b e = cc
keep_both f g (Some a) p h k b e = ap (option_and_then g) (h a refl) ∙ k a b e

keep_front : {A : Type 0} (xs : List A) (o p : Option (List A × Text)) → Keeps o p → Keeps (with_front xs o) (with_front xs p)
keep_front xs o p h = keep_map (λ q. (xs ++ q.0, q.1)) o p h

absurd_none : {A B : Type 0} {a : A} → None ≡ Some a → B
absurd_none e = cc

keep_many : {A : Type 0} (stop : Text → Bool) (one two : Text → Option (List A × Text)) → ((x : Text) → Keeps (one x) (two x)) →
    (n : ℕ) (x : Text) → Keeps (many_in stop one n x) (many_in stop two n x)
keep_many stop one two h zero x = λ b e. absurd_none e
keep_many stop one two h (suc n) x =
    keep_if (stop x) (Some ([], x)) (Some ([], x)) _ _ (keep_same (Some ([], x)))
    (keep_both (λ q. with_front q.0 (many_in stop one n q.1)) (λ q. with_front q.0 (many_in stop two n q.1)) (one x) (two x) (h x)
    (λ q. keep_front q.0 (many_in stop one n q.1) (many_in stop two n q.1) (keep_many stop one two h n q.1)))

-- an escape with a hyphen behind it begins no range
no_range : (a : Atom) (o : Option (Atom × Text)) → is_escape a ≡ true → option_and_then (range_to a) o ≡ None
no_range (Atom.code c) o e = cc
no_range (Atom.property b) o e = cc
no_range (Atom.escape s) None e = refl
no_range (Atom.escape s) (Some p) e = refl

hyphen_ranges : (x : Text) → is_at 45 x && is_at 45 (drop 1 x) ≡ true → makes_range x ≡ true
unfolding makes_range
hyphen_ranges [] e = cc
hyphen_ranges (c ∷ []) e = let k = (both (c == 45) false e).1 in cc
hyphen_ranges (c ∷ (d ∷ x)) e =
    let (first, second) = both (c == 45) (d == 45) e in
    ap (λ z. z && not (d == 93)) first ∙ ap not (other d second)
  where
    other : (d : ℕ) → d == 45 ≡ true → d == 93 ≡ false
    other d h = grind (arith, nat_tests)

keep_part : (p : Atom × Text) → Keeps (part_from false p) (part_from true p)
unfolding part_from
keep_part p b e = go (has_hyphens true p) refl
  where
    go : (t : Bool) → has_hyphens true p ≡ t → part_from true p ≡ Some b
    go false h = ap (λ z. if z then Some (item_of_atom p.0 ∷ Item.one 45 ∷ Item.one 45 ∷ [], drop 2 p.1) else (part_from false p)) h ∙ e
    go true h =
        let (escape, hyphens) = both (is_escape p.0) (is_at 45 p.1 && is_at 45 (drop 1 p.1)) h in
        let range : makes_range p.1 ≡ true = hyphen_ranges p.1 hyphens in
        let none : part_from false p ≡ None =
        ap (λ z. if z then option_and_then (range_to p.0) (class_atom (drop 1 p.1)) else Some (item_of_atom p.0 ∷ [], p.1)) range
        ∙ no_range p.0 (class_atom (drop 1 p.1)) escape in
        cc

keep_class_part : (x : Text) → Keeps (class_part false x) (class_part true x)
unfolding class_part
keep_class_part x = keep_bind (part_from false) (part_from true) (class_atom x) keep_part

keep_items : (x : Text) → Keeps (class_items false x) (class_items true x)
unfolding class_items many
keep_items x = keep_many (is_at 93) (class_part false) (class_part true) keep_class_part (suc (length x)) x

keep_class : (x : Text) → Keeps (class_from false x) (class_from true x)
unfolding class_from
keep_class x =
    keep_if (is_at 94 x) _ _ _ _ (keep_map (class_token true) _ _ (keep_items (drop 1 x))) (keep_map (class_token false) _ _ (keep_items x))

keep_token : (c : ℕ) (x : Text) → Keeps (token_from false c x) (token_from true c x)
unfolding token_from
keep_token c x =
    keep_if (c == 124) _ _ _ _ (keep_same _)
    (keep_if (c == 40) _ _ _ _ (keep_same _)
    (keep_if (c == 41) _ _ _ _ (keep_same _)
    (keep_if (c == 42) _ _ _ _ (keep_same _)
    (keep_if (c == 43) _ _ _ _ (keep_same _)
    (keep_if (c == 63) _ _ _ _ (keep_same _)
    (keep_if (c == 123) _ _ _ _ (keep_same _)
    (keep_if (c == 46) _ _ _ _ (keep_same _)
    (keep_if (c == 94) _ _ _ _ (keep_same _)
    (keep_if (c == 36) _ _ _ _ (keep_same _)
    (keep_if (c == 91) _ _ _ _ (keep_class x)
    (keep_if (c == 92) _ _ _ _ (keep_same _)
    (keep_if (c == 93 || c == 125) _ _ _ _ (λ a e. cc) (keep_same _)))))))))))))

reads_keep : (x : Text) (ts : List Token) → Reads false x ts → Reads true x ts
reads_keep x [] e = e
reads_keep x (t ∷ ts) (c, after, rest, e, f, r) = (c, after, rest, e, keep_token c after (t, rest) f, reads_keep rest ts r)

-- a pattern of the ECMA grammar is one of the widened grammar, with the same tree
pub widened_reads : (x : Text) (t : Tree) → Grammar false x t → Grammar true x t
widened_reads x t g = record {
  spells = record { fits = g.spells.fits; reads = reads_keep x (tokens_of t) g.spells.reads };
  apart = g.apart;
  named = g.named;
  numbered = g.numbered;
}
