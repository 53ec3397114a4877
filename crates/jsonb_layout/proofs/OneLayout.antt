-- Bytes are laid out in one way: the form and the items are read back from them.
use Rattle.std.proofs.Common.{◌≡◌, ℕ, ◌+◌, ◌^◌, ◌<◌, List, [], ◌∷◌, length, refl, sym, ap, subst, ◌∙◌, arith}
use Rattle.std.proofs.lemmas.List.{length-append}
use Rattle.jsonb_layout.specs.Layout.{Item, pieces, Laid}
use Rattle.jsonb_layout.specs.declared.form.Form.{Form}
use Rattle.jsonb_layout.specs.inner.Reading.{Place, items_in}
use Rattle.jsonb_layout.proofs.Tools.{some_is}
use Rattle.jsonb_layout.proofs.Runs.{Run, Run-tail, after, item_again}
use Rattle.jsonb_layout.proofs.Openings.{open_again, opens_from, count_is, first, last, run_over}

cons_same : (x y : Item) (xs ys : List Item) → x ≡ y → xs ≡ ys → x ∷ xs ≡ y ∷ ys
cons_same x y xs ys e f = cc

-- From one place there is one run of so many items.
one_run : (xs ys : List Item) (p q r : Place) → length xs ≡ length ys → Run p q xs → Run p r ys → p.at + length (pieces xs) < 2 ^ 28
    → p.at + length (pieces ys) < 2 ^ 28 → xs ≡ ys
one_run [] [] p q r n a b fits fit = refl
one_run [] (y ∷ ys) p q r n a b fits fit = absurd (omega arith)
one_run (x ∷ xs) [] p q r n a b fits fit = absurd (omega arith)
one_run (x ∷ xs) (y ∷ ys) p q r n a b fits fit =
    let l = length-append x.piece (pieces xs) in
    let m = length-append y.piece (pieces ys) in
    let left : Item × Place = (x, after p q x xs) in
    let right : Item × Place = (y, after p r y ys) in
    let same : left ≡ right = some_is left right (sym (item_again p q x xs a (omega (arith, l))) ∙ item_again p r y ys b (omega (arith, m))) in
    let head : x ≡ y = ap (λ (z : Item × Place). z.0) same in
    let place : after p q x xs ≡ after p r y ys = ap (λ (z : Item × Place). z.1) same in
    let long : length x.piece ≡ length y.piece = ap (λ (z : Item). length z.piece) head in
    let more = subst (λ (k : Place). Run k r ys) (sym place) (Run-tail p r y ys b) in
    cons_same x y xs ys head (one_run xs ys (after p q x xs) q r (omega arith) (Run-tail p q x xs a) more (omega (arith, l)) (omega (arith, m, long)))

-- Bytes are laid out in one way.
pub one_layout : (b : List ℕ) (f g : Form) (xs ys : List Item) → Laid b f xs → Laid b g ys → (f ≡ g) × (xs ≡ ys)
one_layout b f g xs ys l m =
    let left : Form × ℕ × Place = (f, l.count, first xs) in
    let right : Form × ℕ × Place = (g, m.count, first ys) in
    let same : left ≡ right =
    some_is left right (sym (open_again b f l.count (first xs) (opens_from b f xs l)) ∙ open_again b g m.count (first ys) (opens_from b g ys m))
    in
    let form : f ≡ g = ap (λ (z : Form × ℕ × Place). z.0) same in
    let number : items_in f l.count ≡ items_in g m.count = ap (λ (z : Form × ℕ × Place). items_in z.0 z.1) same in
    let place : first xs ≡ first ys = ap (λ (z : Form × ℕ × Place). z.2) same in
    let n : length xs ≡ length ys = (count_is f l.count (length xs) l.counted).0 ∙ number ∙ sym (count_is g m.count (length ys) m.counted).0 in
    let more = subst (λ (k : Place). Run k (last ys) ys) (sym place) (run_over ys m.kinds) in
    (form, one_run xs ys (first xs) (last xs) (last ys) n (run_over xs l.kinds) more (omega (arith, l.pieces_fit)) (omega (arith, m.pieces_fit)))
