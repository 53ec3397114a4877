-- Eleven groups are in the order of three words, which hold four, four and three of them.
use Rattle.std.proofs.Common.{◌≡◌, ℕ, ◌+◌, ◌*◌, ◌^◌, ◌<◌, List, ◌∷◌, length, get_or, sym, ap, subst, ◌∙◌, arith}
use Rattle.std.specs.Ordering.{nat_cmp, ordering_then}
use Rattle.std.specs.declared.cmp.Ordering.{Ordering}
use Rattle.std.specs.Cmp.{ranks, nat_cmp_is}
use Rattle.std.specs.Cmp.Lexicographic.{slice_cmp}
use Rattle.json_exact.specs.Digits.{joined, AllBelow}
use Rattle.json_exact.specs.inner.LeadingDigitsLaws.{joined_below}
use Rattle.json_exact.proofs.FewLaws.{reads, reads_all, reads_below}
use Rattle.json_exact.proofs.OrderLaws.{Orders, high_then_low, digits_order}

abbrev pub first : List ℕ → ℕ
first gs = joined 65536 (reads 4 0 gs)

abbrev pub middle : List ℕ → ℕ
middle gs = joined 65536 (reads 4 4 gs)

abbrev pub last : List ℕ → ℕ
last gs = joined 65536 (0 ∷ reads 3 8 gs)

-- the groups as one number are the words as one
split : (gs : List ℕ) → length gs ≡ 11 → joined 65536 gs ≡ (first gs * 65536 ^ 4 + middle gs) * 65536 ^ 3 + last gs
split gs e = ap (λ (ds : List ℕ). joined 65536 ds) (sym (reads_all 11 gs e)) ∙ omega arith

middle_small : (gs : List ℕ) → ((k : ℕ) → get_or gs k 0 < 65536) → middle gs < 65536 ^ 4
middle_small gs h = joined_below 65536 (reads 4 4 gs) (reads_below 65536 4 4 gs h)

last_small : (gs : List ℕ) → ((k : ℕ) → get_or gs k 0 < 65536) → last gs < 65536 ^ 3
last_small gs h = let l : joined 65536 (reads 3 8 gs) < 65536 ^ 3 = joined_below 65536 (reads 3 8 gs) (reads_below 65536 3 8 gs h) in omega arith

all_below : (gs : List ℕ) → length gs ≡ 11 → ((k : ℕ) → get_or gs k 0 < 65536) → AllBelow 65536 gs
all_below gs e h = subst (λ (ds : List ℕ). AllBelow 65536 ds) (reads_all 11 gs e) (reads_below 65536 11 0 gs h)

-- the order of the words
abbrev pub words : List ℕ → List ℕ → Ordering
words xs ys = ordering_then (ordering_then (nat_cmp (first xs) (first ys)) (nat_cmp (middle xs) (middle ys))) (nat_cmp (last xs) (last ys))

pub words_order : (xs ys : List ℕ) → length xs ≡ 11 → length ys ≡ 11 → ((k : ℕ) → get_or xs k 0 < 65536) → ((k : ℕ) → get_or ys k 0 < 65536)
    → words xs ys ≡ slice_cmp nat_cmp xs ys
words_order xs ys e f h g =
    let fronts = high_then_low _ _ (first xs) (first ys) (middle xs) (middle ys) (65536 ^ 4) (middle_small xs h) (middle_small ys g)
    (ranks (first xs) (first ys)) (ranks (middle xs) (middle ys)) in
    let all = high_then_low _ _ (first xs * 65536 ^ 4 + middle xs) (first ys * 65536 ^ 4 + middle ys) (last xs) (last ys) (65536 ^ 3)
    (last_small xs h) (last_small ys g) fronts (ranks (last xs) (last ys)) in
    nat_cmp_is (joined 65536 xs) (joined 65536 ys) _
    (subst (λ (n : ℕ). Orders (words xs ys) n (joined 65536 ys)) (sym (split xs e))
    (subst (λ (n : ℕ). Orders (words xs ys) ((first xs * 65536 ^ 4 + middle xs) * 65536 ^ 3 + last xs) n) (sym (split ys f)) all))
    ∙ sym (nat_cmp_is (joined 65536 xs) (joined 65536 ys) _
    (digits_order 65536 xs ys (all_below xs e h) (all_below ys f g) (e ∙ sym f)))
