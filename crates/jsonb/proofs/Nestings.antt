-- Words and nested arrays, written one after the other.
use Rattle.std.proofs.Common.{◌≡◌, ℕ, zero, suc, ◌+◌, ◌-◌, ◌*◌, ◌^◌, ◌<◌, ◌≤◌, List, [], ◌∷◌, ◌++◌, length, take, get_or, refl, sym, ap, ◌∙◌, arith}
use Rattle.std.specs.Int.{w32, to_le_bytes}
use Rattle.std.proofs.lemmas.Grind.{flat_map-append}
use Rattle.std.proofs.lemmas.List.{append_assoc, append-nil, length-append}
use Rattle.std.proofs.Math.Seq.{take-suc}
use Rattle.jsonb_layout.specs.Layout.{Item, words, Laid}
use Rattle.jsonb_layout.specs.declared.form.Form.TheVariants.{Array}
use Rattle.jsonb_layout.specs.Stands.{IsItem, Stands}
use Rattle.jsonb.specs.Nested.{nested_arrays, nested_bytes}

-- one word more
pub one_more : (header : ℕ) (entries : List ℕ) (i : ℕ) → i < length entries
    → words (header ∷ take i entries) ++ to_le_bytes w32 (get_or entries i 0) ≡ words (header ∷ take (i + 1) entries)
one_more header entries i lt =
    let w = get_or entries i 0 in
    let next : suc i ≡ i + 1 = omega arith in
    sym (flat_map-append (to_le_bytes w32) (header ∷ take i entries) (w ∷ []))
    ∙ ap (λ (xs : List ℕ). words (header ∷ xs)) (sym (take-suc entries i 0 lt) ∙ ap (λ (n : ℕ). take n entries) next)

-- all words are written, and the payload behind them
pub all_words : (header : ℕ) (entries payload items more : List ℕ) (i : ℕ) → length entries ≤ i → items ≡ words (header ∷ take i entries)
    → more ≡ items ++ payload → more ≡ words (header ∷ entries) ++ payload
all_words header entries payload items more i past h k =
    let whole : take i entries ≡ entries = take_past i entries past in
    k ∙ ap (λ (xs : List ℕ). xs ++ payload) (h ∙ ap (λ (xs : List ℕ). words (header ∷ xs)) whole)
  where
    take_past : (n : ℕ) (xs : List ℕ) → length xs ≤ n → take n xs ≡ xs
    take_past zero [] le = refl
    take_past (suc n) [] le = refl
    take_past zero (x ∷ xs) le = absurd (omega (arith, le))
    take_past (suc n) (x ∷ xs) le = ap (λ (ys : List ℕ). x ∷ ys) (take_past n xs (omega (arith, le)))

-- two words of an array around the rest
one_deeper : (items : List ℕ) (n inner : ℕ) → inner ≡ 8 * n + 4
    → ((items ++ to_le_bytes w32 (4 * 2 ^ 28 + 1)) ++ to_le_bytes w32 (2 ^ 31 + 5 * 2 ^ 28 + inner)) ++ nested_bytes n
    ≡ items ++ nested_bytes (suc n)
one_deeper items n inner e =
    let a = to_le_bytes w32 (4 * 2 ^ 28 + 1) in
    let b = to_le_bytes w32 (2 ^ 31 + 5 * 2 ^ 28 + inner) in
    append_assoc (items ++ a) b (nested_bytes n)
    ∙ append_assoc items a (b ++ nested_bytes n)
    ∙ ap (λ (k : ℕ). items ++ (a ++ (to_le_bytes w32 (2 ^ 31 + 5 * 2 ^ 28 + k) ++ nested_bytes n))) e

-- one array more is written around what is left
pub goes_deeper : (depth level : ℕ) (items one two : List ℕ) → level < depth → items ++ nested_bytes (depth - level) ≡ nested_bytes depth
    → one ≡ items ++ to_le_bytes w32 (4 * 2 ^ 28 + 1) → two ≡ one ++ to_le_bytes w32 (2 ^ 31 + 5 * 2 ^ 28 + (8 * (depth - level) - 4))
    → two ++ nested_bytes (depth - (level + 1)) ≡ nested_bytes depth
goes_deeper depth level items one two lt so_far h k =
    let n = depth - (level + 1) in
    let inner = 8 * (depth - level) - 4 in
    let left : depth - level ≡ suc n = omega (arith, lt) in
    let size : inner ≡ 8 * n + 4 = omega (arith, lt) in
    ap (λ (xs : List ℕ). xs ++ nested_bytes n) (k ∙ ap (λ (xs : List ℕ). xs ++ to_le_bytes w32 (2 ^ 31 + 5 * 2 ^ 28 + inner)) h)
    ∙ one_deeper items n inner size
    ∙ ap (λ (m : ℕ). items ++ nested_bytes m) (sym left)
    ∙ so_far

pub nested_length : (n : ℕ) → length (nested_bytes n) ≡ 8 * n + 4
nested_length zero = refl
nested_length (suc n) = omega (arith, nested_length n)

abbrev around : ℕ → Item
around n = record { kind = 5; piece = nested_bytes n }

is_inside : (n : ℕ) → Stands (nested_bytes n) (nested_arrays n) → IsItem (nested_arrays n) 0 (around n)
is_inside zero h = (refl, (nested_bytes zero, refl, h))
is_inside (suc n) h = (refl, (nested_bytes (suc n), refl, h))

laid_around : (n : ℕ) → n < 2 ^ 25 → Laid (nested_bytes (suc n)) Array (around n ∷ [])
laid_around n lt =
    let size : 8 * n + 4 ≡ 0 + length (nested_bytes n) = omega (arith, nested_length n) in
    record {
      count = 1;
      counted = refl;
      count_fits = omega arith;
      kinds = (omega arith, tt);
      pieces_fit = omega (arith, lt, nested_length n, length-append (nested_bytes n) []);
      bytes = ap (λ (k : ℕ). words ((4 * 2 ^ 28 + 1) ∷ (2 ^ 31 + 5 * 2 ^ 28 + k) ∷ []) ++ nested_bytes n) size
          ∙ ap (λ (xs : List ℕ). words ((4 * 2 ^ 28 + 1) ∷ (2 ^ 31 + 5 * 2 ^ 28 + (0 + length (nested_bytes n))) ∷ []) ++ xs)
          (sym (append-nil (nested_bytes n)));
    }

-- the bytes stand for arrays in arrays
pub nested_stands : (n : ℕ) → n ≤ 2 ^ 25 → Stands (nested_bytes n) (nested_arrays n)
nested_stands zero le = ([], record { count = 0; counted = refl; count_fits = omega arith; kinds = tt; pieces_fit = omega arith; bytes = refl }, tt)
nested_stands (suc n) le = (around n ∷ [], laid_around n (omega (arith, le)), (is_inside n (nested_stands n (omega (arith, le))), tt))
