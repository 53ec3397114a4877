-- The bytes of containers of number literals.
use Rattle.std.proofs.Common.{◌≡◌, ℕ, suc, ◌+◌, ◌^◌, ◌<◌, ◌≤◌, ◌⊎◌, true, List, [], ◌∷◌, ◌++◌, length, map, refl, sym, ap, subst, ◌∙◌, arith, inl, inr, Global}
use Rattle.std.specs.Borrow.{Bor}
use Rattle.std.specs.Prelude.{String as Text, string_bytes, IsTrue, ◌&&◌}
use Rattle.std.proofs.lemmas.Bool.{and_from}
use Rattle.std.proofs.lemmas.List.{length-append}
use Rattle.json_model.specs.Decimal.{Decimal}
use Rattle.json_model.specs.Parts.{elements_from}
use Rattle.json_model.specs.Rising.{KeysRiseInElements}
use Rattle.json_model.specs.Tree.{number}
use Rattle.jsonb_layout.specs.Layout.{Item}
use Rattle.jsonb_layout.specs.Stands.{key_item, Stands}
use Rattle.jsonb_layout.specs.declared.form.Form.TheVariants.{Array, Object}
use Rattle.jsonb_encode.specs.Encoded.{container, scalar_item, item, element_items, count_elements, encoded}
use Rattle.jsonb_encode.specs.Limits.{IsSmall, IsWithinLimits, elements_fit, ElementsAreSmall, ElementsHaveExactNumbers}
use Rattle.jsonb_encode.specs.Literals.{IsNumeral, IsRefused, AreNumerals, AreRefused, AreBytesOf, number_tree, numbers_tree, member_tree}
use Rattle.jsonb_encode.specs.Number.{body, numeric, fits}
use Rattle.jsonb_encode.specs.declared.contents.Contents.TheVariants.{Numeral, Numerals, KeyAndNumeral}
use Rattle.jsonb_encode.specs.declared.error.EncodeError.{EncodeError}
use Rattle.jsonb_encode.specs.declared.error.EncodeError.TheVariants.{TooLarge, OutOfMemory}
use Rattle.jsonb_encode.specs.declared.number_form.NumericForm.{NumericForm}
use Rattle.jsonb_encode.specs.declared.number_form.NumericForm.TheVariants.{Short, Long, ShortVarlena}
use Rattle.jsonb_encode.specs.inner.Contents.{Placed, placed, numeral_item, IsWrittenOf, IsEncodedOf, IsNotEncodedOf}
use Rattle.jsonb_encode.proofs.NumberStands.{body_within}
use Rattle.jsonb_encode.proofs.TreeStands.{tree_stands}

-- ---- one number

numeric_length : (form : NumericForm) (w : Decimal) → length (numeric form w) ≤ 4 + length (body form w)
unfolding numeric
numeric_length Short w = omega arith
numeric_length Long w = omega arith
numeric_length ShortVarlena w = omega arith

-- the bytes of a root scalar
pub scalar_bytes : (form : NumericForm) (t : Bor (List ℕ)) (b : List ℕ) → IsEncodedOf form (Numeral t) b
    → (w : Decimal) × IsNumeral form t.now w × AreBytesOf form b (number_tree w)
unfolding encoded
scalar_bytes form t b h =
    let (w, k, e) = h.are in
    let s = subst (λ (gs : List Placed). IsWrittenOf (Numeral t) gs [] b) e h.whole in
    let bytes : b ≡ encoded form (number_tree w) = s.bytes in
    let within : length (scalar_item form (number w) 0).piece < 2 ^ 28 =
    (let l = s.small.1 in omega (arith, length-append (scalar_item form (number w) 0).piece [])) in (
      w,
      k,
      record {
        bytes = bytes;
        within = within;
        stands = subst (λ (x : List ℕ). Stands x (number_tree w)) (sym bytes)
            (tree_stands form (number_tree w) (record { rise = tt; exact = k.in_range }) k.fit within);
      },
    )

-- a root scalar is never too large
pub scalar_causes : (form : NumericForm) (t : Bor (List ℕ)) (e : EncodeError) → IsNotEncodedOf form (Numeral t) e
    → IsRefused form t.now e ⊎ (e ≡ OutOfMemory)
scalar_causes form t e (inl r) = inl r
scalar_causes form t e (inr (gs, are, inl m)) = inr m
scalar_causes form t e (inr (gs, (w, k, same), inr (l, big))) =
    let few : length (numeric form w) < 2 ^ 28 = omega (arith, numeric_length form w, body_within form w k.in_range) in
    absurd (big (subst (λ (hs : List Placed). IsSmall 1 (placed hs 0)) (sym same) (omega arith, omega (arith, length-append (numeric form w) []))))

-- ---- a number under a key

pub member_bytes : (form : NumericForm) (k t : Bor (List ℕ)) (b : List ℕ) → IsEncodedOf form (KeyAndNumeral k t) b
    → (w : Decimal) × IsNumeral form t.now w × AreBytesOf form b (member_tree k.now w)
unfolding item encoded
member_bytes form k t b h =
    let (w, n, e) = h.are in
    let s = subst (λ (gs : List Placed). IsWrittenOf (KeyAndNumeral k t) gs [] b) e h.whole in
    let at : 0 + length k.now ≡ length (k.now ++ []) = omega (arith, length-append k.now []) in
    let small = subst (λ (p : ℕ). IsSmall 1 (key_item k.now ∷ numeral_item form w p ∷ [])) at s.small in
    let bytes : b ≡ encoded form (member_tree k.now w) = s.bytes
    ∙ ap (λ (p : ℕ). container Object 1 (key_item k.now ∷ numeral_item form w p ∷ [])) at in
    let within : IsWithinLimits form (member_tree k.now w) = (small, (tt, tt)) in
    let fit : IsTrue (fits form w && true) = and_from (fits form w) true n.fit refl in (
      w,
      n,
      record {
        bytes = bytes;
        within = within;
        stands = subst (λ (x : List ℕ). Stands x (member_tree k.now w)) (sym bytes)
            (tree_stands form (member_tree k.now w) (record { rise = (refl, (tt, tt)); exact = (n.in_range, tt) }) fit within);
      },
    )

pub member_large : (form : NumericForm) (k t : Bor (List ℕ)) (e : EncodeError) → IsNotEncodedOf form (KeyAndNumeral k t) e → e ≡ TooLarge
    → (w : Decimal) × IsNumeral form t.now w × ¬ IsWithinLimits form (member_tree k.now w)
unfolding item
member_large form k t e (inl r) is = absurd (subst (λ (x : EncodeError). IsRefused form t.now x) is r)
member_large form k t e (inr (gs, are, inl m)) is = absurd (let f : TooLarge ≡ OutOfMemory = sym is ∙ m in cc)
member_large form k t e (inr (gs, (w, n, same), inr (l, big))) is = (
  w,
  n,
  λ h.
      let at : length (k.now ++ []) ≡ 0 + length k.now = omega (arith, length-append k.now []) in
      big (subst (λ (hs : List Placed). IsSmall 1 (placed hs 0)) (sym same)
      (subst (λ (p : ℕ). IsSmall 1 (key_item k.now ∷ numeral_item form w p ∷ [])) at h.0)),
)

-- ---- numbers

numbers_items : (form : NumericForm) (ws : List Decimal) (at : ℕ)
    → placed (map (numeral_item form) ws) at ≡ element_items form (elements_from (map number_tree ws)) at
unfolding item
numbers_items form [] at = refl
numbers_items form (w ∷ ws) at =
    ap (λ (xs : List Item). scalar_item form (number w) at ∷ xs) (numbers_items form ws (at + length (scalar_item form (number w) at).piece))

numbers_small : (form : NumericForm) (ws : List Decimal) → ElementsAreSmall form (elements_from (map number_tree ws))
numbers_small form [] = tt
numbers_small form (w ∷ ws) = (tt, numbers_small form ws)

numbers_rise : (ws : List Decimal) → KeysRiseInElements (elements_from (map number_tree ws))
numbers_rise [] = tt
numbers_rise (w ∷ ws) = (tt, numbers_rise ws)

-- what is known of the numbers that texts write
record Numbers (form : NumericForm) (ts : List (List ℕ)) (ws : List Decimal) : Type 0 where
  exact : ElementsHaveExactNumbers (elements_from (map number_tree ws))
  fit : IsTrue (elements_fit form (elements_from (map number_tree ws)))
  count : length ts ≡ count_elements (elements_from (map number_tree ws))

numbers_known : (form : NumericForm) (ts : List (List ℕ)) (ws : List Decimal) → AreNumerals form ts ws → Numbers form ts ws
numbers_known form [] [] h = record { exact = tt; fit = refl; count = refl }
numbers_known form [] (w ∷ ws) h = absurd h
numbers_known form (t ∷ ts) [] h = absurd h
numbers_known form (t ∷ ts) (w ∷ ws) h =
    let more = numbers_known form ts ws h.1 in
    record {
      exact = (h.0.in_range, more.exact);
      fit = and_from (fits form w) (elements_fit form (elements_from (map number_tree ws))) h.0.fit more.fit;
      count = omega (arith, more.count);
    }

texts_count : (ts : List (Text Global)) → length (map string_bytes ts) ≡ length ts
texts_count [] = refl
texts_count (t ∷ ts) = ap (λ (n : ℕ). suc n) (texts_count ts)

pub array_bytes : (form : NumericForm) (ts : Bor (List (Text Global))) (b : List ℕ) → IsEncodedOf form (Numerals ts) b
    → (ws : List Decimal) × AreNumerals form (map string_bytes ts.now) ws × AreBytesOf form b (numbers_tree ws)
unfolding encoded
array_bytes form ts b h =
    let (ws, k, e) = h.are in
    let s = subst (λ (gs : List Placed). IsWrittenOf (Numerals ts) gs [] b) e h.whole in
    let es = elements_from (map number_tree ws) in
    let known = numbers_known form (map string_bytes ts.now) ws k in
    let count : length ts.now ≡ count_elements es = sym (texts_count ts.now) ∙ known.count in
    let items = numbers_items form ws 0 in
    let bytes : b ≡ encoded form (numbers_tree ws) =
    s.bytes ∙ ap (λ (n : ℕ). container Array n (placed (map (numeral_item form) ws) 0)) count
    ∙ ap (λ (xs : List Item). container Array (count_elements es) xs) items in
    let small = subst (λ (n : ℕ). IsSmall n (element_items form es 0)) count (subst (λ (xs : List Item). IsSmall (length ts.now) xs) items s.small) in
    let within : IsWithinLimits form (numbers_tree ws) = (small, numbers_small form ws) in (
      ws,
      k,
      record {
        bytes = bytes;
        within = within;
        stands = subst (λ (x : List ℕ). Stands x (numbers_tree ws)) (sym bytes)
            (tree_stands form (numbers_tree ws) (record { rise = numbers_rise ws; exact = known.exact }) known.fit within);
      },
    )

pub array_large : (form : NumericForm) (ts : Bor (List (Text Global))) (e : EncodeError) → IsNotEncodedOf form (Numerals ts) e → e ≡ TooLarge
    → (ws : List Decimal) × AreNumerals form (map string_bytes ts.now) ws × ¬ IsWithinLimits form (numbers_tree ws)
array_large form ts e (inl r) is = absurd (never form (map string_bytes ts.now)
    (subst (λ (x : EncodeError). AreRefused form (map string_bytes ts.now) x) is r))
  where
    never : (form : NumericForm) (ts : List (List ℕ)) → AreRefused form ts TooLarge → ⊥
    never form [] r = r
    never form (t ∷ ts) (inl r) = r
    never form (t ∷ ts) (inr r) = never form ts r.1
array_large form ts e (inr (gs, are, inl m)) is = absurd (let f : TooLarge ≡ OutOfMemory = sym is ∙ m in cc)
array_large form ts e (inr (gs, (ws, k, same), inr (l, big))) is = (
  ws,
  k,
  λ h.
      let known = numbers_known form (map string_bytes ts.now) ws k in
      let count : count_elements (elements_from (map number_tree ws)) ≡ length ts.now = sym (sym (texts_count ts.now) ∙ known.count) in
      big (subst (λ (hs : List Placed). IsSmall (length ts.now) (placed hs 0)) (sym same)
      (subst (λ (xs : List Item). IsSmall (length ts.now) xs) (sym (numbers_items form ws 0))
      (subst (λ (n : ℕ). IsSmall n (element_items form (elements_from (map number_tree ws)) 0)) count h.0))),
)
