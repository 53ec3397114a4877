-- Items that are written one after another, whatever they are.
use Rattle.std.proofs.Common.{◌≡◌, ℕ, zero, suc, ◌+◌, ◌-◌, ◌*◌, ◌<◌, ◌≤◌, List, [], ◌∷◌, ◌++◌, length, map, take, drop, get_or, refl, sym, ap, subst, ◌∙◌, arith, inl, inr, Global, Vec, Result, Ok, Err}
use Rattle.std.specs.Prelude.{String as Text, string_bytes, MatchResult, IfOk, IfErr, ◌↔◌}
use Rattle.std.specs.Borrow.{Bor}
use Rattle.std.proofs.lemmas.List.{length-append}
use Rattle.json_model.specs.Decimal.{Decimal}
use Rattle.jsonb_layout.specs.Layout.{Item, pieces}
use Rattle.jsonb_layout.specs.declared.form.Form.{Form}
use Rattle.jsonb_encode.specs.Children.{child_item}
use Rattle.jsonb_encode.specs.Literals.{IsNumeral, IsRefused, AreNumerals, AreRefused}
use Rattle.jsonb_encode.specs.inner.Contents.{Placed, placed, numeral_item, key_at, null_at, IsAt, AreOf, count_in, items_in, IsItemWritten, IsRefusedOf, IsEncodedOf, IsNotEncodedOf}
use Rattle.jsonb_encode.specs.inner.Writing.{IsOpen, item_of, kind_number}
use Rattle.jsonb_encode.specs.declared.kind.Kind.{Kind}
use Rattle.jsonb_encode.specs.declared.error.EncodeError.{EncodeError}
use Rattle.jsonb_encode.specs.declared.error.EncodeError.TheVariants.{TooLarge, OutOfMemory}
use Rattle.jsonb_encode.specs.declared.contents.Contents.{Contents}
use Rattle.jsonb_encode.specs.declared.contents.Contents.TheVariants.{Numeral, Numerals, Containers, KeyAndNumeral, KeyAndNull}
use Rattle.jsonb_encode.specs.declared.number_form.NumericForm.{NumericForm}
use Rattle.jsonb_encode.proofs.Numerals.{not_refused, one_reason}
use Rattle.jsonb_encode.proofs.Opened.{open_length}

-- each place of a list holds something
pub some_at : (i : ℕ) (gs : List Placed) → i < length gs → (g : Placed) × IsAt i gs g
some_at i [] lt = absurd (omega arith)
some_at zero (g ∷ gs) lt = (g, refl)
some_at (suc i) (g ∷ gs) lt = some_at i gs (omega arith)

-- one more is taken
pub taken_at : (i : ℕ) (gs : List Placed) (g : Placed) → IsAt i gs g → take (i + 1) gs ≡ take i gs ++ g ∷ []
taken_at i gs g h = ap (λ (k : ℕ). take k gs) (let e : i + 1 ≡ suc i = omega arith in e) ∙ go i gs h
  where
    go : (i : ℕ) (gs : List Placed) → IsAt i gs g → take (suc i) gs ≡ take i gs ++ g ∷ []
    go i [] h = absurd h
    go zero (k ∷ ks) h = ap (λ (x : Placed). x ∷ []) h
    go (suc i) (k ∷ ks) h = ap (λ (xs : List Placed). k ∷ xs) (go i ks h)

pub taken_length : (i : ℕ) (gs : List Placed) → i ≤ length gs → length (take i gs) ≡ i
taken_length zero gs le = refl
taken_length (suc i) [] le = absurd (omega arith)
taken_length (suc i) (g ∷ gs) le = ap (λ (n : ℕ). suc n) (taken_length i gs (omega arith))

pub all_taken : (i : ℕ) (gs : List Placed) → i ≡ length gs → take i gs ≡ gs
all_taken zero [] e = refl
all_taken zero (g ∷ gs) e = absurd (omega arith)
all_taken (suc i) [] e = absurd (omega arith)
all_taken (suc i) (g ∷ gs) e = ap (λ (xs : List Placed). g ∷ xs) (all_taken i gs (omega arith))

pub placed_length : (gs : List Placed) (at : ℕ) → length (placed gs at) ≡ length gs
placed_length [] at = refl
placed_length (g ∷ gs) at = ap (λ (n : ℕ). suc n) (placed_length gs (at + length (g at).piece))

-- the last of them is placed behind the others
placed_last : (gs : List Placed) (g : Placed) (at : ℕ) → placed (gs ++ g ∷ []) at ≡ placed gs at ++ g (at + length (pieces (placed gs at))) ∷ []
placed_last [] g at = ap (λ (k : ℕ). g k ∷ []) (let e : at ≡ at + 0 = omega arith in e)
placed_last (h ∷ gs) g at =
    let x = h at in
    let next = at + length x.piece in
    let e : next + length (pieces (placed gs next)) ≡ at + length (x.piece ++ pieces (placed gs next)) =
    omega (arith, length-append x.piece (pieces (placed gs next))) in
    ap (λ (xs : List Item). x ∷ xs) (placed_last gs g next ∙ ap (λ (k : ℕ). placed gs next ++ g k ∷ []) e)

-- the next item is written
pub next_placed : (gs : List Placed) (i : ℕ) (g : Placed) (f : Form) (count n at kind : ℕ) (base new : List ℕ) → IsAt i gs g
    → at ≡ length (pieces (placed (take i gs) 0)) → (g at).kind ≡ kind
    → IsOpen f count n (placed (take i gs) 0 ++ item_of kind (g at).piece ∷ []) base new
    → IsOpen f count n (placed (take (i + 1) gs) 0) base new
next_placed gs i g f count n at kind base new h e k open_is =
    let same : placed (take i gs) 0 ++ item_of kind (g at).piece ∷ [] ≡ placed (take (i + 1) gs) 0 =
    ap (λ (m : ℕ). placed (take i gs) 0 ++ item_of m (g at).piece ∷ []) (sym k)
    ∙ ap (λ (m : ℕ). placed (take i gs) 0 ++ g m ∷ []) (let t : at ≡ 0 + length (pieces (placed (take i gs) 0)) = omega arith in t)
    ∙ sym (placed_last (take i gs) g 0)
    ∙ ap (λ (hs : List Placed). placed hs 0) (sym (taken_at i gs g h)) in
    subst (λ (xs : List Item). IsOpen f count n xs base new) same open_is

-- all pieces are at least as many bytes as the first ones
pub not_smaller : (i : ℕ) (gs : List Placed) (g : Placed) (from at : ℕ) → IsAt i gs g → at ≡ from + length (pieces (placed (take i gs) from))
    → length (pieces (placed (take i gs) from)) + length (g at).piece ≤ length (pieces (placed gs from))
not_smaller i [] g from at h e = absurd h
not_smaller zero (k ∷ gs) g from at h e =
    let same : length (g at).piece ≡ length (k from).piece = ap (λ (x : Placed). length (x at).piece) (sym h)
    ∙ ap (λ (m : ℕ). length (k m).piece) (let t : at ≡ from = omega arith in t) in
    let all = length-append (k from).piece (pieces (placed gs (from + length (k from).piece))) in
    omega arith
not_smaller (suc i) (k ∷ gs) g from at h e =
    let next = from + length (k from).piece in
    let some = length-append (k from).piece (pieces (placed (take i gs) next)) in
    let all = length-append (k from).piece (pieces (placed gs next)) in
    let more = not_smaller i gs g next at h (omega arith) in
    omega arith

-- where the next item is to be
pub place_at : (gs : List Placed) (i n : ℕ) (f : Form) (count payload : ℕ) (base mid : List ℕ) → i ≤ length gs → i ≤ n
    → IsOpen f count n (placed (take i gs) 0) base mid → payload ≡ length base + 4 * n + 4
    → (payload ≤ length mid) × (length mid - payload ≡ length (pieces (placed (take i gs) 0)))
place_at gs i n f count payload base mid le few h e =
    let l = open_length f count n (placed (take i gs) 0) base mid (omega (arith, placed_length (take i gs) 0, taken_length i gs le)) h in
    (omega arith, omega arith)

-- ---- what contents are

numerals_length : (form : NumericForm) (ts : List (List ℕ)) (ws : List Decimal) → AreNumerals form ts ws → length ts ≡ length ws
numerals_length form [] [] h = refl
numerals_length form [] (w ∷ ws) h = absurd h
numerals_length form (t ∷ ts) [] h = absurd h
numerals_length form (t ∷ ts) (w ∷ ws) h = ap (λ (n : ℕ). suc n) (numerals_length form ts ws h.1)

map_length : {A B : Type 0} (f : A → B) (xs : List A) → length (map f xs) ≡ length xs
map_length f [] = refl
map_length f (x ∷ xs) = ap (λ (n : ℕ). suc n) (map_length f xs)

pub contents_length : (form : NumericForm) (c : Contents) (gs : List Placed) → AreOf form c gs → length gs ≡ items_in c
contents_length form (Numeral t) gs (w, h, e) = ap length e
contents_length form (Numerals ts) gs (ws, h, e) =
    ap length e ∙ map_length (numeral_item form) ws ∙ sym (numerals_length form (map string_bytes ts.now) ws h) ∙ map_length string_bytes ts.now
contents_length form (Containers cs) gs e = ap length e ∙ map_length _ cs.now
contents_length form (KeyAndNumeral k t) gs (w, h, e) = ap length e
contents_length form (KeyAndNull k) gs e = ap length e

-- there are at most two items for each that is counted
pub items_few : (c : Contents) → items_in c ≤ 2 * count_in c
items_few (Numeral t) = omega arith
items_few (Numerals ts) = omega arith
items_few (Containers cs) = omega arith
items_few (KeyAndNumeral k t) = omega arith
items_few (KeyAndNull k) = omega arith

-- the literal of a place writes the number of it
pub numeral_at : (form : NumericForm) (ts : List (Text Global)) (ws : List Decimal) (i : ℕ) (d : Text Global) (g : Placed)
    → AreNumerals form (map string_bytes ts) ws
    → IsAt i (map (numeral_item form) ws) g → (w : Decimal) × IsNumeral form (string_bytes (get_or ts i d)) w × (numeral_item form w ≡ g)
numeral_at form [] [] i d g h k = absurd k
numeral_at form [] (w ∷ ws) i d g h k = absurd h
numeral_at form (t ∷ ts) [] i d g h k = absurd h
numeral_at form (t ∷ ts) (w ∷ ws) zero d g h k = (w, h.0, k)
numeral_at form (t ∷ ts) (w ∷ ws) (suc i) d g h k = numeral_at form ts ws i d g h.1 k

-- the item of a place of a list of them
pub mapped_at : {A : Type 0} (f : A → Placed) (xs : List A) (i : ℕ) (d : A) (g : Placed) → IsAt i (map f xs) g → f (get_or xs i d) ≡ g
mapped_at f [] i d g h = absurd h
mapped_at f (x ∷ xs) zero d g h = h
mapped_at f (x ∷ xs) (suc i) d g h = mapped_at f xs i d g h

pub at_first : (gs hs : List Placed) (k g : Placed) (i : ℕ) → gs ≡ k ∷ hs → i ≡ 0 → IsAt i gs g → k ≡ g
at_first gs hs k g i e z h = subst (λ (xs : List Placed). IsAt 0 xs g) e (subst (λ (j : ℕ). IsAt j gs g) z h)

pub at_second : (gs hs : List Placed) (k m g : Placed) (i : ℕ) → gs ≡ k ∷ m ∷ hs → (i ≡ 0 → ⊥) → i < 2 → IsAt i gs g → m ≡ g
at_second gs hs k m g zero e ne lt h = absurd (ne refl)
at_second gs hs k m g (suc zero) e ne lt h = subst (λ (xs : List Placed). IsAt (suc zero) xs g) e h
at_second gs hs k m g (suc (suc i)) e ne lt h = absurd (omega arith)

-- what is answered of an item
abbrev pub Told : Result Kind EncodeError → Placed → ℕ → List ℕ → List ℕ → Type 0
Told r g at before after = MatchResult r (λ kind. IsItemWritten (g at) before after (kind_number kind)) (λ e. e ≡ OutOfMemory)

pub told_as : (r : Result Kind EncodeError) (h g : Placed) (at : ℕ) (before after : List ℕ) → h ≡ g → Told r h at before after
    → Told r g at before after
told_as r h g at before after e t = subst (λ (k : Placed). Told r k at before after) e t

-- an error that is handed on
pub err_told_as : {A : Type 0} (r : Result A EncodeError) (e : EncodeError) (P : A → Type 0) (Q : EncodeError → Type 0) → r ≡ Err e → Q e
    → MatchResult r P Q
err_told_as r e P Q h q = rw h q

-- ---- texts

pub split_texts : (ts : List (Text Global)) (i : ℕ) (d : Text Global) → i < length ts
    → map string_bytes ts ≡ take i (map string_bytes ts) ++ string_bytes (get_or ts i d) ∷ drop (suc i) (map string_bytes ts)
split_texts [] i d lt = absurd (omega arith)
split_texts (t ∷ ts) zero d lt = refl
split_texts (t ∷ ts) (suc i) d lt = ap (λ (xs : List (List ℕ)). string_bytes t ∷ xs) (split_texts ts i d (omega arith))

pub taken_texts : (ts : List (Text Global)) (i : ℕ) (d : Text Global) → i < length ts
    → take i (map string_bytes ts) ++ string_bytes (get_or ts i d) ∷ [] ≡ take (i + 1) (map string_bytes ts)
taken_texts ts i d lt = go ts i lt ∙ ap (λ (k : ℕ). take k (map string_bytes ts)) (let e : suc i ≡ i + 1 = omega arith in e)
  where
    go : (ts : List (Text Global)) (i : ℕ) → i < length ts → take i (map string_bytes ts) ++ string_bytes (get_or ts i d) ∷ [] ≡ take (suc i)
        (map string_bytes ts)
    go [] i lt = absurd (omega arith)
    go (t ∷ ts) zero lt = refl
    go (t ∷ ts) (suc i) lt = ap (λ (xs : List (List ℕ)). string_bytes t ∷ xs) (go ts i (omega arith))

pub all_texts : (ts : List (Text Global)) (i : ℕ) → length ts ≤ i → take i (map string_bytes ts) ≡ map string_bytes ts
all_texts [] zero le = refl
all_texts [] (suc i) le = refl
all_texts (t ∷ ts) zero le = absurd (omega arith)
all_texts (t ∷ ts) (suc i) le = ap (λ (xs : List (List ℕ)). string_bytes t ∷ xs) (all_texts ts i (omega arith))

-- one numeral more
pub numerals_more : (form : NumericForm) (ts : List (List ℕ)) (ws : List Decimal) (t : List ℕ) (w : Decimal) → AreNumerals form ts ws
    → IsNumeral form t w
    → AreNumerals form (ts ++ t ∷ []) (ws ++ w ∷ [])
numerals_more form [] [] t w h k = (k, tt)
numerals_more form [] (v ∷ ws) t w h k = absurd h
numerals_more form (s ∷ ts) [] t w h k = absurd h
numerals_more form (s ∷ ts) (v ∷ ws) t w h k = (h.0, numerals_more form ts ws t w h.1 k)

-- behind numerals the first text that is refused
pub refused_behind : (form : NumericForm) (ts us : List (List ℕ)) (ws : List Decimal) (t : List ℕ) (e : EncodeError) → AreNumerals form ts ws
    → IsRefused form t e
    → AreRefused form (ts ++ t ∷ us) e
refused_behind form [] us [] t e h r = inl r
refused_behind form [] us (w ∷ ws) t e h r = absurd h
refused_behind form (s ∷ ts) us [] t e h r = absurd h
refused_behind form (s ∷ ts) us (w ∷ ws) t e h r = inr ((w, h.0), refused_behind form ts us ws t e h.1 r)

-- numerals are not refused
pub none_refused : (form : NumericForm) (ts : List (List ℕ)) (ws : List Decimal) (e : EncodeError) → AreNumerals form ts ws → AreRefused form ts e → ⊥
none_refused form [] ws e h r = r
none_refused form (t ∷ ts) [] e h r = h
none_refused form (t ∷ ts) (w ∷ ws) e h (inl r) = not_refused form t e (w, h.0) r
none_refused form (t ∷ ts) (w ∷ ws) e h (inr r) = none_refused form ts ws e h.1 r.1

-- texts are refused for one reason
pub first_reason : (form : NumericForm) (ts : List (List ℕ)) (e f : EncodeError) → AreRefused form ts e → AreRefused form ts f → e ≡ f
first_reason form [] e f h k = absurd h
first_reason form (t ∷ ts) e f (inl h) (inl k) = one_reason form t e f h k
first_reason form (t ∷ ts) e f (inl h) (inr k) = absurd (not_refused form t e k.0 h)
first_reason form (t ∷ ts) e f (inr h) (inl k) = absurd (not_refused form t f h.0 k)
first_reason form (t ∷ ts) e f (inr h) (inr k) = first_reason form ts e f h.1 k.1

-- ---- refusals of contents

pub fine_not_refused : (form : NumericForm) (c : Contents) (gs : List Placed) (e : EncodeError) → AreOf form c gs → IsRefusedOf form c e → ⊥
fine_not_refused form (Numeral t) gs e (w, h, _) r = not_refused form t.now e (w, h) r
fine_not_refused form (Numerals ts) gs e (ws, h, _) r = none_refused form (map string_bytes ts.now) ws e h r
fine_not_refused form (Containers cs) gs e h r = r
fine_not_refused form (KeyAndNumeral k t) gs e (w, h, _) r = not_refused form t.now e (w, h) r
fine_not_refused form (KeyAndNull k) gs e h r = r

pub one_refusal : (form : NumericForm) (c : Contents) (e f : EncodeError) → IsRefusedOf form c e → IsRefusedOf form c f → e ≡ f
one_refusal form (Numeral t) e f h k = one_reason form t.now e f h k
one_refusal form (Numerals ts) e f h k = first_reason form (map string_bytes ts.now) e f h k
one_refusal form (Containers cs) e f h k = absurd h
one_refusal form (KeyAndNumeral l t) e f h k = one_reason form t.now e f h k
one_refusal form (KeyAndNull l) e f h k = absurd h

-- a cause that is neither the size nor want of memory is answered exactly where it stands
pub refusal : {A : Type 0} (r : Result A EncodeError) (P : A → List ℕ) (form : NumericForm) (c : Contents) (e : EncodeError)
    → MatchResult r (λ a. IsEncodedOf form c (P a)) (λ f. IsNotEncodedOf form c f) → (e ≡ OutOfMemory → ⊥) → (e ≡ TooLarge → ⊥)
    → (r ≡ Err e) ↔ IsRefusedOf form c e
refusal (Ok a) P form c e h memory large = (λ same. cc, λ r. absurd (fine_not_refused form c h.items e h.are r))
refusal {A} (Err f) P form c e (inl h) memory large = (
  λ same. subst (λ (x : EncodeError). IsRefusedOf form c x) (inside same) h,
  λ r. ap (λ (x : EncodeError). Err x) (one_refusal form c f e h r),
)
  where
    inside : ◌≡◌ {A = Result A EncodeError} (Err f) (Err e) → f ≡ e
    inside g = cc
refusal {A} (Err f) P form c e (inr h) memory large = (
  λ same. absurd (elim h.2 [ inl m ↦ memory (sym (inside same) ∙ m) | inr l ↦ large (sym (inside same) ∙ l.0) ]),
  λ r. absurd (fine_not_refused form c h.0 e h.1 r),
)
  where
    inside : ◌≡◌ {A = Result A EncodeError} (Err f) (Err e) → f ≡ e
    inside g = cc

-- what is known of an answer
pub ok_part : {A : Type 0} (r : Result A EncodeError) (P : A → Type 0) (Q : EncodeError → Type 0) (R : A → Type 0) → MatchResult r P Q
    → ((a : A) → P a → R a) → IfOk r R
ok_part (Ok a) P Q R h f = f a h
ok_part (Err e) P Q R h f = tt

pub err_part : {A : Type 0} (r : Result A EncodeError) (P : A → Type 0) (Q R : EncodeError → Type 0) → MatchResult r P Q
    → ((e : EncodeError) → Q e → R e) → IfErr r R
err_part (Ok a) P Q R h f = tt
err_part (Err e) P Q R h f = f e h

pub err_is : {A : Type 0} (r : Result A EncodeError) (P : A → Type 0) (Q : EncodeError → Type 0) (e : EncodeError) → MatchResult r P Q
    → r ≡ Err e → Q e
err_is {A} r P Q e h same = subst (λ (x : Result A EncodeError). MatchResult x P Q) same h

-- ---- contents whose texts are checked

abbrev pub Checked : {A : Type 0} → Result A EncodeError → NumericForm → Contents → Type 0
Checked r form c = MatchResult r (λ _. (gs : List Placed) × AreOf form c gs) (λ e. IsRefusedOf form c e)

pub checked_as : {A : Type 0} (r : Result A EncodeError) (form : NumericForm) (c d : Contents) → c ≡ d → Checked r form d → Checked r form c
checked_as r form c d e h = subst (λ (x : Contents). Checked r form x) (sym e) h

pub checked_numeral : {A : Type 0} (r : Result A EncodeError) (form : NumericForm) (t : Bor (List ℕ))
    → MatchResult r (λ _. (w : Decimal) × IsNumeral form t.now w) (λ e. IsRefused form t.now e) → Checked r form (Numeral t)
checked_numeral (Ok a) form t h = (numeral_item form h.0 ∷ [], (h.0, h.1, refl))
checked_numeral (Err e) form t h = h

pub checked_numerals : {A : Type 0} (r : Result A EncodeError) (form : NumericForm) (ts : Bor (List (Text Global)))
    → MatchResult r (λ _. (ws : List Decimal) × AreNumerals form (map string_bytes ts.now) ws) (λ e. AreRefused form (map string_bytes ts.now) e)
    → Checked r form (Numerals ts)
checked_numerals (Ok a) form ts h = (map (numeral_item form) h.0, (h.0, h.1, refl))
checked_numerals (Err e) form ts h = h

pub checked_member : {A : Type 0} (r : Result A EncodeError) (form : NumericForm) (k t : Bor (List ℕ))
    → MatchResult r (λ _. (w : Decimal) × IsNumeral form t.now w) (λ e. IsRefused form t.now e) → Checked r form (KeyAndNumeral k t)
checked_member (Ok a) form k t h = (key_at k.now ∷ numeral_item form h.0 ∷ [], (h.0, h.1, refl))
checked_member (Err e) form k t h = h

pub checked_containers : (form : NumericForm) (c : Contents) (cs : Bor (List (Vec ℕ Global))) → c ≡ Containers cs
    → (gs : List Placed) × AreOf form c gs
checked_containers form c cs e = subst (λ (x : Contents). (gs : List Placed) × AreOf form x gs) (sym e)
    (map (λ (v : Vec ℕ Global). child_item v.items) cs.now, refl)

pub checked_null : (form : NumericForm) (c : Contents) (k : Bor (List ℕ)) → c ≡ KeyAndNull k → (gs : List Placed) × AreOf form c gs
checked_null form c k e = subst (λ (x : Contents). (gs : List Placed) × AreOf form x gs) (sym e) (key_at k.now ∷ null_at ∷ [], refl)
