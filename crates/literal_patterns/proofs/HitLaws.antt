-- Texts that begin with, are, or are among other texts: by their bytes and by their characters.
use Rattle.std.proofs.Common.{◌≡◌, ℕ, zero, suc, ◌+◌, ◌<◌, Bool, true, false, List, [], ◌∷◌, ◌++◌, length, take, drop, map, refl, ap, sym, ◌∙◌, arith, inl, inr, ◌⊎◌, Global}
use Rattle.std.specs.Prelude.{◌↔◌, ◌||◌, Contains, String, string_bytes, nat_eq, slice_index_or, not}
use Rattle.std.specs.List.{list_any, starts_with, AllPass}
use Rattle.std.specs.Cmp.Lexicographic.{pointwise, bytes_decides}
use Rattle.std.specs.Str.{chars, IsUtf8}
use Rattle.std.proofs.lemmas.Bool.{false≢true}
use Rattle.std.proofs.lemmas.List.{take-append-drop}
use Rattle.std.proofs.Math.Seq.{take-append_seam}
use Rattle.std.proofs.lemmas.Str.{chars-append, encodes-chars, encodes-append, IsUtf8-string_bytes}
use lib.Utf8.{encodes}
use lib.Dec.{eqb}
use Rattle.pattern_model.specs.Text.{Text}

-- two texts are one where their characters are the same
pub one_text : (x y : List ℕ) → IsUtf8 x → IsUtf8 y → chars x ≡ chars y → x ≡ y
one_text x y u v e = sym (encodes-chars x u) ∙ ap encodes e ∙ encodes-chars y v

-- a text begins with another
pub begins : (x front : List ℕ) → IsUtf8 x → IsUtf8 front →
    (starts_with eqb x front ≡ true) ↔ ((rest : Text) × (chars x ≡ chars front ++ rest))
begins x front u v =
    let n = length front in
    let decides = bytes_decides front (take n x) in (
      λ h.
          let whole : x ≡ front ++ drop n x = sym (take-append-drop n x) ∙ ap (λ z. z ++ drop n x) (sym (decides.0 h)) in
          (chars (drop n x), ap chars whole ∙ chars-append front (drop n x) v),
      λ (rest, e).
          let whole : x ≡ front ++ encodes rest =
          sym (encodes-chars x u) ∙ ap encodes e ∙ encodes-append (chars front) rest ∙ ap (λ z. z ++ encodes rest) (encodes-chars front v) in
          decides.1 (sym (ap (take n) whole ∙ take-append_seam front (encodes rest))),
    )

-- a text is one of some
abbrev IsOne : List ℕ → List (String Global) → Type 0
IsOne x [] = ⊥
IsOne x (t ∷ ts) = (chars (string_bytes t) ≡ chars x) ⊎ IsOne x ts

abbrev texts : List (String Global) → List Text
texts ts = map (λ t. chars (string_bytes t)) ts

one_contained : (x : List ℕ) (ts : List (String Global)) → IsOne x ts → Contains (texts ts) (chars x)
one_contained x [] h = elim h [ ]
one_contained x (t ∷ ts) (inl e) = (0, omega arith, e)
one_contained x (t ∷ ts) (inr h) = let (k, l, e) = one_contained x ts h in (suc k, omega (arith, l), e)

contained_one : (x : List ℕ) (ts : List (String Global)) (k : ℕ) → k < length (texts ts) → slice_index_or (texts ts) k (chars x) ≡ chars x
    → IsOne x ts
contained_one x [] k l e = absurd (let no : k < 0 = l in omega (arith, no))
contained_one x (t ∷ ts) zero l e = inl e
contained_one x (t ∷ ts) (suc k) l e =
    let less : suc k < suc (length (texts ts)) = l in inr (contained_one x ts k (omega (arith, less)) e)

abbrev matches_text : List ℕ → String Global → Bool
matches_text x t = pointwise nat_eq x (string_bytes t)

any_one : (x : List ℕ) → IsUtf8 x → (ts : List (String Global)) → list_any (matches_text x) ts ≡ true → IsOne x ts
any_one x u [] h = absurd (false≢true h)
any_one x u (t ∷ ts) h = go (matches_text x t) refl h (any_one x u ts)
  where
    go : (b : Bool) → matches_text x t ≡ b → (b || list_any (matches_text x) ts) ≡ true →
        (list_any (matches_text x) ts ≡ true → IsOne x ts) → IsOne x (t ∷ ts)
    go true e h more = inl (ap chars (sym ((bytes_decides x (string_bytes t)).0 e)))
    go false e h more = inr (more h)

one_any : (x : List ℕ) → IsUtf8 x → (ts : List (String Global)) → IsOne x ts → list_any (matches_text x) ts ≡ true
one_any x u [] h = elim h [ ]
one_any x u (t ∷ ts) (inl e) =
    left (matches_text x t) (list_any (matches_text x) ts)
    ((bytes_decides x (string_bytes t)).1 (sym (one_text (string_bytes t) x (IsUtf8-string_bytes t) u e)))
  where
    left : (a b : Bool) → a ≡ true → (a || b) ≡ true
    left true b p = refl
    left false b p = absurd (false≢true p)
one_any x u (t ∷ ts) (inr h) = right (matches_text x t) (list_any (matches_text x) ts) (one_any x u ts h)
  where
    right : (a b : Bool) → b ≡ true → (a || b) ≡ true
    right true b p = refl
    right false b p = p

pub among : (x : List ℕ) → IsUtf8 x → (ts : List (String Global))
    → (list_any (λ t. pointwise nat_eq x (string_bytes t)) ts ≡ true) ↔ Contains (texts ts) (chars x)
among x u ts = (λ h. one_contained x ts (any_one x u ts h), λ (k, l, e). one_any x u ts (contained_one x ts k l e))

-- no character passes a test exactly where each fails it
pub none_pass : (test : ℕ → Bool) (x : Text) → (not (list_any test x) ≡ true) ↔ AllPass (λ c. not (test c)) x
none_pass test x = (all x, none x)
  where
    all : (x : Text) → not (list_any test x) ≡ true → AllPass (λ c. not (test c)) x
    all [] h k d l = absurd (let no : k < 0 = l in omega (arith, no))
    all (c ∷ x) h zero d l = first (test c) (list_any test x) h
      where
        first : (a b : Bool) → not (a || b) ≡ true → not a ≡ true
        first true b e = e
        first false b e = refl
    all (c ∷ x) h (suc k) d l =
        let less : suc k < suc (length x) = l in all x (second (test c) (list_any test x) h) k d (omega (arith, less))
      where
        second : (a b : Bool) → not (a || b) ≡ true → not b ≡ true
        second true b e = absurd (false≢true e)
        second false b e = e

    none : (x : Text) → AllPass (λ c. not (test c)) x → not (list_any test x) ≡ true
    none [] a = refl
    none (c ∷ x) a = both (test c) (list_any test x) (a 0 c (omega arith)) (none x (λ k d l. a (suc k) d (omega (arith, l))))
      where
        both : (a b : Bool) → not a ≡ true → not b ≡ true → not (a || b) ≡ true
        both true b p q = p
        both false b p q = q
