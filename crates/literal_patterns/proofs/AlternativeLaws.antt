-- Alternatives are read one after the other, and sorted.
use Rattle.std.proofs.Common.{◌≡◌, ℕ, ◌+◌, ◌<◌, ◌≤◌, Bool, true, false, List, [], ◌∷◌, ◌++◌, length, drop, get_or, map, refl, ap, sym, ◌∙◌, subst, arith, Global, append_assoc}
use Rattle.std.specs.Prelude.{String, string_bytes, ◌==◌}
use Rattle.std.specs.String.{string_cmp}
use Rattle.std.specs.Str.{IsAscii, chars}
use Rattle.std.specs.List.{All}
use Rattle.std.specs.List.Sorted.{IsSorted, IsPermutation}
use Rattle.std.specs.Ordering.{is_lt, nat_cmp}
use Rattle.std.specs.Cmp.Lexicographic.{slice_cmp}
use Rattle.std.proofs.lemmas.Str.{chars-IsAscii}
use Rattle.std.proofs.lemmas.List.{get_or-map, length-map, map-append, append-nil}
use Rattle.std.proofs.lemmas.List.Elements.{All-push}
use Rattle.std.proofs.lemmas.List.Sorted.{All-permutation, IsPermutation-map}
use Rattle.pattern_model.specs.Text.{Text}
use Rattle.pattern_model.specs.Literals.{Literals, Others, Alternatives, AreSorted, Analysis, IsAnalysis}
use Rattle.literal_patterns.specs.inner.Runs.{Stops, Run}
use Rattle.literal_patterns.proofs.RunLaws.{one_rest, stops_at, literals_ascii, literal_chars}

others_stop : (x : Text) (ws : List Text) → Others x ws → Stops x
others_stop x [] e = subst Stops (sym e) (stops_at 41 (36 ∷ []) refl refl)
others_stop x (w ∷ ws) (y, rest, e, l, o) = subst Stops (sym e) (stops_at 124 y refl refl)

-- one alternative, and a bar after it
pub alternative_on : (x w y more : Text) (us : List Text) → Literals x w y → y ≡ 124 ∷ more → Alternatives more us → Alternatives x (w ∷ us)
alternative_on x w y more [] l e a = elim a [ ]
alternative_on x w y more (v ∷ vs) l e (rest, k, o) = (y, l, (more, rest, e, k, o))

others_bar : (x more : Text) (ws : List Text) → Others x ws → x ≡ 124 ∷ more → (vs : List Text) × Alternatives more vs
others_bar x more [] o e = let no : true ≡ false = ap (λ l. get_or l 0 0 == 124) (sym e ∙ o) in cc
others_bar x more (w ∷ ws) (y, rest, f, l, o) e =
    (w ∷ ws, (rest, subst (λ t. Literals t w rest) (ap (drop 1) (sym f ∙ e)) l, o))

pub alternative_back : (x w y more : Text) (us : List Text) → Run x w y → y ≡ 124 ∷ more → Alternatives x us →
    (vs : List Text) × Alternatives more vs
alternative_back x w y more [] r e a = elim a [ ]
alternative_back x w y more (u ∷ us) r e (rest, k, o) =
    others_bar rest more us o (one_rest x u rest w y (k, others_stop rest us o) r ∙ e)

-- the last alternative
pub alternative_last : (x w y : Text) → Literals x w y → y ≡ 41 ∷ 36 ∷ [] → Alternatives x (w ∷ [])
alternative_last x w y l e = (y, l, e)

others_none : (x : Text) (ws : List Text) → Others x ws → ((more : Text) → x ≡ 124 ∷ more → ⊥) → (x ≡ 41 ∷ 36 ∷ [] → ⊥) → ⊥
others_none x [] o n m = m o
others_none x (w ∷ ws) (y, rest, f, l, o) n m = n y f

pub alternative_none : (x w y : Text) (us : List Text) → Run x w y → ((more : Text) → y ≡ 124 ∷ more → ⊥) → (y ≡ 41 ∷ 36 ∷ [] → ⊥) →
    Alternatives x us → ⊥
alternative_none x w y [] r n m a = a
alternative_none x w y (u ∷ us) r n m (rest, k, o) =
    let same = one_rest x w y u rest r (k, others_stop rest us o) in
    others_none rest us o (λ more e. n more (same ∙ e)) (λ e. m (same ∙ e))

-- the characters of texts in memory
abbrev pub texts_of : List (String Global) → List Text
texts_of ts = map (λ t. chars (string_bytes t)) ts

abbrev pub AreAscii : List (String Global) → Type 0
AreAscii ts = All (λ t. IsAscii (string_bytes t)) ts

-- texts of ASCII that are sorted by bytes are sorted by characters
pub sorted_texts : (ts : List (String Global)) → AreAscii ts → IsSorted string_cmp ts → AreSorted (texts_of ts)
sorted_texts [] a s k d l h = absurd (let no : k + 1 < 0 = h in omega (arith, no))
sorted_texts (t ∷ ts) a s k d l h =
    let all : List (String Global) = t ∷ ts in
    let text : String Global → Text = λ u. chars (string_bytes u) in
    let more : k + 1 < length all = omega (arith, h, length-map all text) in
    let this : get_or (texts_of all) k d ≡ string_bytes (get_or all k t) =
    get_or-map text all k t d (omega (arith, more)) ∙ chars-IsAscii _ (a k t (omega (arith, more))) in
    let next : get_or (texts_of all) (k + 1) d ≡ string_bytes (get_or all (k + 1) t) =
    get_or-map text all (k + 1) t d more ∙ chars-IsAscii _ (a (k + 1) t more) in
    ap (λ z. is_lt (slice_cmp nat_cmp z (get_or (texts_of all) k d))) next
    ∙ ap (λ z. is_lt (slice_cmp nat_cmp (string_bytes (get_or all (k + 1) t)) z)) this ∙ s k t l more

-- So far these texts were read: what is left has the alternatives after them, and every text that has alternatives leaves some.
pub record Reached (inner left : Text) (ts : List (String Global)) : Type 0 where
  pub ascii : AreAscii ts
  pub on : (us : List Text) → Alternatives left us → Alternatives inner (texts_of ts ++ us)
  pub back : (us : List Text) → Alternatives inner us → (vs : List Text) × Alternatives left vs

pub reached_start : (inner : Text) (ts : List (String Global)) → ts ≡ [] → Reached inner inner ts
reached_start inner ts e = record {
  ascii = subst AreAscii (sym e) (λ k d l. absurd (let no : k < 0 = l in omega (arith, no)));
  on = λ us a. subst (λ z. Alternatives inner (texts_of z ++ us)) (sym e) a;
  back = λ us a. (us, a);
}

pushed : (ts new : List (String Global)) (t : String Global) (us : List Text) → new ≡ ts ++ t ∷ [] →
    texts_of ts ++ (chars (string_bytes t) ∷ us) ≡ texts_of new ++ us
pushed ts new t us e =
    sym (ap (λ z. texts_of z ++ us) e
    ∙ ap (λ z. z ++ us) (map-append (λ u. chars (string_bytes u)) ts (t ∷ []))
    ∙ append_assoc (texts_of ts) (chars (string_bytes t) ∷ []) us)

read_text : (left w rest : Text) (t : String Global) → Run left w rest → string_bytes t ≡ w → Literals left (chars (string_bytes t)) rest
read_text left w rest t r e = subst (λ z. Literals left z rest) (sym (ap chars e ∙ literal_chars left w rest r.0)) r.0

ascii_more : (left w rest : Text) (ts new : List (String Global)) (t : String Global) → AreAscii ts → Run left w rest → string_bytes t ≡ w →
    new ≡ ts ++ t ∷ [] → AreAscii new
ascii_more left w rest ts new t a r b e =
    subst AreAscii (sym e) (All-push (λ u. IsAscii (string_bytes u)) ts t a (subst IsAscii (sym b) (literals_ascii left w rest r.0)))

pub reached_more : (inner left w rest more : Text) (ts new : List (String Global)) (t : String Global) → Reached inner left ts →
    Run left w rest → rest ≡ 124 ∷ more → string_bytes t ≡ w → new ≡ ts ++ t ∷ [] → Reached inner more new
reached_more inner left w rest more ts new t h r e b f = record {
  ascii = ascii_more left w rest ts new t h.ascii r b f;
  on = λ us a. subst (Alternatives inner) (pushed ts new t us f) (h.on (chars (string_bytes t) ∷ us)
      (alternative_on left (chars (string_bytes t)) rest more us (read_text left w rest t r b) e a));
  back = λ us a. let (vs, k) = h.back us a in alternative_back left w rest more vs r e k;
}

pub reached_last : (inner left w rest : Text) (ts new sorted : List (String Global)) (t : String Global) → Reached inner left ts →
    Run left w rest → rest ≡ 41 ∷ 36 ∷ [] → string_bytes t ≡ w → new ≡ ts ++ t ∷ [] → IsPermutation new sorted →
    IsSorted string_cmp sorted → IsAnalysis (94 ∷ 40 ∷ inner) (Analysis.alternation (texts_of sorted))
reached_last inner left w rest ts new sorted t h r e b f p s =
    let text : String Global → Text = λ u. chars (string_bytes u) in
    let ascii : AreAscii sorted = All-permutation (λ u. IsAscii (string_bytes u)) new sorted p (ascii_more left w rest ts new t h.ascii r b f) in
    let all : Alternatives inner (texts_of new ++ []) =
    subst (Alternatives inner) (pushed ts new t [] f) (h.on (text t ∷ [])
    (alternative_last left (text t) rest (read_text left w rest t r b) e)) in (
      inner,
      texts_of new,
      refl,
      subst (Alternatives inner) (append-nil (texts_of new)) all,
      IsPermutation-map text new sorted p,
      sorted_texts sorted ascii s,
    )

pub reached_none : (inner left w rest : Text) (ts : List (String Global)) → Reached inner left ts → Run left w rest →
    ((more : Text) → rest ≡ 124 ∷ more → ⊥) → (rest ≡ 41 ∷ 36 ∷ [] → ⊥) → (us : List Text) → Alternatives inner us → ⊥
reached_none inner left w rest ts h r n m us a = let (vs, k) = h.back us a in alternative_none left w rest vs r n m k
