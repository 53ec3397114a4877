-- The texts that strings hold, and how long they are.
use Rattle.std.proofs.Common.{◌≡◌, ℕ, zero, suc, ◌+◌, ◌*◌, ◌-◌, ◌<◌, ◌≤◌, Bool, true, false, List, [], ◌∷◌, ◌++◌, length, Some, None, refl, ap, sym, ◌∙◌, subst, arith, append_assoc, append-nil, length-append}
use Rattle.std.specs.Prelude.{if◌then◌else◌, ◌&&◌, nat_le, encode_utf8}
use Rattle.std.specs.Str.{chars, IsUtf8}
use Rattle.std.proofs.lemmas.Bool.Decides.{nat_tests}
use Rattle.std.proofs.lemmas.Str.{chars-nil, chars_past_char, encodes-chars, encodes-append}
use lib.Utf8.{encodes, scalar}
use Rattle.pattern_model.specs.Text.{Text}
use Rattle.pattern_translation.specs.Witness.{short, least_from, times}

pub one_text : (bs : List ℕ) (c : ℕ) → IsUtf8 bs → bs ≡ encode_utf8 c → chars bs ≡ c ∷ []
one_text bs c u e = chars_past_char bs [] c u (e ∙ sym (append-nil (encode_utf8 c))) ∙ ap (λ z. c ∷ z) chars-nil

pub short_some : (bs : List ℕ) → IsUtf8 bs → length bs ≤ 256 → short (chars bs) ≡ Some (chars bs)
unfolding short
short_some bs u l =
    let n : length (encodes (chars bs)) ≤ 256 = subst (λ z. length z ≤ 256) (sym (encodes-chars bs u)) l in
    let t : nat_le (length (encodes (chars bs))) 256 ≡ true = grind (arith, nat_tests) in
    ap (λ b. if b then Some (chars bs) else None) t

pub short_none : (bs : List ℕ) → IsUtf8 bs → 256 < length bs → short (chars bs) ≡ None
unfolding short
short_none bs u l =
    let n : 256 < length (encodes (chars bs)) = subst (λ z. 256 < length z) (sym (encodes-chars bs u)) l in
    let t : nat_le (length (encodes (chars bs))) 256 ≡ false = grind (arith, nat_tests) in
    ap (λ b. if b then Some (chars bs) else None) t

-- the text once more, at the end
times_end : (n : ℕ) (w : Text) → times (suc n) w ≡ times n w ++ w
times_end zero w = append-nil w
times_end (suc n) w = ap (λ z. w ++ z) (times_end n w) ∙ sym (append_assoc w (times n w) w)

pub times_more : (n : ℕ) (w : Text) → times (n + 1) w ≡ times n w ++ w
times_more n w = let e : n + 1 ≡ suc n = omega arith in ap (λ z. times z w) e ∙ times_end n w

times_long : (n : ℕ) (w : Text) → length (encodes (times n w)) ≡ n * length (encodes w)
times_long zero w = omega arith
times_long (suc n) w =
    let e = ap length (encodes-append w (times n w)) in
    let l = length-append (encodes w) (encodes (times n w)) in
    let r = times_long n w in
    omega (arith, e, l, r)

bytes_long : (bs : List ℕ) → IsUtf8 bs → length (encodes (chars bs)) ≡ length bs
bytes_long bs u = ap length (encodes-chars bs u)

pub many_short : (n : ℕ) (bs : List ℕ) → IsUtf8 bs → n * length bs ≤ 256 → short (times n (chars bs)) ≡ Some (times n (chars bs))
unfolding short
many_short n bs u l =
    let e : length (encodes (times n (chars bs))) ≡ n * length bs = times_long n (chars bs) ∙ ap (λ z. n * z) (bytes_long bs u) in
    let k : length (encodes (times n (chars bs))) ≤ 256 = subst (λ z. z ≤ 256) (sym e) l in
    let t : nat_le (length (encodes (times n (chars bs)))) 256 ≡ true = grind (arith, nat_tests) in
    ap (λ b. if b then Some (times n (chars bs)) else None) t

pub many_long : (n : ℕ) (bs : List ℕ) → IsUtf8 bs → 256 < n * length bs → short (times n (chars bs)) ≡ None
unfolding short
many_long n bs u l =
    let e : length (encodes (times n (chars bs))) ≡ n * length bs = times_long n (chars bs) ∙ ap (λ z. n * z) (bytes_long bs u) in
    let k : 256 < length (encodes (times n (chars bs))) = subst (λ z. 256 < z) (sym e) l in
    let t : nat_le (length (encodes (times n (chars bs)))) 256 ≡ false = grind (arith, nat_tests) in
    ap (λ b. if b then Some (times n (chars bs)) else None) t

-- one step of the search
pub least_here : (test : ℕ → Bool) (c : ℕ) → c < 1114112 → scalar c && test c ≡ true → least_from test (1114112 - c) c ≡ Some c
unfolding least_from
least_here test c l e =
    let n : 1114112 - c ≡ suc (1114112 - (c + 1)) = omega arith in
    ap (λ z. least_from test z c) n ∙ ap (λ b. if b then Some c else least_from test (1114112 - (c + 1)) (c + 1)) e

pub least_past : (test : ℕ → Bool) (c : ℕ) → c < 1114112 → scalar c && test c ≡ false →
    least_from test (1114112 - c) c ≡ least_from test (1114112 - (c + 1)) (c + 1)
unfolding least_from
least_past test c l e =
    let n : 1114112 - c ≡ suc (1114112 - (c + 1)) = omega arith in
    ap (λ z. least_from test z c) n ∙ ap (λ b. if b then Some c else least_from test (1114112 - (c + 1)) (c + 1)) e

pub least_none : (test : ℕ → Bool) (c : ℕ) → 1114112 ≤ c → least_from test (1114112 - c) c ≡ None
unfolding least_from
least_none test c l = let n : 1114112 - c ≡ 0 = omega arith in ap (λ z. least_from test z c) n

pub and_false : (b : Bool) → b && false ≡ false
and_false true = refl
and_false false = refl
