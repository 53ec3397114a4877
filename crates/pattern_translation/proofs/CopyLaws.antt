-- A text that is copied character by character.
use Rattle.std.proofs.Common.{◌≡◌, ℕ, ◌≤◌, ◌<◌, ◌+◌, List, [], ◌∷◌, ◌++◌, length, refl, ap, sym, ◌∙◌, arith, append_assoc, length-append}
use Rattle.std.specs.Prelude.{codes, encode_utf8}
use Rattle.std.specs.Str.{chars, IsUtf8}
use Rattle.std.proofs.lemmas.Str.{encodes-append, encodes-chars, length-le-encodes}
use Rattle.std.proofs.lemmas.List.{append-nil}
use lib.Utf8.{encode, encodes}
use Rattle.pattern_model.specs.Text.{Text}
use Rattle.pattern_model.specs.Tree.{Escape}
use Rattle.rust_pattern_model.specs.Written.{spaces, escape_written}
use Rattle.pattern_translation.specs.inner.Adding.{Adds}

-- so far one part of the text was copied, and more is left
abbrev pub Copying : Text → List ℕ → List ℕ → List ℕ → List ℕ → Text → Type 0
Copying own left end old new done = (more : Text) × (own ≡ done ++ more) × (chars left ≡ more ++ chars end) × Adds old new done

-- two texts one after the other
pub adds_both : (a b c : List ℕ) (x y : Text) → Adds a b x → Adds b c y → Adds a c (x ++ y)
adds_both a b c x y e f =
    f ∙ (ap (λ z. z ++ encodes y) e ∙ (append_assoc a (encodes x) (encodes y) ∙ ap (λ z. a ++ z) (sym (encodes-append x y))))

pub adds_nothing : (a : List ℕ) → Adds a a []
adds_nothing a = sym (append-nil a)

-- the bytes of what is left tell that nothing more is to be copied, or that something is
bytes_left : (left end : List ℕ) (more : Text) → IsUtf8 left → IsUtf8 end → chars left ≡ more ++ chars end →
    length left ≡ length (encodes more) + length end
bytes_left left end more u v e =
    sym (ap length (encodes-chars left u))
    ∙ (ap (λ z. length (encodes z)) e
    ∙ (ap length (encodes-append more (chars end))
    ∙ (length-append (encodes more) (encodes (chars end)) ∙ ap (λ z. length (encodes more) + length z) (encodes-chars end v))))

nothing_in : (more : Text) → length (encodes more) ≤ 0 → more ≡ []
nothing_in [] h = refl
nothing_in (c ∷ more) h = absurd (let k = length-le-encodes (c ∷ more) in omega (arith, h, k))

-- all is copied
pub copied : (own done more : Text) (left end old new : List ℕ) → IsUtf8 left → IsUtf8 end → length left ≤ length end →
    own ≡ done ++ more → chars left ≡ more ++ chars end → Adds old new done → Adds old new own
copied own done more left end old new u v h e f g =
    let l = bytes_left left end more u v f in
    let n : more ≡ [] = nothing_in more (omega (arith, h, l)) in
    let k : own ≡ done = e ∙ (ap (λ z. done ++ z) n ∙ append-nil done) in
    g ∙ ap (λ z. old ++ encodes z) (sym k)

-- one character more
pub copied_one : (own done more : Text) (left after end old new last : List ℕ) (c : ℕ) → IsUtf8 left → IsUtf8 end →
    length end < length left → chars left ≡ c ∷ chars after → own ≡ done ++ more → chars left ≡ more ++ chars end → Adds old new done →
    last ≡ new ++ encode_utf8 c →
    (d m : Text) × (own ≡ d ++ m) × (chars after ≡ m ++ chars end) × Adds old last d
copied_one own done [] left after end old new last c u v h e f g k l =
    absurd (let b = bytes_left left end [] u v g in omega (arith, h, b))
copied_one own done (d ∷ more) left after end old new last c u v h e f g k l =
    let s : c ∷ chars after ≡ d ∷ (more ++ chars end) = sym e ∙ g in
    let p : c ≡ d = cc in
    let q : chars after ≡ more ++ chars end = cc in (
      done ++ (d ∷ []),
      more,
      f ∙ sym (append_assoc done (d ∷ []) more),
      q,
      adds_both old new last done (d ∷ []) k (l ∙ (ap (λ z. new ++ encode_utf8 z) p ∙ ap (λ z. new ++ z) (sym (append-nil (encode_utf8 d))))),
    )

pub copied_to_the_end : (own done more : Text) (left end old new : List ℕ) → chars left ≡ [] →
    own ≡ done ++ more → chars left ≡ more ++ chars end → Adds old new done → Adds old new own
copied_to_the_end own done [] left end old new n e f g =
    g ∙ ap (λ z. old ++ encodes z) (sym (e ∙ append-nil done))
copied_to_the_end own done (d ∷ more) left end old new n e f g = cc

-- ASCII is written as it is
pub adds_ascii : (old new : List ℕ) (x : Text) → encodes x ≡ x → new ≡ old ++ x → Adds old new x
adds_ascii old new x e f = f ∙ ap (λ z. old ++ z) (sym e)

pub words_ascii : encodes (escape_written Escape.word) ≡ escape_written Escape.word
unfolding encode
words_ascii = refl

pub other_words_ascii : encodes (escape_written Escape.not_word) ≡ escape_written Escape.not_word
unfolding encode
other_words_ascii = refl

pub spaces_ascii : encodes (spaces ++ codes "]") ≡ spaces ++ codes "]"
unfolding encode
spaces_ascii = refl
