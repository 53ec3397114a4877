-- Lines and their texts.
use Rattle.std.proofs.Common.{◌≡◌, ◌≢◌, ℕ, ◌<◌, List, [], ◌∷◌, ◌++◌, length, refl, ap, ◌∙◌, append_assoc, inl, inr, arith}
use Rattle.std.proofs.lemmas.Bool.Decides.{eqb_tells}
use Rattle.line_program.specs.Answers.{Answers}
use Rattle.line_program.specs.Lines.{AreLines, AreShort, IsOneLine, Lacks, lines_of, onto_first, text_of}

-- lines, and more lines
pub text_of-append : (ls ms : List (List ℕ)) (z : List ℕ) → text_of (ls ++ ms) z ≡ text_of ls (text_of ms z)
text_of-append [] ms z = refl
text_of-append (l ∷ ls) ms z = ap (λ t. l ++ 10 ∷ t) (text_of-append ls ms z)

-- lines, and a text that goes on
pub text_of-more : (ls : List (List ℕ)) (z w : List ℕ) → text_of ls z ++ w ≡ text_of ls (z ++ w)
text_of-more [] z w = refl
text_of-more (l ∷ ls) z w = append_assoc l (10 ∷ text_of ls z) w ∙ ap (λ t. l ++ 10 ∷ t) (text_of-more ls z w)

-- lists of lines, one after the other
pub AreLines-append : (ls ms : List (List ℕ)) → AreLines ls → AreLines ms → AreLines (ls ++ ms)
AreLines-append [] ms h g = g
AreLines-append (l ∷ ls) ms h g = (h.0, AreLines-append ls ms h.1 g)

pub AreShort-append : (ls ms : List (List ℕ)) → AreShort ls → AreShort ms → AreShort (ls ++ ms)
AreShort-append [] ms h g = g
AreShort-append (l ∷ ls) ms h g = (h.0, AreShort-append ls ms h.1 g)

pub Lacks-append : (c : ℕ) (a b : List ℕ) → Lacks c a → Lacks c b → Lacks c (a ++ b)
Lacks-append c [] b h g = g
Lacks-append c (x ∷ a) b h g = (h.0, Lacks-append c a b h.1 g)

-- what has the byte does not lack it
pub Lacks-cut : (c : ℕ) (a b : List ℕ) → Lacks c (a ++ c ∷ b) → ⊥
Lacks-cut c [] b h = h.0 refl
Lacks-cut c (x ∷ a) b h = Lacks-cut c a b h.1

-- there is one first place of a byte
pub cut_once : (c : ℕ) (a b x y : List ℕ) → Lacks c a → Lacks c x → a ++ c ∷ b ≡ x ++ c ∷ y → (a ≡ x) × (b ≡ y)
cut_once c [] b [] y h g e = (refl, cc)
cut_once c [] b (v ∷ x) y h g e = let f : v ≡ c = cc in absurd (g.0 f)
cut_once c (u ∷ a) b [] y h g e = let f : u ≡ c = cc in absurd (h.0 f)
cut_once c (u ∷ a) b (v ∷ x) y h g e =
    let f : u ≡ v = cc in
    let t : a ++ c ∷ b ≡ x ++ c ∷ y = cc in
    let i = cut_once c a b x y h.1 g.1 t in
    let j : a ≡ x = i.0 in
    (cc, i.1)

-- answers, and more answers
pub Answers-append : (A : List ℕ → List ℕ → Type 0) (ls ms : List (List ℕ)) (x y : List ℕ)
    → Answers A ls x → Answers A ms y → Answers A (ls ++ ms) (x ++ y)
Answers-append A [] ms x y h g = rw h g
Answers-append A (l ∷ ls) ms x y h g =
    (h.0, h.1 ++ y, h.2, Answers-append A ls ms h.1 y h.3 g, ap (λ t. t ++ y) h.4 ∙ append_assoc h.0 (10 ∷ h.1) y)

-- a byte that ends no line goes onto the first line
other : (b : ℕ) (t : List ℕ) → (b ≢ 10) → lines_of (b ∷ t) ≡ onto_first b (lines_of t)
other b t ne = elim (eqb_tells b 10) [ inl hit ↦ absurd (ne hit.1) | inr miss ↦ rw miss.0 refl ]

-- the lines of a text that begins with one whole line
pub one_line : (l z : List ℕ) → IsOneLine l → lines_of (l ++ 10 ∷ z) ≡ l ∷ lines_of z
one_line [] z h = refl
one_line (b ∷ l) z h = other b (l ++ 10 ∷ z) h.0 ∙ ap (onto_first b) (one_line l z h.1)

-- the lines of a text that begins with whole lines
pub lines_of-text : (ls : List (List ℕ)) (z : List ℕ) → AreLines ls → lines_of (text_of ls z) ≡ ls ++ lines_of z
lines_of-text [] z h = refl
lines_of-text (l ∷ ls) z h = one_line l (text_of ls z) h.0 ∙ ap (λ t. l ∷ t) (lines_of-text ls z h.1)

-- the lines of an open line
lines_of-open : (b : ℕ) (l : List ℕ) → IsOneLine (b ∷ l) → lines_of (b ∷ l) ≡ (b ∷ l) ∷ []
lines_of-open b [] h = other b [] h.0
lines_of-open b (c ∷ l) h = other b (c ∷ l) h.0 ∙ ap (onto_first b) (lines_of-open c l h.1)

-- a line with no end is the one line of its text, if it is not empty
pub lines_of-alone : (l : List ℕ) → IsOneLine l → 0 < length l → lines_of l ≡ l ∷ []
lines_of-alone [] h some = absurd (omega arith)
lines_of-alone (b ∷ l) h some = lines_of-open b l h
