-- A text that is cut at the first of some byte.
use Rattle.std.proofs.Common.{◌≡◌, inl, inr, ℕ, zero, suc, ◌+◌, ◌-◌, ◌<◌, ◌≤◌, List, [], ◌∷◌, ◌++◌, length, take, drop, slice_index, eqb, true, sym, ap, ◌∙◌, subst, arith}
use Rattle.std.proofs.lemmas.Grind.{common_steps}
use Rattle.std.proofs.lemmas.Bool.Decides.{eqb_tells}
use Rattle.std.proofs.lemmas.Bool.{false≢true}
use Rattle.memchr.specs.Find.{NoneBefore, Nowhere, Passes, is_byte}
use Rattle.line_program.specs.Lines.{Lacks}

is_there : (a b : ℕ) → eqb a b ≡ true → a ≡ b
is_there a b e = elim (eqb_tells a b) [ inl hit ↦ hit.1 | inr miss ↦ absurd (false≢true (sym miss.0 ∙ e)) ]

passes : (a b : ℕ) → a ≡ b → eqb a b ≡ true
passes a b e = elim (eqb_tells a b) [ inl hit ↦ hit.0 | inr miss ↦ absurd (miss.1 e) ]

-- a front in which no byte passes the test
lacks_front : (byte : ℕ) (text : List ℕ) (n : ℕ) → n ≤ length text → ((k : ℕ) → k < n → slice_index text k ≡ byte → ⊥)
    → Lacks byte (take n text)
lacks_front byte text zero fits none = tt
lacks_front byte [] (suc n) fits none = absurd (omega arith)
lacks_front byte (first ∷ text) (suc n) fits none =
    (λ e. none 0 (omega arith) e, lacks_front byte text n (omega arith) (λ k lt e. none (suc k) (omega arith) e))

nowhere_lacks : (byte : ℕ) (text : List ℕ) (n : ℕ) → n ≤ length text → Nowhere (Passes (is_byte byte) text) 0 n
    → Lacks byte (take n text)
nowhere_lacks byte text n fits none =
    lacks_front byte text n fits (λ k lt e. none k (omega arith) lt (passes (slice_index text k) byte e))

-- a search that finds nothing
pub lacks_whole : (byte : ℕ) (text : List ℕ) → Nowhere (Passes (is_byte byte) text) 0 (length text) → Lacks byte text
lacks_whole byte text none =
    let all : take (length text) text ≡ text = grind (arith, common_steps) in
    subst (λ t. Lacks byte t) all (nowhere_lacks byte text (length text) (omega arith) none)

-- a search that finds a place
pub lacks_before : (byte : ℕ) (text : List ℕ) (place : ℕ) → NoneBefore (Passes (is_byte byte) text) 0 (length text) place
    → Lacks byte (take place text)
lacks_before byte text place found = let within = found.high in nowhere_lacks byte text place (omega arith) found.before

cut_index : (text : List ℕ) (place byte : ℕ) → place < length text → slice_index text place ≡ byte
    → text ≡ take place text ++ byte ∷ drop (place + 1) text
cut_index [] place byte lt e = absurd (omega arith)
cut_index (first ∷ text) zero byte lt e = ap (λ b. b ∷ text) e
cut_index (first ∷ text) (suc place) byte lt e =
    let step : suc place + 1 ≡ suc (place + 1) = omega arith in
    rw step (ap (λ t. first ∷ t) (cut_index text place byte (omega arith) e))

-- the parts before and after the place
pub cut_there : (byte : ℕ) (text : List ℕ) (place : ℕ) → place < length text → Passes (is_byte byte) text place
    → text ≡ take place text ++ byte ∷ take (length text - (place + 1)) (drop (place + 1) text)
cut_there byte text place lt here =
    let whole : take (length text - (place + 1)) (drop (place + 1) text) ≡ drop (place + 1) text = grind (arith, common_steps) in
    rw whole (cut_index text place byte lt (is_there (slice_index text place) byte here))
