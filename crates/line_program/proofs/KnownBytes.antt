-- What a sink and a source tell, over several steps.
use Rattle.std.proofs.Common.{◌≡◌, ℕ, ◌-◌, ◌<◌, ◌≤◌, length, take, drop, arith, inl, inr, true, false, eqb, ◌∷◌, List, [], ◌++◌, Option, Some, None, refl, sym, ap, ◌∙◌, append_assoc, append-nil}
use Rattle.std.proofs.lemmas.Grind.{common_steps}
use Rattle.std.proofs.lemmas.Bool.Decides.{eqb_tells}
use Rattle.std.proofs.lemmas.Bool.{false≢true}
use Rattle.std.specs.Io.KnownBytes.{Appends, Consumes, Keeps}

-- a write after a write
pub Appends-both : (a b c : Option (List ℕ)) (x y : List ℕ) → Appends a b x → Appends b c y → Appends a c (x ++ y)
Appends-both None b c x y h g = tt
Appends-both (Some s) None c x y h g = absurd h
Appends-both (Some s) (Some t) None x y h g = absurd g
Appends-both (Some s) (Some t) (Some u) x y h g = g ∙ ap (λ v. v ++ y) h ∙ append_assoc s x y

pub Appends-none : (a : Option (List ℕ)) → Appends a a []
Appends-none None = tt
Appends-none (Some s) = sym (append-nil s)

-- a read after a read
pub Consumes-both : (a b c : Option (List ℕ)) (x y : List ℕ) → Consumes a b x → Consumes b c y → Consumes a c (x ++ y)
Consumes-both None b c x y h g = tt
Consumes-both (Some s) None c x y h g = absurd h
Consumes-both (Some s) (Some t) None x y h g = absurd g
Consumes-both (Some s) (Some t) (Some u) x y h g = h ∙ ap (λ v. x ++ v) g ∙ sym (append_assoc x y u)

pub Consumes-none : (a : Option (List ℕ)) → Consumes a a []
Consumes-none None = tt
Consumes-none (Some s) = refl

-- a write that failed after a write
pub Appends-then_kept : (a b c : Option (List ℕ)) (x : List ℕ) → Appends a b x → Keeps b c → Appends a c x
Appends-then_kept None b c x h g = tt
Appends-then_kept (Some s) None c x h g = absurd h
Appends-then_kept (Some s) (Some t) None x h g = absurd g
Appends-then_kept (Some s) (Some t) (Some u) x h g = g ∙ h

-- a read that failed after a read
pub Consumes-then_kept : (a b c : Option (List ℕ)) (x : List ℕ) → Consumes a b x → Keeps b c → Consumes a c x
Consumes-then_kept None b c x h g = tt
Consumes-then_kept (Some s) None c x h g = absurd h
Consumes-then_kept (Some s) (Some t) None x h g = absurd g
Consumes-then_kept (Some s) (Some t) (Some u) x h g = h ∙ ap (λ v. x ++ v) (sym g)

-- a piece of which n bytes more were written
pub cut_on : (piece front rest : List ℕ) (n : ℕ) → n ≤ length rest → piece ≡ front ++ rest
    → piece ≡ (front ++ take n rest) ++ take (length rest - n) (drop n rest)
cut_on piece front rest n le e = grind (arith, common_steps)

-- what `is_empty` tells
pub empty_from_test : (xs : List ℕ) → eqb (length xs) 0 ≡ true → xs ≡ []
empty_from_test [] e = refl
empty_from_test (x ∷ xs) e = elim (eqb_tells (length (x ∷ xs)) 0) [
  | inl hit ↦ absurd (omega (arith, hit.1))
  | inr miss ↦ absurd (false≢true (sym miss.0 ∙ e))
]

pub some_from_test : (xs : List ℕ) → eqb (length xs) 0 ≡ false → 0 < length xs
some_from_test [] e = absurd (false≢true (sym e))
some_from_test (x ∷ xs) e = omega arith
