-- Parts one after another, with no bound.
use Rattle.std.proofs.Common.{◌≡◌, ℕ, zero, suc, ◌<◌, Bool, true, false, List, [], ◌∷◌, ◌++◌, length, Option, Some, None, option_and_then, refl, ap, sym, ◌∙◌, arith, append_assoc}
use Rattle.std.specs.Prelude.{if◌then◌else◌}
use Rattle.pattern_model.specs.Text.{Text, with_front, many_in, many, Shrinks}
use Rattle.pattern_model.specs.GroupNames.{name_part}
use Rattle.pattern_model.specs.Classes.{class_part}
use Rattle.pattern_model.proofs.PartTails.{After, short_holds, name_part_short, class_part_short}
use Rattle.pattern_model.proofs.TokenTails.{shorter}

after_shorter : (x : Text) → After (shorter (length x)) x
after_shorter [] = tt
after_shorter (c ∷ x) = omega arith

pub name_part_shrinks : Shrinks name_part
name_part_shrinks x p e = short_holds (shorter (length x)) (name_part x) p (name_part_short x (shorter (length x)) (after_shorter x)) e

pub class_part_shrinks : (wide : Bool) → Shrinks (class_part wide)
class_part_shrinks wide x p e =
    short_holds (shorter (length x)) (class_part wide x) p (class_part_short wide x (shorter (length x)) (after_shorter x)) e

bind_same : {B C : Type 0} (f g : B → Option C) (o : Option B) → ((b : B) → o ≡ Some b → f b ≡ g b) →
    option_and_then f o ≡ option_and_then g o
bind_same f g None h = refl
bind_same f g (Some b) h = h b refl

if_same : {B : Type 0} (t : Bool) (a b c : B) → b ≡ c → (if t then a else b) ≡ (if t then a else c)
if_same true a b c e = refl
if_same false a b c e = e

many_fuel : {A : Type 0} (stop : Text → Bool) (one : Text → Option (List A × Text)) → Shrinks one → (n m : ℕ) (x : Text) → length x < n →
    length x < m → many_in stop one n x ≡ many_in stop one m x
many_fuel stop one s zero m x h k = absurd (omega arith)
many_fuel stop one s (suc n) zero x h k = absurd (omega arith)
many_fuel stop one s (suc n) (suc m) x h k =
    if_same (stop x) (Some ([], x)) _ _
    (bind_same _ _ (one x) (λ p e. ap (with_front p.0) (many_fuel stop one s n m p.1 (let l = s x p e in omega arith) (let l =
    s x p e in omega arith))))

pub many_step : {A : Type 0} (stop : Text → Bool) (one : Text → Option (List A × Text)) → Shrinks one → (x : Text) →
    many stop one x ≡ (if stop x then Some ([], x) else option_and_then (λ p. with_front p.0 (many stop one p.1)) (one x))
unfolding many
many_step stop one s x =
    if_same (stop x) (Some ([], x)) _ _
    (bind_same _ _ (one x)
    (λ p e. ap (with_front p.0) (many_fuel stop one s (length x) (suc (length p.1)) p.1 (s x p e) (omega arith))))

-- a loop over parts: at its end, where a part is refused, and at a part more
pub many_end : {A : Type 0} (stop : Text → Bool) (one : Text → Option (List A × Text)) → Shrinks one → (x : Text) → stop x ≡ true →
    many stop one x ≡ Some ([], x)
many_end stop one s x e = many_step stop one s x
    ∙ ap (λ z. if z then Some ([], x) else option_and_then (λ p. with_front p.0 (many stop one p.1)) (one x)) e

many_on : {A : Type 0} (stop : Text → Bool) (one : Text → Option (List A × Text)) → Shrinks one → (x : Text) → stop x ≡ false →
    many stop one x ≡ option_and_then (λ p. with_front p.0 (many stop one p.1)) (one x)
many_on stop one s x e = many_step stop one s x
    ∙ ap (λ z. if z then Some ([], x) else option_and_then (λ p. with_front p.0 (many stop one p.1)) (one x)) e

pub many_none : {A : Type 0} (stop : Text → Bool) (one : Text → Option (List A × Text)) → Shrinks one → (x : Text) → stop x ≡ false →
    one x ≡ None → many stop one x ≡ None
many_none stop one s x e f = many_on stop one s x e ∙ ap (option_and_then (λ p. with_front p.0 (many stop one p.1))) f

front_more : {A : Type 0} (xs a : List A) (r : Option (List A × Text)) → with_front (xs ++ a) r ≡ with_front xs (with_front a r)
front_more xs a None = refl
front_more xs a (Some p) = ap (λ z. Some (z, p.1)) (append_assoc xs a p.0)

pub many_more : {A : Type 0} (stop : Text → Bool) (one : Text → Option (List A × Text)) → Shrinks one →
    (front new a : List A) (x y : Text) (total : Option (List A × Text)) →
    new ≡ front ++ a → stop x ≡ false → one x ≡ Some (a, y) → with_front front (many stop one x) ≡ total →
    with_front new (many stop one y) ≡ total
many_more stop one s front new a x y total n e f h =
    ap (λ z. with_front z (many stop one y)) n
    ∙ (front_more front a (many stop one y)
    ∙ (ap (with_front front) (sym (many_on stop one s x e ∙ ap (option_and_then (λ p. with_front p.0 (many stop one p.1))) f))
    ∙ h))
