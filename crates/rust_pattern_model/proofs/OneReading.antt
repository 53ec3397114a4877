-- A text is one class, and begins with one token, by Rust's grammar.
use Rattle.std.proofs.Common.{◌≡◌, ℕ, Bool, true, false, ◌∷◌, drop, Some, refl, ap, sym, ◌∙◌, subst}
use Rattle.pattern_model.specs.Text.{Text, is_at}
use Rattle.rust_pattern_model.specs.RustClasses.{Items, atom, BeginsItem, has_range, Opens, ReadsItems, ReadsClass}
use Rattle.rust_pattern_model.proofs.Alone.{true_false, none_some, pair_same}

-- a class that ends here has no item here
closed : (y r : Text) → y ≡ 93 ∷ r → BeginsItem y → ⊥
closed y r e b = true_false (sym (ap (is_at 93) e) ∙ b.goes_on)

-- a class in the class is no atom
opened : (y inside after : Text) (n : Bool) (a : ℕ) → Opens y n inside → atom y ≡ Some (a, after) → ⊥
opened y inside after true a o e = none_some (ap atom (sym o) ∙ e)
opened y inside after false a (o, m) e = none_some (ap atom (sym o) ∙ e)

ranged : (x y : Text) → x ≡ y → has_range x ≡ false → has_range y ≡ true → ⊥
ranged x y e f g = true_false (sym g ∙ (sym (ap has_range e) ∙ f))

pub opens_once : (y inside other : Text) (n m : Bool) → Opens y n inside → Opens y m other → (n ≡ m) × (inside ≡ other)
opens_once y inside other true true o p = (refl, ap (drop 2) (sym o ∙ p))
opens_once y inside other false false (o, n) (p, m) = (refl, ap (drop 1) (sym o ∙ p))
opens_once y inside other true false o (p, m) = absurd (true_false (ap (λ z. is_at 94 (drop 1 z)) (sym o ∙ p) ∙ m))
opens_once y inside other false true (o, n) p = absurd (true_false (ap (λ z. is_at 94 (drop 1 z)) (sym p ∙ o) ∙ n))

pub items_once : (u v : Items) (y r s : Text) → ReadsItems y u r → ReadsItems y v s → (u ≡ v) × (r ≡ s)
items_once Items.none Items.none y r s e f = (refl, ap (drop 1) (sym e ∙ f))
items_once Items.none (Items.one b more) y r s e (after, g, h, i, j) = absurd (closed y r e g)
items_once Items.none (Items.range b c more) y r s e (middle, after, g, h, i, j, k, l) = absurd (closed y r e g)
items_once Items.none (Items.nested m inner more) y r s e (inside, after, g, h, i, j, k) = absurd (closed y r e g)
items_once (Items.one a rest) Items.none y r s (after, g, h, i, j) f = absurd (closed y s f g)
items_once (Items.range a c rest) Items.none y r s (middle, after, g, h, i, j, k, l) f = absurd (closed y s f g)
items_once (Items.nested n inner rest) Items.none y r s (inside, after, g, h, i, j, k) f = absurd (closed y s f g)
items_once (Items.one a rest) (Items.one b more) y r s (after, g, h, i, j) (other, k, l, m, n) =
    let (o, p) = pair_same a b after other (sym h ∙ l) in
    let (q, t) = items_once rest more other r s (subst (λ z. ReadsItems z rest r) p j) n in
    (ap (λ z. Items.one z rest) o ∙ ap (λ z. Items.one b z) q, t)
items_once (Items.one a rest) (Items.range b c more) y r s (after, g, h, i, j) (middle, other, k, l, m, n, o, p) =
    absurd (ranged after middle (pair_same a b after middle (sym h ∙ l)).1 i m)
items_once (Items.one a rest) (Items.nested m inner more) y r s (after, g, h, i, j) (inside, other, k, l, n, o, p) =
    absurd (opened y inside after m a l h)
items_once (Items.range a c rest) (Items.one b more) y r s (middle, after, g, h, i, j, k, l) (other, m, n, o, p) =
    absurd (ranged other middle (pair_same b a other middle (sym n ∙ h)).1 o i)
items_once (Items.range a c rest) (Items.range b d more) y r s (middle, after, g, h, i, j, k, l) (half, other, m, n, o, p, q, t) =
    let (e, f) = pair_same a b middle half (sym h ∙ n) in
    let (u, v) = pair_same c d after other (sym j ∙ (ap (λ z. atom (drop 1 z)) f ∙ p)) in
    let (w, x) = items_once rest more other r s (subst (λ z. ReadsItems z rest r) v l) t in
    (ap (λ z. Items.range z c rest) e ∙ (ap (λ z. Items.range b z rest) u ∙ ap (λ z. Items.range b d z) w), x)
items_once (Items.range a c rest) (Items.nested m inner more) y r s (middle, after, g, h, i, j, k, l) (inside, other, n, o, p, q, t) =
    absurd (opened y inside middle m a o h)
items_once (Items.nested n inner rest) (Items.one b more) y r s (inside, after, g, h, i, j, k) (other, l, m, o, p) =
    absurd (opened y inside other n b h m)
items_once (Items.nested n inner rest) (Items.range b c more) y r s (inside, after, g, h, i, j, k) (middle, other, l, m, o, p, q, t) =
    absurd (opened y inside middle n b h m)
items_once (Items.nested n inner rest) (Items.nested m core more) y r s (inside, after, g, h, i, j, k) (within, other, l, o, p, q, t) =
    let (e, f) = opens_once y inside within n m h o in
    let (u, v) = items_once inner core within after other (subst (λ z. ReadsItems z inner after) f j) q in
    let (w, x) = items_once rest more other r s (subst (λ z. ReadsItems z rest r) v k) t in
    (ap (λ z. Items.nested z inner rest) e ∙ (ap (λ z. Items.nested m z rest) u ∙ ap (λ z. Items.nested m core z) w), x)

-- a text is one class
pub class_once : (y : Text) (n m : Bool) (u v : Items) (r s : Text) → ReadsClass y n u r → ReadsClass y m v s → (n ≡ m) × (u ≡ v) × (r ≡ s)
class_once y n m u v r s (inside, o, i, j) (other, p, k, l) =
    let (e, f) = opens_once y inside other n m o p in
    let (g, h) = items_once u v other r s (subst (λ z. ReadsItems z u r) f j) l in
    (e, g, h)
