-- A pattern has one text for Rust.
use Rattle.std.proofs.Common.{◌≡◌, ℕ, Bool, true, false, List, [], ◌∷◌, ◌++◌, drop, refl, ap, sym, ◌∙◌, subst}
use Rattle.std.specs.Prelude.{◌==◌}
use Rattle.std.proofs.lemmas.List.{append_cancel_right}
use Rattle.pattern_model.specs.Text.{Text, is_at}
use Rattle.pattern_model.specs.Tree.{Token, tokens_of}
use Rattle.pattern_model.specs.Classes.{Atom, makes_range, has_hyphens}
use Rattle.pattern_model.specs.Tokens.{token_from}
use Rattle.pattern_tree.proofs.Leads.{one_spelled}
use Rattle.rust_pattern_model.specs.Written.{atom_written}
use Rattle.rust_pattern_model.specs.Translation.{WritesAtom, WritesPart, WritesItems, opening, token_written, WritesToken, Writes, Translates}
use Rattle.rust_pattern_model.proofs.Alone.{some_same}

same_own : (x own other y z : Text) → x ≡ own ++ y → x ≡ other ++ z → y ≡ z → own ≡ other
same_own x own other y z e f i = append_cancel_right own other y (sym e ∙ (f ∙ ap (λ t. other ++ t) (sym i)))

same_atom : (b x y z v w : Text) (a c : Atom) → WritesAtom b x a y v → WritesAtom b x c z w → (a ≡ c) × (y ≡ z) × (v ≡ w)
same_atom b x y z v w a c p q =
    let e = some_same (a, y) (c, z) (sym p.read ∙ q.read) in
    let i : a ≡ c = ap (λ t. t.0) e in
    let j : y ≡ z = ap (λ t. t.1) e in
    let k = same_own x p.own q.own y z p.stands q.stands j in (
      i,
      j,
      p.is ∙ (ap (λ t. atom_written b t x p.own y) i ∙ (ap (λ t. atom_written b c x t y) k ∙ (ap (λ t. atom_written b c x q.own t) j ∙ sym q.is))),
    )

-- the same, behind and at equal texts
same_next : (b d x n y z v w : Text) (a c : Atom) → b ≡ d → x ≡ n → WritesAtom b x a y v → WritesAtom d n c z w → (a ≡ c) × (y ≡ z) × (v ≡ w)
same_next b d x n y z v w a c e f p q =
    same_atom d n y z v w a c (subst (λ t. WritesAtom t n a y v) e (subst (λ t. WritesAtom b t a y v) f p)) q

clash : {A : Type 0} (f : A → Bool) (a b : A) → a ≡ b → f a ≡ true → f b ≡ false → ⊥
clash f a b e g h = let i : true ≡ false = sym g ∙ (ap f e ∙ h) in cc

same_part : (b x l y v m z w : Text) → WritesPart b x l y v → WritesPart b x m z w → (l ≡ m) × (y ≡ z) × (v ≡ w)
same_part b x l y v m z w (WritesPart.single {a = a} p h r e) (WritesPart.single {a = c} q k s f) =
    let (i, j, n) = same_atom b x y z v w a c p q in (e ∙ sym f, j, n)
same_part b x l y v m z w (WritesPart.single {a = a} p h r e) (WritesPart.range {a = c} {b = d} {z = t} {v = u} {u = o} q k s f g n) =
    absurd (clash makes_range t y (sym (same_atom b x y t v u a c p q).1) s r)
same_part b x l y v m z w (WritesPart.single {a = a} p h r e) (WritesPart.hyphens {a = c} {z = t} {v = u} {u = o} {t = n} q k f g i) =
    let (j, o, n) = same_atom b x y t v u a c p q in
    absurd (clash (has_hyphens true) (c, t) (a, y) (sym (ap (λ s. (s, y)) j ∙ ap (λ s. (c, s)) o)) k h)
same_part b x l y v m z w (WritesPart.range {a = c} {b = d} {z = t} {v = u} {u = o} q k s f g n) (WritesPart.single {a = a} p h r e) =
    absurd (clash makes_range t z (same_atom b x t z u w c a q p).1 s r)
same_part b x l y v m z w (WritesPart.range {a = a} {b = c} {z = t} {v = u} {u = o} p h r e g n)
    (WritesPart.range {a = d} {b = f} {z = k} {v = q} {u = s} i j aa bb c2 dd) =
    let (ee, ff, gg) = same_atom b x t k u q a d p i in
    let hh : l ≡ m = e ∙ (ap (drop 1) ff ∙ sym bb) in
    let (ii, jj, kk) = same_next t k l m y z o s c f ff hh g c2 in
    (hh, jj, n ∙ (ap (λ z. z ++ (45 ∷ o)) gg ∙ (ap (λ z. q ++ (45 ∷ z)) kk ∙ sym dd)))
same_part b x l y v m z w (WritesPart.range {a = a} {b = c} {z = t} {v = u} {u = o} p h r e g n)
    (WritesPart.hyphens {a = d} {z = k} {v = q} {u = s} {t = f} i j aa bb dd) =
    let (ee, ff, gg) = same_atom b x t k u q a d p i in
    absurd (clash (has_hyphens true) (d, k) (a, t) (sym (ap (λ s. (s, t)) ee ∙ ap (λ s. (d, s)) ff)) j h)
same_part b x l y v m z w (WritesPart.hyphens {a = a} {z = t} {v = u} {u = o} {t = n} p h g i e) (WritesPart.single {a = c} q k s f) =
    let (j, o, n) = same_atom b x t z u w a c p q in
    absurd (clash (has_hyphens true) (a, t) (c, z) (ap (λ s. (s, t)) j ∙ ap (λ s. (c, s)) o) h k)
same_part b x l y v m z w (WritesPart.hyphens {a = d} {z = k} {v = q} {u = s} {t = f} i j aa bb dd)
    (WritesPart.range {a = a} {b = c} {z = t} {v = u} {u = o} p h r e g n) =
    let (ee, ff, gg) = same_atom b x k t q u d a i p in
    absurd (clash (has_hyphens true) (d, k) (a, t) (ap (λ s. (s, k)) ee ∙ ap (λ s. (a, s)) ff) j h)
same_part b x l y v m z w (WritesPart.hyphens {a = a} {z = t} {v = u} {u = o} {t = n} p h g i e)
    (WritesPart.hyphens {a = c} {z = k} {v = q} {u = s} {t = f} j r aa bb dd) =
    let (ee, ff, gg) = same_atom b x t k u q a c p j in
    let (hh, ii, jj) = same_next x x t k l m o s (Atom.code 45) (Atom.code 45) refl ff g aa in
    let (kk, ll, mm) = same_next t k l m y z n f (Atom.code 45) (Atom.code 45) ff ii i bb in
    (ii, ll, e ∙ (ap (λ z. z ++ (o ++ n)) gg ∙ (ap (λ z. q ++ (z ++ n)) jj ∙ (ap (λ z. q ++ (s ++ z)) mm ∙ sym dd))))

same_items : (b x e v w : Text) → WritesItems b x e v → WritesItems b x e w → v ≡ w
same_items b x e v w (WritesItems.closes p q r) (WritesItems.closes s t u) = r ∙ sym u
same_items b x e v w (WritesItems.closes p q r) (WritesItems.goes_on s t u n) = absurd (clash (is_at 93) x x refl p s)
same_items b x e v w (WritesItems.goes_on s t u n) (WritesItems.closes p q r) = absurd (clash (is_at 93) x x refl p s)
same_items b x e v w (WritesItems.goes_on {last = l} {y = y} {v = o} {u = i} p q r n)
    (WritesItems.goes_on {last = m} {y = z} {v = s} {u = j} t u k f) =
    let (ll, yy, oo) = same_part b x l y o m z s q u in
    let ii = same_items m z e i j (subst (λ t. WritesItems t z e i) ll (subst (λ t. WritesItems l t e i) yy r)) k in
    n ∙ (ap (λ t. t ++ i) oo ∙ (ap (λ t. s ++ t) ii ∙ sym f))

same_token : (k : Bool) (t : Token) (c : ℕ) (x y v w : Text) → WritesToken k t c x y v → WritesToken k t c x y w → v ≡ w
same_token true t c x y v w (i, p, e) (j, q, f) = e ∙ (ap (λ z. opening x ++ (z ++ (93 ∷ []))) (same_items _ _ _ i j p q) ∙ sym f)
same_token false t c x y v w (own, p, e) (other, q, f) =
    e ∙ (ap (λ z. token_written t (c ∷ x) z) (same_own (c ∷ x) own other y y p q refl) ∙ sym f)

-- tokens have one text
pub same_text : (x : Text) (ts : List Token) (v w : Text) → Writes x ts v → Writes x ts w → v ≡ w
same_text x [] v w (e, p) (f, q) = p ∙ sym q
same_text x (t ∷ ts) v w (c, a, r, i, j, e, p, k, n, f) (d, b, s, g, h, o, q, l, m, u) =
    let (cd, ab) = heads c d a b (sym e ∙ o) in
    let rs : r ≡ s = ap (λ z. z.1) (some_same (t, r) (t, s) (sym p ∙ (read cd ab ∙ q))) in
    let ig = same_token (d == 91) t d b s i g (subst (λ z. WritesToken (d == 91) t d b z i) rs
    (subst (λ z. WritesToken (d == 91) t d z r i) ab (subst (λ z. WritesToken (z == 91) t z a r i) cd k))) l in
    let jh = same_text s ts j h (subst (λ z. Writes z ts j) rs n) m in
    f ∙ (ap (λ z. z ++ j) ig ∙ (ap (λ z. g ++ z) jh ∙ sym u))
  where
    heads : (c d : ℕ) (a b : Text) → c ∷ a ≡ d ∷ b → (c ≡ d) × (a ≡ b)
    heads c d a b e = (cc, cc)

    read : c ≡ d → a ≡ b → token_from true c a ≡ token_from true d b
    read cd ab = ap (λ z. token_from true z a) cd ∙ ap (token_from true d) ab

-- a pattern has one text
pub one_text : (x v w : Text) → Translates x v → Translates x w → v ≡ w
one_text x v w p q =
    let t = one_spelled true x p.tree q.tree p.grammar.spells q.grammar.spells in
    same_text x (tokens_of q.tree) v w (subst (λ z. Writes x (tokens_of z) v) t p.writes) q.writes
