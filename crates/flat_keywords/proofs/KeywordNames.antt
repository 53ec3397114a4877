-- Each keyword has one name.
use Rattle.std.proofs.Common.{rules, ◌≡◌, ℕ, ◌+◌, List, [], ◌∷◌, ◌++◌, Bool, true, false, not, ◌&&◌, ◌||◌, nat_eq, Some, refl, sym, ap, subst, ◌∙◌}
use Rattle.std.specs.Prelude.{bytes_eq, codes, if◌then◌else◌}
use Rattle.std.specs.List.{AllByRecursion}
use Rattle.std.proofs.lemmas.Slice.Eq.{bytes_eq-Decides}
use Rattle.json_model.specs.Parts.{lookup}
use Rattle.json_semantics.specs.BoundCodes.{code_of}
use Rattle.flat_keywords.specs.Draft4.{draft4_names}
use Rattle.flat_keywords.specs.Names.{keyword_by, keyword_of, names_2020, names_by, shared_names}
use Rattle.flat_keywords.specs.declared.draft.Partners.{Partners}
use Rattle.flat_keywords.specs.declared.draft.Reading.{Reading}
use Rattle.flat_keywords.specs.declared.draft.Reading.TheVariants as reading
use Rattle.flat_keywords.specs.declared.keyword.Measure.{Measure}
use Rattle.flat_keywords.specs.declared.keyword.Measure.TheVariants.{CodePoints, Elements, Members}
use Rattle.flat_keywords.specs.declared.keyword.Keyword.{Keyword}
use Rattle.flat_keywords.specs.declared.keyword.Keyword.TheVariants.{«Type», Enum, Const, Bound, Least, Greatest, Pattern, Required, UniqueItems, Silent, WrittenType}

abbrev measure_number : Measure → ℕ
measure_number CodePoints = 0
measure_number Elements = 1
measure_number Members = 2

-- a number for each keyword, by which two are told apart
abbrev number_of : Keyword → ℕ
number_of «Type» = 0
number_of Required = 1
number_of Enum = 2
number_of Const = 3
number_of Pattern = 4
number_of UniqueItems = 5
number_of (Bound op) = 10 + code_of op
number_of (Least measure) = 20 + measure_number measure
number_of (Greatest measure) = 30 + measure_number measure
number_of (Silent form) = 40
number_of WrittenType = 6

-- nothing is kept of the keyword
abbrev pub is_silent : Keyword → Bool
is_silent (Silent form) = true
is_silent _ = false

abbrev has_number : ℕ → List (List ℕ × Keyword) → Bool
has_number n [] = false
has_number n (p ∷ ps) = nat_eq n (number_of p.1) || has_number n ps

-- no two entries have one keyword of which something is kept
abbrev are_distinct : List (List ℕ × Keyword) → Bool
are_distinct [] = true
are_distinct (p ∷ ps) = (is_silent p.1 || not (has_number (number_of p.1) ps)) && are_distinct ps

same_number : (n : ℕ) → nat_eq n n ≡ true
same_number n = search rules

or_right : (a b : Bool) → b ≡ true → (a || b) ≡ true
or_right true b h = refl
or_right false b h = h

or_left : (a b : Bool) → a ≡ true → (a || b) ≡ true
or_left true b h = refl
or_left false b h = absurd cc

-- what is found under a name stands in the list
stands : (k : List ℕ) (ps : List (List ℕ × Keyword)) (w : Keyword) → lookup k ps ≡ Some w → has_number (number_of w) ps ≡ true
stands k [] w e = absurd cc
stands k (p ∷ ps) w e = go (bytes_eq k p.0) e (stands k ps w)
  where
    go : (b : Bool) → (if b then Some p.1 else lookup k ps) ≡ Some w → (lookup k ps ≡ Some w → has_number (number_of w) ps ≡ true)
        → has_number (number_of w) (p ∷ ps) ≡ true
    go true e f = let s : p.1 ≡ w = cc in
        or_left _ _ (subst (λ (u : Keyword). nat_eq (number_of w) (number_of u) ≡ true) (sym s) (same_number (number_of w)))
    go false e f = or_right _ _ (f e)

-- the first entry's keyword stands in no other entry, if something is kept of it
apart : (silent has rest : Bool) → ((silent || not has) && rest) ≡ true → (silent ≡ false → has ≡ false) × (rest ≡ true)
apart true has rest e = (λ kept. absurd cc, e)
apart false true rest e = absurd cc
apart false false rest e = (λ _. refl, e)

never : (m : List ℕ) (u w : Keyword) (ps : List (List ℕ × Keyword)) → has_number (number_of u) ps ≡ false → u ≡ w → lookup m ps ≡ Some w → ⊥
never m u w ps free s h =
    let has : has_number (number_of u) ps ≡ true = subst (λ (v : Keyword). has_number (number_of v) ps ≡ true) (sym s) (stands m ps w h) in
    let z : false ≡ true = sym free ∙ has in cc

-- two names under which one keyword is found are one, where no two entries have one keyword
one_name_in : (k l : List ℕ) (ps : List (List ℕ × Keyword)) (w : Keyword)
    → is_silent w ≡ false → are_distinct ps ≡ true → lookup k ps ≡ Some w → lookup l ps ≡ Some w → k ≡ l
one_name_in k l [] w kept d e f = absurd cc
one_name_in k l (p ∷ ps) w kept d e f =
    let a = apart (is_silent p.1) (has_number (number_of p.1) ps) (are_distinct ps) d in
    go a.0 (bytes_eq k p.0) (bytes_eq l p.0) refl refl e f (one_name_in k l ps w kept a.1)
  where
    is_kept : p.1 ≡ w → is_silent p.1 ≡ false
    is_kept s = ap is_silent s ∙ kept

    go : (is_silent p.1 ≡ false → has_number (number_of p.1) ps ≡ false) → (a b : Bool) → bytes_eq k p.0 ≡ a → bytes_eq l p.0 ≡ b
        → (if a then Some p.1 else lookup k ps) ≡ Some w → (if b then Some p.1 else lookup l ps) ≡ Some w
        → (lookup k ps ≡ Some w → lookup l ps ≡ Some w → k ≡ l) → k ≡ l
    go free true true x y e f more = (bytes_eq-Decides k p.0).0 x ∙ sym ((bytes_eq-Decides l p.0).0 y)
    go free true false x y e f more = let s : p.1 ≡ w = cc in absurd (never l p.1 w ps (free (is_kept s)) s f)
    go free false true x y e f more = let s : p.1 ≡ w = cc in absurd (never k p.1 w ps (free (is_kept s)) s e)
    go free false false x y e f more = more e f

-- ---- the names of both drafts, and others

-- what is under none of the first names is looked for among the others
past : {A : Type 0} (k : List ℕ) (ps qs : List (List ℕ × A)) → AllByRecursion (λ p. k ≡ p.0 → ⊥) ps → lookup k (ps ++ qs) ≡ lookup k qs
past k [] qs h = refl
past k (p ∷ ps) qs h = go (bytes_eq k p.0) refl (past k ps qs h.1)
  where
    go : (b : Bool) → bytes_eq k p.0 ≡ b → lookup k (ps ++ qs) ≡ lookup k qs → (if b then Some p.1 else lookup k (ps ++ qs)) ≡ lookup k qs
    go true e more = absurd (h.0 ((bytes_eq-Decides k p.0).0 e))
    go false e more = more

-- so is a name that both drafts do not share
pub past_shared : (k : List ℕ) (others : List (List ℕ × Keyword))
    → (k ≡ codes "enum" → ⊥) → (k ≡ codes "minLength" → ⊥) → (k ≡ codes "maxLength" → ⊥) → (k ≡ codes "minItems" → ⊥) → (k ≡ codes "maxItems" → ⊥)
    → (k ≡ codes "uniqueItems" → ⊥) → (k ≡ codes "minProperties" → ⊥) → (k ≡ codes "maxProperties" → ⊥) → (k ≡ codes "pattern" → ⊥)
    → (k ≡ codes "required" → ⊥) → (k ≡ codes "title" → ⊥) → (k ≡ codes "description" → ⊥) → (k ≡ codes "default" → ⊥)
    → lookup k (shared_names ++ others) ≡ lookup k others
past_shared k others a b c d e f g h i j l m n = past k shared_names others (a, (b, (c, (d, (e, (f, (g, (h, (i, (j, (l, (m, (n, tt)))))))))))))

-- the names of each draft have their own keywords
distinct_by : (r : Reading) → are_distinct (names_by r) ≡ true
distinct_by reading.Draft2020 = refl
distinct_by (reading.Draft4 p) = go p.above_minimum p.below_maximum
  where
    with_bounds : Bool → Bool → Partners
    with_bounds above below = record p { above_minimum = above; below_maximum = below }

    go : (above below : Bool) → are_distinct (shared_names ++ draft4_names (with_bounds above below)) ≡ true
    go true true = refl
    go true false = refl
    go false true = refl
    go false false = refl

-- two names of one keyword of which something is kept are one name
pub one_name : (r : Reading) (k l : List ℕ) (w : Keyword) → is_silent w ≡ false → keyword_by r k ≡ Some w → keyword_by r l ≡ Some w → k ≡ l
one_name r k l w kept e f = one_name_in k l (names_by r) w kept (distinct_by r) e f

-- no name of 2020-12 has the keyword that is draft 4's `type`
pub never_written : (k : List ℕ) → keyword_of k ≡ Some WrittenType → ⊥
never_written k e = let z : false ≡ true = stands k (shared_names ++ names_2020) WrittenType e in absurd cc
