-- The document that is built, and the rules that are kept so far.
use Rattle.std.proofs.Common.{rules, arith, ◌≡◌, ◌+◌, ◌^◌, ◌<◌, ◌≤◌, ◌++◌, ℕ, pos, nat_abs, Bool, true, false, zero, suc, add-one, List, [], ◌∷◌, drop, get_or, length, take, Option, Some, None, Ok, Err, Result, codes, bytes_eq, map, if◌then◌else◌, refl, sym, ap, subst, ◌∙◌}
use Rattle.std.proofs.lemmas.List.{length-map, take_all}
use Rattle.std.specs.List.{AllByRecursion}
use Rattle.std.specs.Prelude.{◌↔◌, IfOk, IsErrAnd, IsTrue, MatchOption, ⊤}
use Rattle.json_model.specs.Decimal.{Decimal as Written}
use Rattle.json_model.specs.Keys.{rises}
use Rattle.json_model.specs.Parts.{lookup}
use Rattle.json_model.specs.Tree.{Tree, boolean, null, number, scalar}
use Rattle.json_exact.specs.Literal.{IsLiteral}
use Rattle.json_exact.specs.Parsed.{IsNumber, IsNoLiteral, IsTooWide, IsOutOfRange}
use Rattle.json_exact.specs.inner.Reading.{Parts, literal_of, with_whole, with_fraction, with_exponent, minus_of, whole_of, is_whole_part, fraction_of, some_digits_of, exponent_of}
use Rattle.json_exact.specs.Trees.{Pairs, tree}
use Rattle.json_exact.specs.declared.number_error.NumberError.{NumberError}
use Rattle.json_exact.specs.declared.number_error.NumberError.TheVariants.{NotANumber, TooWide, OutOfRange}
use Rattle.json_exact.specs.declared.value.Value.{Value, the_lemmas}
use Rattle.json_exact.specs.declared.value.Value as V
use Rattle.json_exact.proofs.DigitLaws.{power_mono}
use Rattle.json_exact.proofs.LiteralLaws.{written_of, takes, one_literal}
use Rattle.json_exact.proofs.ParseLaws.{not_refused}
use Rattle.json_traits.specs.Numbers.{whole}
use Rattle.key_map.proofs.Lookups.{one_list}
use Rattle.json_semantics.specs.Conformance.{broken_rule, rules as all_rules, the_members, three, IsFirstBroken, Judges, Obeys, Rule}
use Rattle.json_semantics.specs.declared.conformance.error.ConformanceError.{ConformanceError}
use Rattle.json_semantics.specs.declared.conformance.error.ConformanceError.TheVariants.{OutOfMemory}

-- a number that is parsed is what its literal writes
pub one_number : (text : List ℕ) (v w : Written) → IsNumber text v → IsNumber text w → v ≡ w
one_number text v w a b = one_literal text v w a.literal b.literal

-- the tree of a number
pub tree_number : (n : Written) → tree (V.Number n) ≡ scalar (number n)
tree_number n = search (rules, the_lemmas)

-- a text that is a number is not refused
pub no_refusal : (e : NumberError) (r : Result Written NumberError) (text : List ℕ) → (w : Written) × IsNumber text w → r ≡ Err e →
    (r ≡ Err NotANumber) ↔ IsNoLiteral text → (r ≡ Err TooWide) ↔ IsTooWide text → (r ≡ Err OutOfRange) ↔ IsOutOfRange text → ⊥
no_refusal NotANumber r text n is a b c = not_refused NotANumber text n (a.0 is)
no_refusal TooWide r text n is a b c = not_refused TooWide text n (b.0 is)
no_refusal OutOfRange r text n is a b c = not_refused OutOfRange text n (c.0 is)

-- a literal of a small number is a number
small : (text : List ℕ) (p : Parts) (w : Written) (n : ℕ) → literal_of text ≡ Some p → written_of p ≡ w → w.digits ≡ pos n → n < 100 →
    w.places ≤ 16383 → IsNumber text w
small text p w n e f g lt le =
    let size : nat_abs w.digits ≡ n = ap nat_abs g in
    let wide : 10 ^ 2 ≤ 10 ^ (38 + 0) = power_mono 10 2 (38 + 0) (omega arith) (omega arith) in
    let high : 10 ^ 2 ≤ 10 ^ (131072 + w.places) = power_mono 10 2 (131072 + w.places) (omega arith) (omega arith) in
    record {
      literal = subst (λ (v : Written). IsLiteral text v) f (takes text p e);
      narrow = (0, n, omega (arith, size), omega (arith, size, wide, lt));
      in_range = (omega (arith, size, high, lt), le);
    }

-- the literals of the document
one_reads : literal_of (codes "1") ≡ Some (record { negative = false; whole = 49 ∷ []; fraction = []; exponent = (false, 0) })
unfolding literal_of with_whole with_fraction with_exponent minus_of whole_of is_whole_part fraction_of some_digits_of exponent_of
one_reads = refl

pub one : IsNumber (codes "1") (whole (pos 1))
one = small (codes "1") _ (whole (pos 1)) 1 one_reads refl refl (omega arith) (omega arith)

ten_reads : literal_of (codes "10") ≡ Some (record { negative = false; whole = 49 ∷ 48 ∷ []; fraction = []; exponent = (false, 0) })
unfolding literal_of with_whole with_fraction with_exponent minus_of whole_of is_whole_part fraction_of some_digits_of exponent_of
ten_reads = refl

pub ten : IsNumber (codes "10") (whole (pos 10))
ten = small (codes "10") _ (whole (pos 10)) 10 ten_reads refl refl (omega arith) (omega arith)

twenty_reads : literal_of (codes "20") ≡ Some (record { negative = false; whole = 50 ∷ 48 ∷ []; fraction = []; exponent = (false, 0) })
unfolding literal_of with_whole with_fraction with_exponent minus_of whole_of is_whole_part fraction_of some_digits_of exponent_of
twenty_reads = refl

pub twenty : IsNumber (codes "20") (whole (pos 20))
twenty = small (codes "20") _ (whole (pos 20)) 20 twenty_reads refl refl (omega arith) (omega arith)

thirty_reads : literal_of (codes "30") ≡ Some (record { negative = false; whole = 51 ∷ 48 ∷ []; fraction = []; exponent = (false, 0) })
unfolding literal_of with_whole with_fraction with_exponent minus_of whole_of is_whole_part fraction_of some_digits_of exponent_of
thirty_reads = refl

pub thirty : IsNumber (codes "30") (whole (pos 30))
thirty = small (codes "30") _ (whole (pos 30)) 30 thirty_reads refl refl (omega arith) (omega arith)

forty_two_reads : literal_of (codes "42") ≡ Some (record { negative = false; whole = 52 ∷ 50 ∷ []; fraction = []; exponent = (false, 0) })
unfolding literal_of with_whole with_fraction with_exponent minus_of whole_of is_whole_part fraction_of some_digits_of exponent_of
forty_two_reads = refl

pub forty_two : IsNumber (codes "42") (whole (pos 42))
forty_two = small (codes "42") _ (whole (pos 42)) 42 forty_two_reads refl refl (omega arith) (omega arith)

half_reads : literal_of (codes "1.5") ≡ Some (record { negative = false; whole = 49 ∷ []; fraction = 53 ∷ []; exponent = (false, 0) })
unfolding literal_of with_whole with_fraction with_exponent minus_of whole_of is_whole_part fraction_of some_digits_of exponent_of
half_reads = refl

pub one_and_a_half : IsNumber (codes "1.5") (record { digits = pos 15; places = 1 })
one_and_a_half = small (codes "1.5") _ (record { digits = pos 15; places = 1 }) 15 half_reads refl refl (omega arith) (omega arith)

-- a member is put before the others
pub put_on : (before after rest : Pairs) (key : List ℕ) (t u : Tree) → t ≡ u → ((k : List ℕ) → lookup k before ≡ lookup k rest) →
    ((k : List ℕ) → lookup k after ≡ (if bytes_eq k key then Some t else lookup k before)) → (k : List ℕ) →
    lookup k after ≡ lookup k ((key, u) ∷ rest)
put_on before after rest key t u same e h k =
    h k
    ∙ ap (λ (x : Tree). if bytes_eq k key then Some x else lookup k before) same
    ∙ ap (λ (o : Option Tree). if bytes_eq k key then Some u else o) (e k)

-- nothing is put yet
pub nothing_put : (start : Pairs) → start ≡ [] → (k : List ℕ) → lookup k start ≡ lookup k []
nothing_put start e k = ap (λ (ps : Pairs). lookup k ps) e

-- the trees of a truth value and of null
pub tree_boolean : (b : Bool) → tree (V.Bool b) ≡ scalar (boolean b)
tree_boolean b = search (rules, the_lemmas)

pub tree_null : tree V.Null ≡ scalar null
tree_null = search (rules, the_lemmas)

-- an array of three is built of their trees
pub three_built : {E : Type 0} (r : Result Value E) (a b c t u v : Tree) → IfOk r (λ x. tree x ≡ three a b c) → a ≡ t → b ≡ u → c ≡ v →
    IfOk r (λ x. tree x ≡ three t u v)
three_built r a b c t u v h e f g =
    subst (λ (y : Tree). IfOk r (λ x. tree x ≡ three y u v)) e
    (subst (λ (y : Tree). IfOk r (λ x. tree x ≡ three a y v)) f (subst (λ (y : Tree). IfOk r (λ x. tree x ≡ three a b y)) g h))

-- the members that are looked up as those of the document are those
pub the_list : (ps : Pairs) → rises (map (λ (p : List ℕ × Tree). p.0) ps) ≡ true → ((k : List ℕ) → lookup k ps ≡ lookup k the_members) →
    ps ≡ the_members
unfolding the_members
the_list ps e h = one_list ps the_members e refl h

-- all of a list and one more
all_on : (t : Tree) (rs : List Rule) (r : Rule) → AllByRecursion (Obeys t) rs → Obeys t r → AllByRecursion (Obeys t) (rs ++ r ∷ [])
all_on t [] r a h = (h, tt)
all_on t (q ∷ rs) r a h = (a.0, all_on t rs r a.1 h)

-- the rule at a place, which the refusal at that place names
record AtRule (rs : List Rule) (i : ℕ) (o : Option Rule) : Type 0 where
  rule : Rule
  named : o ≡ Some rule
  front : take (suc i) rs ≡ take i rs ++ rule ∷ []
  parts : rs ≡ take i rs ++ rule ∷ drop (suc i) rs

at_rule : (es : List ConformanceError) (rs : List Rule) (i : ℕ) (d : ConformanceError) → map broken_rule es ≡ map Some rs → i < length es →
    AtRule rs i (broken_rule (get_or es i d))
at_rule [] rs i d m lt = absurd (omega arith)
at_rule (e ∷ es) [] i d m lt = absurd cc
at_rule (e ∷ es) (r ∷ rs) zero d m lt = record { rule = r; named = cc; front = refl; parts = refl }
at_rule (e ∷ es) (r ∷ rs) (suc i) d m lt =
    let rest : map broken_rule es ≡ map Some rs = cc in
    let a = at_rule es rs i d rest (omega arith) in
    record {
      rule = a.rule;
      named = a.named;
      front = ap (λ (qs : List Rule). r ∷ qs) a.front;
      parts = ap (λ (qs : List Rule). r ∷ qs) a.parts;
    }

-- a test of the rule that a refusal names
abbrev Tests : Tree → Option Rule → Bool → Type 0
Tests t o b = MatchOption o ⊤ (λ r. IsTrue b ↔ Obeys t r)

tested : (t : Tree) (o : Option Rule) (r : Rule) (b : Bool) → o ≡ Some r → Tests t o b → IsTrue b ↔ Obeys t r
tested t None r b e h = cc
tested t (Some q) r b e h = let same : q ≡ r = cc in subst (λ (x : Rule). IsTrue b ↔ Obeys t x) same h

-- what names the first broken rule
named_by : (t : Tree) (o : Option Rule) (r : Rule) → o ≡ Some r → IsFirstBroken t r → MatchOption o ⊤ (IsFirstBroken t)
named_by t None r e h = tt
named_by t (Some q) r e h = let same : q ≡ r = cc in subst (λ (x : Rule). IsFirstBroken t x) (sym same) h

-- there are as many refusals as rules
as_many : (es : List ConformanceError) → map broken_rule es ≡ map Some all_rules → length es ≡ 26
as_many es m = sym (length-map es broken_rule) ∙ ap (λ (os : List (Option Rule)). length os) m

module _ (t : Tree) (es : List ConformanceError) (i : ℕ) (d : ConformanceError) (b : Bool) (lt : i < 26)
    (kept : AllByRecursion (Obeys t) (take i all_rules)) (tests : Tests t (broken_rule (get_or es i d)) b) where
  -- one more rule is kept
  pub kept_on : map broken_rule es ≡ map Some all_rules → b ≡ true → AllByRecursion (Obeys t) (take (i + 1) all_rules)
  kept_on m is =
      let a = at_rule es all_rules i d m (omega (arith, lt, as_many es m)) in
      let one : i + 1 ≡ suc i = add-one i in
      subst (λ (n : ℕ). AllByRecursion (Obeys t) (take n all_rules)) (sym one)
      (subst (AllByRecursion (Obeys t)) (sym a.front) (all_on t (take i all_rules) a.rule kept ((tested t _ a.rule b a.named tests).0 is)))

  -- the rule is the first that is broken
  pub first_broken : map broken_rule es ≡ map Some all_rules → b ≡ false → MatchOption (broken_rule (get_or es i d)) ⊤ (IsFirstBroken t)
  first_broken m is =
      let a = at_rule es all_rules i d m (omega (arith, lt, as_many es m)) in
      named_by t _ a.rule a.named (
        take i all_rules,
        drop (suc i) all_rules,
        a.parts,
        kept,
        λ h. let yes = (tested t _ a.rule b a.named tests).1 h in absurd cc,
      )

-- all rules are kept
pub all_kept : (t : Tree) (i : ℕ) → 26 ≤ i → AllByRecursion (Obeys t) (take i all_rules) → AllByRecursion (Obeys t) all_rules
all_kept t i end kept = subst (AllByRecursion (Obeys t)) (take_all i all_rules end) kept

-- want of memory names no rule
pub no_memory : (t : Tree) (r : Result ⊤ ConformanceError) → IsErrAnd r (λ e. e ≡ OutOfMemory) → Judges t r
no_memory t (Ok _) h = absurd h
no_memory t (Err e) h = subst (λ (x : ConformanceError). MatchOption (broken_rule x) ⊤ (IsFirstBroken t)) (sym h) tt
