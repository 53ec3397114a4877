-- A quantifier is read again from a copy, whatever follows it but a question mark that the source has not there.
use Rattle.std.proofs.Common.{◌≡◌, ℕ, ◌+◌, ◌*◌, ◌-◌, Bool, true, false, ◌&&◌, [], ◌∷◌, ◌++◌, drop, Option, Some, None, refl, ap, sym, ◌∙◌, subst, arith, append_assoc}
use Rattle.std.specs.Prelude.{if◌then◌else◌, nat_le}
use Rattle.std.specs.List.{list_all}
use Rattle.std.proofs.lemmas.Bool.Decides.{nat_tests}
use Rattle.pattern_model.specs.Text.{Text, is_at}
use Rattle.pattern_model.specs.Digits.{is_digit, digit_at, digits_from, digits}
use Rattle.pattern_model.specs.Tree.{Count, count_of, Bounds, Token}
use Rattle.pattern_model.specs.Tokens.{token_from}
use Rattle.pattern_model.specs.Quantifiers.{quantifier, most_from, after_comma, least_from, braces}
use Rattle.pattern_model.proofs.BoolLaws.{and_true, both, code_is}
use Rattle.rust_pattern_model.proofs.Alone.{is_calm, none_some, some_same}

pub at_first : (c : ℕ) (y : Text) → is_at c y ≡ true → y ≡ c ∷ drop 1 y
at_first c [] e = cc
at_first c (d ∷ y) e = ap (λ z. z ∷ y) (code_is d c e)

calm_both : (xs ys : Text) → list_all is_calm xs ≡ true → list_all is_calm ys ≡ true → list_all is_calm (xs ++ ys) ≡ true
calm_both [] ys e f = f
calm_both (c ∷ xs) ys e f =
    let (first, more) = both (is_calm c) (list_all is_calm xs) e in and_true (is_calm c) (list_all is_calm (xs ++ ys)) first (calm_both xs ys more f)

-- x begins with digits that are read as n before any text that begins with no digit; and y follows them
record Number (n v : ℕ) (x y : Text) : Type 0 where
  pub own : Text
  pub stands : x ≡ own ++ y
  pub again : (z : Text) → digit_at z ≡ false → digits_from v (own ++ z) ≡ (n, z)
  pub front : (z : Text) → digit_at x ≡ true → digit_at (own ++ z) ≡ true
  pub calm : list_all is_calm own ≡ true

digit_calm : (c : ℕ) → is_digit c ≡ true → is_calm c ≡ true
digit_calm c e = grind (arith, nat_tests)

-- the digits at which x begins
number : (v : ℕ) (x : Text) → Number (digits_from v x).0 v x (digits_from v x).1
number v [] = record { own = []; stands = refl; again = λ z e. none z e; front = λ z e. cc; calm = refl }
  where
    none : (z : Text) → digit_at z ≡ false → digits_from v z ≡ (v, z)
    none [] e = refl
    none (d ∷ z) e = ap (λ b. if b then digits_from (10 * v + (d - 48)) z else (v, d ∷ z)) e
number v (c ∷ x) = go (number (10 * v + (c - 48)) x) (is_digit c) refl
  where
    none : (z : Text) → digit_at z ≡ false → digits_from v z ≡ (v, z)
    none [] e = refl
    none (d ∷ z) e = ap (λ b. if b then digits_from (10 * v + (d - 48)) z else (v, d ∷ z)) e

    go : (let p = digits_from (10 * v + (c - 48)) x in Number p.0 (10 * v + (c - 48)) x p.1) → (b : Bool) → is_digit c ≡ b →
        (let p = if b then digits_from (10 * v + (c - 48)) x else (v, c ∷ x) in Number p.0 v (c ∷ x) p.1)
    go r true e = record {
      own = c ∷ r.own;
      stands = ap (λ z. c ∷ z) r.stands;
      again = λ z f. ap (λ b. if b then digits_from (10 * v + (c - 48)) (r.own ++ z) else (v, c ∷ (r.own ++ z))) e ∙ r.again z f;
      front = λ z f. e;
      calm = and_true (is_calm c) (list_all is_calm r.own) (digit_calm c e) r.calm;
    }
    go r false e = record { own = []; stands = refl; again = none; front = λ z f. cc; calm = refl }

-- x begins with counts, which are read again before any text; behind them a question mark makes the quantifier lazy
record Leads (read : Text → Option (Token × Text)) (x : Text) : Type 0 where
  pub least : Count
  pub most : Option Count
  pub own : Text
  pub behind : Text
  pub stands : x ≡ own ++ behind
  pub again : (z : Text) → read (own ++ z) ≡ Some (quantifier least most z)
  pub calm : list_all is_calm own ≡ true

-- what is read first leads on
lead_on : (read after : Text → Option (Token × Text)) (x y own : Text) → x ≡ own ++ y → ((z : Text) → read (own ++ z) ≡ after z) →
    list_all is_calm own ≡ true → Leads after y → Leads read x
lead_on read after x y own e f c l = record {
  least = l.least;
  most = l.most;
  own = own ++ l.own;
  behind = l.behind;
  stands = e ∙ (ap (λ z. own ++ z) l.stands ∙ sym (append_assoc own l.own l.behind));
  again = λ z. ap read (append_assoc own l.own z) ∙ (f (l.own ++ z) ∙ l.again z);
  calm = calm_both own l.own c l.calm;
}

-- a number and a character that is no digit
number_end : (n v c : ℕ) (x y : Text) (r : Number n v x y) (z : Text) → is_digit c ≡ false → digits_from v ((r.own ++ (c ∷ [])) ++ z) ≡ (n, c ∷ z)
number_end n v c x y r z e = ap (digits_from v) (append_assoc r.own (c ∷ []) z) ∙ r.again (c ∷ z) e

number_front : (n v c : ℕ) (x y : Text) (r : Number n v x y) (z : Text) → digit_at x ≡ true → digit_at ((r.own ++ (c ∷ [])) ++ z) ≡ true
number_front n v c x y r z e = ap digit_at (append_assoc r.own (c ∷ []) z) ∙ r.front (c ∷ z) e

number_stands : (n v c : ℕ) (x y : Text) (r : Number n v x y) → is_at c y ≡ true → x ≡ (r.own ++ (c ∷ [])) ++ drop 1 y
number_stands n v c x y r e = r.stands ∙ (ap (λ z. r.own ++ z) (at_first c y e) ∙ sym (append_assoc r.own (c ∷ []) (drop 1 y)))

number_calm : (n v c : ℕ) (x y : Text) (r : Number n v x y) → is_calm c ≡ true → list_all is_calm (r.own ++ (c ∷ [])) ≡ true
number_calm n v c x y r e = calm_both r.own (c ∷ []) r.calm (ap (λ b. b && true) e)

-- no digit is a brace
no_close : (x : Text) → digit_at x ≡ true → is_at 125 x ≡ false
no_close [] e = cc
no_close (c ∷ x) e = grind (arith, nat_tests)

-- the greatest count, behind the comma
most_leads : (n : ℕ) (x : Text) (p : Token × Text) → digit_at x ≡ true → most_from n (digits x) ≡ Some p → Leads (after_comma n) x
unfolding digits after_comma
most_leads n x p d e = go (nat_le n m && is_at 125 y) refl e
  where
    m : ℕ
    m = (digits_from 0 x).0

    y : Text
    y = (digits_from 0 x).1

    go : (b : Bool) → nat_le n m && is_at 125 y ≡ b → (if b then Some (quantifier (count_of n) (Some (count_of m)) (drop 1 y)) else None) ≡ Some p →
        Leads (after_comma n) x
    go false f g = absurd (none_some g)
    go true f g =
        let (low, close) = both (nat_le n m) (is_at 125 y) f in
        let r = number 0 x in
        record {
          least = count_of n;
          most = Some (count_of m);
          own = r.own ++ (125 ∷ []);
          behind = drop 1 y;
          stands = number_stands m 0 125 x y r close;
          again = λ z.
              let w : Text = (r.own ++ (125 ∷ [])) ++ z in
              let digit = number_front m 0 125 x y r z d in
              ap (λ b. if b then Some (quantifier (count_of n) None (drop 1 w)) else if digit_at w then most_from n (digits_from 0 w)
              else None) (no_close w digit)
              ∙ (ap (λ b. if b then most_from n (digits_from 0 w) else None) digit
              ∙ (ap (most_from n) (number_end m 0 125 x y r z refl)
              ∙ ap (λ b. if b && true then Some (quantifier (count_of n) (Some (count_of m)) z) else None) low));
          calm = number_calm m 0 125 x y r refl;
        }

comma_leads : (n : ℕ) (x : Text) (p : Token × Text) → after_comma n x ≡ Some p → Leads (after_comma n) x
unfolding after_comma
comma_leads n x p e = first (is_at 125 x) refl e
  where
    second : (b : Bool) → digit_at x ≡ b → (if b then most_from n (digits x) else None) ≡ Some p → Leads (after_comma n) x
    second false f g = absurd (none_some g)
    second true f g = most_leads n x p f g

    first : (b : Bool) → is_at 125 x ≡ b →
        (if b then Some (quantifier (count_of n) None (drop 1 x)) else if digit_at x then most_from n (digits x) else None) ≡ Some p →
        Leads (after_comma n) x
    first true f g = record {
      least = count_of n;
      most = None;
      own = 125 ∷ [];
      behind = drop 1 x;
      stands = at_first 125 x f;
      again = λ z. refl;
      calm = refl;
    }
    first false f g = second (digit_at x) refl g

least_leads : (x : Text) (p : Token × Text) → digit_at x ≡ true → least_from (digits x) ≡ Some p → Leads braces x
unfolding digits braces
least_leads x p d e = first (is_at 125 y) refl e
  where
    n : ℕ
    n = (digits_from 0 x).0

    y : Text
    y = (digits_from 0 x).1

    r : Number n 0 x y
    r = number 0 x

    read : (c : ℕ) (z : Text) → is_digit c ≡ false → braces ((r.own ++ (c ∷ [])) ++ z) ≡ least_from (n, c ∷ z)
    read c z f =
        let w : Text = (r.own ++ (c ∷ [])) ++ z in
        ap (λ b. if b then least_from (digits_from 0 w) else None) (number_front n 0 c x y r z d) ∙ ap least_from (number_end n 0 c x y r z f)

    second : (b : Bool) → is_at 44 y ≡ b → (if b then after_comma n (drop 1 y) else None) ≡ Some p → Leads braces x
    second false f g = absurd (none_some g)
    second true f g =
        lead_on braces (after_comma n) x (drop 1 y) (r.own ++ (44 ∷ [])) (number_stands n 0 44 x y r f) (λ z. read 44 z refl)
        (number_calm n 0 44 x y r refl) (comma_leads n (drop 1 y) p g)

    first : (b : Bool) → is_at 125 y ≡ b →
        (if b then Some (quantifier (count_of n) (Some (count_of n)) (drop 1 y)) else if is_at 44 y then after_comma n (drop 1 y)
        else None) ≡ Some p →
        Leads braces x
    first true f g = record {
      least = count_of n;
      most = Some (count_of n);
      own = r.own ++ (125 ∷ []);
      behind = drop 1 y;
      stands = number_stands n 0 125 x y r f;
      again = λ z. read 125 z refl;
      calm = number_calm n 0 125 x y r refl;
    }
    first false f g = second (is_at 44 y) refl g

braces_lead : (x : Text) (p : Token × Text) → braces x ≡ Some p → Leads braces x
unfolding braces
braces_lead x p e = go (digit_at x) refl e
  where
    go : (b : Bool) → digit_at x ≡ b → (if b then least_from (digits x) else None) ≡ Some p → Leads braces x
    go false f g = absurd (none_some g)
    go true f g = least_leads x p f g

-- the quantifier that begins with c and x, and ends before p.1, is read again from its own text
pub record TimesRead (c : ℕ) (x : Text) (p : Token × Text) : Type 0 where
  pub bounds : Bounds
  pub is : p.0 ≡ Token.times bounds
  pub own : Text
  pub stands : x ≡ own ++ p.1
  pub again : (more : Text) → (is_at 63 p.1 ≡ false → is_at 63 more ≡ false) → token_from true c (own ++ more) ≡ Some (p.0, more)
  pub calm : list_all is_calm own ≡ true

pub times_read : (c : ℕ) (least : Count) (most : Option Count) (x own behind : Text) → x ≡ own ++ behind → list_all is_calm own ≡ true →
    ((z : Text) → token_from true c (own ++ z) ≡ Some (quantifier least most z)) → TimesRead c x (quantifier least most behind)
unfolding quantifier
times_read c least most x own behind e f g = go (is_at 63 behind) refl
  where
    bounds : Bool → Bounds
    bounds b = record { least = least; most = most; lazy = b }

    go : (b : Bool) → is_at 63 behind ≡ b →
        TimesRead c x (if b then (Token.times (bounds true), drop 1 behind) else (Token.times (bounds false), behind))
    go true h = record {
      bounds = bounds true;
      is = refl;
      own = own ++ (63 ∷ []);
      stands = e ∙ (ap (λ z. own ++ z) (at_first 63 behind h) ∙ sym (append_assoc own (63 ∷ []) (drop 1 behind)));
      again = λ more q. ap (token_from true c) (append_assoc own (63 ∷ []) more) ∙ g (63 ∷ more);
      calm = calm_both own (63 ∷ []) f refl;
    }
    go false h = record {
      bounds = bounds false;
      is = refl;
      own = own;
      stands = e;
      again = λ more q. g more
          ∙ ap (λ b. Some (if b then (Token.times (bounds true), drop 1 more) else (Token.times (bounds false), more))) (q h);
      calm = f;
    }

-- a quantifier in braces
pub braces_read : (x : Text) (p : Token × Text) → braces x ≡ Some p → TimesRead 123 x p
unfolding token_from
braces_read x p e =
    let l = braces_lead x p e in
    let q : quantifier l.least l.most l.behind ≡ p =
    some_same (quantifier l.least l.most l.behind) p (sym (l.again l.behind) ∙ (sym (ap braces l.stands) ∙ e)) in
    subst (TimesRead 123 x) q (times_read 123 l.least l.most x l.own l.behind l.stands l.calm l.again)
