-- What the reader keeps while it reads a text.
use Rattle.std.proofs.Common.{◌≡◌, ℕ, ◌<◌, ◌≤◌, Bool, true, false, List, [], ◌∷◌, ◌++◌, length, Option, Some, None, option_and_then, refl, ap, sym, ◌∙◌, subst, append_assoc, arith}
use Rattle.std.specs.Prelude.{if◌then◌else◌, nat_le, ◌&&◌}
use Rattle.std.proofs.lemmas.List.{append-nil}
use Rattle.std.proofs.lemmas.Bool.{leb-true}
use Rattle.std.specs.List.{list_all}
use Rattle.pattern_model.specs.Tree.{Leaf, Tree, Token, tokens_of}
use Rattle.pattern_tree.specs.Machine.{State, step, begin, finished, spelled}
use Rattle.pattern_model.specs.SharedNames.{apart}
use Rattle.pattern_tree.specs.LiveNames.{allowed, run_named}
use Rattle.pattern_model.specs.Grammar.{Grammar}
use Rattle.pattern_model.specs.BackReferences.{captures, numbers, in_number}
use Rattle.pattern_tree.specs.TokenTests.{numbers_in}
use Rattle.pattern_model.specs.Text.{Text}
use Rattle.pattern_model.specs.Tokens.{token_from, Reads, Spells}
use Rattle.pattern_tree.specs.Nodes.{IsHigh}
use Rattle.pattern_tree.proofs.Complete.{one_tree}
use Rattle.pattern_tree.proofs.NameLaws.{named_again}
use Rattle.pattern_tree.proofs.TestLaws.{captures_tokens, captures_few, numbers_tokens, numbers_append}
use Rattle.pattern_model.proofs.TokenTails.{reads_few}
use Rattle.pattern_tree.proofs.Sound.{Fine, Goes, step_goes, Shaped, finished_shaped}

-- cc takes no pair apart
same_pair : (p q : Token × Text) (o : Option (Token × Text)) → o ≡ Some p → o ≡ Some q → (p.0 ≡ q.0) × (p.1 ≡ q.1)
same_pair p q o e f = let g : p ≡ q = cc in (ap (λ z. z.0) g, ap (λ z. z.1) g)

named_on : (t : Token) (ts : List Token) (s n : State) → allowed t s ≡ true → step t s ≡ Some n → run_named (t ∷ ts) s ≡ run_named ts n
unfolding run_named
named_on t ts s n a e = ap (λ z. if z then option_and_then (λ m. run_named ts m) (step t s) else None) a
    ∙ ap (option_and_then (λ m. run_named ts m)) e

if_none : {A : Type 0} (b : Bool) (o : Option A) → o ≡ None → (if b then o else None) ≡ None
if_none true o e = e
if_none false o e = refl

named_stuck : (t : Token) (ts : List Token) (s : State) → step t s ≡ None → run_named (t ∷ ts) s ≡ None
unfolding run_named
named_stuck t ts s e = if_none (allowed t s) _ (ap (option_and_then (λ m. run_named ts m)) e)

named_refused : (t : Token) (ts : List Token) (s : State) → allowed t s ≡ false → run_named (t ∷ ts) s ≡ None
unfolding run_named
named_refused t ts s a = ap (λ z. if z then option_and_then (λ m. run_named ts m) (step t s) else None) a

named_end : (s : State) → run_named [] s ≡ finished s.here s.outer
unfolding run_named
named_end s = refl

if_some : (b : Bool) (t : Tree) → (if b then Some t else None) ≡ Some t → b ≡ true
if_some true t e = refl
if_some false t e = cc

-- each of a list passes
all_middle : (test : ℕ → Bool) (xs : List ℕ) (n : ℕ) (ys : List ℕ) → list_all test (xs ++ (n ∷ ys)) ≡ true → test n ≡ true
all_middle test [] n ys e = first (test n) (list_all test ys) e
  where
    first : (a b : Bool) → a && b ≡ true → a ≡ true
    first true b e = refl
    first false b e = cc
all_middle test (x ∷ xs) n ys e = all_middle test xs n ys (second (test x) (list_all test (xs ++ (n ∷ ys))) e)
  where
    second : (a b : Bool) → a && b ≡ true → b ≡ true
    second true b e = e
    second false b e = cc

module _ (wide : Bool) where
  -- The whole text is x, y is still to read, and s is the state.
  pub record Leads (x : Text) (s : State) (y : Text) : Type 0 where
    pub fine : Fine s
    -- the tokens of the rest complete those of the state
    pub taken : (ts : List Token) → Reads wide y ts → Reads wide x (spelled s ++ ts)
    -- the state is where the tokens before lead, with no name refused
    pub reached : (ts : List Token) → run_named (spelled s ++ ts) begin ≡ run_named ts s
    -- each tree of the text is reached from here
    pub only : (t : Tree) → Spells wide x t → apart t ≡ true → (ts : List Token) × Reads wide y ts × (run_named ts s ≡ Some t)

  pub leads_first : (x : Text) → Leads x begin x
  leads_first x = record {
    fine = record { here = record { done = refl; row = refl }; outer = tt };
    taken = λ ts r. r;
    reached = λ ts. refl;
    only = λ t h a. (tokens_of t, h.reads, named_again t h.fits ∙ ap (λ z. if z then Some t else None) a);
  }

  -- the tokens of a text that goes on: the first, and the others
  first_token : (c : ℕ) (after : Text) (ts : List Token) → Reads wide (c ∷ after) ts →
      (t : Token) × (rest : Text) × (us : List Token) × (token_from wide c after ≡ Some (t, rest)) × Reads wide rest us × (ts ≡ t ∷ us)
  first_token c after [] e = cc
  first_token c after (t ∷ us) (d, other, rest, e, f, r) =
      let g : d ≡ c = cc in
      let h : other ≡ after = cc in (
        t,
        rest,
        us,
        subst (λ z. token_from wide z after ≡ Some (t, rest)) g (subst (λ z. token_from wide d z ≡ Some (t, rest)) h f),
        r,
        refl,
      )

  pub leads_on : (x : Text) (s n : State) (c : ℕ) (after rest : Text) (t : Token) → Leads x s (c ∷ after) →
      token_from wide c after ≡ Some (t, rest) → allowed t s ≡ true → step t s ≡ Some n → Leads x n rest
  leads_on x s n c after rest t l e a f =
      let g : Goes s n t = step_goes t s n f l.fine in
      record {
        fine = g.fine;
        taken = λ ts r. subst (λ z. Reads wide x z) (sym (ap (λ z. z ++ ts) g.spelled ∙ append_assoc (spelled s) (t ∷ []) ts))
            (l.taken (t ∷ ts) (c, after, rest, refl, e, r));
        reached = λ ts. ap (λ z. run_named z begin) (ap (λ z. z ++ ts) g.spelled ∙ append_assoc (spelled s) (t ∷ []) ts)
            ∙ (l.reached (t ∷ ts) ∙ named_on t ts s n a f);
        only = λ tree h b.
            let (ts, r, u) = l.only tree h b in
            let (t2, rest2, us, e2, r2, same) = first_token c after ts r in
            let (token, others) = same_pair (t2, rest2) (t, rest) (token_from wide c after) e2 e in (
              us,
              subst (λ z. Reads wide z us) others r2,
              sym (named_on t us s n a f)
                  ∙ (ap (λ z. run_named (z ∷ us) s) (sym token) ∙ (ap (λ z. run_named z s) (sym same) ∙ u)),
            );
      }

  -- no token stands next: no tree
  pub refused_token : (x : Text) (s : State) (c : ℕ) (after : Text) → Leads x s (c ∷ after) → token_from wide c after ≡ None → (t : Tree) →
      Grammar wide x t → ⊥
  refused_token x s c after l e tree g =
      let (ts, r, u) = l.only tree g.spells g.apart in
      let (t2, rest2, us, e2, r2, same) = first_token c after ts r in cc

  stuck : (x : Text) (s : State) (c : ℕ) (after rest : Text) (t : Token) → Leads x s (c ∷ after) →
      token_from wide c after ≡ Some (t, rest) → ((ts : List Token) → run_named (t ∷ ts) s ≡ None) → (tree : Tree) → Grammar wide x tree → ⊥
  stuck x s c after rest t l e f tree g =
      let (ts, r, u) = l.only tree g.spells g.apart in
      let (t2, rest2, us, e2, r2, same) = first_token c after ts r in
      let (token, others) = same_pair (t2, rest2) (t, rest) (token_from wide c after) e2 e in
      let none : run_named ts s ≡ None = ap (λ z. run_named z s) same ∙ (ap (λ z. run_named (z ∷ us) s) token ∙ f us) in cc

  -- the next token cannot come here: no tree
  pub refused_step : (x : Text) (s : State) (c : ℕ) (after rest : Text) (t : Token) → Leads x s (c ∷ after) →
      token_from wide c after ≡ Some (t, rest) → step t s ≡ None → (tree : Tree) → Grammar wide x tree → ⊥
  refused_step x s c after rest t l e f tree g = stuck x s c after rest t l e (λ ts. named_stuck t ts s f) tree g

  -- the next group cannot have its name: no tree
  pub refused_name : (x : Text) (s : State) (c : ℕ) (after rest : Text) (t : Token) → Leads x s (c ∷ after) →
      token_from wide c after ≡ Some (t, rest) → allowed t s ≡ false → (tree : Tree) → Grammar wide x tree → ⊥
  refused_name x s c after rest t l e f tree g = stuck x s c after rest t l e (λ ts. named_refused t ts s f) tree g

  no_tokens : (ts : List Token) → Reads wide [] ts → ts ≡ []
  no_tokens [] e = refl
  no_tokens (t ∷ ts) (d, other, rest, e, f, r) = cc

  -- a text is read as one list of tokens at most
  pub same_tokens : (ts us : List Token) (x : Text) → Reads wide x ts → Reads wide x us → ts ≡ us
  same_tokens [] us x e r = sym (no_tokens us (subst (λ z. Reads wide z us) e r))
  same_tokens (t ∷ ts) us x (c, after, rest, e, f, r) q =
      let (t2, rest2, vs, e2, r2, same) = first_token c after us (subst (λ z. Reads wide z us) e q) in
      let (token, others) = same_pair (t, rest) (t2, rest2) (token_from wide c after) f e2 in
      let below : ts ≡ vs = same_tokens ts vs rest r (subst (λ z. Reads wide z vs) (sym others) r2) in
      cc

  high_number : (t : Token) (front us : List Token) (tree : Tree) → IsHigh t → tokens_of tree ≡ front ++ (t ∷ us) →
      in_number (captures tree) (numbers tree) ≡ true → 4294967296 ≤ captures tree
  high_number (Token.leaf (Leaf.back_number n)) front us tree h e k =
      let m : numbers tree ≡ numbers_in front ++ (n ∷ numbers_in us) = sym (numbers_tokens tree)
      ∙ (ap numbers_in e ∙ numbers_append front (Token.leaf (Leaf.back_number n) ∷ us)) in
      let p : nat_le n (captures tree) ≡ true = all_middle (λ z. nat_le z (captures tree)) (numbers_in front) n (numbers_in us)
      (subst (λ z. list_all (λ z. nat_le z (captures tree)) z ≡ true) m k) in
      let q : n ≤ captures tree = leb-true n (captures tree) p in omega arith
  high_number t front us tree h e k = absurd h

  -- the next token is a back-reference whose number no group has: no tree
  pub refused_high : (x : Text) (s : State) (c : ℕ) (after rest : Text) (t : Token) → Leads x s (c ∷ after) →
      token_from wide c after ≡ Some (t, rest) → IsHigh t → length x < 4294967296 → (tree : Tree) → Grammar wide x tree → ⊥
  refused_high x s c after rest t l e h small tree g =
      let (ts, r, u) = l.only tree g.spells g.apart in
      let (t2, rest2, us, e2, r2, same) = first_token c after ts r in
      let (token, others) = same_pair (t2, rest2) (t, rest) (token_from wide c after) e2 e in
      let all : tokens_of tree ≡ spelled s ++ (t ∷ us) = same_tokens (tokens_of tree) (spelled s ++ ts) x g.spells.reads (l.taken ts r)
      ∙ ap (λ z. spelled s ++ z) (same ∙ ap (λ z. z ∷ us) token) in
      let big : 4294967296 ≤ captures tree = high_number t (spelled s) us tree h all g.numbered in
      let few : captures tree ≤ length (tokens_of tree) =
      subst (λ z. z ≤ length (tokens_of tree)) (captures_tokens tree) (captures_few (tokens_of tree)) in
      let short : length (tokens_of tree) ≤ length x = reads_few wide x (tokens_of tree) g.spells.reads in
      omega arith

  -- at the end of the text
  pub record Ended (x : Text) (s : State) (t : Tree) : Type 0 where
    pub spells : Spells wide x t
    pub apart : apart t ≡ true
    pub tokens : tokens_of t ≡ spelled s

  pub ends : (x : Text) (s : State) (t : Tree) → Leads x s [] → finished s.here s.outer ≡ Some t → Ended x s t
  ends x s t l e =
      let h : Shaped (spelled s) t = finished_shaped s.here s.outer t e l.fine in
      record {
        spells = record { fits = h.fits; reads = subst (λ z. Reads wide x z) (append-nil (spelled s) ∙ sym h.tokens) (l.taken [] refl) };
        apart = if_some (apart t) t (sym (named_again t h.fits) ∙ (ap (λ z. run_named z begin) (h.tokens ∙ sym (append-nil (spelled s)))
            ∙ (l.reached [] ∙ (named_end s ∙ e))));
        tokens = h.tokens;
      }

  -- at the end, a tree of the text is what was finished
  pub at_end : (x : Text) (s : State) (t : Tree) → Leads x s [] → Grammar wide x t → finished s.here s.outer ≡ Some t
  at_end x s t l g =
      let (ts, r, u) = l.only t g.spells g.apart in
      let none : ts ≡ [] = no_tokens ts r in
      sym (named_end s) ∙ (ap (λ z. run_named z s) (sym none) ∙ u)

  -- a text has at most one tree
  pub one_spelled : (x : Text) (t u : Tree) → Spells wide x t → Spells wide x u → t ≡ u
  one_spelled x t u h g = one_tree t u h.fits g.fits (same_tokens (tokens_of t) (tokens_of u) x h.reads g.reads)
