use Rattle.std.proofs.Common.{Global, ◌≡◌, ℕ, ◌<◌, ◌≤◌, Bool, true, false, ◌&&◌, List, [], ◌∷◌, length, map, Option, Some, None, option_map, Ok, Err, subst, refl, sym, ◌∙◌, ap, IfOk, IfSome, IfNone, arith}
use Rattle.std.specs.Prelude.{Result, nat_le, string_bytes, String, Vec, ◌^◌}
use Rattle.std.specs.Str.{chars}
use Rattle.std.proofs.Math.Dec.{leb-zero}
use Rattle.std.proofs.lemmas.Str.{chars-encodes}
use Rattle.pattern_tree.proofs.TextLemmas.{encodes_long}
use denote.Text.{Utf8}
use denote.Shadow.{shadow}
use Rattle.pattern_tree.specs.declared.node.Node.{Node}
use Rattle.pattern_tree.specs.declared.reader.Open.{Open}
use Rattle.pattern_tree.specs.declared.counters.Counters.{Counters}
use Rattle.pattern_tree.specs.declared.places.Places.{Places}
use Rattle.pattern_tree.specs.declared.pattern.Pattern.{Pattern}
use Rattle.pattern_tree.specs.declared.reader.Reader.{Reader}
use Rattle.pattern_model.specs.Tree.{Tree, Token}
use Rattle.pattern_tree.specs.Machine.{State, fresh, begin, step, finished, spelled}
use Rattle.pattern_model.specs.Text.{Text}
use Rattle.pattern_model.specs.Tokens.{token_from}
use Rattle.pattern_tree.specs.LiveNames.{allowed}
use Rattle.pattern_model.specs.SharedNames.{names}
use Rattle.pattern_model.specs.Grammar.{Grammar}
use Rattle.pattern_model.specs.BackReferences.{captures, numbers, references, in_number, in_names}
use Rattle.pattern_tree.specs.Places.{Placed, Allows, has_all}
use Rattle.pattern_tree.specs.Nodes.{trees_of, outer_of, StepsTo, Moves, state_of, IsRefused}
use Rattle.pattern_tree.specs.Patterns.{tree_of}
use Rattle.pattern_tree.proofs.Sound.{Shaped, finished_shaped}
use Rattle.pattern_tree.proofs.Told.{Told, met}
use Rattle.pattern_tree.proofs.Leads.{Leads, Ended, ends, at_end, refused_token, refused_high, refused_step, refused_name, leads_on}
use Rattle.pattern_model.proofs.BoolLaws.{and_left, and_right}

and_both : (a b : Bool) → a ≡ true → b ≡ true → a && b ≡ true
and_both true b e h = h
and_both false b e h = cc

module _ (wide : Bool) where
  -- the whole text was read, and the tests hold
  pub passed : (x : Text) (c : Counters) (p : Places) (s : State) (at : ℕ) (t : Tree) → Leads wide x s [] → Told c (spelled s) →
      Placed p s at →
      nat_le c.highest c.groups && has_all p (map string_bytes c.references.items) ≡ true → finished s.here s.outer ≡ Some t →
      Grammar wide x t
  passed x c p s at t l h k e f =
      let d : Ended wide x s t = ends wide x s t l f in
      let m : in_number (captures t) (numbers t) && in_names (names t) (references t) ≡ true = sym (met c p s at t h k f d.tokens) ∙ e in
      record {
        spells = d.spells;
        apart = d.apart;
        named = and_right (in_number (captures t) (numbers t)) _ m;
        numbered =
            and_left (in_number (captures t) (numbers t)) _ m;
      }

  pub failed : (x : Text) (c : Counters) (p : Places) (s : State) (at : ℕ) → Leads wide x s [] → Told c (spelled s) → Placed p s at →
      nat_le c.highest c.groups && has_all p (map string_bytes c.references.items) ≡ false → (t : Tree) → Grammar wide x t → ⊥
  failed x c p s at l h k e t g =
      let f : finished s.here s.outer ≡ Some t = at_end wide x s t l g in
      let d : Shaped (spelled s) t = finished_shaped s.here s.outer t f l.fine in
      let m : in_number (captures t) (numbers t) && in_names (names t) (references t) ≡ false = sym (met c p s at t h k f d.tokens) ∙ e in
      let n : in_number (captures t) (numbers t) && in_names (names t) (references t) ≡ true = and_both _ _ g.numbered g.named in
      cc

  pub ended_some : {E : Type 0} (x : Text) (c : Counters) (p : Places) (s : State) (at : ℕ) (r : Result (Option Pattern) E) →
      Leads wide x s [] → Told c (spelled s) → Placed p s at →
      nat_le c.highest c.groups && has_all p (map string_bytes c.references.items) ≡ true →
      IfOk r (λ o. finished s.here s.outer ≡ option_map tree_of o) → IfOk r (λ o. IfSome o (λ q. Grammar wide x (tree_of q)))
  ended_some x c p s at (Err e) l h k m f = tt
  ended_some x c p s at (Ok None) l h k m f = tt
  ended_some x c p s at (Ok (Some q)) l h k m f = passed x c p s at (tree_of q) l h k m f

  pub ended_none : {E : Type 0} (x : Text) (s : State) (r : Result (Option Pattern) E) → Leads wide x s [] →
      IfOk r (λ o. finished s.here s.outer ≡ option_map tree_of o) → IfOk r (λ o. IfNone o ((t : Tree) → Grammar wide x t → ⊥))
  ended_none x s (Err e) l f = tt
  ended_none x s (Ok None) l f = λ t g. let k : finished s.here s.outer ≡ Some t = at_end wide x s t l g in cc
  ended_none x s (Ok (Some q)) l f = tt

  pub no_token : (x : Text) (s : State) (y : Text) (c : ℕ) (after : Text) → length x < 4294967296 → Leads wide x s y → y ≡ c ∷ after →
      IsRefused (token_from wide c after) → (t : Tree) → Grammar wide x t → ⊥
  no_token x s y c after small l e f = go (token_from wide c after) refl f
    where
      go : (o : Option (Token × Text)) → token_from wide c after ≡ o → IsRefused o → (t : Tree) → Grammar wide x t → ⊥
      go None q f = refused_token wide x s c after (subst (λ z. Leads wide x s z) e l) q
      go (Some p) q f = refused_high wide x s c after p.1 p.0 (subst (λ z. Leads wide x s z) e l) q f small

  pub no_name : (x : Text) (s : State) (new : Places) (end : ℕ) (y : Text) (c : ℕ) (after rest : Text) (t : Token) (b : Bool) →
      Leads wide x s y → y ≡ c ∷ after → token_from wide c after ≡ Some (t, rest) → Allows t s end new b → b ≡ false → (tree : Tree) →
      Grammar wide x tree → ⊥
  no_name x s new end y c after rest t b l e f m q = refused_name wide x s c after rest t (subst (λ z. Leads wide x s z) e l) f
      (subst (λ z. Allows t s end new z) q m)

  pub no_step : (x : Text) (old new : Reader) (y : Text) (c : ℕ) (after rest : Text) (t : Token) (b : Bool) →
      Leads wide x (state_of old) y → y ≡ c ∷ after → token_from wide c after ≡ Some (t, rest) → Moves t old new b → b ≡ false →
      (tree : Tree) → Grammar wide x tree → ⊥
  no_step x old new y c after rest t b l e f m q =
      refused_step wide x (state_of old) c after rest t (subst (λ z. Leads wide x (state_of old) z) e l) f
      (subst (λ z. Moves t old new z) q m)

  pub goes : (x : Text) (old new : Reader) (y : Text) (c : ℕ) (after rest : Text) (t : Token) → Leads wide x (state_of old) y →
      y ≡ c ∷ after → token_from wide c after ≡ Some (t, rest) → allowed t (state_of old) ≡ true → StepsTo t old new →
      Leads wide x (state_of new) rest
  goes x old new y c after rest t l e f a m =
      leads_on wide x (state_of old) (state_of new) c after rest t (subst (λ z. Leads wide x (state_of old) z) e l) f a m.step

pub one_step : (t : Token) (old new : Reader) (b : Bool) → Moves t old new b → b ≡ true → StepsTo t old new
one_step t old new b m q = subst (λ z. Moves t old new z) q m

pub may_stand : (t : Token) (s : State) (end : ℕ) (new : Places) (b : Bool) → Allows t s end new b → b ≡ true →
    (allowed t s ≡ true) × ((n : State) → step t s ≡ Some n → Placed new n end)
may_stand t s end new b m q = subst (λ z. Allows t s end new z) q m

pub begun : (nodes : Vec Node Global) (outer : Vec Open Global) → outer.items ≡ [] →
    state_of (record { nodes = nodes; here = record { done = None; before = None; last = None }; outer = outer }) ≡ begin
begun nodes outer e = ap (λ z. record { here = fresh; outer = outer_of (trees_of nodes.items) z }) e

pub told_first : (references : Vec (String Global) Global) → references.items ≡ [] →
    Told (record { groups = 0; highest = 0; references = references }) (spelled begin)
told_first references e = record { groups = refl; numbers = λ m. sym (leb-zero m); references = ap (map string_bytes) e }

pub few_chars : (x : List ℕ) → shadow (Utf8 x) → length x < 2 ^ 30 → length (chars x) < 4294967296
few_chars x (cs, u) h =
    let e = u.1 in
    let a : chars x ≡ cs = ap chars (sym e) ∙ chars-encodes cs u.0 in
    let b : length cs ≤ length x = subst (λ z. length cs ≤ length z) e (encodes_long cs) in
    let k : length (chars x) ≡ length cs = ap length a in
    omega arith
